-- The heads of a log that is there are chained.
use Rattle.std.proofs.Common.{◌≡◌, Some, sym, ap, ◌∙◌}
use Rattle.std.specs.Option.{option_copied}
use Rattle.sig_base.specs.ByText.{text_lookup}
use Rattle.sig_witness.proofs.Entries.{found-all}
use Rattle.sig_witness.specs.KeptLogs.{IsKeptLog}
use Rattle.sig_witness.proofs.witness.Witness.witness_collision.Goals as goal

pub chain_collision-requires-clause-chained : goal.chain_collision-requires-clause-chained
chain_collision-requires-clause-chained c =
    let found : text_lookup c.args.origin.now c.self.inside.logs ≡ Some c.in-Some.log.now =
    sym c.get.ensures ∙ ap option_copied c.in-Some.is in
    (found-all IsKeptLog c.args.origin.now c.in-Some.log.now c.self.inside.logs c.self.invariant found).1.chained
