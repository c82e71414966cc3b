-- The log of the origin is kept, also with the new head.
use Rattle.std.proofs.Common.{◌≡◌, Some, sym, ap, ◌∙◌}
use Rattle.std.specs.Option.{option_copied}
use Rattle.sig_base.specs.ByText.{text_lookup}
use Rattle.sig_key.specs.Key.{key_accepts}
use Rattle.sig_witness.proofs.Entries.{found-all, put-all}
use Rattle.sig_witness.proofs.UpdateAnswers.{log-kept}
use Rattle.sig_witness.specs.KeptLogs.{IsKeptLog}
use Rattle.sig_witness.specs.Updates.{head_of, update_of}
use Rattle.sig_witness.proofs.witness.Witness.take.Goals as goal

pub check-requires : goal.check-requires
check-requires g c =
    let found : text_lookup c.as_str-origin.result.now c.self.inside.logs ≡ Some c.in-Some.log.now =
    sym c.get.ensures ∙ ap option_copied c.in-Some.is in
    (found-all IsKeptLog c.as_str-origin.result.now c.in-Some.log.now c.self.inside.logs c.self.invariant found).1.chained

pub invariant_of-self-2 : goal.invariant_of-self-2
invariant_of-self-2 g c =
    let found : text_lookup c.as_str-origin.result.now c.self.inside.logs ≡ Some c.in-Some.log.now =
    sym c.get.ensures ∙ ap option_copied c.in-Some.is in
    let kept = found-all IsKeptLog c.as_str-origin.result.now c.in-Some.log.now c.self.inside.logs c.self.invariant found in
    let grown = log-kept (key_accepts (g.C.SignatureChecker.spki_accepts c.args.checker.now) c.in-Some.log.now.key)
    c.in-Some.log.now (update_of c.args.checkpoint.now c.args.old_size c.args.hashes.now) kept.1 c.in_ok-check.ensures in
    let head : c.in_ok-head.head ≡ head_of c.args.checkpoint.now c.args.hashes.now = c.in_ok-head.ensures in
    rw (c.in_ok-grow.ensures.ok c.in-Some.log.now found)
    (put-all IsKeptLog c.as_str-origin.result.now _ c.self.inside.logs c.self.invariant (kept.0, rw head grown))
