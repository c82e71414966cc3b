-- An origin that is there, and one that is added.
use Rattle.std.proofs.Common.{sym, ap, ◌∙◌, refl, inr}
use Rattle.sig_base.specs.ByText.{text_lookup}
use Rattle.sig_witness.proofs.Entries.{put-all, some-found}
use Rattle.sig_witness.proofs.Heads.{chain-first}
use Rattle.sig_witness.specs.KeptLogs.{IsKeptLog}
use Rattle.sig_witness.proofs.witness.Witness.add_origin.Goals as goal

pub returns-then-is_some-clause-found : goal.returns-then-is_some-clause-found
returns-then-is_some-clause-found c =
    inr (inr (
      c.is_origin_text.ensures.0 c.if-not-is_origin_text.false,
      some-found c.get.result (text_lookup c.args.origin.now c.args.self.now)
          (c.get.ensures ∙ ap (text_lookup c.args.origin.now) c.self.view_is)
          (sym c.is_some.ensures ∙ c.if-is_some.true),
      refl,
    ))

pub invariant_of-self-2 : goal.invariant_of-self-2
invariant_of-self-2 c =
    rw c.in_ok-insert.ensures.ok
    (put-all IsKeptLog c.args.origin.now _ c.self.inside.logs c.self.invariant
    (c.is_origin_text.ensures.0 c.if-not-is_origin_text.false, rw c.in_ok-chain.ensures chain-first))
