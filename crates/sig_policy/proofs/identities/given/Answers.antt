-- One more name, and its identity if it gives one.
use Rattle.std.proofs.Common.{ℕ, List, map, sym}
use Rattle.std.specs.Borrow.{Bor}
use Rattle.sig_certificate.specs.BorrowedNames.{borrowed_name, names_left}
use Rattle.sig_policy.specs.Identities.{identity_of}
use Rattle.sig_policy.proofs.IdentityLaws.{kept_passes, kept_ends}
use Rattle.sig_policy.proofs.identities.given.Goals as goal

pub loop-name-preserved : goal.loop-name-preserved
loop-name-preserved c = (
  tt,
  tt,
  kept_passes identity_of (map (λ (t : Bor (List ℕ)). t.now) c.loop-name.found.items) _
      (names_left c.loop-name.name-iterator)
      c.loop-name.invariant.2 (borrowed_name c.in-Some.name) (names_left c.next.new.self) c.in-Some.ensures.steps
      (sym (rw c.in_default.is at c.identity_of.ensures)),
)

pub returns : goal.returns
returns c =
    kept_ends identity_of (map (λ (t : Bor (List ℕ)). t.now) c.loop-name.found.items) _
    (names_left c.loop-name.name-iterator)
    c.loop-name.invariant.2 c.in-None.ensures.steps.0
