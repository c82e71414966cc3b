use Rattle.std.proofs.Common.{ℕ, List, false, refl, sym}
use Rattle.std.specs.Borrow.{Bor}
use Rattle.sig_policy.proofs.AnyLaws.{any_none}
use Rattle.sig_policy.proofs.text_sets.has_said.Goals as goal

pub returns-in-Some : goal.returns-in-Some
returns-in-Some c = rw c.in-Some.is c.is_asked.ensures

pub returns-in-None : goal.returns-in-None
returns-in-None c =
    rw c.in-None.is (sym (any_none (λ (k : Bor (List ℕ)). false) (λ k. refl) c.args.asked.now.keys))
