-- When a result of a policy comes, by its verdict.
use Rattle.std.proofs.Common.{◌≡◌, ◌⊎◌, Bool, true, false, Result, Ok, Err, refl, sym, ap, subst, ◌∙◌, inl, inr}
use Rattle.sig_base.specs.Answers.{ComesWhere}
use Rattle.sig_policy.specs.Refusals.{Refusal, IsRefusal}
use Rattle.sig_policy.specs.Verdict.{IsPolicyResult}
use Rattle.sig_policy.specs.declared.failure.PolicyError.{PolicyError}
use Rattle.sig_policy.specs.declared.failure.PolicyError.TheVariants.{OutOfMemory}
use Rattle.sig_policy.proofs.RefusalLaws.{one_refusal, never_memory}

abbrev pub Answer : Type 0
Answer = Result (Unit {0}) PolicyError

abbrev failed : PolicyError → Answer
failed e = Err e

pub comes_ok : (holds : Bool) (refusal : Refusal) (r : Answer) (P : Type 0) → IsPolicyResult holds refusal r
    → (holds ≡ true → P) → (P → holds ≡ true)
    → ComesWhere OutOfMemory r (Ok tt) P
comes_ok holds refusal (Ok x) P is to from = ((λ e. to is), (λ p. inr refl))
comes_ok holds refusal (Err e) P is to from = ((λ same. absurd cc), (λ p. by_cause p is))
  where
    by_cause : P → (e ≡ OutOfMemory) ⊎ ((holds ≡ false) × IsRefusal refusal e)
        → (failed e ≡ Err OutOfMemory) ⊎ (failed e ≡ Ok tt)
    by_cause p (inl out) = inl (ap failed out)
    by_cause p (inr fails) = let wrong = sym (from p) ∙ fails.0 in absurd cc

-- an error that says a refusal, and no other refusal is said by it
pub comes_err : (holds : Bool) (refusal r : Refusal) (result : Answer) (e : PolicyError) (P : Type 0) → IsRefusal r e
    → ((d : PolicyError) → IsRefusal r d → d ≡ e) → IsPolicyResult holds refusal result
    → ((holds ≡ false) → refusal ≡ r → P) → (P → (holds ≡ false) × (refusal ≡ r))
    → ComesWhere OutOfMemory result (Err e) P
comes_err holds refusal r (Ok x) e P says only is to from =
    ((λ same. absurd cc), (λ p. let wrong = sym is ∙ (from p).0 in absurd cc))
comes_err holds refusal r (Err d) e P says only is to from = by_cause is
  where
    by_cause : (d ≡ OutOfMemory) ⊎ ((holds ≡ false) × IsRefusal refusal d)
        → ComesWhere OutOfMemory (failed d) (failed e) P
    by_cause (inl out) = (
      (λ same. let is_e : d ≡ e = cc in
          absurd (never_memory r (subst (λ (x : PolicyError). IsRefusal r x) (sym is_e ∙ out) says))),
      (λ p. inl (ap failed out)),
    )
    by_cause (inr fails) = (
      (λ same. let is_e : d ≡ e = cc in
          to fails.0 (one_refusal refusal r e (subst (λ (x : PolicyError). IsRefusal refusal x) is_e fails.1) says)),
      (λ p. inr (ap failed (only d (subst (λ (s : Refusal). IsRefusal s d) (from p).1 fails.1)))),
    )
