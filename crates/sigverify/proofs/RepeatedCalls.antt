-- Calls that are made until one is not interrupted, where none is.
use Rattle.std.proofs.Common.{◌≡◌, ℕ, ◌+◌, ◌-◌, ◌^◌, List, [], ◌∷◌, ◌++◌, Option, Some, None, ◌∙◌, ap, arith, sym}
use Rattle.std.proofs.lemmas.List.{replicate_more}
use Rattle.std.specs.declared.io.ErrorKind.TheVariants.{Interrupted}
use Rattle.sigverify.specs.Calls.{AreMadeUntil, Outcome, WereInterrupted, interrupted}

-- all calls that may be made were interrupted
pub all-interrupted : (old now : Option (List Outcome)) (count : ℕ) (outcome : Outcome)
    → WereInterrupted old now count → count ≡ 2 ^ 64 - 1 → outcome ≡ Some Interrupted → AreMadeUntil old now outcome
all-interrupted None now count outcome is all again = tt
all-interrupted (Some before) now count outcome is all again = (
  count - 1,
  is ∙ ap (λ (n : ℕ). Some (before ++ interrupted n)) (let more : count ≡ (count - 1) + 1 = omega (arith, all) in more)
      ∙ ap (λ (xs : List Outcome). Some (before ++ xs)) (sym (replicate_more (count - 1) (Some Interrupted)))
      ∙ ap (λ (o : Outcome). Some (before ++ (interrupted (count - 1) ++ o ∷ []))) (sym again),
  λ _. omega (arith, all),
)
