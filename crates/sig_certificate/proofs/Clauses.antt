-- From the result in one equation to the result in words.
use Rattle.std.proofs.Common.{◌≡◌, ◌↔◌, ℤ, Option, Some, None, Result, Ok, Err, refl, sym, ap, ◌∙◌}
use Rattle.std.specs.Prelude.{IsErrOf}
use Rattle.sig_base.proofs.OptionSteps.{some_is}
use Rattle.sig_base.proofs.ResultSteps.{err_is}
use Rattle.sig_certificate.specs.Profile.{error_of}

-- it is `Ok` if and only if there is no refusal
pub passes : {E : Type 0} (r : Result (Unit {0}) E) (refusal : Option E) (P : Type 0) → error_of r ≡ refusal
    → (refusal ≡ None → P) → (P → refusal ≡ None) → (r ≡ Ok tt) ↔ P
passes (Ok x) refusal P is from to = (λ e. from (sym is), λ p. refl)
passes (Err d) refusal P is from to = (λ e. absurd cc, λ p. absurd (let no = is ∙ to p in cc))

-- it is an error if and only if that is the refusal
pub fails : {X E : Type 0} (r : Result X E) (refusal : Option E) (P : E → Type 0) → error_of r ≡ refusal
    → ((e : E) → refusal ≡ Some e → P e) → ((e : E) → P e → refusal ≡ Some e)
    → (e : E) → IsErrOf r e ↔ P e
fails (Ok x) refusal P is from to e = (λ h. absurd cc, λ p. absurd (let no = is ∙ to e p in cc))
fails {X = X} (Err d) refusal P is from to e = (
  λ h. from e (sym is ∙ ap (λ x. Some x) (err_is {A = X} d e h)),
  λ p. ap (λ x. Err x) (some_is d e (is ∙ to e p)),
)

-- a time that was passed on
pub at_time : {E : Type 0} (o : Option E) (refusal : ℤ → Option E) (given time : ℤ) → given ≡ time → o ≡ refusal given
    → o ≡ refusal time
at_time o refusal given time same is = is ∙ ap refusal same

pub at_times : {E : Type 0} (o : Option E) (refusal : ℤ → ℤ → Option E) (a b x y : ℤ) → a ≡ x → b ≡ y
    → o ≡ refusal a b → o ≡ refusal x y
at_times o refusal a b x y first second is = is ∙ ap (λ t. refusal t b) first ∙ ap (λ t. refusal x t) second
