-- A result comes only where its rule holds, by what the definition says of it.
use Rattle.std.proofs.Common.{◌≡◌, ◌≢◌, ◌⊎◌, Result, Ok, Err, sym, ap, ◌∙◌, inl, inr}
use Rattle.sig_base.specs.Answers.{Answers, ComesWhere}

abbrev err : (X : Type 0) {E : Type 0} → E → Result X E
err X e = Err e

pub comes_where : {X E : Type 0} (memory : E) (r m answer : Result X E) (P : Type 0)
    → Answers memory (λ (x : X). x) r m
    → answer ≢ Err memory → (m ≡ answer → P) → (P → m ≡ answer) → ComesWhere memory r answer P
comes_where memory (Ok x) m answer P is other to from = ((λ e. to (is ∙ e)), (λ p. inr (sym is ∙ from p)))
comes_where {X = X} memory (Err e) m answer P is other to from = by_cause is
  where
    by_cause : (e ≡ memory) ⊎ (m ≡ Err e) → ComesWhere memory (Err e) answer P
    by_cause (inl out) =
        let ran = ap (err X) out in
        ((λ same. absurd (other (sym same ∙ ran))), (λ p. inl ran))
    by_cause (inr meant) = ((λ same. to (meant ∙ same)), (λ p. inr (sym meant ∙ from p)))

-- the same of an error, where a value is seen by a view
pub error_where : {X Y E : Type 0} (memory : E) (view : X → Y) (r : Result X E) (m : Result Y E) (e : E) (P : Type 0)
    → Answers memory view r m → e ≢ memory → (m ≡ Err e → P) → (P → m ≡ Err e) → ComesWhere memory r (Err e) P
error_where memory view (Ok x) m e P is other to from =
    ((λ same. absurd cc), (λ p. let wrong = sym is ∙ from p in absurd cc))
error_where {X = X} memory view (Err d) m e P is other to from = by_cause is
  where
    by_cause : (d ≡ memory) ⊎ (m ≡ Err d) → ComesWhere memory (err X d) (err X e) P
    by_cause (inl out) =
        ((λ same. let is_e : d ≡ e = cc in absurd (other (sym is_e ∙ out))), (λ p. inl (ap (err X) out)))
    by_cause (inr meant) = (
      (λ same. let is_e : d ≡ e = cc in to (meant ∙ ap (λ x. Err x) is_e)),
      (λ p. let both = sym meant ∙ from p in let is_e : d ≡ e = cc in inr (ap (err X) is_e)),
    )
