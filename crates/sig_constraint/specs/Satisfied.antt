-- *Satisfied*: which constraints no layer satisfies.
use Rattle.std.specs.Prelude.{◌≡◌, ◌↔◌, ℕ, ◌+◌, List, [], ◌∷◌, All, Any, Contains, slice_get, Bool, true, false, Option, Some}
use Rattle.std.specs.Prelude.{Result, Ok, Err, if◌then◌else◌}
use Rattle.std.specs.List.{list_any}
use Rattle.std.specs.List.Sorted.{IsStrictlyIncreasing}
use Rattle.sig_cosign.specs.Layer.{Layer, seen_layer}
use Rattle.sig_cosign.specs.declared.signature_layer.SignatureLayer.{SignatureLayer}
use Rattle.sig_constraint.specs.declared.verify.SigstoreVerifyConstraintsError.{SigstoreVerifyConstraintsError}
use Rattle.sig_constraint.specs.declared.verify.SigstoreVerifyConstraintsError.TheVariants.{Unsatisfied, OutOfMemory}

-- at least one layer satisfies the constraint
abbrev pub is_satisfied : {C : Type 0} → (C → Layer → Bool) → List SignatureLayer → C → Bool
is_satisfied holds layers c = list_any (λ l. holds c (seen_layer l)) layers

-- the indices, from one on, at which the test is false
abbrev pub failing_from : {C : Type 0} → (C → Bool) → ℕ → List C → List ℕ
failing_from test n [] = []
failing_from test n (c ∷ cs) = if test c then failing_from test (n + 1) cs else n ∷ failing_from test (n + 1) cs

-- the indices of the constraints that no layer satisfies, ascending
abbrev pub unsatisfied : {C : Type 0} → (C → Layer → Bool) → List SignatureLayer → List C → List ℕ
unsatisfied holds layers cs = failing_from (is_satisfied holds layers) 0 cs

abbrev pub satisfaction : List ℕ → Result (Unit {0}) SigstoreVerifyConstraintsError
satisfaction [] = Ok tt
satisfaction (n ∷ ns) = Err (Unsatisfied (n ∷ ns))

-- ---- in words

-- each constraint is satisfied by at least one layer
abbrev pub AreSatisfied : {C : Type 0} → (C → Layer → Bool) → List SignatureLayer → List C → Type 0
AreSatisfied holds layers cs = All (λ c. Any (λ l. holds c (seen_layer l) ≡ true) layers) cs

-- there is a constraint at the index, and no layer satisfies it
abbrev pub IsUnsatisfiedAt : {C : Type 0} → (C → Layer → Bool) → List SignatureLayer → List C → ℕ → Type 0
IsUnsatisfiedAt {C} holds layers cs n =
    (c : C) × ((slice_get cs n ≡ Some c) × All (λ l. holds c (seen_layer l) ≡ false) layers)

-- the ascending indices of the constraints that no layer satisfies
abbrev pub AreUnsatisfied : {C : Type 0} → (C → Layer → Bool) → List SignatureLayer → List C → List ℕ → Type 0
AreUnsatisfied holds layers cs ns =
    IsStrictlyIncreasing ns × ((n : ℕ) → Contains ns n ↔ IsUnsatisfiedAt holds layers cs n)

-- this holds of the indices that an error names
abbrev pub IfUnsatisfied : (List ℕ → Type 0) → SigstoreVerifyConstraintsError → Type 0
IfUnsatisfied P (Unsatisfied ns) = P ns
IfUnsatisfied P OutOfMemory = Unit {0}
