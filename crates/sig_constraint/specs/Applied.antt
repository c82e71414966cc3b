-- *Applied*: the layer that constraints give one after another.
use Rattle.std.specs.Prelude.{◌≡◌, ◌≤◌, ℕ, ◌+◌, List, [], ◌∷◌, take, length, Option, Some, None, Result, Ok, Err, unwrap_or}
use Rattle.sig_cosign.specs.Layer.{Layer, seen_layer}
use Rattle.sig_cosign.specs.declared.signature_layer.SignatureLayer.{SignatureLayer}
use Rattle.sig_constraint.specs.declared.apply.SigstoreApplicationConstraintsError.{SigstoreApplicationConstraintsError}
use Rattle.sig_constraint.specs.declared.apply.SigstoreApplicationConstraintsError.TheVariants.{Unapplied, OutOfMemory}

-- the layer after a constraint: the one that it gives, or as it was if it does not apply
abbrev pub after : Layer → Option Layer → Layer
after l given = unwrap_or given l

-- the layer after each of the constraints in turn
abbrev pub applied : {C : Type 0} → (C → Layer → Option Layer) → Layer → List C → Layer
applied gives l [] = l
applied gives l (c ∷ cs) = applied gives (after l (gives c l)) cs

abbrev pub unless_given : ℕ → Option Layer → List ℕ → List ℕ
unless_given n None ns = n ∷ ns
unless_given n (Some l) ns = ns

-- the indices, from one on, of those that do not apply in their turn
abbrev pub unapplied_from : {C : Type 0} → (C → Layer → Option Layer) → ℕ → Layer → List C → List ℕ
unapplied_from gives n l [] = []
unapplied_from gives n l (c ∷ cs) =
    unless_given n (gives c l) (unapplied_from gives (n + 1) (after l (gives c l)) cs)

abbrev pub application : List ℕ → Result (Unit {0}) SigstoreApplicationConstraintsError
application [] = Ok tt
application (n ∷ ns) = Err (Unapplied (n ∷ ns))

-- the layer is what some of the constraints give, from the first on
abbrev pub IsAppliedUpTo : {C : Type 0} → (C → Layer → Option Layer) → Layer → List C → Layer → Type 0
IsAppliedUpTo gives old cs new = (n : ℕ) × ((n ≤ length cs) × (new ≡ applied gives old (take n cs)))

-- all were tried, and these did not apply
abbrev pub IsTried : {C : Type 0} → (C → Layer → Option Layer) → List C → Layer → Layer → List ℕ → Type 0
IsTried gives cs old new ns =
    (new ≡ applied gives old cs) × (ns ≡ unapplied_from gives 0 old cs)

abbrev pub IsApplication : {C : Type 0} → (C → Layer → Option Layer) → List C → Layer → Layer
    → Result (Unit {0}) SigstoreApplicationConstraintsError → Type 0
IsApplication gives cs old new (Ok done) = IsTried gives cs old new []
IsApplication gives cs old new (Err (Unapplied ns)) = IsTried gives cs old new ns × ¬ (ns ≡ [])
IsApplication gives cs old new (Err OutOfMemory) = IsAppliedUpTo gives old cs new
