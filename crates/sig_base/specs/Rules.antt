-- The first rule of a list that is broken.
use Rattle.std.specs.Prelude.{◌≡◌, ◌⊎◌, List, [], ◌∷◌}

-- `rule` is the first rule from the left that does not hold: each before it holds
abbrev pub FailsFirst : {R : Type 0} → (R → Type 0) → List R → R → Type 0
FailsFirst Holds [] rule = ⊥
FailsFirst Holds (first ∷ others) rule =
    (¬ Holds first × (rule ≡ first)) ⊎ (Holds first × FailsFirst Holds others rule)
