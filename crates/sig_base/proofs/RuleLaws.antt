-- One rule of a list is broken first, and none where all hold.
use Rattle.std.proofs.Common.{◌≡◌, List, [], ◌∷◌, sym, ◌∙◌, inl, inr}
use Rattle.std.specs.List.{AllByRecursion}
use Rattle.sig_base.specs.Rules.{FailsFirst}

pub one_fails : {R : Type 0} (Holds : R → Type 0) (rules : List R) (a b : R) → FailsFirst Holds rules a
    → FailsFirst Holds rules b → a ≡ b
one_fails Holds [] a b p q = absurd p
one_fails Holds (rule ∷ rules) a b (inl p) (inl q) = p.1 ∙ sym q.1
one_fails Holds (rule ∷ rules) a b (inl p) (inr q) = absurd (p.0 q.0)
one_fails Holds (rule ∷ rules) a b (inr p) (inl q) = absurd (q.0 p.0)
one_fails Holds (rule ∷ rules) a b (inr p) (inr q) = one_fails Holds rules a b p.1 q.1

pub none_fails : {R : Type 0} (Holds : R → Type 0) (rules : List R) (a : R) → AllByRecursion Holds rules
    → FailsFirst Holds rules a → ⊥
none_fails Holds [] a all p = p
none_fails Holds (rule ∷ rules) a all (inl p) = p.0 all.0
none_fails Holds (rule ∷ rules) a all (inr p) = none_fails Holds rules a all.1 p.1
