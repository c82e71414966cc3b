-- With how many bytes two texts begin alike: one more where the next bytes are the same, else no more.
use Rattle.std.proofs.Common.{◌≡◌, ℕ, zero, suc, pred, ◌<◌, Bool, true, false, cond, List, [], ◌∷◌, refl, ap, arith}
use Rattle.std.proofs.Common.{slice_get, nat_eq}
use Rattle.sig_base.specs.Rank.{alike, is_same}

pub one_more_alike : (index : ℕ) (one other : List ℕ) → alike index one other ≡ index
    → is_same (slice_get one index) (slice_get other index) ≡ true → alike (suc index) one other ≡ suc index
one_more_alike index [] other so same = absurd cc
one_more_alike zero (a ∷ one) [] so same = absurd cc
one_more_alike (suc index) (a ∷ one) [] so same = absurd cc
one_more_alike zero (a ∷ one) (b ∷ other) so same = ap (λ (t : Bool). cond t (suc (alike 0 one other)) 0) same
one_more_alike (suc index) (a ∷ one) (b ∷ other) so same =
    by (λ is. one_more_alike index one other is same) (nat_eq a b) so
  where
    by : (alike index one other ≡ index → alike (suc index) one other ≡ suc index) → (t : Bool)
        → cond t (suc (alike index one other)) 0 ≡ suc index
        → cond t (suc (alike (suc index) one other)) 0 ≡ suc (suc index)
    by more true is = ap suc (more (ap pred is))
    by more false is = absurd cc

pub alike_until : (index most : ℕ) (one other : List ℕ) → alike index one other ≡ index → index < most
    → is_same (slice_get one index) (slice_get other index) ≡ false → alike most one other ≡ index
alike_until index zero one other so lt apart = absurd (omega (arith, lt))
alike_until zero (suc most) [] other so lt apart = refl
alike_until (suc index) (suc most) [] other so lt apart = absurd cc
alike_until zero (suc most) (a ∷ one) [] so lt apart = refl
alike_until (suc index) (suc most) (a ∷ one) [] so lt apart = absurd cc
alike_until zero (suc most) (a ∷ one) (b ∷ other) so lt apart =
    ap (λ (t : Bool). cond t (suc (alike most one other)) 0) apart
alike_until (suc index) (suc most) (a ∷ one) (b ∷ other) so lt apart =
    by (λ is. alike_until index most one other is (omega (arith, lt)) apart) (nat_eq a b) so
  where
    by : (alike index one other ≡ index → alike most one other ≡ index) → (t : Bool)
        → cond t (suc (alike index one other)) 0 ≡ suc index → cond t (suc (alike most one other)) 0 ≡ suc index
    by until true is = ap suc (until (ap pred is))
    by until false is = absurd cc
