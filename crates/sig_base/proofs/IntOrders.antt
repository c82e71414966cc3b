-- The test of the order of two integers.
use Rattle.std.proofs.Common.{◌≡◌, ℤ, ◌≤ℤ◌, Bool, true, false, refl}
use Rattle.std.specs.Prelude.{T, int_le}

pub le_from : (a b : ℤ) → int_le a b ≡ true → a ≤ℤ b
le_from a b e = record { le = so (int_le a b) e }
  where
    so : (x : Bool) → x ≡ true → T x
    so true e = tt
    so false e = absurd cc

pub le_is : (a b : ℤ) → a ≤ℤ b → int_le a b ≡ true
le_is a b e = is_so (int_le a b) e.le
  where
    is_so : (x : Bool) → T x → x ≡ true
    is_so true t = refl
    is_so false t = absurd t
