-- Recursions on the size of a tree that go down by levels: any level that is high enough gives
-- the same.
use Rattle.std.proofs.Common.{◌≡◌, ℕ, zero, suc, ◌+◌, ◌-◌, ◌*◌, ◌^◌, ◌<◌, ◌≤◌, refl, sym, ◌∙◌, ap, inl, inr, arith}
use Rattle.std.proofs.Common.{add-zero, add-suc}
use Rattle.std.proofs.Math.Nat.{pow-suc, pow-le-pow_right}
use Rattle.std.proofs.lemmas.Bool.{cases_lt}
use Rattle.sig_merkle.specs.Split.{IsSplit}

-- n is below 2 to the power n, so a tree of n leaves needs n levels at most
pub below_pow : (n : ℕ) → n < 2 ^ n
below_pow zero = omega arith
below_pow (suc n) = omega (arith, pow-suc 2 n, below_pow n)

pub within_pow : (n : ℕ) → n ≤ 2 ^ n
within_pow n = omega (arith, below_pow n)

higher_level : {X : Type 0} (f : ℕ → X) (n : ℕ) → ((e : ℕ) → n ≤ 2 ^ e → f (suc e) ≡ f e) → (k e : ℕ) → n ≤ 2 ^ e
    → f (e + k) ≡ f e
higher_level f n step zero e fits = ap f (add-zero e)
higher_level f n step (suc k) e fits =
    let grown : 2 ^ e ≤ 2 ^ (e + k) = pow-le-pow_right (omega arith) (omega arith) in
    rw add-suc (step (e + k) (omega arith) ∙ higher_level f n step k e fits)

-- where one level more changes nothing, all levels that are high enough give the same
pub same_level : {X : Type 0} (f : ℕ → X) (n : ℕ) → ((e : ℕ) → n ≤ 2 ^ e → f (suc e) ≡ f e) → (d e : ℕ) → n ≤ 2 ^ d
    → n ≤ 2 ^ e → f d ≡ f e
same_level f n step d e fits_d fits_e =
    elim (cases_lt d e) [
      | inl d_lt ↦ (let same : d + (e - d) ≡ e = omega arith in
          sym (higher_level f n step (e - d) d fits_d) ∙ ap f same)
      | inr e_le ↦ (let same : e + (d - e) ≡ d = omega arith in
          sym (ap f same) ∙ higher_level f n step (d - e) e fits_e)
    ]

split_below : (e n : ℕ) → n ≤ 2 ^ e → 1 < n → (k : ℕ) × IsSplit n k
split_below zero n fits more = absurd (omega arith)
split_below (suc e) n fits more =
    let double = pow-suc 2 e in
    elim (cases_lt (2 ^ e) n) [
      | inl below ↦ (2 ^ e, record { exponent = e; power = refl; below = below; largest = omega arith })
      | inr within ↦ split_below e n within more
    ]

-- a tree of more than one leaf has a split
pub split_of : (n : ℕ) → 1 < n → (k : ℕ) × IsSplit n k
split_of n more = split_below n n (within_pow n) more

-- a power below n is at most one whose double is not
pub exponent_le : (n d e : ℕ) → 2 ^ d < n → n ≤ 2 * 2 ^ e → d ≤ e
exponent_le n d e below largest =
    elim (cases_lt e d) [
      | inl e_lt ↦ absurd (let grown : 2 ^ suc e ≤ 2 ^ d = pow-le-pow_right (omega arith) (omega arith) in
          omega (arith, pow-suc 2 e))
      | inr d_le ↦ d_le
    ]

-- and no other
pub split_unique : (n j k : ℕ) → IsSplit n j → IsSplit n k → j ≡ k
split_unique n j k s t =
    let s_below : 2 ^ s.exponent < n = rw (← s.power) s.below in
    let t_below : 2 ^ t.exponent < n = rw (← t.power) t.below in
    let s_largest : n ≤ 2 * 2 ^ s.exponent = rw (← s.power) s.largest in
    let t_largest : n ≤ 2 * 2 ^ t.exponent = rw (← t.power) t.largest in
    let up = exponent_le n s.exponent t.exponent s_below t_largest in
    let down = exponent_le n t.exponent s.exponent t_below s_largest in
    let same : s.exponent ≡ t.exponent = omega arith in
    s.power ∙ ap (λ e. 2 ^ e) same ∙ sym t.power

-- what holds of no leaf and of one, and of a tree where it holds of the halves at its cut, holds of every tree
pub by_power : (P : ℕ → Type 0) → P 0 → P 1
    → ((n e : ℕ) → 2 ^ e < n → n ≤ 2 * 2 ^ e → P (2 ^ e) → P (n - 2 ^ e) → P n) → (n : ℕ) → P n
by_power P none one halves n = by_level n n (within_pow n)
  where
    cut : (e m : ℕ) → 2 ^ e < m → m ≤ 2 ^ suc e → ((k : ℕ) → k ≤ 2 ^ e → P k) → P m
    cut e m below fits smaller =
        let double = pow-suc 2 e in
        halves m e below (omega arith) (smaller (2 ^ e) (omega arith)) (smaller (m - 2 ^ e) (omega arith))

    by_level : (e m : ℕ) → m ≤ 2 ^ e → P m
    by_level zero zero fits = none
    by_level zero (suc zero) fits = one
    by_level zero (suc (suc m)) fits = absurd (omega arith)
    by_level (suc e) m fits =
        elim (cases_lt (2 ^ e) m) [
          | inl below ↦ cut e m below fits (by_level e)
          | inr within ↦ by_level e m within
        ]
