-- The zeros at the end of a size, and the bits above them.
use Rattle.std.proofs.Common.{◌≡◌, ℕ, suc, ◌+◌, ◌-◌, ◌*◌, ◌/◌, ◌^◌, ◌<◌, ◌≤◌, sym, ◌∙◌, ap, inl, inr}
use Rattle.std.proofs.Common.{arith}
use Rattle.std.specs.Int.{w64, bit_at}
use Rattle.std.proofs.Math.Nat.{pow-suc, pow-le-pow_right, add-mul-div_right}
use Rattle.std.proofs.lemmas.Bool.{cases_lt}
use Rattle.std.proofs.lemmas.Nat.{pow_pos, shr_below}
use Rattle.std.proofs.lemmas.Nat.Bits.{bit_at-trailing_zeros, bit_at-pow_same, bit_at-pow_other, bit_at_above}
use Rattle.std.proofs.lemmas.Nat.Bits.{bit_at_cat_low}
use Rattle.sig_merkle.specs.GrowthWalk.{shift_of, mask_of}
use Rattle.sig_merkle.proofs.WalkBits.{power_cut}

-- the shift is the place of the lowest one
shift_one : (m : ℕ) → 0 < m → m < 2 ^ 64 → bit_at m (shift_of m) ≡ 1
unfolding shift_of
shift_one m some fits = (bit_at-trailing_zeros w64 m some fits).1

shift_zeros : (m : ℕ) → 0 < m → m < 2 ^ 64 → (i : ℕ) → i < shift_of m → bit_at m i ≡ 0
unfolding shift_of
shift_zeros m some fits = (bit_at-trailing_zeros w64 m some fits).2

pub shift-below : (m : ℕ) → 0 < m → m < 2 ^ 64 → shift_of m < 64
unfolding shift_of
shift-below m some fits = (bit_at-trailing_zeros w64 m some fits).0

pub shift-parts : (m : ℕ) → 0 < m → m < 2 ^ 64
    → (bit_at m (shift_of m) ≡ 1) × ((i : ℕ) → i < shift_of m → bit_at m i ≡ 0)
shift-parts m some fits = (shift_one m some fits, shift_zeros m some fits)

shift_is : (m k : ℕ) → 0 < m → m < 2 ^ 64 → bit_at m k ≡ 1 → ((i : ℕ) → i < k → bit_at m i ≡ 0) → shift_of m ≡ k
shift_is m k some fits one zeros =
    elim (cases_lt k (shift_of m)) [
      | inl lower ↦ absurd (omega (arith, one, shift_zeros m some fits k lower))
      | inr within ↦ elim (cases_lt (shift_of m) k) [
        | inl higher ↦ absurd (omega (arith, shift_one m some fits, zeros (shift_of m) higher))
        | inr same ↦ omega arith
      ]
    ]

-- of a power of two, it is the exponent
pub shift-power : (e : ℕ) → e < 64 → shift_of (2 ^ e) ≡ e
shift-power e narrow =
    let fits : 2 ^ suc e ≤ 2 ^ 64 = pow-le-pow_right (omega arith) narrow in
    shift_is (2 ^ e) e (pow_pos e) (omega (arith, pow-suc 2 e, pow_pos e)) (bit_at-pow_same e)
    (λ i low. bit_at-pow_other e i (λ same. absurd (omega arith)))

-- below a power of two, it is below the exponent
pub shift-low : (m e : ℕ) → 0 < m → m < 2 ^ 64 → m < 2 ^ e → shift_of m < e
shift-low m e some fits low =
    elim (cases_lt (shift_of m) e) [
      | inl below ↦ below
      | inr above ↦ absurd (omega (arith, shift_one m some fits, bit_at_above m e (shift_of m) low above))
    ]

pub shift-within : (m e : ℕ) → 0 < m → m < 2 ^ 64 → m ≤ 2 ^ e → shift_of m ≤ e
shift-within m e some fits within =
    let double = pow-suc 2 e in
    let below = shift-low m (suc e) some fits (omega (arith, pow_pos e)) in
    omega arith

-- a power of two above changes nothing
pub shift-above : (m e : ℕ) → 2 ^ e < m → m < 2 * 2 ^ e → m < 2 ^ 64 → shift_of m ≡ shift_of (m - 2 ^ e)
shift-above m e above below fits =
    let rest = m - 2 ^ e in
    let some : 0 < m - 2 ^ e = omega arith in
    let rest_fits : m - 2 ^ e < 2 ^ 64 = omega arith in
    let low = shift-low (m - 2 ^ e) e some rest_fits (omega arith) in
    let whole : 1 * 2 ^ e + (m - 2 ^ e) ≡ m = omega arith in
    shift_is m (shift_of (m - 2 ^ e)) (omega arith) fits
    (ap (λ n. bit_at n (shift_of (m - 2 ^ e))) (sym whole) ∙ bit_at_cat_low 1 e (m - 2 ^ e) (shift_of (m - 2 ^ e)) low
    ∙ shift_one (m - 2 ^ e) some rest_fits)
    (λ i lower. ap (λ n. bit_at n i) (sym whole) ∙ bit_at_cat_low 1 e (m - 2 ^ e) i (omega arith)
    ∙ shift_zeros (m - 2 ^ e) some rest_fits i lower)

-- the bits above it

pub mask-low : (m e : ℕ) → 0 < m → m < 2 ^ 64 → m ≤ 2 ^ e → mask_of m < 2 ^ (e - shift_of m)
unfolding mask_of
mask-low m e some fits within =
    let below = shift-within m e some fits within in
    let whole : e - shift_of m + shift_of m ≡ e = omega arith in
    shr_below (m - 1) (e - shift_of m) (shift_of m) (rw whole (omega arith))

pub mask-above : (m e : ℕ) → 2 ^ e < m → m < 2 * 2 ^ e → m < 2 ^ 64
    → mask_of m ≡ 2 ^ (e - shift_of m) + mask_of (m - 2 ^ e)
unfolding mask_of
mask-above m e above below fits =
    let same = shift-above m e above below fits in
    let low = shift-low (m - 2 ^ e) e (omega arith) (omega arith) (omega arith) in
    let power = power_cut e (shift_of m) (omega arith) in
    let split : m - 1 ≡ m - 2 ^ e - 1 + 2 ^ (e - shift_of m) * 2 ^ shift_of m = omega arith in
    ap (λ n. n / 2 ^ shift_of m) split
    ∙ add-mul-div_right (m - 2 ^ e - 1) (2 ^ (e - shift_of m)) (pow_pos (shift_of m))
    ∙ omega (arith, ap (λ k. (m - 2 ^ e - 1) / 2 ^ k) same)
