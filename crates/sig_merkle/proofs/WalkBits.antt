-- The bits of an index beside those of the last leaf's index, in a tree that is cut at a power of two.
use Rattle.std.proofs.Common.{◌≡◌, ℕ, zero, suc, ◌+◌, ◌-◌, ◌*◌, ◌/◌, ◌^◌, ◌<◌, ◌≤◌, refl, sym, ◌∙◌, ap, inl, inr}
use Rattle.std.proofs.Common.{subst, arith}
use Rattle.std.specs.Prelude.{bit_xor, count_ones}
use Rattle.std.specs.Int.{w64, leading_zeros}
use Rattle.std.proofs.Math.Nat.{pow-suc, pow-le-pow_right, div-eq_of_lt, add-mul-div_right}
use Rattle.std.specs.Int.Count.{ones-ones}
use Rattle.std.proofs.lemmas.Bool.{cases_lt}
use Rattle.std.proofs.lemmas.Nat.{xor_block, xor_lt, leading_length, ones-le, ones_cat, pow-add, pow_pos, shr_below}
use Rattle.sig_merkle.specs.Walk.{bit_len, inner_len, border_len}

-- the number of bits is the exponent of the least power of two above
bit_len_unique : (n i j : ℕ) → n < 2 ^ i → 2 ^ j ≤ 2 * n + 1 → j ≤ i
bit_len_unique n i zero below largest = omega arith
bit_len_unique n i (suc j) below largest =
    elim (cases_lt i (suc j)) [
      | inl longer ↦ absurd (let grown : 2 ^ i ≤ 2 ^ j = pow-le-pow_right (omega arith) (omega arith) in
          omega (arith, pow-suc 2 j))
      | inr within ↦ within
    ]

pub bit_len-within : (n : ℕ) → n < 2 ^ 64 → (n < 2 ^ bit_len n) × (2 ^ bit_len n ≤ 2 * n + 1)
unfolding bit_len
bit_len-within n fits =
    let (length, all, below, largest) = leading_length 64 n fits in
    let same : 64 - leading_zeros w64 n ≡ length = omega arith in
    (subst (λ k. n < 2 ^ k) (sym same) below, subst (λ k. 2 ^ k ≤ 2 * n + 1) (sym same) largest)

pub bit_len-is : (n k : ℕ) → n < 2 ^ 64 → n < 2 ^ k → 2 ^ k ≤ 2 * n + 1 → bit_len n ≡ k
bit_len-is n k fits below largest =
    let own = bit_len-within n fits in
    let up = bit_len_unique n k (bit_len n) below own.1 in
    let down = bit_len_unique n (bit_len n) k own.0 largest in
    omega arith

pub bit_len-le : (n k : ℕ) → n < 2 ^ 64 → n < 2 ^ k → bit_len n ≤ k
bit_len-le n k fits below =
    let own = bit_len-within n fits in
    bit_len_unique n k (bit_len n) below own.1

-- no bit of a number below 2 ^ k is above its k lowest
no_ones : (n k : ℕ) → n < 2 ^ k → count_ones (n / 2 ^ k) ≡ 0
no_ones n k low = rw (div-eq_of_lt low) (omega (arith, ones-le 0 0 (omega arith)))

pub no_ones_above : (n k : ℕ) → n < 2 ^ 64 → 64 ≤ k → count_ones (n / 2 ^ k) ≡ 0
no_ones_above n k fits all =
    let grown : 2 ^ 64 ≤ 2 ^ k = pow-le-pow_right (omega arith) all in
    no_ones n k (omega arith)

-- a leaf of the left half: all its hashes are inner ones

xor-left : (index last e : ℕ) → index < 2 ^ e → 2 ^ e ≤ last → last < 2 * 2 ^ e
    → (2 ^ e ≤ bit_xor index last) × (bit_xor index last < 2 ^ suc e)
xor-left index last e left right within =
    let low : last - 2 ^ e < 2 ^ e = omega arith in
    let block = xor_block e 0 1 index (last - 2 ^ e) left low in
    let here : 0 * 2 ^ e + index ≡ index = omega arith in
    let there : 1 * 2 ^ e + (last - 2 ^ e) ≡ last = omega arith in
    let apart = xor_lt e index (last - 2 ^ e) left low in
    let cut = rw (here, there) at block in
    let top : bit_xor 0 1 ≡ 1 = refl in
    let sum = rw top at cut in
    (omega arith, omega (arith, pow-suc 2 e))

pub inner_len-left : (index size e : ℕ) → size < 2 ^ 64 → 2 ^ e < size → size ≤ 2 * 2 ^ e → index < 2 ^ e
    → inner_len index size ≡ suc e
unfolding inner_len
inner_len-left index size e fits below largest left =
    let (high, low) = xor-left index (size - 1) e left (omega arith) (omega arith) in
    let whole : bit_xor index (size - 1) < 2 ^ 64 = xor_lt 64 index (size - 1) (omega arith) (omega arith) in
    bit_len-is (bit_xor index (size - 1)) (suc e) whole low (omega (arith, pow-suc 2 e))

pub border_len-left : (index size e : ℕ) → size < 2 ^ 64 → 2 ^ e < size → size ≤ 2 * 2 ^ e → index < 2 ^ e
    → border_len index size ≡ 0
unfolding border_len
border_len-left index size e fits below largest left =
    rw (inner_len-left index size e fits below largest left) (no_ones index (suc e) (omega (arith, pow-suc 2 e)))

-- a leaf of the right half: its last hash is of the border, and the others are those of its path in that half

xor-right : (index last e : ℕ) → 2 ^ e ≤ index → index < 2 * 2 ^ e → 2 ^ e ≤ last → last < 2 * 2 ^ e
    → bit_xor index last ≡ bit_xor (index - 2 ^ e) (last - 2 ^ e)
xor-right index last e right within last_right last_within =
    let block = xor_block e 1 1 (index - 2 ^ e) (last - 2 ^ e) (omega arith) (omega arith) in
    let here : 1 * 2 ^ e + (index - 2 ^ e) ≡ index = omega arith in
    let there : 1 * 2 ^ e + (last - 2 ^ e) ≡ last = omega arith in
    let cut = rw (here, there) at block in
    let top : bit_xor 1 1 ≡ 0 = refl in
    let sum = rw top at cut in
    omega arith

pub inner_len-right : (index size e : ℕ) → index < size → size ≤ 2 * 2 ^ e → 2 ^ e ≤ index
    → inner_len index size ≡ inner_len (index - 2 ^ e) (size - 2 ^ e)
unfolding inner_len
inner_len-right index size e within largest right =
    let same = xor-right index (size - 1) e right (omega arith) (omega arith) (omega arith) in
    let last : size - 1 - 2 ^ e ≡ size - 2 ^ e - 1 = omega arith in
    rw (same, last) refl

pub inner_len-low : (index size e : ℕ) → size ≤ 2 ^ e → e < 64 → index < size → inner_len index size ≤ e
unfolding inner_len
inner_len-low index size e fits narrow within =
    let short : e ≤ 64 = omega arith in
    let grown : 2 ^ e ≤ 2 ^ 64 = pow-le-pow_right (omega arith) short in
    let low = xor_lt e index (size - 1) (omega arith) (omega arith) in
    bit_len-le (bit_xor index (size - 1)) e (omega arith) low

pub power_cut : (e k : ℕ) → k ≤ e → 2 ^ (e - k) * 2 ^ k ≡ 2 ^ e
power_cut e k low = sym (pow-add 2 (e - k) k) ∙ ap (λ n. 2 ^ n) (omega arith)

border-cut : (index e inner : ℕ) → 2 ^ e ≤ index → index < 2 * 2 ^ e → inner ≤ e
    → count_ones (index / 2 ^ inner) ≡ count_ones ((index - 2 ^ e) / 2 ^ inner) + 1
border-cut index e inner right within low =
    let power = power_cut e inner low in
    let split : index ≡ index - 2 ^ e + 2 ^ (e - inner) * 2 ^ inner = omega arith in
    let cut : index / 2 ^ inner ≡ (index - 2 ^ e) / 2 ^ inner + 2 ^ (e - inner) =
    ap (λ n. n / 2 ^ inner) split ∙ add-mul-div_right (index - 2 ^ e) (2 ^ (e - inner)) (pow_pos inner) in
    let whole : e - inner + inner ≡ e = omega arith in
    let small = shr_below (index - 2 ^ e) (e - inner) inner (rw whole (omega arith)) in
    let sum : index / 2 ^ inner ≡ 1 * 2 ^ (e - inner) + (index - 2 ^ e) / 2 ^ inner = omega arith in
    ap count_ones sum ∙ ones_cat (e - inner) 1 ((index - 2 ^ e) / 2 ^ inner) small
    ∙ omega (arith, ones-ones 1)

pub border_len-right : (index size e : ℕ) → e < 64 → index < size → size ≤ 2 * 2 ^ e → 2 ^ e ≤ index
    → border_len index size ≡ border_len (index - 2 ^ e) (size - 2 ^ e) + 1
unfolding border_len
border_len-right index size e narrow within largest right =
    let low = inner_len-low (index - 2 ^ e) (size - 2 ^ e) e (omega arith) narrow (omega arith) in
    rw (inner_len-right index size e within largest right)
    (border-cut index e (inner_len (index - 2 ^ e) (size - 2 ^ e)) right (omega arith) low)

-- one leaf: there is no hash

pub inner_len-one : inner_len 0 1 ≡ 0
unfolding inner_len
inner_len-one = bit_len-is 0 0 (omega arith) (omega arith) (omega arith)

pub border_len-one : border_len 0 1 ≡ 0
unfolding border_len
border_len-one = rw inner_len-one (no_ones 0 0 (omega arith))

-- an index of 64 bits has none above its 64 lowest
pub border_len-all_inner : (index size : ℕ) → index < 2 ^ 64 → inner_len index size ≡ 64 → border_len index size ≡ 0
unfolding border_len
border_len-all_inner index size fits all = rw all (no_ones index 64 fits)
