-- How many questions are asked.
use Rattle.std.proofs.Common.{◌≡◌, ℕ, suc, ◌+◌, ◌*◌, ◌<◌, ◌≤◌, ap, ◌∙◌, arith}
use Rattle.std.proofs.Math.Nat.{mul-le-mul_right, suc-mul}

row_more : (i m : ℕ) → (i + 1) * m ≡ i * m + m
row_more i m = let same : i + 1 ≡ suc i = omega arith in ap (λ (k : ℕ). k * m) same ∙ suc-mul i m

pub one_more_row : (start before after i m : ℕ) → before ≤ start + i * m → after ≤ before + m
    → after ≤ start + (i + 1) * m
one_more_row start before after i m so_far step = omega (arith, so_far, step, row_more i m)

-- no more than for all rows, after the last or in the midst of one
pub within_rows : (start before after i n m : ℕ) → before ≤ start + i * m → after ≤ before + m → i < n
    → after ≤ start + n * m
within_rows start before after i n m so_far step lt =
    let more = one_more_row start before after i m so_far step in
    let all : (i + 1) * m ≤ n * m = mul-le-mul_right m (omega (arith, lt)) in
    omega (arith, more, all)

-- what the intermediates are asked about, and then the leaf
pub all_rows : (n a start asked done : ℕ) → asked ≤ start + n * (n + a) → done ≤ asked + n
    → done + a ≤ start + (n + 1) * (n + a)
all_rows n a start asked done links leaf = omega (arith, links, leaf, row_more n (n + a))
