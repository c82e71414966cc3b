-- Where a tree of n > 1 leaves is cut (RFC 6962 section 2.1): "let k be the largest power of two
-- smaller than n". The first k leaves are the left half, the rest the right half.
use Rattle.std.specs.Prelude.{◌≡◌, ℕ, ◌*◌, ◌^◌, ◌<◌, ◌≤◌}

-- k is the largest power of two below n
pub record IsSplit (n k : ℕ) : Type 0 where
  pub exponent : ℕ
  pub power : k ≡ 2 ^ exponent
  pub below : k < n
  pub largest : n ≤ 2 * k
