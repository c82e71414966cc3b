-- *Ranges of time*: how a range counts at a second, by its two ends (Sigstore trusted root format, TimeRange).
use Rattle.std.specs.Prelude.{◌≡◌, ℤ, Bool, Option, Some}
use Rattle.sig_root.specs.Picked.{has_begun, holds}

-- at this second, the range from `start` to `end` has begun as `begun` says, and holds as `held` says
pub record Counts (now : ℤ) (start end : Option ℤ) (begun held : Bool) : Type 0 where
  pub beginning : has_begun now (Some (record { start = start; end = end })) ≡ begun
  pub holding : holds now (Some (record { start = start; end = end })) ≡ held
