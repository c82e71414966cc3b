-- *Validity period of a token*, in seconds since 1970 (RFC 7519 sections 4.1.4 and 4.1.5).
use Rattle.std.specs.Prelude.{◌≡◌, ℤ, int_le, int_lt, IsTrue, Some}
use Rattle.sig_token.specs.declared.claims.Claims.{Claims}

pub record IsInPeriod (claims : Claims) (now : ℤ) : Type 0 where
  -- not before its start, where it has one
  pub begun : (start : ℤ) → claims.nbf ≡ Some start → IsTrue (int_le start now)
  -- before its expiration
  pub unexpired : IsTrue (int_lt now claims.exp)
