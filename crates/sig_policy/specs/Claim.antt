use Rattle.std.specs.Prelude.{ℕ, List}

-- The identity that is required, and the issuer that must have stated it.
pub record Claim : Type 0 where
  pub identity : List ℕ
  pub issuer : List ℕ
