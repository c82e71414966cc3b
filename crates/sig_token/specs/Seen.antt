-- How contracts see a token.
use Rattle.std.specs.Prelude.{ℕ, List}
use Rattle.sig_token.specs.declared.claims.Claims.{Claims}

-- the text that it was read from, and what it says
pub record Token : Type 0 where
  pub text : List ℕ
  pub claims : Claims
