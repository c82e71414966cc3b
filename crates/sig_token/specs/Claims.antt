-- *Claims*: what a token says (RFC 7519 section 4.1): each member with its name, its kind, and whether it is required.
-- Members of other names are ignored.
use Rattle.std.specs.Prelude.{ℕ, List, codes, Option, Some, Result}
use Rattle.sig_base.specs.OptionSteps.{◌>>=◌}
use Rattle.sig_json.specs.Data.{Data}
use Rattle.sig_json.specs.Member.{optional, required, required_text}
use Rattle.sig_json.specs.NumberKinds.{i64_number_of}
use Rattle.sig_json.specs.Record.{record_in}
use Rattle.sig_json.specs.declared.error.JsonError.{JsonError}
use Rattle.sig_token.specs.declared.claims.Claims.{Claims}

unfoldable pub claims_of : Data → Option Claims
claims_of d = do
  aud ← required_text (codes "aud") d
  exp ← required i64_number_of (codes "exp") d
  nbf ← optional i64_number_of (codes "nbf") d
  email ← required_text (codes "email") d
  Some (record { aud = aud; exp = exp; nbf = nbf; email = email })

-- the claims of a text, or why it does not have any
abbrev pub claims_in : List ℕ → Result Claims JsonError
claims_in = record_in claims_of
