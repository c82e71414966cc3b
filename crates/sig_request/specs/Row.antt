-- A row of `accepted`: one signature that is accepted as genuine.
use Rattle.std.specs.Prelude.{ℕ, List, [], codes, Option, Some, None, if◌then◌else◌, ⊤}
use Rattle.std.specs.Str.{bytes_eq}
use Rattle.sig_base.specs.OptionSteps.{◌>>=◌}
use Rattle.sig_json.specs.Data.{Data}
use Rattle.sig_base.specs.declared.checker.AcceptedRow.{AcceptedRow}
use Rattle.sig_base.specs.declared.checker.Operation.{Operation}
use Rattle.sig_base.specs.declared.checker.Operation.TheVariants.{Message, Prehash, Point, Certificate}
use Rattle.sig_base.specs.declared.scheme.SigningScheme.{SigningScheme}
use Rattle.sig_base.specs.Scheme.{name_of, scheme_of, scheme_named}
use Rattle.sig_json.specs.Kinds.{bytes_of, text_of}
use Rattle.sig_json.specs.Member.{list_each, optional, required, required_bytes}

-- the operation that a text names
abbrev pub operation_named : List ℕ → Option Operation
operation_named text =
    if bytes_eq text (codes "message") then Some Message else
    if bytes_eq text (codes "prehash") then Some Prehash else
    if bytes_eq text (codes "point") then Some Point else
    if bytes_eq text (codes "certificate") then Some Certificate else None

unfoldable pub operation_kind : Data → Option Operation
operation_kind d = text_of d >>= operation_named

-- a name of a signature scheme
unfoldable pub scheme_kind : Data → Option SigningScheme
scheme_kind d = text_of d >>= scheme_named

-- a log's entries
abbrev pub entries_of : Data → Option (List (List ℕ))
entries_of d = list_each bytes_of d

-- the kind without a value: a member that has to be absent or null is an optional one of this kind
abbrev pub no_kind : Data → Option ⊤
no_kind d = None

-- the scheme of a row: a scheme's name for a message and a digest, nothing for a point, and an algorithm element for a
-- certificate
abbrev pub scheme_for : Operation → Data → Option (List ℕ)
scheme_for Message d = required scheme_kind (codes "scheme") d >>= λ scheme. Some (name_of (scheme_of scheme))
scheme_for Prehash d = required scheme_kind (codes "scheme") d >>= λ scheme. Some (name_of (scheme_of scheme))
scheme_for Point d = optional no_kind (codes "scheme") d >>= λ _. Some []
scheme_for Certificate d = required_bytes (codes "scheme") d

unfoldable pub row_of : Data → Option AcceptedRow
row_of d = do
  operation ← required operation_kind (codes "operation") d
  scheme ← scheme_for operation d
  key ← required_bytes (codes "key") d
  message ← required_bytes (codes "message") d
  signature ← required_bytes (codes "signature") d
  Some (record { operation = operation; scheme = scheme; key = key; message = message; signature = signature })

-- accepted signatures: a list of rows
abbrev pub accepted_of : Data → Option (List AcceptedRow)
accepted_of d = list_each row_of d
