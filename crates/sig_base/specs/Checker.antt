-- What a table of accepted rows accepts.
use Rattle.std.specs.Prelude.{◌≡◌, ◌↔◌, ℕ, Bool, true, ◌&&◌, List, [], nat_eq, slice_get, Contains, Option, Some, None}
use Rattle.std.specs.Str.{bytes_eq}
use Rattle.std.specs.List.{list_any}
use Rattle.sig_base.specs.declared.checker.Operation.{Operation}
use Rattle.sig_base.specs.declared.checker.Operation.TheVariants.{Message, Prehash, Point, Certificate}
use Rattle.sig_base.specs.declared.checker.AcceptedRow.{AcceptedRow}

abbrev pub operation_code : Operation → ℕ
operation_code Message = 0
operation_code Prehash = 1
operation_code Point = 2
operation_code Certificate = 3

-- a row that equals all five parts
abbrev pub matches : Operation → List ℕ → List ℕ → List ℕ → List ℕ → AcceptedRow → Bool
matches operation scheme key message signature row =
    nat_eq (operation_code row.operation) (operation_code operation)
    && (bytes_eq row.scheme scheme && (bytes_eq row.key key &&
    (bytes_eq row.message message && bytes_eq row.signature signature)))

-- some row equals all five parts
abbrev pub accepted : List AcceptedRow → Operation → List ℕ → List ℕ → List ℕ → List ℕ → Bool
accepted rows operation scheme key message signature = list_any (matches operation scheme key message signature) rows

-- the key of the row at an index, empty if there is no such row
abbrev pub key_of : Option AcceptedRow → List ℕ
key_of None = []
key_of (Some row) = row.key

abbrev pub key_at : List AcceptedRow → ℕ → List ℕ
key_at rows place = key_of (slice_get rows place)

-- the keys are those under which this accepts, and no others
abbrev pub AreKeysOf : (List ℕ → Bool) → List (List ℕ) → Type 0
AreKeysOf accepts keys = (key : List ℕ) → (accepts key ≡ true) ↔ Contains keys key
