-- A text as a record of a member table.
use Rattle.std.specs.Prelude.{ℕ, List, Option, option_map, Result, Ok, Err}
use Rattle.std.specs.Option.{ok_or}
use Rattle.serde_json.specs.Data.{Data}
use Rattle.sig_json.specs.Causes.{cause_of_document}
use Rattle.sig_json.specs.Document.{document_of}
use Rattle.sig_json.specs.Member.{optional_list}
use Rattle.sig_json.specs.Only.{only, only_of}
use Rattle.sig_json.specs.declared.error.DocumentError.{DocumentError}
use Rattle.sig_json.specs.declared.error.JsonError.{JsonError}
use Rattle.sig_json.specs.declared.error.JsonError.TheVariants.{Member}

abbrev pub record_of : {A : Type 0} → (Data → Option A) → Result Data DocumentError → Result A JsonError
record_of kind (Err e) = Err (cause_of_document e)
record_of kind (Ok d) = ok_or (kind d) Member

-- the record of a text's tree, or why there is none: no tree, a float in it, or a member that breaks the table
unfoldable pub record_in : {A : Type 0} → (Data → Option A) → List ℕ → Result A JsonError
record_in kind text = record_of kind (document_of text)

-- the same of the tree without its members of other names than these
unfoldable pub record_with : {A : Type 0} → List (List ℕ) → (Data → Option A) → List ℕ → Result A JsonError
record_with names kind text = record_of kind (only_of names (document_of text))

-- the members of these names, and beside them the elements of the list of one name; none where it is absent or null
abbrev pub members_and_list : {A : Type 0} → List (List ℕ) → List ℕ → (Data → Option A) → Data → Option (Data × List A)
members_and_list names list kind d = option_map (λ elements. (only names d, elements)) (optional_list kind list d)
