-- The document that `questions` writes: a list of signatures, in the form of `accepted`.
use Rattle.std.specs.Prelude.{◌≡◌, ℕ, ◌+◌, ◌-◌, ◌<◌, ◌≤◌, List, [], ◌∷◌, codes, length, Option, Some, None, Ok}
use Rattle.sig_base.specs.Scheme.{name_of}
use Rattle.sig_base.specs.declared.scheme.VerifyScheme.{VerifyScheme}
use Rattle.sig_base.specs.declared.checker.AcceptedRow.{AcceptedRow}
use Rattle.sig_base.specs.declared.checker.Operation.{Operation}
use Rattle.sig_base.specs.declared.checker.Operation.TheVariants.{Message, Prehash, Point, Certificate}
use Rattle.sig_json.specs.Writing.{IsReadAs, TreeMember, bytes_tree, list_tree, object_of}
use Rattle.sig_json.specs.Builders.{with_last}
use Rattle.sig_json.specs.Data.{Data, string}
use Rattle.sig_json.specs.Document.{document_of}
use Rattle.sig_json.specs.Kinds.{bytes_of}
use Rattle.sig_json.specs.Member.{list_each}
use Rattle.sig_json.specs.Written.{compact_text}
use Rattle.sig_request.specs.Limit.{most_bytes}
use Rattle.sig_request.specs.Row.{row_of}

-- an operation's name
abbrev pub operation_word : Operation → List ℕ
operation_word Message = codes "message"
operation_word Prehash = codes "prehash"
operation_word Point = codes "point"
operation_word Certificate = codes "certificate"

-- the scheme of a row: a scheme's name for a message and a digest, nothing for a point, and an algorithm element in
-- base64 for a certificate
abbrev pub scheme_tree : Operation → List ℕ → Option Data
scheme_tree Message scheme = Some (string scheme)
scheme_tree Prehash scheme = Some (string scheme)
scheme_tree Point scheme = None
scheme_tree Certificate scheme = Some (bytes_tree scheme)

abbrev pub row_members : AcceptedRow → List TreeMember
row_members row =
    (codes "operation", Some (string (operation_word row.operation)))
    ∷ (codes "scheme", scheme_tree row.operation row.scheme)
    ∷ (codes "key", Some (bytes_tree row.key))
    ∷ (codes "message", Some (bytes_tree row.message))
    ∷ (codes "signature", Some (bytes_tree row.signature))
    ∷ []

-- a signature as an object: what is absent has no member
unfoldable pub row_tree : AcceptedRow → Data
row_tree row = object_of (row_members row)

abbrev pub rows_tree : List AcceptedRow → Data
rows_tree rows = list_tree row_tree rows

-- the text of a list of signatures: without white space, and the members of each object in the byte order of their
-- names (RFC 8259)
abbrev pub rows_text : List AcceptedRow → List ℕ
rows_text rows = compact_text (rows_tree rows)

-- what a request has before its list of accepted signatures, where that is its last member
abbrev pub accepted_name : List ℕ
accepted_name = codes ",\"accepted\":"

-- The text of a request, the list of these signatures, and what comes before the list have together at most as many
-- bytes as a request may have. So the request can give the signatures back.
abbrev pub FitsBeside : List ℕ → List AcceptedRow → Type 0
FitsBeside text rows = length text + length (rows_text rows) + length accepted_name ≤ most_bytes

-- the text is that of a document which, as the member `accepted` of a request, means these signatures
abbrev pub IsReadBack : List AcceptedRow → Type 0
IsReadBack rows = (document_of (rows_text rows) ≡ Ok (rows_tree rows)) × (list_each row_of (rows_tree rows) ≡ Some rows)

-- how many bytes the signatures take in a list, each with the comma or bracket before it
abbrev pub rows_size : List AcceptedRow → ℕ
rows_size [] = 0
rows_size (row ∷ rows) = (1 + length (compact_text (row_tree row))) + rows_size rows

-- the bytes are a scheme's name
abbrev pub IsSchemeName : List ℕ → Type 0
IsSchemeName scheme = (named : VerifyScheme) × (scheme ≡ name_of named)

-- a scheme of a row of this operation: a scheme's name for a message and a digest, nothing for a point, any bytes for a
-- certificate
abbrev pub IsSchemeUnder : Operation → List ℕ → Type 0
IsSchemeUnder Message scheme = IsSchemeName scheme
IsSchemeUnder Prehash scheme = IsSchemeName scheme
IsSchemeUnder Point scheme = scheme ≡ []
IsSchemeUnder Certificate scheme = Unit {0}

abbrev pub HasScheme : AcceptedRow → Type 0
HasScheme row = IsSchemeUnder row.operation row.scheme

-- for private clauses: a scheme of a row of this operation that is read back
abbrev pub IsSchemeRead : Operation → List ℕ → Type 0
IsSchemeRead Message scheme = IsSchemeName scheme
IsSchemeRead Prehash scheme = IsSchemeName scheme
IsSchemeRead Point scheme = scheme ≡ []
IsSchemeRead Certificate scheme = IsReadAs bytes_of (bytes_tree scheme) scheme

-- a signature's object is read as the signature, as an element of `accepted`
abbrev pub IsRowReadBack : AcceptedRow → Type 0
IsRowReadBack row = IsReadAs row_of (row_tree row) row

-- for private clauses: how many bytes a list may have that fits beside the text of a request; 0 if there is no room
abbrev pub room_beside : List ℕ → ℕ
room_beside text = (most_bytes - length accepted_name) - length text

-- a list of signatures of at most `most` bytes, with its number of bytes, that a further one was added to; `None` if it
-- has no room there
abbrev pub AddsRow : ℕ → Data → Data → ℕ → AcceptedRow → Option ℕ → Type 0
AddsRow most old new size row None = most < size + rows_size (row ∷ []) + 1
AddsRow most old new size row (Some sum) =
    (sum ≡ size + rows_size (row ∷ [])) × (sum < most) × (new ≡ with_last (row_tree row) old)

-- for private clauses: a list of these signatures, which is read back as them, and takes this number of bytes except
-- for its closing bracket, for which there is room
pub record IsListOf (most : ℕ) (rows : List AcceptedRow) (list : Data) (size : ℕ) : Type 0 where
  pub tree : list ≡ rows_tree rows
  pub back : IsReadAs (list_each row_of) (rows_tree rows) rows
  pub taken : size ≡ rows_size rows
  pub room : size < most
  pub least : 2 ≤ most

-- the text of the document of these signatures, which is read back; `None` if it has more than `most` bytes
abbrev pub IsDocumentOf : ℕ → List AcceptedRow → Option (List ℕ) → Type 0
IsDocumentOf most rows None = most < length (rows_text rows)
IsDocumentOf most rows (Some text) = (text ≡ rows_text rows) × (length text ≤ most) × IsReadBack rows
