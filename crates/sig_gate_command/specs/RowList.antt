-- For private clauses: the list of signatures as it is made.
use Rattle.std.specs.Prelude.{◌≡◌, ◌⊎◌, ◌↔◌, ℕ, ◌+◌, ◌<◌, Bool, true, false, List, [], ◌∷◌, ◌++◌, length, Contains}
use Rattle.std.specs.Prelude.{IsSome, Some, None}
use Rattle.sig_base.specs.ByText.{text_lookup, text_put}
use Rattle.sig_base.specs.declared.checker.AcceptedRow.{AcceptedRow}
use Rattle.sig_gate_command.specs.Questions.{AreRows, AreRowsOf, AreWithin, each_once, most_asked}
use Rattle.sig_gate_command.specs.declared.row_list.RowList.{RowList}
use Rattle.sig_json.specs.Find.{as_array}
use Rattle.sig_json.specs.Tree.{document_tree}
use Rattle.sig_questions.specs.Rows.{bytes_of_rows, row_bytes}
use Rattle.sig_reply.specs.RowsText.{AddsRow, IsListOf, IsReadBack, IsRowReadBack, rows_text, rows_tree}
use Rattle.sig_verify.specs.Links.{Inputs}

-- the list without signatures
pub record IsEmptyList (most : ℕ) (rows : RowList) : Type 0 where
  pub list : document_tree rows.list ≡ rows_tree []
  pub size : rows.size ≡ 0
  pub most_is : rows.most ≡ most
  pub left : rows.left ≡ most_asked
  pub names : rows.names ≡ []

-- it is a list, and has room for its closing bracket
pub record HasRoom (rows : RowList) : Type 0 where
  pub list : IsSome (as_array (document_tree rows.list))
  pub room : rows.size < rows.most
  pub least : 1 < rows.most

-- what a signature is found by: the document of only this signature
abbrev pub row_name : AcceptedRow → List ℕ
row_name row = rows_text (row ∷ [])

-- the bytes of a signature are spent
pub record IsSpent (row : AcceptedRow) (old new : RowList) : Type 0 where
  pub most : new.most ≡ old.most
  pub left : new.left + row_bytes row ≡ old.left

-- a signature is listed, and stays so
pub record IsListed (row : AcceptedRow) (old new : RowList) : Type 0 where
  pub back : IsReadBack (row ∷ [])
  pub found : IsSome (text_lookup (row_name row) old.names)
  pub list : new.list ≡ old.list
  pub size : new.size ≡ old.size
  pub names : new.names ≡ old.names

-- it is not listed, and was added
pub record IsNewRow (row : AcceptedRow) (old new : RowList) : Type 0 where
  pub back : IsReadBack (row ∷ [])
  pub unlisted : text_lookup (row_name row) old.names ≡ None
  pub adds : AddsRow old.most (document_tree old.list) (document_tree new.list) old.size row (Some new.size)
  pub read : IsRowReadBack row
  pub names : new.names ≡ text_put (row_name row) new.size old.names

-- it is not listed, and has no room; or it has no room even by itself
abbrev pub IsPastRow : AcceptedRow → RowList → RowList → Type 0
IsPastRow row old new =
    (old.most < length (row_name row))
    ⊎ (IsReadBack (row ∷ []) × (text_lookup (row_name row) old.names ≡ None)
    × AddsRow old.most (document_tree old.list) (document_tree new.list) old.size row None)

-- whether there was room for a signature: it is listed, or was added
abbrev pub IsPut : AcceptedRow → RowList → RowList → Bool → Type 0
IsPut row old new true = IsSpent row old new × (IsListed row old new ⊎ IsNewRow row old new)
IsPut row old new false = IsSpent row old new × IsPastRow row old new

-- The list has these signatures, each once, and their bytes are spent; a signature is found if and only if it is there.
pub record IsListSoFar (before : List AcceptedRow) (rows : RowList) : Type 0 where
  pub listed : IsListOf rows.most (each_once before) (document_tree rows.list) rows.size
  pub spent : rows.left + bytes_of_rows before ≡ most_asked
  pub found : (row : AcceptedRow) → IsReadBack (row ∷ [])
      → Contains before row ↔ IsSome (text_lookup (row_name row) rows.names)

abbrev pub IsSomeList : RowList → Type 0
IsSomeList rows = (before : List AcceptedRow) × IsListSoFar before rows

-- whether there was room for signatures, with which these are all
abbrev pub HasAddedRows : List AcceptedRow → RowList → Bool → Type 0
HasAddedRows all rows true = IsListSoFar all rows
HasAddedRows all rows false = rows.most < length (rows_text (each_once all))

-- whether there was room for what a bundle asks for, after other signatures
abbrev pub HasAdded : Inputs → List AcceptedRow → RowList → Bool → Type 0
HasAdded i before rows true = (its : List AcceptedRow) × AreRowsOf i its × IsListSoFar (before ++ its) rows
HasAdded i before rows false = (its : List AcceptedRow) → AreRowsOf i its → ¬ AreWithin rows.most (before ++ its)

-- for what several ask for
abbrev pub HasAddedOf : List Inputs → List AcceptedRow → RowList → Bool → Type 0
HasAddedOf is before rows true = (its : List AcceptedRow) × AreRows is its × IsListSoFar (before ++ its) rows
HasAddedOf is before rows false = (its : List AcceptedRow) → AreRows is its → ¬ AreWithin rows.most (before ++ its)
