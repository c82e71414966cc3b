-- A text is a request: one document, read by the table of its members.
use Rattle.std.specs.Prelude.{◌≡◌, ℕ, ◌≤◌, List, length, Option, Some, None, Ok}
use Rattle.sig_json.specs.Data.{Data}
use Rattle.sig_json.specs.Document.{document_of}
use Rattle.sig_request.specs.Limit.{most_bytes}

-- the text is this request of a table that means this: it has at most 2^24 bytes, it is a document, and its members
-- are these
pub record IsRequestOf {R : Type 0} (meaning : Data → Option R) (text : List ℕ) (request : R) : Type 0 where
  pub tree : Data
  pub short : length text ≤ most_bytes
  pub document : document_of text ≡ Ok tree
  pub members : meaning tree ≡ Some request

-- a request, if and only if the text is one
abbrev pub IsReadFrom : {R : Type 0} → (Data → Option R) → List ℕ → Option R → Type 0
IsReadFrom {R} meaning text None = (request : R) → ¬ IsRequestOf meaning text request
IsReadFrom meaning text (Some request) = IsRequestOf meaning text request
