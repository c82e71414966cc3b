-- The record of a text is that of the text's tree.
use Rattle.std.proofs.Common.{◌≡◌, ℕ, List, Option, Some, None, Result, Ok, Err, refl, ap}
use Rattle.std.specs.Option.{ok_or}
use Rattle.sig_json.specs.Data.{Data}
use Rattle.sig_json.specs.declared.error.DocumentError.{DocumentError}
use Rattle.sig_json.specs.declared.error.JsonError.TheVariants.{Member}
use Rattle.sig_json.specs.Document.{document_of}
use Rattle.sig_json.specs.Only.{only, only_of}
use Rattle.sig_json.specs.Record.{record_of, record_in, record_with}

ok_or-some : {A : Type 0} → (found : Option A) (x : A) → ok_or found Member ≡ Ok x → found ≡ Some x
ok_or-some None x read = cc
ok_or-some (Some y) x read = let same : y ≡ x = cc in rw same refl

record_of-tree : {A : Type 0} → (kind : Data → Option A) (document : Result Data DocumentError) (x : A)
    → record_of kind document ≡ Ok x → (tree : Data) × (document ≡ Ok tree) × (kind tree ≡ Some x)
record_of-tree kind (Err e) x read = cc
record_of-tree kind (Ok tree) x read = (tree, refl, ok_or-some (kind tree) x read)

-- a text with a record has a tree, which is read as the record
pub record_in-tree : {A : Type 0} → (kind : Data → Option A) (text : List ℕ) (x : A) → record_in kind text ≡ Ok x
    → (tree : Data) × (document_of text ≡ Ok tree) × (kind tree ≡ Some x)
unfolding record_in
record_in-tree kind text x read = record_of-tree kind (document_of text) x read

-- a tree that is read as a record is that of a text with the record
pub record_in-read : {A : Type 0} → (kind : Data → Option A) (text : List ℕ) (tree : Data) (x : A)
    → document_of text ≡ Ok tree → kind tree ≡ Some x → record_in kind text ≡ Ok x
unfolding record_in
record_in-read kind text tree x document read = rw (document, read) refl

-- a reader that looks at members of these names alone reads the same record
pub record_with-same : {A : Type 0} → (names : List (List ℕ)) (kind : Data → Option A) (text : List ℕ)
    → ((tree : Data) → kind (only names tree) ≡ kind tree) → record_with names kind text ≡ record_in kind text
unfolding record_in record_with
record_with-same names kind text same = by_document (document_of text) where
  by_document : (document : Result Data DocumentError)
      → record_of kind (only_of names document) ≡ record_of kind document
  by_document (Err e) = refl
  by_document (Ok tree) = ap (λ found. ok_or found Member) (same tree)
