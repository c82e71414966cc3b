-- *Text of a statement*: that a payload is a statement, member by member (in-toto attestation framework, "Statement
-- layer specification v1").
use Rattle.std.specs.Prelude.{◌≡◌, ⊤, ℕ, List, [], ◌∷◌, map, codes, Option, Some, Ok}
use Rattle.sig_json.specs.Data.{Data, string}
use Rattle.sig_json.specs.Document.{document_of}
use Rattle.sig_json.specs.Find.{as_object, get}
use Rattle.sig_json.specs.List.{list_of}
use Rattle.sig_json.specs.Members.{members_of}
use Rattle.sig_dsse.specs.SaidMembers.{HasText, MayHave}
use Rattle.sig_dsse.specs.Statement.{DigestTexts, Subject, Statement}

-- the value is this text
abbrev pub IsText : Data → List ℕ → Type 0
IsText value text = value ≡ string text

-- the value is this
abbrev pub IsValue : Data → Data → Type 0
IsValue value d = value ≡ d

-- the value is an object of these texts by their names, in byte order, and has no other member
abbrev pub AreTexts : Data → DigestTexts → Type 0
AreTexts value texts = members_of value ≡ Some (map (λ (entry : List ℕ × List ℕ). (entry.0, string entry.1)) texts)

-- the element says this of a subject
pub record IsSubject (d : Data) (subject : Subject) : Type 0 where
  pub digests : Data
  pub held : get (codes "digest") d ≡ Some digests
  pub digest : AreTexts digests subject.digest
  pub name : MayHave IsText (codes "name") d subject.name
  pub annotations : MayHave IsValue (codes "annotations") d subject.annotations

-- element by element
abbrev pub AreSubjects : List Data → List Subject → Type 0
AreSubjects [] [] = ⊤
AreSubjects (d ∷ ds) (subject ∷ subjects) = IsSubject d subject × AreSubjects ds subjects
AreSubjects [] (subject ∷ subjects) = ⊥
AreSubjects (d ∷ ds) [] = ⊥

-- the payload is a JSON document without floats, an object of these members
pub record IsStatement (payload : List ℕ) (statement : Statement) : Type 0 where
  pub tree : Data
  pub document : document_of payload ≡ Ok tree
  pub statement_type : HasText (codes "_type") tree statement.statement_type
  pub predicate_type : HasText (codes "predicateType") tree statement.predicate_type
  pub list : Data
  pub held : get (codes "subject") tree ≡ Some list
  pub elements : List Data
  pub listed : list_of list ≡ Some elements
  pub subjects : AreSubjects elements statement.subject
  pub predicate : MayHave IsValue (codes "predicate") tree statement.predicate

-- the payload is not a statement
abbrev pub IsNoStatement : List ℕ → Type 0
IsNoStatement payload = (statement : Statement) → ¬ IsStatement payload statement
