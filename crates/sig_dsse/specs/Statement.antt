-- *Statement*: an in-toto statement (in-toto attestation framework, "Statement layer specification v1"), and the text
-- of which it is read.
use Rattle.std.specs.Prelude.{ℕ, List, map, codes, Option, Some}
use Rattle.std.specs.Result.{result_ok}
use Rattle.sig_base.specs.OptionSteps.{◌>>=◌}
use Rattle.sig_json.specs.Data.{Data}
use Rattle.sig_json.specs.Kinds.{text_of, text_map_of}
use Rattle.sig_json.specs.Member.{required, required_text, required_list, optional}
use Rattle.sig_json.specs.Record.{record_in}

-- texts by their names, in byte order of the names
abbrev pub DigestTexts : Type 0
DigestTexts = List (List ℕ × List ℕ)

-- a subject: what it is called, its digests by their names, and any annotations
pub record Subject : Type 0 where
  pub name : Option (List ℕ)
  pub digest : DigestTexts
  pub annotations : Option Data

-- `_type`, `subject`, `predicateType`, `predicate`
pub record Statement : Type 0 where
  pub statement_type : List ℕ
  pub subject : List Subject
  pub predicate_type : List ℕ
  pub predicate : Option Data

-- the digests of each subject, in order
abbrev pub digest_maps : Statement → List DigestTexts
digest_maps statement = map (λ subject. subject.digest) statement.subject

-- the digest is required, and an object of texts
unfoldable pub subject_of : Data → Option Subject
subject_of d = do
  name ← optional text_of (codes "name") d
  digest ← required text_map_of (codes "digest") d
  annotations ← optional Some (codes "annotations") d
  Some (record { name = name; digest = digest; annotations = annotations })

-- all except the predicate are required
unfoldable pub statement_in : Data → Option Statement
statement_in d = do
  statement_type ← required_text (codes "_type") d
  subject ← required_list subject_of (codes "subject") d
  predicate_type ← required_text (codes "predicateType") d
  predicate ← optional Some (codes "predicate") d
  Some (record {
    statement_type = statement_type;
    subject = subject;
    predicate_type = predicate_type;
    predicate = predicate;
  })

-- the statement that a payload is, `None` if it is not a document without floats or a member is not as it has to be
unfoldable pub statement_of : List ℕ → Option Statement
statement_of payload = result_ok (record_in statement_in payload)
