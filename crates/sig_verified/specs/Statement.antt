-- An envelope as it is shown: the predicate type and the subjects of its payload, a statement (in-toto attestation
-- framework, "Statement layer specification v1").
use Rattle.std.specs.Prelude.{ℕ, List, [], ◌∷◌, ◌++◌, codes, length, take, Option, Some, None}
use Rattle.std.specs.Result.{result_ok}
use Rattle.sig_base.specs.OptionSteps.{◌>>=◌}
use Rattle.sig_json.specs.Writing.{TreeMember, list_tree, object_of}
use Rattle.sig_bundle.specs.declared.bundle.Content.{Content}
use Rattle.sig_bundle.specs.declared.bundle.Content.TheVariants.{DsseEnvelope as Envelope, MessageSignature as Message}
use Rattle.sig_dsse.specs.declared.envelope.DsseEnvelope.{DsseEnvelope}
use Rattle.sig_json.specs.Data.{Data}
use Rattle.sig_json.specs.Kinds.{text_map_of, text_of}
use Rattle.sig_json.specs.Member.{optional, required, required_list, required_text}
use Rattle.sig_json.specs.Record.{record_with}
use Rattle.sig_shown.specs.ShownValues.{count_row, sha256_tree, shown_rows, some_rows}
use Rattle.sig_verified.specs.declared.statement.BriefStatement.{BriefStatement}
use Rattle.sig_verified.specs.declared.statement.BriefSubject.{BriefSubject}

-- ---- what is read

unfoldable pub subject_of : Data → Option BriefSubject
subject_of d = do
  name ← optional text_of (codes "name") d
  digest ← required text_map_of (codes "digest") d
  Some (record { name = name; digest = digest })

unfoldable pub statement_of : Data → Option BriefStatement
statement_of d = do
  subject ← required_list subject_of (codes "subject") d
  predicate_type ← required_text (codes "predicateType") d
  Some (record { subject = subject; predicate_type = predicate_type })

-- the members of a statement that are read
abbrev pub statement_names : List (List ℕ)
statement_names = codes "subject" ∷ codes "predicateType" ∷ []

-- what is shown of a payload; `None` if it is not a statement
abbrev pub statement_in : List ℕ → Option BriefStatement
statement_in payload = result_ok (record_with statement_names statement_of payload)

-- ---- what is shown

-- the greatest numbers of digests of a subject, and of subjects, that are shown: as many as a bundle's own checks allow
abbrev pub most_digests : ℕ
most_digests = 32

abbrev pub most_subjects : ℕ
most_subjects = 1024

unfoldable pub named_digest_tree : List ℕ × List ℕ → Data
named_digest_tree digest =
    object_of
    (shown_rows (codes "algorithm") (codes "algorithmLength") digest.0
    ++ shown_rows (codes "value") (codes "valueLength") digest.1)

unfoldable pub named_digests_tree : List (List ℕ × List ℕ) → Data
named_digests_tree digests = list_tree named_digest_tree (take most_digests digests)

unfoldable pub subject_tree : BriefSubject → Data
subject_tree subject =
    object_of
    (some_rows (codes "name") (codes "nameLength") subject.name
    ++ ((codes "digests", Some (named_digests_tree subject.digest)) ∷ []))

abbrev pub subjects_rows : List BriefSubject → List TreeMember
subjects_rows subjects =
    (codes "subjects", Some (list_tree subject_tree (take most_subjects subjects)))
    ∷ count_row (codes "subjectCount") (length subjects)
    ∷ []

abbrev pub brief_rows : BriefStatement → List TreeMember
brief_rows statement =
    shown_rows (codes "predicateType") (codes "predicateTypeLength") statement.predicate_type
    ++ subjects_rows statement.subject

abbrev pub statement_rows : Option BriefStatement → List TreeMember
statement_rows None = []
statement_rows (Some statement) = brief_rows statement

unfoldable pub envelope_tree : DsseEnvelope → Data
envelope_tree envelope =
    object_of
    (shown_rows (codes "payloadType") (codes "payloadTypeLength") envelope.payload_type
    ++ ((codes "payloadSha256", Some (sha256_tree envelope.payload)) ∷ statement_rows (statement_in envelope.payload)))

-- a signature over an artifact does not have an envelope
abbrev pub envelope_in : Option Content → Option Data
envelope_in None = None
envelope_in (Some (Message _)) = None
envelope_in (Some (Envelope envelope)) = Some (envelope_tree envelope)
