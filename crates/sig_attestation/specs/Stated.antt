-- For private clauses: what is kept of a statement, and what it says of an image.
use Rattle.std.specs.Prelude.{ℕ, List, [], ◌∷◌, map, codes, bytes_eq, if◌then◌else◌, Option, Some, None, option_map}
use Rattle.std.specs.Prelude.{Result, Ok, Err}
use Rattle.std.specs.Option.{ok_or}
use Rattle.sig_base.specs.ByText.{text_lookup}
use Rattle.sig_base.specs.ResultSteps.{◌>>=◌}
use Rattle.sig_base.specs.declared.error.SigstoreError.{SigstoreError}
use Rattle.sig_base.specs.declared.error.SigstoreError.TheVariants.{UnexpectedError}
use Rattle.sig_base.specs.declared.unexpected.UnexpectedKind.TheVariants.{Statement as NoStatement, StatementType}
use Rattle.sig_base.specs.declared.unexpected.UnexpectedKind.TheVariants.{PredicateType, NoSubjects}
use Rattle.sig_base.specs.declared.unexpected.UnexpectedKind.TheVariants.{FirstSubjectWithoutSha256}
use Rattle.sig_json.specs.Data.{Data}
use Rattle.sig_dsse.specs.CosignStatement.{statement_or_fault}
use Rattle.sig_dsse.specs.Statement.{Subject, Statement, subject_of, statement_in, statement_of}
use Rattle.sig_attestation.specs.Image.{of_source, stated_image}
use Rattle.sig_attestation.specs.declared.image.Image.{Image}
use Rattle.sig_attestation.specs.declared.stated.Stated.{Stated}

-- ---- what is kept

-- the SHA-256 of a subject, `None` if it is absent
abbrev pub sha256_of : Subject → Option (List ℕ)
sha256_of subject = text_lookup (codes "sha256") subject.digest

abbrev pub sha256_in : Data → Option (Option (List ℕ))
sha256_in d = option_map sha256_of (subject_of d)

abbrev pub stated : Statement → Stated
stated statement = record {
  statement_type = statement.statement_type;
  predicate_type = statement.predicate_type;
  sha256s = map sha256_of statement.subject;
}

abbrev pub stated_in : Data → Option Stated
stated_in d = option_map stated (statement_in d)

-- what is kept of the statement that a payload is
abbrev pub stated_of : List ℕ → Result Stated SigstoreError
stated_of payload = ok_or (option_map stated (statement_of payload)) (UnexpectedError NoStatement)

-- ---- what it says of an image

abbrev pub types_said : Stated → Result (Unit {0}) SigstoreError
types_said said =
    if bytes_eq said.statement_type (codes "https://in-toto.io/Statement/v1") then
    (if bytes_eq said.predicate_type (codes "https://sigstore.dev/cosign/sign/v1") then Ok tt
    else Err (UnexpectedError PredicateType)) else Err (UnexpectedError StatementType)

-- the SHA-256 of the first subject
abbrev pub first_said : List (Option (List ℕ)) → Result (List ℕ) SigstoreError
first_said [] = Err (UnexpectedError NoSubjects)
first_said (None ∷ others) = Err (UnexpectedError FirstSubjectWithoutSha256)
first_said (Some sha256 ∷ others) = Ok sha256

abbrev pub said_image : List ℕ → Stated → Result Image SigstoreError
said_image source said = do
  _ ← types_said said
  sha256 ← first_said said.sha256s
  _ ← of_source sha256 source
  Ok (record { predicate_type = said.predicate_type; sha256 = sha256 })

-- what a payload says
abbrev pub image_in : List ℕ → List ℕ → Result Image SigstoreError
image_in source payload = statement_or_fault payload >>= stated_image source
