-- What `cosign` requires of a statement: its types, and a first subject with a `sha256` digest.
use Rattle.std.specs.Prelude.{ℕ, List, [], ◌∷◌, bytes_eq, if◌then◌else◌, codes, is_some, Option, Some, None, Result}
use Rattle.std.specs.Prelude.{Ok, Err}
use Rattle.std.specs.Option.{ok_or}
use Rattle.sig_base.specs.ByText.{text_lookup}
use Rattle.sig_base.specs.declared.error.SigstoreError.{SigstoreError}
use Rattle.sig_base.specs.declared.error.SigstoreError.TheVariants.{UnexpectedError}
use Rattle.sig_base.specs.declared.unexpected.UnexpectedKind.{UnexpectedKind}
use Rattle.sig_base.specs.declared.unexpected.UnexpectedKind.TheVariants.{Statement as NoStatement, StatementType}
use Rattle.sig_base.specs.declared.unexpected.UnexpectedKind.TheVariants.{PredicateType, NoSubjects}
use Rattle.sig_base.specs.declared.unexpected.UnexpectedKind.TheVariants.{FirstSubjectWithoutSha256}
use Rattle.sig_dsse.specs.Statement.{Subject, Statement, statement_of}

-- the statement of a payload, or the fault that there is none
abbrev pub statement_or_fault : List ℕ → Result Statement SigstoreError
statement_or_fault payload = ok_or (statement_of payload) (UnexpectedError NoStatement)

-- the text of the first subject's digest named `sha256`
abbrev pub first_sha256 : List Subject → Option (List ℕ)
first_sha256 [] = None
first_sha256 (subject ∷ subjects) = text_lookup (codes "sha256") subject.digest

unfoldable pub sha256_or_fault : Statement → Result (List ℕ) SigstoreError
sha256_or_fault statement = ok_or (first_sha256 statement.subject) (UnexpectedError FirstSubjectWithoutSha256)

-- no fault, or this one
abbrev pub fault_of_subjects : List Subject → Option UnexpectedKind
fault_of_subjects [] = Some NoSubjects
fault_of_subjects (subject ∷ subjects) =
    if is_some (text_lookup (codes "sha256") subject.digest) then None else Some FirstSubjectWithoutSha256

-- the first that is not as `cosign` writes it, in this order
unfoldable pub cosign_fault : Statement → Option UnexpectedKind
cosign_fault statement =
    if bytes_eq statement.statement_type (codes "https://in-toto.io/Statement/v1") then
    (if bytes_eq statement.predicate_type (codes "https://sigstore.dev/cosign/sign/v1")
    then fault_of_subjects statement.subject else Some PredicateType)
    else Some StatementType

abbrev pub unless_fault : Option UnexpectedKind → Result (Unit {0}) SigstoreError
unless_fault None = Ok tt
unless_fault (Some kind) = Err (UnexpectedError kind)
