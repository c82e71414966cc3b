-- Each fault of a payload, and of a statement as `cosign` asks for it, comes if and only if it has its cause.
use Rattle.std.proofs.Common.{◌≡◌, ◌≢◌, ℕ, Bool, true, false, List, [], ◌∷◌, Option, Some, None}
use Rattle.std.proofs.Common.{Err, refl, sym, subst, ◌∙◌}
use Rattle.std.proofs.lemmas.Slice.Eq.{bytes_eq-Decides}
use Rattle.std.specs.Bool.{Decides}
use Rattle.std.specs.Prelude.{codes, bytes_eq, is_some, if◌then◌else◌}
use Rattle.sig_base.specs.ByText.{text_lookup}
use Rattle.sig_base.specs.declared.unexpected.UnexpectedKind.{UnexpectedKind}
use Rattle.sig_base.specs.declared.unexpected.UnexpectedKind.TheVariants.{StatementType, PredicateType, NoSubjects}
use Rattle.sig_base.specs.declared.unexpected.UnexpectedKind.TheVariants.{FirstSubjectWithoutSha256}
use Rattle.sig_dsse.specs.declared.payload.PayloadFault.TheVariants.{NoStatement, Subjects}
use Rattle.sig_dsse.specs.declared.recognized.SubjectFault.{SubjectFault}
use Rattle.sig_dsse.specs.declared.recognized.SubjectFault.TheVariants.{TooManySubjects, TooManyDigests, Malformed}
use Rattle.sig_dsse.specs.declared.recognized.SubjectFault.TheVariants.{NoneRecognized, OutOfMemory}
use Rattle.sig_dsse.specs.CosignStatement.{cosign_fault, fault_of_subjects}
use Rattle.sig_dsse.specs.Faults.{IsCauseOf, PayloadFaultsHaveTheirCause, IsStatementV1, IsCosignSign}
use Rattle.sig_dsse.specs.Faults.{IsCosignCauseOf, CosignFaultsHaveTheirCause}
use Rattle.sig_dsse.specs.Payload.{payload_fault, digests_of_payload}
use Rattle.sig_dsse.specs.Statement.{Subject, Statement, statement_of}
use Rattle.sig_dsse.proofs.FaultCauses.{faults_have_their_cause}
use Rattle.sig_dsse.proofs.Payloads.{payload_told-fault, payload_told-none}

-- ---- a payload

no-statement : (payload : List ℕ) (found : Option Statement) → statement_of payload ≡ found
    → ((statement : Statement) → statement_of payload ≢ Some statement)
    → digests_of_payload payload ≡ Err NoStatement
no-statement payload None is none = rw is refl
no-statement payload (Some statement) is none = absurd (none statement is)

named-fault : (statement : Statement) (fault : SubjectFault) → IsCauseOf fault statement
    → payload_fault fault ≡ Subjects fault
named-fault statement (TooManySubjects count) cause = refl
named-fault statement (TooManyDigests count) cause = refl
named-fault statement (Malformed name) cause = refl
named-fault statement NoneRecognized cause = refl
named-fault statement OutOfMemory cause = absurd cause

pub payload_faults_have_their_cause : PayloadFaultsHaveTheirCause
payload_faults_have_their_cause = record {
  none = λ payload. (
    (λ told statement is. let two = sym is ∙ payload_told-none payload told in cc),
    no-statement payload (statement_of payload) refl,
  );
  subjects = λ payload fault. (
    (λ told. let has = payload_told-fault payload fault told in
        (has.0, has.1, (faults_have_their_cause has.0 fault).0 has.2)),
    (λ cause. rw (cause.1, (faults_have_their_cause cause.0 fault).1 cause.2, named-fault cause.0 fault cause.2) refl),
  );
}

-- ---- what `cosign` asks

subjects-caused : (statement : Statement) (subjects : List Subject) (kind : UnexpectedKind)
    → statement.subject ≡ subjects → IsStatementV1 statement → IsCosignSign statement
    → fault_of_subjects subjects ≡ Some kind → IsCosignCauseOf kind statement
subjects-caused statement [] kind is typed signed told =
    let same : NoSubjects ≡ kind = cc in subst (λ k. IsCosignCauseOf k statement) same (typed, signed, is)
subjects-caused statement (first ∷ others) kind is typed signed told =
    first-caused (text_lookup (codes "sha256") first.digest) refl told where
      first-caused : (found : Option (List ℕ)) → text_lookup (codes "sha256") first.digest ≡ found
          → (if is_some found then None else Some FirstSubjectWithoutSha256) ≡ Some kind
          → IsCosignCauseOf kind statement
      first-caused None none told =
          let same : FirstSubjectWithoutSha256 ≡ kind = cc in subst (λ k. IsCosignCauseOf k statement) same
          (typed, signed, (first, others, is, none))
      first-caused (Some text) none told = absurd cc

tests-caused : (statement : Statement) (kind : UnexpectedKind) (typed signed : Bool)
    → Decides typed (IsStatementV1 statement) → Decides signed (IsCosignSign statement)
    → (if typed then (if signed then fault_of_subjects statement.subject else Some PredicateType)
    else Some StatementType) ≡ Some kind
    → IsCosignCauseOf kind statement
tests-caused statement kind true true told_typed told_signed told =
    subjects-caused statement statement.subject kind refl (told_typed.0 refl) (told_signed.0 refl) told
tests-caused statement kind true false told_typed told_signed told =
    let same : PredicateType ≡ kind = cc in
    subst (λ k. IsCosignCauseOf k statement) same (told_typed.0 refl, λ is. let wrong = told_signed.1 is in cc)
tests-caused statement kind false signed told_typed told_signed told =
    let same : StatementType ≡ kind = cc in
    subst (λ k. IsCosignCauseOf k statement) same (λ is. let wrong = told_typed.1 is in cc)

cosign-caused : (statement : Statement) (kind : UnexpectedKind) → cosign_fault statement ≡ Some kind
    → IsCosignCauseOf kind statement
unfolding cosign_fault
cosign-caused statement kind told =
    tests-caused statement kind (bytes_eq statement.statement_type (codes "https://in-toto.io/Statement/v1"))
    (bytes_eq statement.predicate_type (codes "https://sigstore.dev/cosign/sign/v1"))
    (bytes_eq-Decides statement.statement_type (codes "https://in-toto.io/Statement/v1"))
    (bytes_eq-Decides statement.predicate_type (codes "https://sigstore.dev/cosign/sign/v1")) told

refused-test : {P : Type 0} (test : Bool) → Decides test P → ¬ P → test ≡ false
refused-test true told other = absurd (other (told.0 refl))
refused-test false told other = refl

another-type : (statement : Statement) → ¬ IsStatementV1 statement → cosign_fault statement ≡ Some StatementType
unfolding cosign_fault
another-type statement other =
    rw (refused-test _ (bytes_eq-Decides statement.statement_type (codes "https://in-toto.io/Statement/v1")) other)
    refl

typed-fault : (statement : Statement) → IsStatementV1 statement
    → cosign_fault statement ≡ (if bytes_eq statement.predicate_type (codes "https://sigstore.dev/cosign/sign/v1")
    then fault_of_subjects statement.subject else Some PredicateType)
unfolding cosign_fault
typed-fault statement typed =
    rw ((bytes_eq-Decides statement.statement_type (codes "https://in-toto.io/Statement/v1")).1 typed) refl

another-predicate : (statement : Statement) → IsStatementV1 statement → ¬ IsCosignSign statement
    → cosign_fault statement ≡ Some PredicateType
another-predicate statement typed other =
    typed-fault statement typed ∙ rw (refused-test _
    (bytes_eq-Decides statement.predicate_type (codes "https://sigstore.dev/cosign/sign/v1")) other) refl

signed-fault : (statement : Statement) (subjects : List Subject) → IsStatementV1 statement → IsCosignSign statement
    → statement.subject ≡ subjects
    → cosign_fault statement ≡ fault_of_subjects subjects
signed-fault statement subjects typed signed is =
    typed-fault statement typed ∙ rw (
      (bytes_eq-Decides statement.predicate_type
          (codes "https://sigstore.dev/cosign/sign/v1")).1 signed,
      is,
    ) refl

cosign-told : (statement : Statement) (kind : UnexpectedKind) → IsCosignCauseOf kind statement
    → cosign_fault statement ≡ Some kind
cosign-told statement StatementType cause = another-type statement cause
cosign-told statement PredicateType cause = another-predicate statement cause.0 cause.1
cosign-told statement NoSubjects cause = signed-fault statement [] cause.0 cause.1 cause.2
cosign-told statement FirstSubjectWithoutSha256 cause =
    signed-fault statement (cause.2.0 ∷ cause.2.1) cause.0 cause.1 cause.2.2 ∙ rw cause.2.3 refl
cosign-told statement _ cause = absurd cause

pub cosign_faults_have_their_cause : CosignFaultsHaveTheirCause
cosign_faults_have_their_cause statement kind = (cosign-caused statement kind, cosign-told statement kind)
