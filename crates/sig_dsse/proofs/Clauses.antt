-- The clauses of the public calls, in the words of statements: of a result that is what a definition gives, unless
-- memory ran out.
use Rattle.std.proofs.Common.{◌≡◌, ◌≢◌, ◌⊎◌, ◌↔◌, inl, inr, ℕ, Bool, true, false, List, [], ◌∷◌, Option, Some, None}
use Rattle.std.proofs.Common.{Result, Ok, Err, IfOk, IsOkAnd, refl, sym, ap, subst, ◌∙◌}
use Rattle.std.proofs.lemmas.Slice.Eq.{bytes_eq-Decides}
use Rattle.std.specs.Bool.{Decides}
use Rattle.std.specs.Option.{ok_or}
use Rattle.std.specs.Prelude.{bytes_eq, codes, if◌then◌else◌, is_some}
use Rattle.sig_base.proofs.ResultRuleLaws.{comes_where, error_where}
use Rattle.sig_base.proofs.ResultSteps.{err_is, ok_is}
use Rattle.sig_base.specs.Answers.{Answers, ComesWhere, UnlessMemory}
use Rattle.sig_base.specs.ByText.{text_lookup}
use Rattle.sig_base.specs.declared.error.SigstoreError.{SigstoreError}
use Rattle.sig_base.specs.declared.error.SigstoreError.TheVariants.{OutOfMemory as Memory, UnexpectedError}
use Rattle.sig_base.specs.declared.unexpected.UnexpectedKind.{UnexpectedKind}
use Rattle.sig_base.specs.declared.unexpected.UnexpectedKind.TheVariants.{Statement as NotStatement}
use Rattle.sig_base.specs.declared.unexpected.UnexpectedKind.TheVariants.{PredicateType, StatementType}
use Rattle.sig_base.specs.declared.unexpected.UnexpectedKind.TheVariants.{FirstSubjectWithoutSha256}
use Rattle.sig_dsse.specs.declared.artifact_digest.ArtifactDigest.{ArtifactDigest}
use Rattle.sig_dsse.specs.declared.payload.PayloadFault.{PayloadFault}
use Rattle.sig_dsse.specs.declared.payload.PayloadFault.TheVariants.{NoStatement, Subjects, OutOfMemory as PayloadMemory}
use Rattle.sig_dsse.specs.declared.recognized.SubjectFault.{SubjectFault}
use Rattle.sig_dsse.specs.declared.recognized.SubjectFault.TheVariants.{OutOfMemory}
use Rattle.sig_dsse.specs.declared.statement.InTotoStatementV1.{InTotoStatementV1}
use Rattle.sig_dsse.proofs.FaultCauses.{faults_have_their_cause}
use Rattle.sig_dsse.proofs.NamedDigests.{takes_the_named}
use Rattle.sig_dsse.proofs.PayloadCauses.{cosign_faults_have_their_cause, payload_faults_have_their_cause}
use Rattle.sig_dsse.proofs.Payloads.{payload_told-digests}
use Rattle.sig_dsse.proofs.StatementTexts.{payload_says, said_payload}
use Rattle.sig_dsse.specs.CosignStatement.{cosign_fault, fault_of_subjects, first_sha256, sha256_or_fault}
use Rattle.sig_dsse.specs.CosignStatement.{statement_or_fault, unless_fault}
use Rattle.sig_dsse.specs.Faults.{ArePayloadDigests, FirstHasSha256, FirstLacksSha256, IsCauseOf, IsCosignCauseOf}
use Rattle.sig_dsse.specs.Faults.{IsCosignSign, IsCosignStatement, IsPayloadCauseOf, IsStatementV1}
use Rattle.sig_dsse.specs.NamedDigest.{AreTaken}
use Rattle.sig_dsse.specs.Payload.{digests_of_payload}
use Rattle.sig_dsse.specs.Recognized.{digests_or_fault}
use Rattle.sig_dsse.specs.Seen.{seen}
use Rattle.sig_dsse.specs.Statement.{Subject, Statement, statement_of}
use Rattle.sig_dsse.specs.StatementText.{IsNoStatement, IsStatement}

-- ---- the digests of a statement

module _ (s : Statement) (result : Result (List ArtifactDigest) SubjectFault)
    (is : Answers OutOfMemory (λ (digests : List ArtifactDigest). digests) result (digests_or_fault s)) where
  pub recognized-taken : (digests : List ArtifactDigest) → ComesWhere OutOfMemory result (Ok digests)
      (AreTaken s digests)
  recognized-taken digests =
      let law = takes_the_named s digests in
      comes_where OutOfMemory result (digests_or_fault s) (Ok digests) (AreTaken s digests) is (λ same. cc) law.0 law.1

  pub recognized-refused : (fault : SubjectFault) → fault ≢ OutOfMemory → ComesWhere OutOfMemory result (Err fault)
      (IsCauseOf fault s)
  recognized-refused fault other =
      let law = faults_have_their_cause s fault in
      comes_where OutOfMemory result (digests_or_fault s) (Err fault) (IsCauseOf fault s) is
      (λ same. other (err_is fault OutOfMemory same)) law.0 law.1

-- ---- the digests of a payload

digests_meant : (payload : List ℕ) (digests : List ArtifactDigest) → digests_of_payload payload ≡ Ok digests
    → ArePayloadDigests payload digests
digests_meant payload digests e =
    let has = payload_told-digests payload digests e in
    (has.0, payload_says payload has.0 has.1, (takes_the_named has.0 digests).0 has.2)

digests_mean : (payload : List ℕ) (digests : List ArtifactDigest) → ArePayloadDigests payload digests
    → digests_of_payload payload ≡ Ok digests
digests_mean payload digests has =
    rw (said_payload payload has.0 has.1, (takes_the_named has.0 digests).1 has.2) refl

none_meant : (payload : List ℕ) → digests_of_payload payload ≡ Err NoStatement → IsNoStatement payload
none_meant payload e s is = (payload_faults_have_their_cause.none payload).0 e s (said_payload payload s is)

none_means : (payload : List ℕ) → IsNoStatement payload → digests_of_payload payload ≡ Err NoStatement
none_means payload none =
    (payload_faults_have_their_cause.none payload).1 (λ s is. none s (payload_says payload s is))

fault_meant : (payload : List ℕ) (fault : SubjectFault) → digests_of_payload payload ≡ Err (Subjects fault)
    → IsPayloadCauseOf fault payload
fault_meant payload fault e =
    let has = (payload_faults_have_their_cause.subjects payload fault).0 e in
    (has.0, payload_says payload has.0 has.1, has.2)

fault_means : (payload : List ℕ) (fault : SubjectFault) → IsPayloadCauseOf fault payload
    → digests_of_payload payload ≡ Err (Subjects fault)
fault_means payload fault has =
    (payload_faults_have_their_cause.subjects payload fault).1 (has.0, said_payload payload has.0 has.1, has.2)

module _ (payload : List ℕ) (result : Result (List ArtifactDigest) PayloadFault)
    (is : Answers PayloadMemory (λ (digests : List ArtifactDigest). digests) result (digests_of_payload payload)) where
  pub payload-taken : (digests : List ArtifactDigest) → ComesWhere PayloadMemory result (Ok digests)
      (ArePayloadDigests payload digests)
  payload-taken digests =
      comes_where PayloadMemory result (digests_of_payload payload) (Ok digests) (ArePayloadDigests payload digests) is
      (λ same. cc) (digests_meant payload digests) (digests_mean payload digests)

  pub payload-none : ComesWhere PayloadMemory result (Err NoStatement) (IsNoStatement payload)
  payload-none =
      comes_where PayloadMemory result (digests_of_payload payload) (Err NoStatement) (IsNoStatement payload) is
      (λ same. cc) (none_meant payload) (none_means payload)

  pub payload-refused : (fault : SubjectFault) → ComesWhere PayloadMemory result (Err (Subjects fault))
      (IsPayloadCauseOf fault payload)
  payload-refused fault =
      comes_where PayloadMemory result (digests_of_payload payload) (Err (Subjects fault))
      (IsPayloadCauseOf fault payload) is (λ same. cc) (fault_meant payload fault) (fault_means payload fault)

-- ---- a statement

abbrev statement_from : Option Statement → Result Statement SigstoreError
statement_from found = ok_or found (UnexpectedError NotStatement)

from-some : (found : Option Statement) (s : Statement) → statement_from found ≡ Ok s → found ≡ Some s
from-some None s e = absurd cc
from-some (Some t) s e = ap (λ v. Some v) (ok_is t s e)

from-none : (found : Option Statement) → statement_from found ≡ Err (UnexpectedError NotStatement) → found ≡ None
from-none None e = refl
from-none (Some t) e = absurd cc

unread_meant : (payload : List ℕ) → statement_or_fault payload ≡ Err (UnexpectedError NotStatement)
    → IsNoStatement payload
unread_meant payload e s is =
    let two = sym (said_payload payload s is) ∙ from-none (statement_of payload) e in absurd cc

unread_means : (payload : List ℕ) → IsNoStatement payload
    → statement_or_fault payload ≡ Err (UnexpectedError NotStatement)
unread_means payload none = by_found (statement_of payload) refl where
  by_found : (found : Option Statement) → statement_of payload ≡ found
      → statement_or_fault payload ≡ Err (UnexpectedError NotStatement)
  by_found None is = ap statement_from is
  by_found (Some s) is = absurd (none s (payload_says payload s is))

module _ (payload : List ℕ) (result : Result InTotoStatementV1 SigstoreError)
    (is : Answers Memory seen result (statement_or_fault payload)) where
  pub read-found : IfOk result (λ read. IsStatement payload (seen read))
  read-found = by_result result is where
    by_result : (r : Result InTotoStatementV1 SigstoreError) → Answers Memory seen r (statement_or_fault payload)
        → IfOk r (λ read. IsStatement payload (seen read))
    by_result (Ok read) meant = payload_says payload (seen read) (from-some (statement_of payload) (seen read) meant)
    by_result (Err e) meant = tt

  pub read-only : (s : Statement) → IsStatement payload s
      → UnlessMemory Memory result (IsOkAnd result (λ read. seen read ≡ s))
  read-only s says = by_result result is where
    told : statement_or_fault payload ≡ Ok s
    told = ap statement_from (said_payload payload s says)

    by_result : (r : Result InTotoStatementV1 SigstoreError) → Answers Memory seen r (statement_or_fault payload)
        → UnlessMemory Memory r (IsOkAnd r (λ read. seen read ≡ s))
    by_result (Ok read) meant = inr (ok_is (seen read) s (sym meant ∙ told))
    by_result (Err e) (inl out) = inl (ap (λ d. Err d) out)
    by_result (Err e) (inr meant) = let two = sym meant ∙ told in absurd cc

  pub read-refused : ComesWhere Memory result (Err (UnexpectedError NotStatement)) (IsNoStatement payload)
  read-refused =
      error_where Memory seen result (statement_or_fault payload) (UnexpectedError NotStatement)
      (IsNoStatement payload) is (λ same. cc) (unread_meant payload) (unread_means payload)

-- ---- what `cosign` asks

fault_none : (found : Option UnexpectedKind) → unless_fault found ≡ Ok tt → found ≡ None
fault_none None e = refl
fault_none (Some kind) e = absurd cc

fault_some : (found : Option UnexpectedKind) (kind : UnexpectedKind) → unless_fault found ≡ Err (UnexpectedError kind)
    → found ≡ Some kind
fault_some None kind e = absurd cc
fault_some (Some k) kind e =
    let same : UnexpectedError k ≡ UnexpectedError kind = err_is (UnexpectedError k) (UnexpectedError kind) e in
    let one : k ≡ kind = cc in ap (λ v. Some v) one

led_meant : (subjects : List Subject) → fault_of_subjects subjects ≡ None
    → (text : List ℕ) × FirstHasSha256 text subjects
led_meant [] e = absurd cc
led_meant (first ∷ others) e = by_found (text_lookup (codes "sha256") first.digest) refl e where
  by_found : (found : Option (List ℕ)) → text_lookup (codes "sha256") first.digest ≡ found
      → (if is_some found then None else Some FirstSubjectWithoutSha256) ≡ None
      → (text : List ℕ) × FirstHasSha256 text (first ∷ others)
  by_found None is e = absurd cc
  by_found (Some text) is e = (text, (first, others, refl, is))

passed-tests : (s : Statement) (typed signed : Bool) → Decides typed (IsStatementV1 s) → Decides signed (IsCosignSign s)
    → (if typed then (if signed then fault_of_subjects s.subject else Some PredicateType) else Some StatementType)
    ≡ None
    → IsCosignStatement s
passed-tests s true true told_typed told_signed e = (told_typed.0 refl, told_signed.0 refl, led_meant s.subject e)
passed-tests s true false told_typed told_signed e = absurd cc
passed-tests s false signed told_typed told_signed e = absurd cc

cosign_meant : (s : Statement) → cosign_fault s ≡ None → IsCosignStatement s
unfolding cosign_fault
cosign_meant s e =
    passed-tests s (bytes_eq s.statement_type (codes "https://in-toto.io/Statement/v1"))
    (bytes_eq s.predicate_type (codes "https://sigstore.dev/cosign/sign/v1"))
    (bytes_eq-Decides s.statement_type (codes "https://in-toto.io/Statement/v1"))
    (bytes_eq-Decides s.predicate_type (codes "https://sigstore.dev/cosign/sign/v1")) e

cosign_means : (s : Statement) → IsCosignStatement s → cosign_fault s ≡ None
unfolding cosign_fault
cosign_means s is =
    rw (
      (bytes_eq-Decides s.statement_type (codes "https://in-toto.io/Statement/v1")).1 is.0,
      (bytes_eq-Decides s.predicate_type (codes "https://sigstore.dev/cosign/sign/v1")).1 is.1,
      is.2.1.2,
      is.2.1.3,
    ) refl

abbrev Checked : Type 0
Checked = Result (Unit {0}) SigstoreError

pub cosign-accepted : (s : Statement) (result : Checked) → result ≡ unless_fault (cosign_fault s)
    → (result ≡ Ok tt) ↔ IsCosignStatement s
cosign-accepted s result is = (
  (λ e. cosign_meant s (fault_none (cosign_fault s) (sym is ∙ e))),
  (λ held. is ∙ ap unless_fault (cosign_means s held)),
)

pub cosign-refused : (s : Statement) (result : Checked) → result ≡ unless_fault (cosign_fault s)
    → (kind : UnexpectedKind) → (result ≡ Err (UnexpectedError kind)) ↔ IsCosignCauseOf kind s
cosign-refused s result is kind =
    let law = cosign_faults_have_their_cause s kind in (
      (λ e. law.0 (fault_some (cosign_fault s) kind (sym is ∙ e))),
      (λ cause. is ∙ ap unless_fault (law.1 cause)),
    )

-- ---- the first subject's digest

abbrev Lacks : List Subject → Type 0
Lacks subjects = (subjects ≡ []) ⊎ FirstLacksSha256 subjects

abbrev digest_from : Option (List ℕ) → Result (List ℕ) SigstoreError
digest_from found = ok_or found (UnexpectedError FirstSubjectWithoutSha256)

digest-some : (found : Option (List ℕ)) (text : List ℕ) → digest_from found ≡ Ok text → found ≡ Some text
digest-some None text e = absurd cc
digest-some (Some t) text e = ap (λ v. Some v) (ok_is t text e)

digest-none : (found : Option (List ℕ)) → digest_from found ≡ Err (UnexpectedError FirstSubjectWithoutSha256)
    → found ≡ None
digest-none None e = refl
digest-none (Some t) e = absurd cc

first_meant : (subjects : List Subject) (text : List ℕ) → first_sha256 subjects ≡ Some text
    → FirstHasSha256 text subjects
first_meant [] text e = absurd cc
first_meant (first ∷ others) text e = (first, others, refl, e)

first_lacks : (subjects : List Subject) → first_sha256 subjects ≡ None → Lacks subjects
first_lacks [] e = inl refl
first_lacks (first ∷ others) e = inr (first, others, refl, e)

lacks_first : (subjects : List Subject) → Lacks subjects → first_sha256 subjects ≡ None
lacks_first subjects (inl none) = rw none refl
lacks_first subjects (inr lacks) = rw lacks.2 lacks.3

found_meant : (s : Statement) (text : List ℕ) → sha256_or_fault s ≡ Ok text → FirstHasSha256 text s.subject
unfolding sha256_or_fault
found_meant s text e = first_meant s.subject text (digest-some (first_sha256 s.subject) text e)

found_means : (s : Statement) (text : List ℕ) → FirstHasSha256 text s.subject → sha256_or_fault s ≡ Ok text
unfolding sha256_or_fault
found_means s text has = rw (has.2, has.3) refl

missing_meant : (s : Statement) → sha256_or_fault s ≡ Err (UnexpectedError FirstSubjectWithoutSha256)
    → Lacks s.subject
unfolding sha256_or_fault
missing_meant s e = first_lacks s.subject (digest-none (first_sha256 s.subject) e)

missing_means : (s : Statement) → Lacks s.subject
    → sha256_or_fault s ≡ Err (UnexpectedError FirstSubjectWithoutSha256)
unfolding sha256_or_fault
missing_means s lacks = ap digest_from (lacks_first s.subject lacks)

module _ (s : Statement) (result : Result (List ℕ) SigstoreError)
    (is : Answers Memory (λ (text : List ℕ). text) result (sha256_or_fault s)) where
  pub first-found : (text : List ℕ) → ComesWhere Memory result (Ok text) (FirstHasSha256 text s.subject)
  first-found text =
      comes_where Memory result (sha256_or_fault s) (Ok text) (FirstHasSha256 text s.subject) is (λ same. cc)
      (found_meant s text) (found_means s text)

  pub first-missing : ComesWhere Memory result (Err (UnexpectedError FirstSubjectWithoutSha256)) (Lacks s.subject)
  first-missing =
      comes_where Memory result (sha256_or_fault s) (Err (UnexpectedError FirstSubjectWithoutSha256))
      (Lacks s.subject) is (λ same. cc) (missing_meant s) (missing_means s)
