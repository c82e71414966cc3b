-- *Causes of the faults*: each fault of a statement in the words of its subjects: the rules before it hold, and this
-- one does not.
use Rattle.std.specs.Prelude.{◌≡◌, ◌≢◌, ◌≤◌, ◌<◌, ◌↔◌, ℕ, ◌*◌, List, [], ◌∷◌, ◌++◌, length, codes, Some}
use Rattle.std.specs.Prelude.{None, Err}
use Rattle.std.specs.List.{AllByRecursion, AllPass}
use Rattle.hex.specs.Hex.{is_hex_digit}
use Rattle.sha2.specs.Sha256.{sha256}
use Rattle.sha2.specs.Sha512.{sha512}
use Rattle.sig_base.specs.ByText.{text_lookup}
use Rattle.sig_base.specs.declared.unexpected.UnexpectedKind.{UnexpectedKind}
use Rattle.sig_base.specs.declared.unexpected.UnexpectedKind.TheVariants.{StatementType, PredicateType, NoSubjects}
use Rattle.sig_base.specs.declared.unexpected.UnexpectedKind.TheVariants.{FirstSubjectWithoutSha256}
use Rattle.sig_dsse.specs.declared.artifact_digest.ArtifactDigest.{ArtifactDigest}
use Rattle.sig_dsse.specs.declared.payload.PayloadFault.TheVariants.{NoStatement, Subjects}
use Rattle.sig_dsse.specs.declared.recognized.DigestName.{DigestName}
use Rattle.sig_dsse.specs.declared.recognized.DigestName.TheVariants.{Sha256, Sha512}
use Rattle.sig_dsse.specs.declared.recognized.SubjectFault.{SubjectFault}
use Rattle.sig_dsse.specs.declared.recognized.SubjectFault.TheVariants.{TooManySubjects, TooManyDigests, Malformed}
use Rattle.sig_dsse.specs.declared.recognized.SubjectFault.TheVariants.{NoneRecognized, OutOfMemory}
use Rattle.sig_dsse.specs.CosignStatement.{cosign_fault}
use Rattle.sig_dsse.specs.NamedDigest.{AreTaken, named}
use Rattle.sig_dsse.specs.Payload.{digests_of_payload}
use Rattle.sig_dsse.specs.Recognized.{digests_or_fault}
use Rattle.sig_dsse.specs.Statement.{DigestTexts, Subject, Statement, digest_maps, statement_of}
use Rattle.sig_dsse.specs.StatementText.{IsStatement}

-- ---- the digests of a statement

-- the first element that is bad, after good ones
pub record IsFirst {A : Type 0} (Good Bad : A → Type 0) (xs : List A) : Type 0 where
  pub before : List A
  pub first : A
  pub after : List A
  pub whole : xs ≡ before ++ (first ∷ after)
  pub good : AllByRecursion Good before
  pub bad : Bad first

-- the name of an algorithm in a subject's digests
abbrev pub spelling : DigestName → List ℕ
spelling Sha256 = codes "sha256"
spelling Sha512 = codes "sha512"

-- how many hexadecimal digits its digests have: two for each byte
abbrev pub digit_count : DigestName → ℕ
digit_count Sha256 = 64
digit_count Sha512 = 128

-- they are as many as the hash has (FIPS 180-4 sections 6.2 and 6.4)
abbrev pub DigitsAreOfTheHash : Type 0
DigitsAreOfTheHash =
    (message : List ℕ) → (digit_count Sha256 ≡ 2 * length (sha256 message)) ×
    (digit_count Sha512 ≡ 2 * length (sha512 message))

-- exactly this number of hexadecimal digits, of either case (RFC 4648 section 8)
abbrev pub IsHexDigest : DigestName → List ℕ → Type 0
IsHexDigest name text = (length text ≡ digit_count name) × AllPass is_hex_digit text

-- the entry has this name, and its text is not a digest of the algorithm
abbrev pub IsMalformed : DigestName → List ℕ × List ℕ → Type 0
IsMalformed name entry = (entry.0 ≡ spelling name) × ¬ IsHexDigest name entry.1

abbrev pub IsWellFormed : List ℕ × List ℕ → Type 0
IsWellFormed entry = (name : DigestName) → ¬ IsMalformed name entry

-- a subject with at most 32 digests, and none of them is malformed
abbrev pub IsSound : DigestTexts → Type 0
IsSound digests = (length digests ≤ 32) × AllByRecursion IsWellFormed digests

-- a subject with this number of digests, which is more than 32
abbrev pub HasTooMany : ℕ → DigestTexts → Type 0
HasTooMany count digests = (length digests ≡ count) × (32 < count)

-- a subject with at most 32 digests, whose first malformed one, in byte order of the names, has this name
abbrev pub HasMalformed : DigestName → DigestTexts → Type 0
HasMalformed name digests = (length digests ≤ 32) × IsFirst IsWellFormed (IsMalformed name) digests

-- the cause of each fault: too many subjects; then the first subject that is not sound, by what it breaks first; then
-- that nothing is named
abbrev pub IsCauseOf : SubjectFault → Statement → Type 0
IsCauseOf (TooManySubjects count) statement = (length (digest_maps statement) ≡ count) × (1024 < count)
IsCauseOf (TooManyDigests count) statement =
    (length (digest_maps statement) ≤ 1024) × IsFirst IsSound (HasTooMany count) (digest_maps statement)
IsCauseOf (Malformed name) statement =
    (length (digest_maps statement) ≤ 1024) × IsFirst IsSound (HasMalformed name) (digest_maps statement)
IsCauseOf NoneRecognized statement =
    (length (digest_maps statement) ≤ 1024) × AllByRecursion IsSound (digest_maps statement) × (named statement ≡ [])
IsCauseOf OutOfMemory statement = ⊥

-- each fault comes if and only if it has its cause
abbrev pub FaultsHaveTheirCause : Type 0
FaultsHaveTheirCause =
    (statement : Statement) (fault : SubjectFault) → (digests_or_fault statement ≡ Err fault) ↔ IsCauseOf fault
    statement

-- ---- the digests of a payload

-- a payload without digests is not a statement, or a statement with the cause of the fault
pub record PayloadFaultsHaveTheirCause : Type 0 where
  pub none : (payload : List ℕ)
      → (digests_of_payload payload ≡ Err NoStatement) ↔
      ((statement : Statement) → statement_of payload ≢ Some statement)
  pub subjects : (payload : List ℕ) (fault : SubjectFault)
      → (digests_of_payload payload ≡ Err (Subjects fault)) ↔
      ((statement : Statement) × (statement_of payload ≡ Some statement) × IsCauseOf fault statement)

-- the payload is a statement, and these are the digests of its named entries
abbrev pub ArePayloadDigests : List ℕ → List ArtifactDigest → Type 0
ArePayloadDigests payload digests = (statement : Statement) × IsStatement payload statement × AreTaken statement digests

-- the payload is a statement with the cause of this fault
abbrev pub IsPayloadCauseOf : SubjectFault → List ℕ → Type 0
IsPayloadCauseOf fault payload = (statement : Statement) × IsStatement payload statement × IsCauseOf fault statement

-- ---- what `cosign` asks

-- `_type` is that of the in-toto attestation framework, statement layer v1
abbrev pub IsStatementV1 : Statement → Type 0
IsStatementV1 statement = statement.statement_type ≡ codes "https://in-toto.io/Statement/v1"

-- the predicate is a signature by `cosign`
abbrev pub IsCosignSign : Statement → Type 0
IsCosignSign statement = statement.predicate_type ≡ codes "https://sigstore.dev/cosign/sign/v1"

-- there is a first subject, and its digest named `sha256` has this text
abbrev pub FirstHasSha256 : List ℕ → List Subject → Type 0
FirstHasSha256 text subjects =
    (first : Subject) × (others : List Subject) × (subjects ≡ first ∷ others) ×
    (text_lookup (codes "sha256") first.digest ≡ Some text)

-- there is a first subject, and it has no digest named `sha256`
abbrev pub FirstLacksSha256 : List Subject → Type 0
FirstLacksSha256 subjects =
    (first : Subject) × (others : List Subject) × (subjects ≡ first ∷ others) ×
    (text_lookup (codes "sha256") first.digest ≡ None)

abbrev pub IsCosignCauseOf : UnexpectedKind → Statement → Type 0
IsCosignCauseOf StatementType statement = ¬ IsStatementV1 statement
IsCosignCauseOf PredicateType statement = IsStatementV1 statement × ¬ IsCosignSign statement
IsCosignCauseOf NoSubjects statement = IsStatementV1 statement × IsCosignSign statement × (statement.subject ≡ [])
IsCosignCauseOf FirstSubjectWithoutSha256 statement =
    IsStatementV1 statement × IsCosignSign statement × FirstLacksSha256 statement.subject
IsCosignCauseOf _ statement = ⊥

-- the statement is one as `cosign` signs it
abbrev pub IsCosignStatement : Statement → Type 0
IsCosignStatement statement =
    IsStatementV1 statement × IsCosignSign statement × ((text : List ℕ) × FirstHasSha256 text statement.subject)

-- each fault comes if and only if it has its cause
abbrev pub CosignFaultsHaveTheirCause : Type 0
CosignFaultsHaveTheirCause =
    (statement : Statement) (kind : UnexpectedKind) → (cosign_fault statement ≡ Some kind) ↔ IsCosignCauseOf kind
    statement
