-- *Causes of an attestation's refusals*: what a bundle attests, and the first rule that another breaks: the rules
-- before it hold, and this one does not.
use Rattle.std.specs.Prelude.{◌≡◌, ◌≢◌, ◌⊎◌, ℕ, List, [], ◌∷◌, ◌++◌, length, codes, Option, Some, None, Ok}
use Rattle.hex.specs.Hex.{encode_lower}
use Rattle.sig_base.specs.ByText.{text_lookup}
use Rattle.sig_base.specs.declared.error.SigstoreError.{SigstoreError}
use Rattle.sig_base.specs.declared.error.SigstoreError.TheVariants.{RekorPublicKeyNotFoundError, UnexpectedError}
use Rattle.sig_base.specs.declared.unexpected.UnexpectedKind.{UnexpectedKind}
use Rattle.sig_base.specs.declared.unexpected.UnexpectedKind.TheVariants as kind
use Rattle.sig_bundle.specs.BundleRecord.{bundle_in}
use Rattle.sig_bundle.specs.declared.bundle.Bundle.{Bundle}
use Rattle.sig_bundle.specs.declared.bundle.Content.TheVariants.{DsseEnvelope as Envelope}
use Rattle.sig_bundle.specs.declared.material.MaterialContent.{MaterialContent}
use Rattle.sig_bundle.specs.declared.material.MaterialContent.TheVariants.{Certificate}
use Rattle.sig_bundle.specs.declared.material.TransparencyLogEntry.{TransparencyLogEntry}
use Rattle.sig_bundle.specs.declared.material.VerificationMaterial.{VerificationMaterial}
use Rattle.sig_dsse.specs.EnvelopeText.{envelope_text}
use Rattle.sig_dsse.specs.Faults.{FirstHasSha256, IsCosignCauseOf, IsCosignStatement}
use Rattle.sig_dsse.specs.Statement.{Statement, statement_of}
use Rattle.sig_dsse.specs.declared.envelope.DsseEnvelope.{DsseEnvelope}
use Rattle.sig_dsse.specs.declared.envelope.DsseSignature.{DsseSignature}
use Rattle.sig_key.specs.Key.{key_accepts}
use Rattle.sig_key.specs.declared.verification_key.CosignVerificationKey.{CosignVerificationKey}
use Rattle.sig_payload.specs.Bundles.{AcceptsSpki, Keys}
use Rattle.sig_attestation.specs.Attestation.{attestation_of, evidence_of}
use Rattle.sig_attestation.specs.Image.{statement_type}
use Rattle.sig_attestation.specs.LogCauses.{IsLogFault, IsVouched}
use Rattle.sig_attestation.specs.Logged.{IsLoggedOnce}
use Rattle.sig_attestation.specs.Vouching.{log_refusal}
use Rattle.sig_attestation.specs.declared.attestation.Attestation.{Attestation}
use Rattle.sig_attestation.specs.declared.attestation.Evidence.{Evidence}
use Rattle.sig_attestation.specs.declared.image.Image.{Image}
use Rattle.sig_verify.specs.declared.offline_error.OfflineError.{OfflineError}

-- what a caller asks: about the image whose manifest has this digest, of this text, with these keys of logs
pub record Asked : Type 0 where
  pub spki : AcceptsSpki
  pub keys : Option Keys
  pub source : List ℕ
  pub text : List ℕ

abbrev pub asked : AcceptsSpki → Option Keys → List ℕ → List ℕ → Asked
asked spki keys source text = record { spki = spki; keys = keys; source = source; text = text }

-- the error is of this kind, and this holds
abbrev pub Told : SigstoreError → UnexpectedKind → Type 0 → Type 0
Told e k P = (e ≡ UnexpectedError k) × P

-- ---- the parts that a rule is about

-- the text is a bundle, and this holds of it
abbrev pub OfBundle : List ℕ → (Bundle → Type 0) → Type 0
OfBundle text P = (b : Bundle) × (bundle_in text ≡ Ok b) × P b

-- its content is an envelope, and this holds of it
abbrev pub OfEnvelope : Bundle → (DsseEnvelope → Type 0) → Type 0
OfEnvelope b P = (v : DsseEnvelope) × (b.content ≡ Some (Envelope v)) × P v

-- its payload is a statement, and this holds of it
abbrev pub OfStatement : DsseEnvelope → (Statement → Type 0) → Type 0
OfStatement v P = (s : Statement) × (statement_of v.payload ≡ Some s) × P s

-- the first subject has a SHA-256, and this holds of it
abbrev pub OfSha256 : Statement → (List ℕ → Type 0) → Type 0
OfSha256 s P = (sha256 : List ℕ) × FirstHasSha256 sha256 s.subject × P sha256

-- the envelope has one signature, and this holds of it
abbrev pub OfSignature : DsseEnvelope → (DsseSignature → Type 0) → Type 0
OfSignature v P = (signature : DsseSignature) × (v.signatures ≡ signature ∷ []) × P signature

-- the bundle has material, and this holds of it
abbrev pub OfMaterial : Bundle → (VerificationMaterial → Type 0) → Type 0
OfMaterial b P = (m : VerificationMaterial) × (b.verification_material ≡ Some m) × P m

-- the material is a certificate, and this holds of it
abbrev pub OfCertificate : VerificationMaterial → (List ℕ → Type 0) → Type 0
OfCertificate m P = (der : List ℕ) × (m.content ≡ Some (Certificate der)) × P der

-- it has one log entry, and this holds of it
abbrev pub OfEntry : VerificationMaterial → (TransparencyLogEntry → Type 0) → Type 0
OfEntry m P = (t : TransparencyLogEntry) × (m.tlog_entries ≡ t ∷ []) × P t

-- the caller has keys of logs, and this holds of them
abbrev pub OfKeys : Asked → (Keys → Type 0) → Type 0
OfKeys q P = (keys : Keys) × (q.keys ≡ Some keys) × P keys

-- the entry names a log, and this holds of its id
abbrev pub OfId : TransparencyLogEntry → (List ℕ → Type 0) → Type 0
OfId t P = (id : List ℕ) × (t.log_id ≡ Some id) × P id

-- there is a key of that id, and this holds of it
abbrev pub OfKey : Keys → List ℕ → (CosignVerificationKey → Type 0) → Type 0
OfKey keys id P = (key : CosignVerificationKey) × (text_lookup (encode_lower id) keys ≡ Some key) × P key

-- ---- what is attested

-- the digest is the text, by itself or after `sha256:`
abbrev pub IsDigest : List ℕ → List ℕ → Type 0
IsDigest digest sha256 =
    (digest ≡ codes "sha256:" ++ sha256)
    ⊎ (((rest : List ℕ) → digest ≢ codes "sha256:" ++ rest) × (digest ≡ sha256))

abbrev pub IsTyped : DsseEnvelope → Type 0
IsTyped v = v.payload_type ≡ statement_type

-- a statement by `cosign`, of the image with this digest
abbrev pub IsImageOf : List ℕ → DsseEnvelope → Image → Type 0
IsImageOf source v image =
    IsTyped v × OfStatement v (λ s. IsCosignStatement s × OfSha256 s (λ sha256.
    IsDigest source sha256 × (image ≡ record { predicate_type = s.predicate_type; sha256 = sha256 })))

-- the log of the entry's id vouches for it, by its key among the caller's
abbrev pub IsVouchedFor : Asked → TransparencyLogEntry → Type 0
IsVouchedFor q t = OfKeys q (λ keys. OfId t (λ id. OfKey keys id (λ key. IsVouched (key_accepts q.spki key) t)))

-- its body is about the envelope, with one signature and hashes in lower case
abbrev pub IsBodyOf : DsseEnvelope → DsseSignature → List ℕ → TransparencyLogEntry → Type 0
IsBodyOf v signature der t =
    IsLoggedOnce (envelope_text v) v.payload signature.sig der t.canonicalized_body

-- one signature, one certificate, and one entry, which a log vouches for, and whose body is about them
abbrev pub IsEvidenceOf : Asked → Bundle → DsseEnvelope → Evidence → Type 0
IsEvidenceOf q b v evidence =
    OfSignature v (λ signature. OfMaterial b (λ m. OfCertificate m (λ der. OfEntry m (λ t.
    IsVouchedFor q t × (IsBodyOf v signature der t × (evidence ≡ evidence_of v signature der t))))))

abbrev pub IsAttestation : Asked → Attestation → Type 0
IsAttestation q a =
    OfBundle q.text (λ b. OfEnvelope b (λ v. (image : Image) × IsImageOf q.source v image
    × ((evidence : Evidence) × IsEvidenceOf q b v evidence × (a ≡ attestation_of image evidence))))

-- ---- the first rule that does not hold

abbrev pub IsStatedFault : List ℕ → Statement → SigstoreError → Type 0
IsStatedFault source s e =
    ((k : UnexpectedKind) × Told e k (IsCosignCauseOf k s))
    ⊎ (IsCosignStatement s × OfSha256 s (λ sha256. Told e kind.SubjectDigest (¬ IsDigest source sha256)))

abbrev pub IsImageFault : List ℕ → DsseEnvelope → SigstoreError → Type 0
IsImageFault source v e =
    Told e kind.PayloadType (¬ IsTyped v)
    ⊎ (IsTyped v × (Told e kind.Statement (statement_of v.payload ≡ None)
    ⊎ OfStatement v (λ s. IsStatedFault source s e)))

abbrev pub IsKeyFault : Keys → List ℕ → SigstoreError → Type 0
IsKeyFault keys id e =
    (e ≡ RekorPublicKeyNotFoundError (encode_lower id)) × (text_lookup (encode_lower id) keys ≡ None)

abbrev pub IsEntryFault : Asked → TransparencyLogEntry → SigstoreError → Type 0
IsEntryFault q t e =
    Told e kind.KeysMissing (q.keys ≡ None)
    ⊎ OfKeys q (λ keys. Told e kind.LogIdMissing (t.log_id ≡ None)
    ⊎ OfId t (λ id. IsKeyFault keys id e
    ⊎ OfKey keys id (λ key. (why : OfflineError) × (e ≡ log_refusal why)
    × IsLogFault (key_accepts q.spki key) t why)))

-- no signer is named, or the signer is not named by a single certificate
abbrev pub IsSignerFault : Option MaterialContent → SigstoreError → Type 0
IsSignerFault content e =
    Told e kind.MaterialMissing (content ≡ None)
    ⊎ Told e kind.MaterialNotCertificate
    ((c : MaterialContent) × (content ≡ Some c) × ((der : List ℕ) → c ≢ Certificate der))

abbrev pub IsEvidenceFault : Asked → Bundle → DsseEnvelope → SigstoreError → Type 0
IsEvidenceFault q b v e =
    Told e (kind.SignatureCount (length v.signatures)) (length v.signatures ≢ 1)
    ⊎ OfSignature v (λ signature. Told e kind.MaterialMissing (b.verification_material ≡ None)
    ⊎ OfMaterial b (λ m. IsSignerFault m.content e
    ⊎ OfCertificate m (λ der. Told e (kind.EntryCount (length m.tlog_entries)) (length m.tlog_entries ≢ 1)
    ⊎ OfEntry m (λ t. IsEntryFault q t e
    ⊎ (IsVouchedFor q t × Told e kind.Body (¬ IsBodyOf v signature der t))))))

abbrev pub IsFault : Asked → SigstoreError → Type 0
IsFault q e =
    Told e kind.BundleUnreadable ((b : Bundle) → bundle_in q.text ≢ Ok b)
    ⊎ OfBundle q.text (λ b. Told e kind.ContentNotDsse ((v : DsseEnvelope) → b.content ≢ Some (Envelope v))
    ⊎ OfEnvelope b (λ v. IsImageFault q.source v e
    ⊎ ((image : Image) × IsImageOf q.source v image × IsEvidenceFault q b v e)))
