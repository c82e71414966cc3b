-- *Promised*: what it means that the log of a bundle's id promised it, and the first rule that another breaks (Rekor's
-- signed entry timestamp).
use Rattle.std.specs.Prelude.{◌≡◌, ◌⊎◌, ◌<◌, ◌^◌, ◌++◌, ℕ, ℤ, List, codes, Bool, true, false, unsigned_abs, Some, None}
use Rattle.std.specs.Prelude.{Result, Ok}
use Rattle.std.specs.Fmt.{signed_decimal}
use Rattle.sig_base.specs.ByText.{text_lookup}
use Rattle.sig_base.specs.declared.error.SigstoreError.{SigstoreError}
use Rattle.sig_base.specs.declared.error.SigstoreError.TheVariants.{UnexpectedError, RekorPublicKeyNotFoundError}
use Rattle.sig_base.specs.declared.error.SigstoreError.TheVariants.{Base64DecodeError, PublicKeyVerificationError}
use Rattle.sig_base.specs.declared.unexpected.UnexpectedKind.TheVariants.{BundleUnreadable, PromiseInteger}
use Rattle.sig_json_text.specs.Canonical.{canon_string}
use Rattle.sig_json.specs.declared.error.JsonError.{JsonError}
use Rattle.sig_key.specs.Key.{key_accepts}
use Rattle.sig_key.specs.Signature.{text_bytes}
use Rattle.sig_key.specs.declared.verification_key.CosignVerificationKey.{CosignVerificationKey}
use Rattle.sig_payload.specs.Bundles.{AcceptsSpki, Keys, artifact_bundle_of, bundle_of}
use Rattle.sig_payload.specs.declared.bundle.Bundle.{Bundle}
use Rattle.sig_payload.specs.declared.bundle.Payload.{Payload}
use Rattle.sig_payload.specs.declared.bundle.SignedArtifactBundle.{SignedArtifactBundle}

-- ---- what is signed

-- within plus or minus 2^53 - 1
abbrev pub IsExact : ℤ → Type 0
IsExact z = unsigned_abs z < 2 ^ 53

abbrev pub IsExactPayload : Payload → Type 0
IsExactPayload p = IsExact p.integrated_time × IsExact p.log_index

-- the canonical JSON of the four members, letter by letter
abbrev pub promised_text : Payload → List ℕ
promised_text p =
    codes "{\"body\":" ++ (canon_string p.body ++ (codes ",\"integratedTime\":" ++ (signed_decimal p.integrated_time
    ++ (codes ",\"logID\":" ++ (canon_string p.log_id ++ (codes ",\"logIndex\":" ++ (signed_decimal p.log_index
    ++ codes "}")))))))

-- ---- its signer

-- there is a key of the payload's log, and this holds of it
abbrev pub OfKey : Keys → Payload → (CosignVerificationKey → Type 0) → Type 0
OfKey keys p P = (key : CosignVerificationKey) × ((text_lookup p.log_id keys ≡ Some key) × P key)

-- the signature is the base64 of bytes, and this holds of them
abbrev pub OfSignature : Bundle → (List ℕ → Type 0) → Type 0
OfSignature b P = (bytes : List ℕ) × ((text_bytes b.signed_entry_timestamp ≡ Some bytes) × P bytes)

-- what the checker says of the signature under the key of the log
abbrev pub IsSaid : AcceptsSpki → Keys → Bundle → Bool → Type 0
IsSaid spki keys b said =
    OfKey keys b.payload (λ key. OfSignature b (λ bytes. key_accepts spki key (promised_text b.payload) bytes ≡ said))

-- the log of the payload's id signed the payload
pub record IsPromised (spki : AcceptsSpki) (keys : Keys) (b : Bundle) : Type 0 where
  pub exact : IsExactPayload b.payload
  pub signed : IsSaid spki keys b true

-- the first rule that does not hold: exact integers, a key of the log, base64, a signature that is accepted
abbrev pub IsPromiseFault : AcceptsSpki → Keys → Bundle → SigstoreError → Type 0
IsPromiseFault spki keys b (UnexpectedError kind) = (kind ≡ PromiseInteger) × ¬ IsExactPayload b.payload
IsPromiseFault spki keys b (RekorPublicKeyNotFoundError id) =
    IsExactPayload b.payload × ((id ≡ b.payload.log_id) × (text_lookup b.payload.log_id keys ≡ None))
IsPromiseFault spki keys b Base64DecodeError =
    IsExactPayload b.payload × (OfKey keys b.payload (λ key. Unit {0}) × (text_bytes b.signed_entry_timestamp ≡ None))
IsPromiseFault spki keys b PublicKeyVerificationError = IsExactPayload b.payload × IsSaid spki keys b false
IsPromiseFault spki keys b other = ⊥

-- ---- of a text

-- this is the bundle that a text is read as, and that the log promised
abbrev pub IsPromisedBy : {A : Type 0} → (A → Bundle) → Result A JsonError → AcceptsSpki → Keys → A → Type 0
IsPromisedBy bundle read spki keys x = (read ≡ Ok x) × IsPromised spki keys (bundle x)

-- nothing is read
abbrev pub IsUnreadable : {A : Type 0} → Result A JsonError → SigstoreError → Type 0
IsUnreadable {A} read e = (e ≡ UnexpectedError BundleUnreadable) × ((x : A) → ¬ (read ≡ Ok x))

-- nothing is read, or the log did not promise what is
abbrev pub IsFaultBy : {A : Type 0} → (A → Bundle) → Result A JsonError → AcceptsSpki → Keys → SigstoreError → Type 0
IsFaultBy {A} bundle read spki keys e =
    IsUnreadable read e ⊎ ((x : A) × ((read ≡ Ok x) × IsPromiseFault spki keys (bundle x) e))

abbrev pub IsPromisedBundle : AcceptsSpki → Keys → List ℕ → Bundle → Type 0
IsPromisedBundle spki keys raw = IsPromisedBy (λ bundle. bundle) (bundle_of raw) spki keys

abbrev pub IsBundleFault : AcceptsSpki → Keys → List ℕ → SigstoreError → Type 0
IsBundleFault spki keys raw = IsFaultBy (λ bundle. bundle) (bundle_of raw) spki keys

abbrev pub IsPromisedArtifact : AcceptsSpki → Keys → List ℕ → SignedArtifactBundle → Type 0
IsPromisedArtifact spki keys raw = IsPromisedBy (λ artifact. artifact.rekor_bundle) (artifact_bundle_of raw) spki keys

abbrev pub IsArtifactFault : AcceptsSpki → Keys → List ℕ → SigstoreError → Type 0
IsArtifactFault spki keys raw = IsFaultBy (λ artifact. artifact.rekor_bundle) (artifact_bundle_of raw) spki keys
