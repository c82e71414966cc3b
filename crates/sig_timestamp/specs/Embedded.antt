-- The SCT that a certificate carries, prepared for its check: RFC 6962 sections 3.2 and 3.3.
use Rattle.std.specs.Prelude.{◌≡◌, ◌≢◌, ◌⊎◌, ℕ, length, Bool, false, List, [], ◌∷◌, Option, Some, None, option_map}
use Rattle.std.specs.Prelude.{slice_get, unwrap_or, Result, Ok, Err, is_some, if◌then◌else◌}
use Rattle.sig_base.specs.Answers.{Answers}
use Rattle.sig_base.specs.Sha256.{sha256}
use Rattle.sig_der.specs.ObjectIdentifiers.{extended_key_usage, precertificate_signing}
use Rattle.sig_timestamp.specs.declared.signed.DigitallySigned.{DigitallySigned}
use Rattle.sig_timestamp.specs.declared.sct_error.CertificateErrorKind.{CertificateErrorKind}
use Rattle.sig_timestamp.specs.declared.sct_error.CertificateErrorKind.TheVariants.{LeafSCTMissing, IssuerMissing}
use Rattle.sig_timestamp.specs.declared.sct_error.CertificateErrorKind.TheVariants.{LeafSCTMalformed}
use Rattle.sig_timestamp.specs.declared.sct_error.SCTError.{SCTError}
use Rattle.sig_timestamp.specs.declared.sct_error.SCTError.TheVariants.{Parsing, Serialization, Verification}
use Rattle.sig_timestamp.specs.declared.sct_error.SCTError.TheVariants.{OutOfMemory}
use Rattle.sig_certificate.specs.Certificate.{Extension, Cert}
use Rattle.sig_certificate.specs.Lookups.{with_oid}
use Rattle.sig_certificate.specs.Values.{purposes_of, has_purpose}
use Rattle.sig_certificate.specs.Profile.{ca_refusal}
use Rattle.sig_timestamp.specs.SctList.{Sct, IsSct, IsSctList}
use Rattle.sig_timestamp.specs.SctBytes.{signed_with}
use Rattle.sig_timestamp.specs.Timestamps.{HasSct, LacksSct, HasBadSct, IsNoList, ListsNoSct, sct_of}

-- ---- the issuer

-- the only extended key usage has the purpose of precertificate signing
abbrev pub signs_by : List Extension → Bool
signs_by [] = false
signs_by (e ∷ []) = unwrap_or (option_map (has_purpose precertificate_signing) (purposes_of e.value)) false
signs_by (e ∷ f ∷ es) = false

abbrev pub signs_precertificates : Cert → Bool
signs_precertificates c = signs_by (with_oid extended_key_usage c.extensions)

-- the first of the chain, or the second if the first only signs precertificates (RFC 6962 section 3.1)
abbrev pub candidate_of : List Cert → Option Cert
candidate_of [] = None
candidate_of (c ∷ chain) = if signs_precertificates c then slice_get chain 0 else Some c

abbrev pub if_authority : Option Cert → Option Cert
if_authority None = None
if_authority (Some c) = if is_some (ca_refusal c) then None else Some c

-- the issuer that a chain begins with, if it is an authority
abbrev pub issuer_in_chain : List Cert → Option Cert
issuer_in_chain chain = if_authority (candidate_of chain)

-- ---- the result

-- what was read, for an issuer whose SPKI has this SHA-256
abbrev pub ready_with : Cert → List ℕ → Result Sct CertificateErrorKind → Result DigitallySigned SCTError
ready_with c issuer_key_hash (Ok s) = Ok (signed_with c issuer_key_hash s)
ready_with c issuer_key_hash (Err e) = Err (Parsing e)

-- for an issuer with this SPKI
abbrev pub ready : Cert → List ℕ → Result Sct CertificateErrorKind → Result DigitallySigned SCTError
ready c spki r = ready_with c (sha256 spki) r

-- The certificate's one SCT, ready to be checked for an issuer whose SPKI has this SHA-256.
pub record IsReady (c : Cert) (issuer_key_hash : List ℕ) (d : DigitallySigned) : Type 0 where
  pub sct : Sct
  pub has : HasSct c sct
  pub is : d ≡ signed_with c issuer_key_hash sct

-- each result and its cause
abbrev pub HasSctCause : Cert → List ℕ → Result DigitallySigned SCTError → Type 0
HasSctCause c issuer_key_hash (Ok d) = IsReady c issuer_key_hash d
HasSctCause c issuer_key_hash (Err (Parsing LeafSCTMissing)) = LacksSct c
HasSctCause c issuer_key_hash (Err (Parsing LeafSCTMalformed)) = HasBadSct c
HasSctCause c issuer_key_hash (Err (Parsing IssuerMissing)) = ⊥
HasSctCause c issuer_key_hash (Err Serialization) = ⊥
HasSctCause c issuer_key_hash (Err (Verification e)) = ⊥
HasSctCause c issuer_key_hash (Err OutOfMemory) = Unit {0}

-- The result for an issuer whose SPKI has this SHA-256.
pub record IsEmbeddedWith (c : Cert) (issuer_key_hash : List ℕ) (result : Result DigitallySigned SCTError) : Type 0 where
  -- the result has its cause
  pub cause : HasSctCause c issuer_key_hash result
  -- each cause has its result
  pub has : (s : Sct) → HasSct c s → Answers OutOfMemory (λ d. d) result (Ok (signed_with c issuer_key_hash s))
  pub lacks : LacksSct c → Answers OutOfMemory (λ d. d) result (Err (Parsing LeafSCTMissing))
  pub bad : HasBadSct c → Answers OutOfMemory (λ d. d) result (Err (Parsing LeafSCTMalformed))
  pub read : Answers OutOfMemory (λ d. d) result (ready_with c issuer_key_hash (sct_of c))

-- The result for an issuer with this SPKI.
abbrev pub IsEmbedded : Cert → List ℕ → Result DigitallySigned SCTError → Type 0
IsEmbedded c spki result = IsEmbeddedWith c (sha256 spki) result

-- The result for the issuer that a chain begins with.
abbrev pub IsEmbeddedUnder : Cert → Option Cert → Result DigitallySigned SCTError → Type 0
IsEmbeddedUnder c None result = result ≡ Err (Parsing IssuerMissing)
IsEmbeddedUnder c (Some issuer) result = IsEmbedded c issuer.spki result

-- ---- the cause of a result of the reader

-- this is the result for an extension's value
abbrev pub IsSaidOfValue : List ℕ → Result Sct CertificateErrorKind → Type 0
IsSaidOfValue v (Ok s) = (sct : List ℕ) × (IsSctList v (sct ∷ []) × IsSct sct s)
IsSaidOfValue v (Err LeafSCTMissing) = (scts : List (List ℕ)) × (IsSctList v scts × (length scts ≢ 1))
IsSaidOfValue v (Err LeafSCTMalformed) = IsNoList v ⊎ ListsNoSct v
IsSaidOfValue v (Err IssuerMissing) = ⊥

-- this is the result for a certificate
abbrev pub IsSaidOf : Cert → Result Sct CertificateErrorKind → Type 0
IsSaidOf c (Ok s) = HasSct c s
IsSaidOf c (Err LeafSCTMissing) = LacksSct c
IsSaidOf c (Err LeafSCTMalformed) = HasBadSct c
IsSaidOf c (Err IssuerMissing) = ⊥
