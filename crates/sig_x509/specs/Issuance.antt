-- *Issuance*: which certificates may be issued, and by which trust anchor. RFC 5280 sections 4.2 and 6.1, in the
-- profile of Sigstore.
use Rattle.std.specs.Prelude.{⊤, ◌≡◌, ℕ, ℤ, List, length, take, slice_get, Bool, true, false, not, ◌&&◌, ◌||◌}
use Rattle.std.specs.Prelude.{Option, Some, None, Result, Ok, Err, position, int_le, ◌==◌, if◌then◌else◌}
use Rattle.std.specs.Str.{bytes_eq}
use Rattle.std.specs.List.{AllZip, list_all}
use Rattle.sig_base.specs.declared.fault.PoolError.{PoolError}
use Rattle.sig_base.specs.declared.fault.PoolError.TheVariants.{TooMany, Anchor, Malformed, VerificationFailed}
use Rattle.sig_base.specs.declared.fault.PoolError.TheVariants.{OutOfMemory}
use Rattle.sig_der.specs.ObjectIdentifiers.{key_usage, extended_key_usage, basic_constraints, subject_alternative_name}
use Rattle.sig_der.specs.ObjectIdentifiers.{name_constraints}
use Rattle.sig_certificate.specs.declared.values.BasicConstraints.{BasicConstraints as Constraints}
use Rattle.sig_certificate.specs.Certificate.{Extension, Cert, IsCertificate}
use Rattle.sig_certificate.specs.Lookups.{with_oid, are_single}
use Rattle.sig_certificate.specs.Profile.{Held, constraints, code_signing}
use Rattle.sig_certificate.specs.Trust.{may_sign_code}

-- ---- extensions, RFC 5280 section 4.2

-- the extensions that may be critical
abbrev pub may_be_critical : List ℕ → Bool
may_be_critical oid =
    bytes_eq oid key_usage || (bytes_eq oid subject_alternative_name
    || (bytes_eq oid basic_constraints || bytes_eq oid extended_key_usage))

-- a certificate with a critical extension that is not known is rejected
abbrev pub is_understood : Extension → Bool
is_understood e = not e.critical || may_be_critical e.oid

abbrev pub are_understood : List Extension → Bool
are_understood es = list_all is_understood es

-- name constraints, section 4.2.1.10, are not read: no certificate here may have them
abbrev pub is_unconstrained : Cert → Bool
is_unconstrained c = length (with_oid name_constraints c.extensions) == 0

-- ---- what may be issued

-- *Fit*: version 3, the two algorithms equal byte for byte (section 4.1.1.2), and extensions that can be judged
abbrev pub is_fit : Cert → Bool
is_fit c =
    (c.version == 3) && (bytes_eq c.inner_algorithm c.algorithm
    && (is_unconstrained c && (are_understood c.extensions && are_single c.extensions)))

-- basic constraints, section 4.2.1.9, are absent, or well formed and not cA
abbrev pub is_no_authority : Held (Bool × Constraints) → Bool
is_no_authority (Err e) = false
is_no_authority (Ok None) = true
is_no_authority (Ok (Some b)) = not b.1.ca

-- *Profile*
abbrev pub is_profiled : Cert → Bool
is_profiled c = is_fit c && is_no_authority (constraints c)

-- ---- the issuer

-- the TBSCertificates and signatures that a checker accepts under an SPKI and an algorithm
abbrev pub Accepts : Type 0
Accepts = List ℕ → List ℕ → List ℕ → List ℕ → Bool

-- the signature of c is genuine under the key
abbrev pub is_genuine_under : Accepts → Cert → List ℕ → Bool
is_genuine_under accepts c key = accepts key c.algorithm c.tbs c.signature

-- *Signed*: the issuer is the subject of x byte for byte, and the signature is genuine under the key of x (section
-- 6.1.3)
abbrev pub is_signed_by : Accepts → Cert → Cert → Bool
is_signed_by accepts c x = bytes_eq c.issuer x.subject && accepts x.spki c.algorithm c.tbs c.signature

-- no certificate signed it
abbrev pub IsSignedByNone : Accepts → Cert → Type 0
IsSignedByNone accepts c = (x : Cert) → is_signed_by accepts c x ≡ false

-- the time is within the validity, its first and its last second included (section 4.1.2.5)
abbrev pub is_within : Cert → ℤ → Bool
is_within c t = int_le c.not_before t && int_le t c.not_after

-- a certificate of code signing, at a time of its validity
abbrev pub signs_code_at : Cert → ℤ → Bool
signs_code_at c t = is_within c t && may_sign_code (code_signing c)

-- *Issued*: x issued c, which signs code at the time t
abbrev pub is_issued : Accepts → Cert → ℤ → Cert → Bool
is_issued accepts c t x = signs_code_at c t && is_signed_by accepts c x

abbrev pub placed : Option ℕ → Result ℕ PoolError
placed None = Err VerificationFailed
placed (Some index) = Ok index

-- the index of the first trust anchor that issued c, which signs code at the time t
abbrev pub issuer_of : Accepts → List Cert → Cert → ℤ → Result ℕ PoolError
issuer_of accepts anchors c t = if is_profiled c then placed (position (is_issued accepts c t) anchors)
    else Err Malformed

-- ---- trust anchors

-- The bytes are a trust anchor: a certificate without name constraints.
pub record IsAnchor (der : List ℕ) (c : Cert) : Type 0 where
  pub certificate : IsCertificate der c
  pub unconstrained : is_unconstrained c ≡ true

abbrev pub IsNoAnchor : List ℕ → Type 0
IsNoAnchor der = (c : Cert) → IsAnchor der c → ⊥

-- the DERs are those of the trust anchors, one by one
abbrev pub AreAnchors : List (List ℕ) → List Cert → Type 0
AreAnchors ders anchors = AllZip IsAnchor ders anchors

-- The DER at this index is the first that is not a trust anchor.
pub record IsFirstNoAnchor (ders : List (List ℕ)) (index : ℕ) : Type 0 where
  pub anchors : List Cert
  pub before : AreAnchors (take index ders) anchors
  pub der : List ℕ
  pub there : slice_get ders index ≡ Some der
  pub no : IsNoAnchor der

-- why the DER at this index is rejected
abbrev pub IsRefusedAt : List ℕ → ℕ → PoolError → Type 0
IsRefusedAt der index (Anchor at) = (at ≡ index) × IsNoAnchor der
IsRefusedAt der index OutOfMemory = ⊤
IsRefusedAt der index (TooMany count) = ⊥
IsRefusedAt der index Malformed = ⊥
IsRefusedAt der index VerificationFailed = ⊥

-- why there is no list of trust anchors of these DERs
abbrev pub AreRefused : List (List ℕ) → PoolError → Type 0
AreRefused ders (Anchor index) = IsFirstNoAnchor ders index
AreRefused ders OutOfMemory = ⊤
AreRefused ders (TooMany count) = ⊥
AreRefused ders Malformed = ⊥
AreRefused ders VerificationFailed = ⊥
