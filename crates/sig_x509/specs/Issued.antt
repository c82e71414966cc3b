-- *Issuance* as relations: what holds of a certificate that may be issued, of its signer, and of the trust anchor
-- that issued it. RFC 5280 sections 4.1, 4.2 and 6.1, in the profile of Sigstore. `Issuance` says how they are found.
use Rattle.std.specs.Prelude.{◌≡◌, ◌⊎◌, ℕ, ◌<◌, ℤ, ◌≤ℤ◌, List, [], Bool, true, false, Some, None, Ok}
use Rattle.std.specs.Prelude.{slice_get}
use Rattle.std.specs.Str.{bytes_eq}
use Rattle.std.specs.List.{AllByRecursion, IsDistinct}
use Rattle.sig_der.specs.ObjectIdentifiers.{key_usage, extended_key_usage, basic_constraints, subject_alternative_name}
use Rattle.sig_der.specs.ObjectIdentifiers.{name_constraints}
use Rattle.sig_certificate.specs.declared.values.BasicConstraints.{BasicConstraints as Constraints}
use Rattle.sig_certificate.specs.Certificate.{Cert, IsCertificate}
use Rattle.sig_certificate.specs.Lookups.{with_oid, oids}
use Rattle.sig_certificate.specs.Profile.{constraints, code_signing}
use Rattle.sig_x509.specs.Issuance.{Accepts}

-- ---- what may be issued

-- the extensions that may be critical, section 4.2
abbrev pub MayBeCritical : List ℕ → Type 0
MayBeCritical oid =
    (oid ≡ key_usage) ⊎ ((oid ≡ subject_alternative_name) ⊎ ((oid ≡ basic_constraints) ⊎ (oid ≡ extended_key_usage)))

-- *Fit*: a certificate that can be judged
pub record IsFit (c : Cert) : Type 0 where
  pub version : c.version ≡ 3
  -- section 4.1.1.2
  pub algorithms : c.inner_algorithm ≡ c.algorithm
  -- section 4.2.1.10: they are not read
  pub unconstrained : with_oid name_constraints c.extensions ≡ []
  -- section 4.2: a certificate with a critical extension that is not known is rejected
  pub understood : AllByRecursion (λ e. e.critical ≡ true → MayBeCritical e.oid) c.extensions
  -- section 4.2: no duplicate extension
  pub single : IsDistinct bytes_eq (oids c.extensions)

-- basic constraints, section 4.2.1.9, are absent, or well formed and not cA
abbrev pub IsNoAuthority : Cert → Type 0
IsNoAuthority c = (constraints c ≡ Ok None) ⊎ ((b : Bool × Constraints) × (constraints c ≡ Ok (Some b))
    × (b.1.ca ≡ false))

-- *Profile*
pub record HasProfile (c : Cert) : Type 0 where
  pub fit : IsFit c
  pub no_authority : IsNoAuthority c

-- ---- the issuer

-- *Signed*: the issuer is the subject of x byte for byte, and the signature is genuine under the key of x (section
-- 6.1.3)
pub record IsSignedBy (accepts : Accepts) (c x : Cert) : Type 0 where
  pub issuer : c.issuer ≡ x.subject
  pub genuine : accepts x.spki c.algorithm c.tbs c.signature ≡ true

-- *Issued*: x issued c, which signs code (section 4.2.1.12) and is valid at the time t (section 4.1.2.5)
pub record IsIssuedBy (accepts : Accepts) (c : Cert) (t : ℤ) (x : Cert) : Type 0 where
  pub begun : c.not_before ≤ℤ t
  pub lasting : t ≤ℤ c.not_after
  pub purpose : code_signing c ≡ Ok (Some true)
  pub signed : IsSignedBy accepts c x

-- none of the trust anchors issued it
abbrev pub IsIssuedByNone : Accepts → Cert → ℤ → List Cert → Type 0
IsIssuedByNone accepts c t anchors = (index : ℕ) (x : Cert) → slice_get anchors index ≡ Some x
    → ¬ IsIssuedBy accepts c t x

-- the trust anchor at the index issued it, and none before it did
pub record IsFirstIssuer (accepts : Accepts) (c : Cert) (t : ℤ) (anchors : List Cert) (index : ℕ) : Type 0 where
  pub anchor : Cert
  pub there : slice_get anchors index ≡ Some anchor
  pub issued : IsIssuedBy accepts c t anchor
  pub first : (earlier : ℕ) (x : Cert) → earlier < index → slice_get anchors earlier ≡ Some x
      → ¬ IsIssuedBy accepts c t x

-- ---- of bytes

-- The bytes are this certificate and no other.
pub record IsOnlyCertificate (der : List ℕ) (c : Cert) : Type 0 where
  pub is : IsCertificate der c
  pub only : (d : Cert) → IsCertificate der d → d ≡ c
