-- *Path*: the certification paths from a certificate over intermediates to a trust anchor. RFC 5280 sections 4.2.1.9,
-- 4.2.1.12 and 6.1, in the profile of Sigstore. `PathSearch` says how they are found.
use Rattle.std.specs.Prelude.{◌≡◌, ◌⊎◌, ℕ, ◌≤◌, ℤ, ◌≤ℤ◌, List, [], ◌∷◌, length, slice_get, Contains, Bool, true}
use Rattle.std.specs.Prelude.{Some, None, Ok}
use Rattle.sig_certificate.specs.declared.values.BasicConstraints.{BasicConstraints as Constraints}
use Rattle.sig_certificate.specs.Certificate.{Cert}
use Rattle.sig_certificate.specs.Profile.{ca_refusal, constraints, code_signing}
use Rattle.sig_x509.specs.Issuance.{Accepts}
use Rattle.sig_x509.specs.Issued.{HasProfile, IsFit, IsSignedBy}
use Rattle.sig_x509.specs.Pool.{Pool, IsBefore, certificate_of}
use Rattle.sig_x509.specs.declared.issuer.Issuer.{Issuer}
use Rattle.sig_x509.specs.declared.issuer.Issuer.TheVariants.{Anchor, Intermediate}

-- ---- what an intermediate has to be

-- A certificate that may issue others of code signing at the time t: an authority, within its validity, whose extended
-- key usage is absent or has code signing.
pub record MayIssue (t : ℤ) (x : Cert) : Type 0 where
  pub fit : IsFit x
  -- the profile of an authority: version 3, critical basic constraints with cA, and key usage with keyCertSign
  pub authority : ca_refusal x ≡ None
  pub begun : x.not_before ≤ℤ t
  pub lasting : t ≤ℤ x.not_after
  pub purpose : (code_signing x ≡ Ok None) ⊎ (code_signing x ≡ Ok (Some true))

-- pathLenConstraint, section 4.2.1.9: it is absent, or that many others may come between x and the leaf
abbrev pub AllowsBetween : Cert → ℕ → Type 0
AllowsBetween x others =
    (b : Bool × Constraints) (most : ℕ) → constraints x ≡ Ok (Some b) → b.1.path_len ≡ Some most → others ≤ most

-- ---- a certification path

-- the intermediates of a path, from the one that signed the leaf up
abbrev pub longest_path : ℕ
longest_path = 6

-- c is signed by the first of them, each by the next, and the last by the trust anchor; c itself, if there are none
abbrev pub AreSignedUp : Accepts → Cert → List Cert → Cert → Type 0
AreSignedUp accepts c [] anchor = IsSignedBy accepts c anchor
AreSignedUp accepts c (x ∷ xs) anchor = IsSignedBy accepts c x × AreSignedUp accepts x xs anchor

-- A path leads from c, which signs code and is valid at the time t, over these intermediates to the trust anchor.
pub record IsPath (accepts : Accepts) (pool : Pool) (c : Cert) (t : ℤ) (over : List Cert) (anchor : Cert) : Type 0 where
  pub begun : c.not_before ≤ℤ t
  pub lasting : t ≤ℤ c.not_after
  pub purpose : code_signing c ≡ Ok (Some true)
  pub few : length over ≤ longest_path
  pub trusted : Contains pool.anchors anchor
  pub given : (others : ℕ) (x : Cert) → slice_get over others ≡ Some x → Contains pool.intermediates (Some x)
  pub may_issue : (others : ℕ) (x : Cert) → slice_get over others ≡ Some x → MayIssue t x
  pub path_length : (others : ℕ) (x : Cert) → slice_get over others ≡ Some x → AllowsBetween x others
  pub signed : AreSignedUp accepts c over anchor

-- ---- the issuer of a path

-- x is the issuer in a path over these intermediates: the first of them, or the trust anchor if there are none
abbrev pub IsIssuerIn : Issuer → Cert → List Cert → Cert → Type 0
IsIssuerIn (Anchor index) x over anchor = (over ≡ []) × (anchor ≡ x)
IsIssuerIn (Intermediate index) x over anchor = (above : List Cert) × (over ≡ x ∷ above)

-- a path leads from c to a trust anchor, and the issuer in it is this one of the pool
pub record HasPath (accepts : Accepts) (pool : Pool) (c : Cert) (t : ℤ) (issuer : Issuer) : Type 0 where
  pub certificate : Cert
  pub there : certificate_of pool issuer ≡ Some certificate
  pub over : List Cert
  pub anchor : Cert
  pub path : IsPath accepts pool c t over anchor
  pub is : IsIssuerIn issuer certificate over anchor

-- there is no issuer in a path
abbrev pub HasNoPath : Accepts → Pool → Cert → ℤ → Type 0
HasNoPath accepts pool c t = (issuer : Issuer) → ¬ HasPath accepts pool c t issuer

-- it is the issuer in a path, and none before it is: the trust anchors in order, then the intermediates in order
pub record IsFirstInPath (accepts : Accepts) (pool : Pool) (c : Cert) (t : ℤ) (issuer : Issuer) : Type 0 where
  pub path : HasPath accepts pool c t issuer
  pub first : (earlier : Issuer) → IsBefore earlier issuer → ¬ HasPath accepts pool c t earlier

-- ---- what the checker is asked

-- every signature of a certificate is genuine
abbrev pub every_signature : Accepts
every_signature spki algorithm tbs signature = true

-- x comes after y on the way from c over these intermediates to the trust anchor
abbrev pub IsNext : Cert → List Cert → Cert → Cert → Cert → Type 0
IsNext c [] anchor y x = (y ≡ c) × (x ≡ anchor)
IsNext c (z ∷ zs) anchor y x = ((y ≡ c) × (x ≡ z)) ⊎ IsNext z zs anchor y x

-- The checker's result for the signature of y under the key of x matters only if c has the profile, and a path that
-- would lead from it to a trust anchor, if every signature were genuine, has x after y. So the issuer of y is the
-- subject of x.
pub record IsAskedOn (pool : Pool) (c : Cert) (t : ℤ) (y x : Cert) : Type 0 where
  pub profile : HasProfile c
  pub over : List Cert
  pub anchor : Cert
  pub path : IsPath every_signature pool c t over anchor
  pub next : IsNext c over anchor y x

-- two checkers agree on the signatures that are asked about
abbrev pub AgreeOnPaths : Accepts → Accepts → Pool → Cert → ℤ → Type 0
AgreeOnPaths accepts other pool c t = (y x : Cert) → IsAskedOn pool c t y x
    → accepts x.spki y.algorithm y.tbs y.signature ≡ other x.spki y.algorithm y.tbs y.signature
