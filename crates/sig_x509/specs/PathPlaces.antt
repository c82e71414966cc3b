-- A path seen place by place: the path length that a certificate needs where others come before it, the last
-- certificate before the trust anchor, and a path that goes over none. RFC 5280 sections 4.2.1.9 and 6.1.
use Rattle.std.specs.Prelude.{◌≡◌, ◌⊎◌, ℕ, ◌<◌, ◌≤◌, ℤ, List, [], ◌∷◌, slice_get, Contains, Bool, Some, Ok}
use Rattle.sig_certificate.specs.declared.values.BasicConstraints.{BasicConstraints as Constraints}
use Rattle.sig_certificate.specs.Certificate.{Cert}
use Rattle.sig_certificate.specs.Profile.{constraints}
use Rattle.sig_x509.specs.Issuance.{Accepts}
use Rattle.sig_x509.specs.Issued.{IsIssuedBy, IsSignedBy}
use Rattle.sig_x509.specs.Path.{MayIssue}
use Rattle.sig_x509.specs.Pool.{Pool}
use Rattle.sig_x509.specs.declared.issuer.Issuer.{Issuer}
use Rattle.sig_x509.specs.declared.issuer.Issuer.TheVariants.{Anchor}

-- ---- path lengths

-- pathLenConstraint, section 4.2.1.9: how many others may come between x and the leaf
abbrev pub HasPathLength : Cert → ℕ → Type 0
HasPathLength x most =
    (b : Bool × Constraints) × (constraints x ≡ Ok (Some b)) × (b.1.path_len ≡ Some most)

-- x has no path length, or one of at least this number
abbrev pub HasRoomFor : Cert → ℕ → Type 0
HasRoomFor x others =
    ((most : ℕ) → ¬ HasPathLength x most) ⊎ ((most : ℕ) × HasPathLength x most × (others ≤ most))

-- ---- a path, one certificate longer

-- the pool in which only this certificate is trusted
abbrev pub trusting : Pool → Cert → Pool
trusting pool x = record { anchors = x ∷ []; intermediates = pool.intermediates }

-- The intermediate x, with this number of others between it and the leaf, can be the last before the trust anchor.
pub record IsLast (accepts : Accepts) (pool : Pool) (t : ℤ) (others : ℕ) (x anchor : Cert) : Type 0 where
  pub given : Contains pool.intermediates (Some x)
  pub few : others < 6
  pub may_issue : MayIssue t x
  pub room : HasRoomFor x others
  pub trusted : Contains pool.anchors anchor
  pub signed : IsSignedBy accepts x anchor

-- ---- a path over no intermediates

-- the issuer is the trust anchor at an index, which issued c
abbrev pub IsIssuedAt : Accepts → List Cert → Cert → ℤ → Issuer → Type 0
IsIssuedAt accepts anchors c t issuer = (index : ℕ) × (x : Cert) × (issuer ≡ Anchor index)
    × (slice_get anchors index ≡ Some x) × IsIssuedBy accepts c t x

-- and none before it did
abbrev pub IsFirstIssuedAt : Accepts → List Cert → Cert → ℤ → Issuer → Type 0
IsFirstIssuedAt accepts anchors c t issuer = (index : ℕ) × (x : Cert) × (issuer ≡ Anchor index)
    × (slice_get anchors index ≡ Some x) × IsIssuedBy accepts c t x
    × ((earlier : ℕ) (y : Cert) → earlier < index → slice_get anchors earlier ≡ Some y → ¬ IsIssuedBy accepts c t y)
