-- *Asked anchors*: which trust anchors a checker is asked about. What it says of an anchor depends on the subject and
-- the SPKI alone, so it is asked only about the first of those that share both.
use Rattle.std.specs.Prelude.{◌≡◌, ℕ, ◌<◌, ◌≤◌, List, Bool, false, Option, Some, None, slice_get, Contains, length}
use Rattle.std.specs.List.{All, AllPairs}
use Rattle.sig_certificate.specs.Certificate.{Cert}
use Rattle.sig_x509.specs.Issuance.{Accepts, is_signed_by}

-- The two have one subject and one SPKI.
pub record IsSameSigner (x y : Cert) : Type 0 where
  pub subject : x.subject ≡ y.subject
  pub spki : x.spki ≡ y.spki

-- There is a trust anchor at the index, and none before it has its subject and SPKI.
pub record IsFirstOfItsKey (anchors : List Cert) (index : ℕ) : Type 0 where
  pub anchor : Cert
  pub there : slice_get anchors index ≡ Some anchor
  pub first : (earlier : ℕ) (x : Cert) → earlier < index → slice_get anchors earlier ≡ Some x → ¬ IsSameSigner x anchor

-- The trust anchor x at the index is asked, or one before it that has its subject and SPKI.
pub record IsCovered (anchors : List Cert) (asked : List ℕ) (index : ℕ) (x : Cert) : Type 0 where
  pub first : ℕ
  pub anchor : Cert
  pub is_asked : Contains asked first
  pub before : first ≤ index
  pub there : slice_get anchors first ≡ Some anchor
  pub same : IsSameSigner anchor x

-- the indices, ascending, of the trust anchors whose subject and SPKI no anchor before them has
pub record AreAsked (anchors : List Cert) (asked : List ℕ) : Type 0 where
  pub firsts : All (IsFirstOfItsKey anchors) asked
  pub covers : (index : ℕ) (x : Cert) → slice_get anchors index ≡ Some x → IsCovered anchors asked index x
  pub ascends : AllPairs (λ one later. one < later) asked

-- them, of which there are no more than anchors
abbrev pub AreFewAsked : List Cert → List ℕ → Type 0
AreFewAsked anchors asked = AreAsked anchors asked × (length asked ≤ length anchors)

-- there is a trust anchor, and it signed c
abbrev pub has_signed : Accepts → Cert → Option Cert → Bool
has_signed accepts c None = false
has_signed accepts c (Some x) = is_signed_by accepts c x

-- the trust anchor at the index signed c
abbrev pub is_signed_at : Accepts → Cert → List Cert → ℕ → Bool
is_signed_at accepts c anchors index = has_signed accepts c (slice_get anchors index)
