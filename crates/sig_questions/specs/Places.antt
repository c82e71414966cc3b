-- *Places of the questions*: which signature is asked about at each place, and under whose key.
use Rattle.std.specs.Prelude.{◌≡◌, ◌↔◌, ℕ, ◌+◌, ◌*◌, Bool, true, false, length, Option, Some, None, slice_get}
use Rattle.sig_certificate.specs.Certificate.{Cert}
use Rattle.sig_checked_bundle.specs.Checked.{Checked}
use Rattle.sig_verify.specs.CertificateLinks.{Trust}
use Rattle.sig_questions.specs.Lists.{Pair, Side, pairs, signers}

-- the keys of the trust anchors come in order, and after the last of them those of the further certificates in order
abbrev pub IsSignerAt : ℕ → Trust → Checked → Bool → Cert → Type 0
IsSignerAt place trust c true x = slice_get trust.anchors place ≡ Some x
IsSignerAt place trust c false x =
    (index : ℕ) × (place ≡ length trust.anchors + index) × (slice_get c.further index ≡ Some x)

-- the certificate comes first, and after it the further certificates in order
abbrev pub IsSignedAt : ℕ → Checked → Option Cert → Type 0
IsSignedAt place c None = place ≡ 0
IsSignedAt place c (Some y) = (index : ℕ) × (place ≡ index + 1) × (slice_get c.further index ≡ Some y)

-- the signature of each certificate is asked about under all keys in order, before that of the next
abbrev pub IsPairAt : ℕ → Trust → Checked → Pair → Type 0
IsPairAt place trust c pair =
    (signed signer : ℕ) × (place ≡ signed * (length trust.anchors + length c.further) + signer)
    × IsSignedAt signed c pair.0 × IsSignerAt signer trust c pair.1.0 pair.1.1

-- laws of the definitions: the place of a key, and that of a signature under a key
abbrev pub SignersAreInOrder : Type 0
SignersAreInOrder = (trust : Trust) (c : Checked) (place : ℕ) (side : Side)
    → (slice_get (signers trust c) place ≡ Some side) ↔ IsSignerAt place trust c side.0 side.1

abbrev pub PairsAreInOrder : Type 0
PairsAreInOrder = (trust : Trust) (c : Checked) (place : ℕ) (pair : Pair)
    → (slice_get (pairs trust c) place ≡ Some pair) ↔ IsPairAt place trust c pair
