-- The links `fulcio`, `anchor` and `ctfe`, each in its own words: what a trusted root needs at a time, in whole
-- seconds since 1970 (Sigstore trusted root format; RFC 5280 section 6.1).
use Rattle.std.specs.Prelude.{◌≢◌, ℕ, ℤ, List, [], ◌∷◌}
use Rattle.std.specs.List.{AllByRecursion}
use Rattle.sig_certificate.specs.Certificate.{Cert}
use Rattle.sig_root.specs.Picked.{authority_certificates, keys_of}
use Rattle.sig_root.specs.declared.record.TrustedRoot.{TrustedRoot}
use Rattle.sig_timestamp.specs.Keyring.{key_of}
use Rattle.sig_x509.specs.Issuance.{AreAnchors, IsAnchor}
use Rattle.sig_verify.specs.CertificateLinks.{Trust}
use Rattle.sig_verify.specs.Verifier.{values_of}
use Rattle.sig_verify.specs.declared.link.Link.{Link}
use Rattle.sig_verify.specs.declared.link.Link.TheVariants.{Fulcio, Anchor, Ctfe}

-- *Picked keys*: the certificates of the authorities, the keys of the Certificate Transparency logs, and those of the
-- logs of signatures
abbrev pub authorities : TrustedRoot → ℤ → List (List ℕ)
authorities root now = authority_certificates now root.certificate_authorities

abbrev pub ct_keys : TrustedRoot → ℤ → List (List ℕ × List ℕ)
ct_keys root now = keys_of now root.ctlogs

abbrev pub rekor_keys : TrustedRoot → ℤ → List (List ℕ × List ℕ)
rekor_keys root now = keys_of now root.tlogs

-- the bytes are a trust anchor
abbrev pub IsSomeAnchor : List ℕ → Type 0
IsSomeAnchor der = (c : Cert) × IsAnchor der c

-- these are its trust anchors, and the key of each log id is the last of the keys with this id
abbrev pub OfTrust : TrustedRoot → ℤ → (Trust → Type 0) → Type 0
OfTrust root now P = (anchors : List Cert) × AreAnchors (authorities root now) anchors
    × P (record { anchors = anchors; points = key_of (values_of (ct_keys root now)) })

abbrev pub root_links : List Link
root_links = Fulcio ∷ Anchor ∷ Ctfe ∷ []

-- what a link requires of a trusted root
abbrev pub HoldsOfRoot : TrustedRoot → ℤ → Link → Type 0
HoldsOfRoot root now Fulcio = authorities root now ≢ []
HoldsOfRoot root now Anchor = AllByRecursion IsSomeAnchor (authorities root now)
HoldsOfRoot root now Ctfe = ct_keys root now ≢ []
HoldsOfRoot root now other = Unit {0}
