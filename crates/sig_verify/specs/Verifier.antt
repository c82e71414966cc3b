-- What a verifier trusts, and why there is no verifier.
use Rattle.std.specs.Prelude.{◌≡◌, ◌⊎◌, ℕ, List, map, Result, Ok, Err}
use Rattle.sig_base.specs.Answers.{OrMemory}
use Rattle.sig_base.specs.Sha256.{sha256}
use Rattle.sig_base.specs.declared.error.SigstoreError.{SigstoreError}
use Rattle.sig_base.specs.declared.error.SigstoreError.TheVariants.{CertificatePoolError, OutOfMemory}
use Rattle.sig_base.specs.declared.fault.PoolError.TheVariants.{Anchor}
use Rattle.sig_certificate.specs.Certificate.{Cert}
use Rattle.sig_timestamp.specs.Keyring.{key_of}
use Rattle.sig_timestamp.specs.RingKey.{RingKey, point_at}
use Rattle.sig_x509.specs.Issuance.{AreAnchors, IsFirstNoAnchor}

-- the trust anchors, and the keys of Certificate Transparency logs
pub record Trusted : Type 0 where
  pub anchors : List Cert
  pub ring : List (List ℕ × RingKey)

-- the SHA-256 of the SPKI of each trust anchor
abbrev pub key_hashes_of : List Cert → List (List ℕ)
key_hashes_of anchors = map (λ x. sha256 x.spki) anchors

abbrev pub Authorities : Type 0
Authorities = Result (List (List ℕ)) SigstoreError

abbrev pub CtKeys : Type 0
CtKeys = Result (List (List ℕ × List ℕ)) SigstoreError

abbrev pub values_of : List (List ℕ × List ℕ) → List (List ℕ)
values_of keys = map (λ key. key.1) keys

-- the ring has the keys of a map, in the byte order of the log ids: `key_of` is the last key of one key id
abbrev pub HasKeys : List (List ℕ × List ℕ) → List (List ℕ × RingKey) → Type 0
HasKeys keys ring = (id : List ℕ) → point_at ring id ≡ key_of (values_of keys) id

-- the root has certificates, which are the trust anchors, and keys, which the ring has
pub record IsVerifierOf (authorities : Authorities) (ct_keys : CtKeys) (trusted : Trusted) : Type 0 where
  pub certificates : List (List ℕ)
  pub given : authorities ≡ Ok certificates
  pub anchors : AreAnchors certificates trusted.anchors
  pub keys : List (List ℕ × List ℕ)
  pub logs : ct_keys ≡ Ok keys
  pub ring : HasKeys keys trusted.ring

-- why there is no pool of these certificates
abbrev pub IsRefusedPool : List (List ℕ) → SigstoreError → Type 0
IsRefusedPool certificates error =
    OrMemory OutOfMemory error
    ((place : ℕ) × (error ≡ CertificatePoolError (Anchor place)) × IsFirstNoAnchor certificates place)

-- the first of the certificates that is not a trust anchor has this index
abbrev pub HasOther : Authorities → ℕ → Type 0
HasOther authorities place = (certificates : List (List ℕ)) × (authorities ≡ Ok certificates)
    × IsFirstNoAnchor certificates place

-- all certificates are trust anchors
abbrev pub HasAnchors : Authorities → Type 0
HasAnchors authorities =
    (certificates : List (List ℕ)) × (anchors : List Cert) × (authorities ≡ Ok certificates)
    × AreAnchors certificates anchors

-- the first of the three that fails, with its error, unless memory ran out
abbrev pub IsRefusedRoot : Authorities → CtKeys → SigstoreError → Type 0
IsRefusedRoot authorities ct_keys error =
    OrMemory OutOfMemory error ((authorities ≡ Err error)
    ⊎ (((place : ℕ) × (error ≡ CertificatePoolError (Anchor place)) × HasOther authorities place)
    ⊎ (HasAnchors authorities × (ct_keys ≡ Err error))))
