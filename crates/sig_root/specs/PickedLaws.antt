-- Which certificates and keys a trusted root gives, in the words of its authorities and of its instances of logs.
use Rattle.std.specs.Prelude.{◌≡◌, ℕ, ◌<◌, ◌/◌, ◌%◌, ℤ, List, [], ◌∷◌, Some, codes, Contains, IsTrue, slice_get}
use Rattle.sig_root.specs.Picked.{has_begun, holds, key_at}
use Rattle.sig_root.specs.declared.record.CertificateAuthority.{CertificateAuthority}
use Rattle.sig_root.specs.declared.record.PublicKey.{PublicKey}
use Rattle.sig_root.specs.declared.record.TransparencyLogInstance.{TransparencyLogInstance}

-- ---- the certificates

-- an authority whose range has begun has this certificate
pub record IsGiven (now : ℤ) (authorities : List CertificateAuthority) (certificate : List ℕ) : Type 0 where
  pub authority : CertificateAuthority
  pub among : Contains authorities authority
  pub begun : IsTrue (has_begun now authority.valid_for)
  pub certificates : List (List ℕ)
  pub chain : authority.cert_chain ≡ Some certificates
  pub held : Contains certificates certificate

-- ---- the key of an instance

-- the digit of half a byte, in lower case (RFC 4648 section 8)
abbrev pub IsLowerDigit : ℕ → ℕ → Type 0
IsLowerDigit digit half = slice_get (codes "0123456789abcdef") half ≡ Some digit

-- the text is these bytes, each as two such digits, the high half first
abbrev pub IsLowerHex : List ℕ → List ℕ → Type 0
IsLowerHex text [] = text ≡ []
IsLowerHex text (byte ∷ bytes) =
    (high low : ℕ) × (rest : List ℕ) × (text ≡ high ∷ low ∷ rest) × IsLowerDigit high (byte / 16)
    × IsLowerDigit low (byte % 16) × IsLowerHex rest bytes

-- the instance has this key, whose range holds, and this log id in lower-case hexadecimal
pub record IsKeyAt (now : ℤ) (instance : TransparencyLogInstance) (id key : List ℕ) : Type 0 where
  pub public_key : PublicKey
  pub held : instance.public_key ≡ Some public_key
  pub bytes : public_key.raw_bytes ≡ Some key
  pub lasting : IsTrue (holds now public_key.valid_for)
  pub log_id : List ℕ
  pub named : instance.log_id ≡ Some log_id
  pub written : IsLowerHex id log_id

-- ---- the key of a log id

-- the instance at an index gives this key for this log id
abbrev pub GivesAt : ℤ → List TransparencyLogInstance → ℕ → List ℕ → List ℕ → Type 0
GivesAt now instances index id key =
    (instance : TransparencyLogInstance) × (slice_get instances index ≡ Some instance)
    × (key_at now instance ≡ Some (id, key))

-- an instance gives this key for this log id, and no instance after it gives a key for it
pub record IsLastKey (now : ℤ) (instances : List TransparencyLogInstance) (id key : List ℕ) : Type 0 where
  pub index : ℕ
  pub gives : GivesAt now instances index id key
  pub last : (later : ℕ) (other : List ℕ) → index < later → ¬ GivesAt now instances later id other
