-- *Picked keys*: what a trusted root has at a time, in whole seconds since 1970.
use Rattle.std.specs.Prelude.{ℕ, ℤ, int_le, Bool, true, ◌&&◌, List, [], ◌∷◌, ◌++◌, Option, Some, None, Result, Ok, Err}
use Rattle.std.specs.Prelude.{unwrap_or, if◌then◌else◌}
use Rattle.hex.specs.Hex.{encode_lower}
use Rattle.sig_base.specs.ByText.{text_put}
use Rattle.sig_base.specs.OptionSteps.{◌>>=◌}
use Rattle.sig_base.specs.declared.error.SigstoreError.{SigstoreError}
use Rattle.sig_base.specs.declared.error.SigstoreError.TheVariants.{TufMetadataError}
use Rattle.sig_base.specs.declared.fault.TrustPart.{TrustPart}
use Rattle.sig_root.specs.declared.record.CertificateAuthority.{CertificateAuthority}
use Rattle.sig_root.specs.declared.record.PublicKey.{PublicKey}
use Rattle.sig_root.specs.declared.record.TimeRange.{TimeRange}
use Rattle.sig_root.specs.declared.record.TransparencyLogInstance.{TransparencyLogInstance}

-- ---- ranges

-- not after now, where there is a start
abbrev pub started : ℤ → Option ℤ → Bool
started now None = true
started now (Some start) = int_le start now

-- not before now, where there is an end
abbrev pub lasting : ℤ → Option ℤ → Bool
lasting now None = true
lasting now (Some end) = int_le now end

-- without a start the end does not count
abbrev pub between : ℤ → Option ℤ → Option ℤ → Bool
between now None end = true
between now (Some start) end = int_le start now && lasting now end

-- the range has begun, and may have ended since; a range that is absent always has
abbrev pub has_begun : ℤ → Option TimeRange → Bool
has_begun now None = true
has_begun now (Some range) = started now range.start

-- the range has no start, or it has begun and has not ended; a range that is absent always holds
abbrev pub holds : ℤ → Option TimeRange → Bool
holds now None = true
holds now (Some range) = between now range.start range.end

-- ---- the authorities

-- the certificates of an authority whose range has begun
abbrev pub certificates_at : ℤ → CertificateAuthority → List (List ℕ)
certificates_at now authority = if has_begun now authority.valid_for then unwrap_or authority.cert_chain [] else []

-- all certificates of all of them, in order
abbrev pub authority_certificates : ℤ → List CertificateAuthority → List (List ℕ)
authority_certificates now [] = []
authority_certificates now (authority ∷ authorities) = certificates_at now authority ++ authority_certificates now
    authorities

-- ---- the logs

-- the bytes of a key whose range holds
abbrev pub key_bytes_at : ℤ → PublicKey → Option (List ℕ)
key_bytes_at now key = if holds now key.valid_for then key.raw_bytes else None

-- the log id of an instance in lower-case hexadecimal, with the bytes of its key
unfoldable pub key_at : ℤ → TransparencyLogInstance → Option (List ℕ × List ℕ)
key_at now instance = do
  key ← instance.public_key
  bytes ← key_bytes_at now key
  id ← instance.log_id
  Some (encode_lower id, bytes)

abbrev pub put_key : Option (List ℕ × List ℕ) → List (List ℕ × List ℕ) → List (List ℕ × List ℕ)
put_key None keys = keys
put_key (Some key) keys = text_put key.0 key.1 keys

abbrev pub put_instance : ℤ → TransparencyLogInstance → List (List ℕ × List ℕ) → List (List ℕ × List ℕ)
put_instance now instance keys = put_key (key_at now instance) keys

-- one instance after another, so that the last one of equal log ids counts
abbrev pub put_instances : ℤ → List TransparencyLogInstance → List (List ℕ × List ℕ) → List (List ℕ × List ℕ)
put_instances now [] keys = keys
put_instances now (instance ∷ instances) keys = put_instances now instances (put_instance now instance keys)

-- the keys by their log ids; `laws::picked_keys` says which they are
abbrev pub keys_of : ℤ → List TransparencyLogInstance → List (List ℕ × List ℕ)
keys_of now instances = put_instances now instances []

-- ---- a list or a map that has to have something

abbrev pub unless_empty : {A : Type 0} → TrustPart → List A → Result (List A) SigstoreError
unless_empty part [] = Err (TufMetadataError part)
unless_empty part (first ∷ rest) = Ok (first ∷ rest)
