-- *SCT signed bytes*: RFC 6962 section 3.2, the bytes that the signature of an SCT is over, for an entry of the type
-- precert_entry; and what an SCT says.
use Rattle.std.specs.Prelude.{ℕ, ◌-◌, ◌^◌, Bool, List, ◌∷◌, ◌++◌, length, Result, Ok, Err, nat_lt, if◌then◌else◌}
use Rattle.sig_base.specs.Sha256.{sha256}
use Rattle.sig_timestamp.specs.declared.signed.DigitallySigned.{DigitallySigned}
use Rattle.sig_timestamp.specs.declared.keyring_error.KeyringError.{KeyringError}
use Rattle.sig_timestamp.specs.declared.sct_error.SCTError.{SCTError}
use Rattle.sig_timestamp.specs.declared.sct_error.SCTError.TheVariants.{Serialization}
use Rattle.sig_timestamp.specs.RingKey.{RingKey, point_at}
use Rattle.sig_timestamp.specs.Keyring.{vouch}
use Rattle.sig_certificate.specs.Certificate.{Cert}
use Rattle.sig_timestamp.specs.Numbers.{v1, certificate_timestamp, precert_entry}
use Rattle.sig_timestamp.specs.Vectors.{uint16_bytes, vector, long_vector}
use Rattle.sig_timestamp.specs.SctErrors.{of_keyring}
use Rattle.sig_timestamp.specs.SctList.{Sct, eight_bytes}
use Rattle.sig_timestamp.specs.Precert.{precertificate}

-- Version, SignatureType, uint64 timestamp, LogEntryType, issuer_key_hash, TBSCertificate, CtExtensions
abbrev pub signed_bytes : DigitallySigned → List ℕ
signed_bytes d =
    (v1 ∷ certificate_timestamp ∷ eight_bytes d.timestamp)
    ++ ((uint16_bytes precert_entry ++ d.issuer_key_hash) ++ (long_vector d.tbs_certificate ++ vector d.extensions))

-- what an SCT of a certificate signs, and its signature, if the issuer's SPKI has this SHA-256
abbrev pub signed_with : Cert → List ℕ → Sct → DigitallySigned
signed_with c issuer_key_hash s =
    record {
      timestamp = s.timestamp;
      issuer_key_hash = issuer_key_hash;
      tbs_certificate = precertificate c;
      extensions = s.extensions;
      log_id = s.log_id;
      signature = s.signature;
    }

-- the same if the issuer has this SPKI: `signed_bytes` of it is *SCT signed bytes*
abbrev pub signed_of : Cert → List ℕ → Sct → DigitallySigned
signed_of c spki s = signed_with c (sha256 spki) s

-- ---- whether a keyring vouches for it

abbrev pub as_sct_result : Result (Unit {0}) KeyringError → Result (Unit {0}) SCTError
as_sct_result (Ok x) = Ok x
as_sct_result (Err e) = Err (of_keyring e)

-- a length has no spelling, or the key of the log's id says it
abbrev pub judged : (List ℕ → List ℕ → List ℕ → Bool) → DigitallySigned → List (List ℕ × RingKey)
    → Result (Unit {0}) SCTError
judged accepts d ring =
    if nat_lt (2 ^ 24 - 1) (length d.tbs_certificate) then Err Serialization
    else if nat_lt (2 ^ 16 - 1) (length d.extensions) then Err Serialization
    else as_sct_result (vouch accepts (point_at ring d.log_id) (signed_bytes d) d.signature)
