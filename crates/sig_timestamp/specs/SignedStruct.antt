-- The digitally-signed struct of an SCT, field by field: RFC 6962 section 3.2, in the presentation language of RFC 5246
-- section 4. A number is defined by what its octets mean, not by how they are written.
use Rattle.std.specs.Prelude.{◌≡◌, ℕ, ◌+◌, ◌*◌, ◌<◌, List, [], ◌∷◌, ◌++◌, length}
use Rattle.std.specs.List.{AllByRecursion}
use Rattle.sig_timestamp.specs.declared.signed.DigitallySigned.{DigitallySigned}
use Rattle.sig_timestamp.specs.Numbers.{v1, certificate_timestamp, precert_entry, hash_length}

-- the number that octets mean, the most significant one first, after those that mean the first number
abbrev pub number_after : ℕ → List ℕ → ℕ
number_after n [] = n
number_after n (b ∷ bytes) = number_after (n * 256 + b) bytes

-- uint8, uint16, uint24, uint64, section 4.4: the number in `octets` octets
pub record IsUint (octets : ℕ) (bytes : List ℕ) (number : ℕ) : Type 0 where
  pub len : length bytes ≡ octets
  pub each : AllByRecursion (λ b. b < 256) bytes
  pub means : number_after 0 bytes ≡ number

-- opaque<..>, section 4.3: the length of the content in `octets` octets, then the content
pub record IsOpaque (octets : ℕ) (bytes content : List ℕ) : Type 0 where
  pub len : List ℕ
  pub counted : IsUint octets len (length content)
  pub parts : bytes ≡ len ++ content

-- digitally-signed struct { Version sct_version; SignatureType signature_type; uint64 timestamp; LogEntryType
-- entry_type; opaque issuer_key_hash[32]; opaque TBSCertificate<1..2^24-1>; opaque CtExtensions<0..2^16-1>; }
pub record IsSignedStruct (d : DigitallySigned) (bytes : List ℕ) : Type 0 where
  pub sct_version : List ℕ
  pub signature_type : List ℕ
  pub timestamp : List ℕ
  pub entry_type : List ℕ
  pub tbs_certificate : List ℕ
  pub ct_extensions : List ℕ
  pub parts : bytes
      ≡ sct_version ++ (signature_type ++ (timestamp ++ (entry_type ++ (d.issuer_key_hash
      ++ (tbs_certificate ++ ct_extensions)))))
  pub version : IsUint 1 sct_version v1
  pub type : IsUint 1 signature_type certificate_timestamp
  pub time : IsUint 8 timestamp d.timestamp
  pub entry : IsUint 2 entry_type precert_entry
  pub hash : length d.issuer_key_hash ≡ hash_length
  pub tbs : IsOpaque 3 tbs_certificate d.tbs_certificate
  pub extensions : IsOpaque 2 ct_extensions d.extensions
