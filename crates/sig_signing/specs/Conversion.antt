-- *Conversion of a log entry*: an entry as Rekor's API returns it, as the entry of a bundle that it is (Sigstore bundle
-- format, TransparencyLogEntry), with the same values.
use Rattle.std.specs.Prelude.{◌≡◌, ℕ, ◌<◌, ◌^◌, ℤ, pos, nat_lt, List, [], ◌∷◌, codes, Option, Some, None, IsOk, IsSome}
use Rattle.std.specs.Prelude.{Result, Ok, Err, if◌then◌else◌, ⊤}
use Rattle.std.specs.List.{AllByRecursion}
use Rattle.sig_base.specs.Base64.{base64_bytes}
use Rattle.sig_base.specs.ResultSteps.{◌>>=◌, each_from}
use Rattle.sig_bundle.specs.declared.material.KindVersion.{KindVersion}
use Rattle.sig_bundle.specs.declared.material.ProofFields.{ProofFields}
use Rattle.sig_bundle.specs.declared.material.TransparencyLogEntry.{TransparencyLogEntry}
use Rattle.sig_json_text.specs.Canonical.{canonical_of}
use Rattle.sig_rekor.specs.declared.rekor_proof.RekorInclusionProof.{RekorInclusionProof}
use Rattle.sig_rekor_models.specs.Body.{body_tree}
use Rattle.sig_rekor_models.specs.LogEntry.{LogEntry}
use Rattle.sig_signing.specs.Decoded.{base64_or_refused, canonical_or_refused, hex_at, hex_bytes, hex_or_refused}
use Rattle.sig_signing.specs.declared.conversion_error.ConversionError.{ConversionError}
use Rattle.sig_signing.specs.declared.conversion_error.ConversionError.TheVariants.{Refused}

-- the kind that is written for every entry
abbrev pub hashedrekord_version : KindVersion
hashedrekord_version = record { kind = codes "hashedrekord"; version = codes "0.0.1" }

-- ---- the entry that is made

-- each text is the digits of the bytes at its place
abbrev pub AreDecoded : List (List ℕ) → List (List ℕ) → Type 0
AreDecoded [] [] = ⊤
AreDecoded (text ∷ texts) (bytes ∷ others) = (hex_bytes text ≡ Some bytes) × AreDecoded texts others
AreDecoded [] (bytes ∷ others) = ⊥
AreDecoded (text ∷ texts) [] = ⊥

-- the members of a bundle's proof are those of the API's
pub record IsProofOf (api : RekorInclusionProof) (fields : ProofFields) : Type 0 where
  pub index : fields.log_index ≡ api.log_index
  pub root : hex_bytes api.root_hash ≡ Some fields.root_hash
  pub size : fields.tree_size ≡ pos api.tree_size
  pub within : api.tree_size < 2 ^ 63
  pub hashes : AreDecoded api.hashes fields.hashes
  pub checkpoint : fields.checkpoint ≡ Some api.checkpoint

-- both sides have a proof, or neither has
abbrev pub IsOptionalProofOf : Option RekorInclusionProof → Option ProofFields → Type 0
IsOptionalProofOf None None = ⊤
IsOptionalProofOf (Some api) (Some fields) = IsProofOf api fields
IsOptionalProofOf None (Some fields) = ⊥
IsOptionalProofOf (Some api) None = ⊥

-- the entry of the bundle is that of the API
pub record IsConversion (entry : LogEntry) (made : TransparencyLogEntry) : Type 0 where
  pub index : made.log_index ≡ entry.log_index
  pub time : made.integrated_time ≡ entry.integrated_time
  pub kind : made.kind_version ≡ Some hashedrekord_version
  pub body : canonical_of (body_tree entry.body) ≡ Ok made.canonicalized_body
  pub promise : base64_bytes entry.verification.signed_entry_timestamp ≡ made.inclusion_promise
  pub promised : IsSome made.inclusion_promise
  pub id : hex_bytes entry.log_i_d ≡ made.log_id
  pub named : IsSome made.log_id
  pub proof : IsOptionalProofOf entry.verification.inclusion_proof made.inclusion_proof

-- ---- the entries that are converted

-- a text is the digits of bytes
abbrev pub IsHexadecimal : List ℕ → Type 0
IsHexadecimal text = IsSome (hex_bytes text)

pub record IsConvertibleProof (api : RekorInclusionProof) : Type 0 where
  pub hashes : AllByRecursion IsHexadecimal api.hashes
  pub root : IsHexadecimal api.root_hash
  pub size : api.tree_size < 2 ^ 63

pub record IsConvertible (entry : LogEntry) : Type 0 where
  pub body : IsOk (canonical_of (body_tree entry.body))
  pub promise : IsSome (base64_bytes entry.verification.signed_entry_timestamp)
  pub id : IsHexadecimal entry.log_i_d
  pub proof : (api : RekorInclusionProof) → entry.verification.inclusion_proof ≡ Some api → IsConvertibleProof api

-- ---- the same as a function

abbrev pub size_or_refused : ℕ → Result ℤ ConversionError
size_or_refused size = if nat_lt size (2 ^ 63) then Ok (pos size) else Err Refused

unfoldable pub proof_of : RekorInclusionProof → Result ProofFields ConversionError
proof_of api = do
  hashes ← each_from hex_at 0 api.hashes
  root ← hex_or_refused api.root_hash
  size ← size_or_refused api.tree_size
  Ok (record {
    log_index = api.log_index;
    root_hash = root;
    tree_size = size;
    hashes = hashes;
    checkpoint = Some api.checkpoint;
  })

abbrev pub optional_proof_of : Option RekorInclusionProof → Result (Option ProofFields) ConversionError
optional_proof_of None = Ok None
optional_proof_of (Some api) = proof_of api >>= λ fields. Ok (Some fields)

unfoldable pub conversion_of : LogEntry → Result TransparencyLogEntry ConversionError
conversion_of entry = do
  body ← canonical_or_refused (canonical_of (body_tree entry.body))
  promise ← base64_or_refused entry.verification.signed_entry_timestamp
  id ← hex_or_refused entry.log_i_d
  proof ← optional_proof_of entry.verification.inclusion_proof
  Ok (record {
    log_index = entry.log_index;
    log_id = Some id;
    kind_version = Some hashedrekord_version;
    integrated_time = entry.integrated_time;
    inclusion_promise = Some promise;
    inclusion_proof = proof;
    canonicalized_body = body;
  })
