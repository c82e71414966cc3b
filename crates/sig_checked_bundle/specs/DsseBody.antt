-- *Log body* of an envelope: Rekor's entry of kind `dsse`, version 0.0.1, by the members that count. Hashes are SHA-256
-- (FIPS 180-4 section 6.2).
use Rattle.std.specs.Prelude.{ℕ, List, [], ◌∷◌, codes, Option, Some, None}
use Rattle.sig_base.specs.OptionSteps.{◌>>=◌}
use Rattle.sig_base.specs.Sha256.{sha256}
use Rattle.sig_json.specs.Data.{Data}
use Rattle.sig_json.specs.List.{list_of}
use Rattle.sig_json.specs.Member.{required, required_bytes, required_hash, required_text}
use Rattle.sig_checked_bundle.specs.declared.dsse_body.BodySignature.{BodySignature}
use Rattle.sig_checked_bundle.specs.declared.dsse_body.DsseBody.{DsseBody}
use Rattle.sig_checked_bundle.specs.declared.dsse_body.DsseSpec.{DsseSpec}
use Rattle.sig_checked_bundle.specs.declared.dsse_body.HashedPart.{HashedPart}

-- ---- the members, each of them required; any others are ignored

-- a hash: 64 hexadecimal digits in either case
unfoldable pub hashed_part_of : Data → Option HashedPart
hashed_part_of d = do
  algorithm ← required_text (codes "algorithm") d
  value ← required_hash (codes "value") d
  Some (record { algorithm = algorithm; value = value })

unfoldable pub body_signature_of : Data → Option BodySignature
body_signature_of d = do
  signature ← required_bytes (codes "signature") d
  verifier ← required_bytes (codes "verifier") d
  Some (record { signature = signature; verifier = verifier })

-- the first element; those after it may be anything
abbrev pub first_of : List Data → Option BodySignature
first_of [] = None
first_of (first ∷ others) = body_signature_of first

unfoldable pub first_signature_of : Data → Option BodySignature
first_signature_of d = list_of d >>= first_of

unfoldable pub dsse_spec_of : Data → Option DsseSpec
dsse_spec_of d = do
  envelope_hash ← required hashed_part_of (codes "envelopeHash") d
  payload_hash ← required hashed_part_of (codes "payloadHash") d
  signature ← required first_signature_of (codes "signatures") d
  Some (record { envelope_hash = envelope_hash; payload_hash = payload_hash; signature = signature })

unfoldable pub dsse_body_of : Data → Option DsseBody
dsse_body_of d = do
  kind ← required_text (codes "kind") d
  api_version ← required_text (codes "apiVersion") d
  spec ← required dsse_spec_of (codes "spec") d
  Some (record { kind = kind; api_version = api_version; spec = spec })

-- ---- the entry that a log has to have of a signed envelope

abbrev pub sha256_of : List ℕ → HashedPart
sha256_of bytes = record { algorithm = codes "sha256"; value = sha256 bytes }

-- about an envelope of this text and payload, with this signature, which the certificate of this PEM verifies
abbrev pub body_about : List ℕ → List ℕ → List ℕ → List ℕ → DsseBody
body_about envelope payload signature pem = record {
  kind = codes "dsse";
  api_version = codes "0.0.1";
  spec = record {
    envelope_hash = sha256_of envelope;
    payload_hash = sha256_of payload;
    signature = record { signature = signature; verifier = pem };
  };
}
