-- *Unsigned layer*: a layer that is to be signed: its raw data is the payload's text.
use Rattle.std.specs.Prelude.{ℕ, List, ◌++◌, codes, None}
use Rattle.hex.specs.Hex.{encode_lower}
use Rattle.sig_base.specs.Sha256.{sha256}
use Rattle.sig_json_text.specs.Canonical.{canon_string}
use Rattle.sig_payload.specs.Signing.{plain_signing}
use Rattle.sig_cosign.specs.Layer.{Layer}

-- the digest of some bytes, as registries write it: `sha256:` and lower-case hexadecimal digits (OCI image
-- specification, "Digests")
abbrev pub digest_of : List ℕ → List ℕ
digest_of bytes = codes "sha256:" ++ encode_lower (sha256 bytes)

-- the payload of an image with this reference and this digest of its manifest; both are quoted as in canonical JSON
-- (RFC 8785 section 3.2.2.2)
unfoldable pub unsigned_text : List ℕ → List ℕ → List ℕ
unsigned_text reference digest =
    codes "{\"critical\":{\"identity\":{\"docker-reference\":" ++ (canon_string reference
    ++ (codes "},\"image\":{\"docker-manifest-digest\":" ++ (canon_string digest
    ++ codes "},\"type\":\"cosign container image signature\"},\"optional\":null}")))

abbrev pub unsigned_layer : List ℕ → List ℕ → Layer
unsigned_layer reference digest = record {
  simple_signing = plain_signing reference digest;
  oci_digest = digest_of (unsigned_text reference digest);
  certificate_signature = None;
  bundle = None;
  signature = None;
  raw_data = unsigned_text reference digest;
}
