-- What the body of a log entry says against what it has to say (Rekor's entries of kind `dsse` and `hashedrekord`,
-- version 0.0.1): the first part that differs, in the order in which the body is read.
use Rattle.std.specs.Prelude.{ℕ, List, [], ◌∷◌, codes, Bool, false, length, nat_le, Option, Some, None, option_map}
use Rattle.std.specs.Prelude.{Result, Ok, Err, if◌then◌else◌}
use Rattle.std.specs.Str.{bytes_eq}
use Rattle.hex.specs.Hex.{encode_lower}
use Rattle.sig_base.specs.Base64.{base64_text}
use Rattle.sig_base.specs.OptionSteps.{◌>>=◌, or_else}
use Rattle.sig_base.specs.Sha256.{sha256}
use Rattle.sig_json.specs.Writing.{TreeMember}
use Rattle.sig_certificate.specs.Pem.{pem_of}
use Rattle.sig_checked_bundle.specs.Checked.{Checked}
use Rattle.sig_checked_bundle.specs.declared.content_check.CheckedContent.{CheckedContent}
use Rattle.sig_checked_bundle.specs.declared.content_check.CheckedContent.TheVariants.{Dsse, MessageSignature}
use Rattle.sig_dsse.specs.Digest.{digest_bytes}
use Rattle.sig_dsse.specs.declared.artifact_digest.ArtifactDigest.{ArtifactDigest}
use Rattle.sig_json.specs.Data.{Data, string}
use Rattle.sig_json.specs.Document.{document_of}
use Rattle.sig_json.specs.Find.{as_str, at, get}
use Rattle.sig_json.specs.Member.{required_hash}
use Rattle.sig_json.specs.declared.error.DocumentError.{DocumentError}
use Rattle.sig_shown.specs.ShownValues.{text_row}
use Rattle.sig_evidence.specs.declared.body.Part.{Part}

-- ---- parts

-- a part by its name, the text that it has to be, and the text that it is, if it is one
pub record BodyPart : Type 0 where
  pub name : List ℕ
  pub expected : List ℕ
  pub got : Option (List ℕ)

-- what was borrowed
abbrev pub part_of : Part → BodyPart
part_of part = record {
  name = part.name.now;
  expected = part.expected.now;
  got = option_map (λ text. text.now) part.got;
}

abbrev pub is_text : List ℕ → Option (List ℕ) → Bool
is_text text None = false
is_text text (Some other) = bytes_eq other text

-- the part, if it is not the text that it has to be, or `None`
abbrev pub differing : List ℕ → List ℕ → Option (List ℕ) → Option BodyPart
differing name expected got =
    if is_text expected got then None else Some (record { name = name; expected = expected; got = got })

-- ---- where parts are

abbrev pub member_of : List ℕ → Option Data → Option Data
member_of name found = found >>= get name

abbrev pub text_of : List ℕ → Option Data → Option (List ℕ)
text_of name found = member_of name found >>= as_str

-- a hash, in lower-case hexadecimal
abbrev pub digits_of : List ℕ → Option Data → Option (List ℕ)
digits_of name found = option_map encode_lower (found >>= required_hash name)

abbrev pub first_item : Option Data → Option Data
first_item found = found >>= at 0

-- ---- what differs of every body

-- the kind of the entry, and its version
abbrev pub kind_difference : List ℕ → Option Data → Option BodyPart
kind_difference kind d = or_else
    (differing (codes "kind") kind (text_of (codes "kind") d))
    (differing (codes "apiVersion") (codes "0.0.1") (text_of (codes "apiVersion") d))

-- the algorithm of a hash, and its digits
abbrev pub hash_difference : List ℕ → List ℕ → List ℕ → Option Data → Option (List ℕ) → Option BodyPart
hash_difference algorithm_name name digits hash got = or_else
    (differing algorithm_name (codes "sha256") (text_of (codes "algorithm") hash))
    (differing name digits got)

-- a signature, and the certificate that verifies it, each the text of its own member
abbrev pub signature_difference : List ℕ → List ℕ → Option (List ℕ) → Option (List ℕ) → Option BodyPart
signature_difference signature certificate got_signature got_certificate = or_else
    (differing (codes "signature") signature got_signature)
    (differing (codes "certificate") certificate got_certificate)

-- ---- about an envelope

-- its hash
abbrev pub envelope_difference : List ℕ → Option (List ℕ) → Option Data → Option BodyPart
envelope_difference digits got spec = hash_difference (codes "envelopeHashAlgorithm") (codes "envelopeHash") digits
    (member_of (codes "envelopeHash") spec) got

-- the hash of its payload
abbrev pub payload_difference : List ℕ → Option (List ℕ) → Option Data → Option BodyPart
payload_difference digits got spec = hash_difference (codes "payloadHashAlgorithm") (codes "payloadHash") digits
    (member_of (codes "payloadHash") spec) got

abbrev pub hashes_difference : List ℕ → List ℕ → Option (List ℕ) → Option (List ℕ) → Option Data → Option BodyPart
hashes_difference envelope payload got_envelope got_payload spec =
    or_else (envelope_difference envelope got_envelope spec) (payload_difference payload got_payload spec)

-- the first signature, the only one that counts
abbrev pub first_difference : List ℕ → List ℕ → Option Data → Option BodyPart
first_difference signature certificate first =
    signature_difference signature certificate (text_of (codes "signature") first) (text_of (codes "verifier") first)

abbrev pub dsse_difference_in : List ℕ → List ℕ → List ℕ → List ℕ → Option (List ℕ) → Option (List ℕ) → Option Data
    → Option Data → Option BodyPart
dsse_difference_in envelope payload signature certificate got_envelope got_payload d spec =
    or_else (kind_difference (codes "dsse") d)
    (or_else (hashes_difference envelope payload got_envelope got_payload spec)
    (first_difference signature certificate (first_item (member_of (codes "signatures") spec))))

-- the digits of a hash may be in lower or upper case
abbrev pub dsse_difference : List ℕ → List ℕ → List ℕ → List ℕ → Option Data → Option BodyPart
dsse_difference envelope payload signature certificate d =
    let spec = member_of (codes "spec") d in
    dsse_difference_in envelope payload signature certificate
    (digits_of (codes "value") (member_of (codes "envelopeHash") spec))
    (digits_of (codes "value") (member_of (codes "payloadHash") spec)) d spec

-- ---- about an artifact

-- the digest of the artifact, in lower case
abbrev pub digest_difference : List ℕ → Option Data → Option BodyPart
digest_difference digits hash = hash_difference (codes "digestAlgorithm") (codes "digest") digits hash
    (text_of (codes "value") hash)

abbrev pub held_difference : List ℕ → List ℕ → Option Data → Option BodyPart
held_difference signature certificate held = signature_difference signature certificate
    (text_of (codes "content") held) (text_of (codes "content") (member_of (codes "publicKey") held))

abbrev pub hashedrekord_difference_in : List ℕ → List ℕ → List ℕ → Option Data → Option Data → Option BodyPart
hashedrekord_difference_in digits signature certificate d spec =
    or_else (kind_difference (codes "hashedrekord") d)
    (or_else (digest_difference digits (member_of (codes "hash") (member_of (codes "data") spec)))
    (held_difference signature certificate (member_of (codes "signature") spec)))

abbrev pub hashedrekord_difference : List ℕ → List ℕ → List ℕ → Option Data → Option BodyPart
hashedrekord_difference digits signature certificate d =
    hashedrekord_difference_in digits signature certificate d (member_of (codes "spec") d)

-- ---- of a bundle

abbrev pub content_difference : CheckedContent → List ℕ → List ℕ → List ℕ → Option Data → Option BodyPart
content_difference MessageSignature digest signature certificate d =
    hashedrekord_difference (encode_lower digest) signature certificate d
content_difference (Dsse pae digests envelope payload) digest signature certificate d =
    dsse_difference (encode_lower (sha256 envelope)) (encode_lower (sha256 payload)) signature certificate d

-- for a bundle and the digest of the artifact; signature and certificate (PEM, RFC 7468 section 5.1) are in base64
abbrev pub body_difference : Checked → ArtifactDigest → Data → Option BodyPart
body_difference c digest d = content_difference c.content (digest_bytes digest) (base64_text c.signature)
    (base64_text (pem_of c.certificate.whole)) (Some d)

-- ---- rows

-- how many bytes a text has at most that is shown
abbrev pub most_compared : ℕ
most_compared = 256

abbrev pub short : Option (List ℕ) → Option Data
short None = None
short (Some text) = if nat_le (length text) most_compared then Some (string text) else None

-- if none of these parts differs, another member is there
abbrev pub part_rows : Option BodyPart → List TreeMember
part_rows None = text_row (codes "part") (codes "members") ∷ []
part_rows (Some part) =
    text_row (codes "part") part.name
    ∷ (codes "expected", short (Some part.expected))
    ∷ (codes "got", short part.got)
    ∷ []

-- a body that is not a document has no parts
abbrev pub difference_rows : Checked → ArtifactDigest → Result Data DocumentError → List TreeMember
difference_rows c digest (Ok d) = part_rows (body_difference c digest d)
difference_rows c digest (Err why) = text_row (codes "part") (codes "json") ∷ []

abbrev pub body_rows : Checked → ArtifactDigest → List TreeMember
body_rows c digest = difference_rows c digest (document_of c.entry.canonicalized_body)
