-- *Logged artifact*: what the body of a log's entry says of a signature over an artifact, member by member (Rekor's
-- entry of kind `hashedrekord`, version 0.0.1). It has no other members.
use Rattle.std.specs.Prelude.{◌≡◌, ◌↔◌, ℕ, List, [], ◌∷◌, codes, Some, Ok, option_map}
use Rattle.std.specs.Map.{keys_of}
use Rattle.hex.specs.Hex.{encode_lower}
use Rattle.sig_base.specs.Base64.{base64_text}
use Rattle.sig_certificate.specs.Pem.{pem_of}
use Rattle.sig_dsse.specs.SaidMembers.{HasText}
use Rattle.sig_json.specs.Data.{Data}
use Rattle.sig_json.specs.Document.{document_of}
use Rattle.sig_json.specs.Find.{get}
use Rattle.sig_json.specs.Members.{members_of}
use Rattle.sig_checked_bundle.specs.Checked.{Checked}
use Rattle.sig_checked_bundle.specs.LogBody.{IsLogBody}
use Rattle.sig_checked_bundle.specs.declared.content_check.CheckedContent.TheVariants.{MessageSignature}

-- the value is an object whose members have these names, in byte order, and no others
abbrev pub HasExactly : List (List ℕ) → Data → Type 0
HasExactly names d = option_map keys_of (members_of d) ≡ Some names

-- the body is about an artifact of this SHA-256 digest, with this signature, which the certificate of this PEM verifies
pub record IsLoggedArtifact (digest signature pem body : List ℕ) : Type 0 where
  pub tree : Data
  pub document : document_of body ≡ Ok tree
  pub members : HasExactly (codes "apiVersion" ∷ codes "kind" ∷ codes "spec" ∷ []) tree
  pub version : HasText (codes "apiVersion") tree (codes "0.0.1")
  pub kind : HasText (codes "kind") tree (codes "hashedrekord")
  pub spec : Data
  pub has_spec : get (codes "spec") tree ≡ Some spec
  pub spec_members : HasExactly (codes "data" ∷ codes "signature" ∷ []) spec
  -- `spec.data.hash`: the artifact's
  pub hashed : Data
  pub has_hashed : get (codes "data") spec ≡ Some hashed
  pub hashed_members : HasExactly (codes "hash" ∷ []) hashed
  pub hash : Data
  pub has_hash : get (codes "hash") hashed ≡ Some hash
  pub hash_members : HasExactly (codes "algorithm" ∷ codes "value" ∷ []) hash
  pub algorithm : HasText (codes "algorithm") hash (codes "sha256")
  pub value : HasText (codes "value") hash (encode_lower digest)
  -- `spec.signature`: the signature, and under `publicKey` the certificate
  pub signed : Data
  pub has_signed : get (codes "signature") spec ≡ Some signed
  pub signed_members : HasExactly (codes "content" ∷ codes "publicKey" ∷ []) signed
  pub signature_content : HasText (codes "content") signed (base64_text signature)
  pub key : Data
  pub has_key : get (codes "publicKey") signed ≡ Some key
  pub key_members : HasExactly (codes "content" ∷ []) key
  pub key_content : HasText (codes "content") key (base64_text pem)

-- The body of the log entry of a checked bundle with a signature over an artifact is accepted if and only if it has
-- these members.
abbrev pub ArtifactsAreLogged : Type 0
ArtifactsAreLogged =
    (c : Checked) (digest : List ℕ) → c.content ≡ MessageSignature
    → IsLogBody c digest ↔
    IsLoggedArtifact digest c.signature (pem_of c.certificate.whole) c.entry.canonicalized_body
