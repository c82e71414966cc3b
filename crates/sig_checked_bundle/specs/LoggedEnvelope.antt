-- *Logged envelope*: what the body of a log's entry says of a signed envelope, member by member (Rekor's entry of kind
-- `dsse`, version 0.0.1). Other members are ignored, and so are all signatures except the first.
use Rattle.std.specs.Prelude.{◌≡◌, ◌↔◌, ℕ, List, codes, Some, Ok}
use Rattle.sig_base.specs.Sha256.{sha256}
use Rattle.sig_certificate.specs.Pem.{pem_of}
use Rattle.sig_dsse.specs.SaidMembers.{HasBytes, HasHash, HasText}
use Rattle.sig_dsse.specs.declared.artifact_digest.ArtifactDigest.{ArtifactDigest}
use Rattle.sig_json.specs.Data.{Data, Items, array, item}
use Rattle.sig_json.specs.Document.{document_of}
use Rattle.sig_json.specs.Find.{get}
use Rattle.sig_checked_bundle.specs.Checked.{Checked}
use Rattle.sig_checked_bundle.specs.LogBody.{IsLogBody}
use Rattle.sig_checked_bundle.specs.declared.content_check.CheckedContent.TheVariants.{Dsse}

-- the member of this name is a hash by the algorithm, and it is this one
pub record HasDigest (name : List ℕ) (d : Data) (algorithm hash : List ℕ) : Type 0 where
  pub part : Data
  pub held : get name d ≡ Some part
  pub by : HasText (codes "algorithm") part algorithm
  pub value : HasHash (codes "value") part hash

-- the body is about an envelope of this text, with this payload and this signature, which the certificate of this PEM
-- verifies
pub record IsLoggedEnvelope (envelope payload signature pem body : List ℕ) : Type 0 where
  pub tree : Data
  pub document : document_of body ≡ Ok tree
  pub kind : HasText (codes "kind") tree (codes "dsse")
  pub version : HasText (codes "apiVersion") tree (codes "0.0.1")
  pub spec : Data
  pub said : get (codes "spec") tree ≡ Some spec
  pub envelope_hash : HasDigest (codes "envelopeHash") spec (codes "sha256") (sha256 envelope)
  pub payload_hash : HasDigest (codes "payloadHash") spec (codes "sha256") (sha256 payload)
  pub first : Data
  pub others : Items
  pub signatures : get (codes "signatures") spec ≡ Some (array (item first others))
  pub signed : HasBytes (codes "signature") first signature
  pub verifier : HasBytes (codes "verifier") first pem

-- The body of the log entry of a checked bundle with an envelope is accepted if and only if it has these members.
abbrev pub EnvelopesAreLogged : Type 0
EnvelopesAreLogged =
    (c : Checked) (digest encoding : List ℕ) (digests : List ArtifactDigest) (envelope payload : List ℕ)
    → c.content ≡ Dsse encoding digests envelope payload
    → IsLogBody c digest ↔
    IsLoggedEnvelope envelope payload c.signature (pem_of c.certificate.whole) c.entry.canonicalized_body
