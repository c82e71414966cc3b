-- *Logged once*: what the body of a log's entry says of an envelope and its one signature, member by member (Rekor's
-- entry of kind `dsse`, version 0.0.1): it is a logged envelope, whose hashes are spelled in lower-case hexadecimal,
-- and it has no second signature.
use Rattle.std.specs.Prelude.{◌≡◌, ℕ, List, codes, Some, Ok}
use Rattle.hex.specs.Hex.{encode_lower}
use Rattle.sig_base.specs.Sha256.{sha256}
use Rattle.sig_certificate.specs.Pem.{pem_of}
use Rattle.sig_checked_bundle.specs.LoggedEnvelope.{IsLoggedEnvelope}
use Rattle.sig_dsse.specs.SaidMembers.{HasText}
use Rattle.sig_json.specs.Data.{Data, array, item, no_items}
use Rattle.sig_json.specs.Document.{document_of}
use Rattle.sig_json.specs.Find.{get}

-- the member of this name is a hash whose text is this
pub record HasDigits (name : List ℕ) (d : Data) (digits : List ℕ) : Type 0 where
  pub part : Data
  pub held : get name d ≡ Some part
  pub value : HasText (codes "value") part digits

-- the body spells both hashes in lower case, and has one signature
pub record IsSpelled (envelope payload body : List ℕ) : Type 0 where
  pub tree : Data
  pub document : document_of body ≡ Ok tree
  pub spec : Data
  pub said : get (codes "spec") tree ≡ Some spec
  pub envelope_hash : HasDigits (codes "envelopeHash") spec (encode_lower (sha256 envelope))
  pub payload_hash : HasDigits (codes "payloadHash") spec (encode_lower (sha256 payload))
  pub only : Data
  pub signatures : get (codes "signatures") spec ≡ Some (array (item only no_items))

abbrev pub IsLoggedOnce : List ℕ → List ℕ → List ℕ → List ℕ → List ℕ → Type 0
IsLoggedOnce envelope payload signature certificate body =
    IsLoggedEnvelope envelope payload signature (pem_of certificate) body × IsSpelled envelope payload body
