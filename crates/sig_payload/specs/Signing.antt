-- *Simple signing*: the payload that `cosign` signs of a container image, and the text that it is read from (simple
-- signing format, containers/image).
use Rattle.std.specs.Prelude.{ℕ, ℤ, List, [], ◌∷◌, codes, Option, Some, None, option_map}
use Rattle.std.specs.Result.{result_ok}
use Rattle.sig_base.specs.OptionSteps.{◌>>=◌}
use Rattle.sig_json.specs.Data.{Data}
use Rattle.sig_json.specs.Kinds.{text_of}
use Rattle.sig_json.specs.Member.{not_null, optional, required, required_text, there_or}
use Rattle.sig_json.specs.NumberKinds.{i64_number_of}
use Rattle.sig_json.specs.Only.{without}
use Rattle.sig_json.specs.Record.{record_in}
use Rattle.sig_json.specs.Tree.{document_tree}
use Rattle.sig_payload.specs.declared.simple_signing.Critical.{Critical}
use Rattle.sig_payload.specs.declared.simple_signing.Identity.{Identity}
use Rattle.sig_payload.specs.declared.simple_signing.Image.{Image}
use Rattle.sig_payload.specs.declared.simple_signing.Optional.{Optional}
use Rattle.sig_payload.specs.declared.simple_signing.SimpleSigning.{SimpleSigning}

-- what a signer says beside the image: `extra` is an object of the annotations of other names
pub record Beside : Type 0 where
  pub creator : Option (List ℕ)
  pub timestamp : Option ℤ
  pub extra : Data

pub record Signing : Type 0 where
  pub critical : Critical
  pub optional : Option Beside

-- ---- the payload that a value of the code is

abbrev pub seen_optional : Optional → Beside
seen_optional o = record { creator = o.creator; timestamp = o.timestamp; extra = document_tree o.extra }

abbrev pub seen_signing : SimpleSigning → Signing
seen_signing s = record { critical = s.critical; optional = option_map seen_optional s.optional }

-- ---- the members

unfoldable pub identity_in : Data → Option Identity
identity_in d = required_text (codes "docker-reference") d >>= λ text. Some (record { docker_reference = text })

unfoldable pub image_in : Data → Option Image
image_in d =
    required_text (codes "docker-manifest-digest") d >>= λ text. Some (record { docker_manifest_digest = text })

unfoldable pub critical_in : Data → Option Critical
critical_in d = do
  identity ← required identity_in (codes "identity") d
  image ← required image_in (codes "image") d
  type_name ← required_text (codes "type") d
  Some (record { identity = identity; image = image; type_name = type_name })

-- the names that are not annotations
abbrev pub own_names : List (List ℕ)
own_names = codes "creator" ∷ codes "timestamp" ∷ []

-- `extra` is the object without its members of these names
unfoldable pub optional_in : Data → Option Beside
optional_in d = do
  creator ← optional text_of (codes "creator") d
  timestamp ← optional i64_number_of (codes "timestamp") d
  Some (record { creator = creator; timestamp = timestamp; extra = without own_names d })

-- a value that is there: null is the same as absent
abbrev pub unless_null : {A : Type 0} → (Data → Option A) → Data → Option (Option A)
unless_null kind d = there_or (Some None) (λ v. option_map Some (kind v)) (not_null d)

abbrev pub optional_in_payload : Data → Option (Option Beside)
optional_in_payload = optional optional_in (codes "optional")

unfoldable pub signing_in : Data → Option Signing
signing_in d = do
  critical ← required critical_in (codes "critical") d
  beside ← optional_in_payload d
  Some (record { critical = critical; optional = beside })

-- the payload that bytes are, `None` if they are not a document without floats or a member is not as it has to be
unfoldable pub signing_of : List ℕ → Option Signing
signing_of bytes = result_ok (record_in signing_in bytes)

-- ---- a payload that is made

abbrev pub cosign_type : List ℕ
cosign_type = codes "cosign container image signature"

-- the payload of this type for an image with this reference and this digest of its manifest, without annotations
abbrev pub signing_about : List ℕ → List ℕ → List ℕ → Signing
signing_about type_name reference digest = record {
  critical = record {
    identity = record { docker_reference = reference };
    image = record { docker_manifest_digest = digest };
    type_name = type_name;
  };
  optional = None;
}

abbrev pub plain_signing : List ℕ → List ℕ → Signing
plain_signing = signing_about cosign_type
