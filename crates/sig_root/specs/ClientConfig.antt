-- *Client configuration*: what a client of Sigstore is configured with (Sigstore trust root format,
-- ClientTrustConfig). Only its trusted root is read.
use Rattle.std.specs.Prelude.{◌≡◌, ◌⊎◌, ℕ, List, codes, Option, Some, None, Result, Ok, Err}
use Rattle.sig_base.specs.declared.error.SigstoreError.{SigstoreError}
use Rattle.sig_base.specs.declared.error.SigstoreError.TheVariants.{SigstorePKIFileMalformedError}
use Rattle.sig_base.specs.declared.fault.PkiFault.TheVariants.{NotReadable, TrustedRootMissing}
use Rattle.sig_json.specs.Data.{Data, Members, null}
use Rattle.sig_json.specs.Document.{document_of}
use Rattle.sig_json.specs.Find.{as_object, get}
use Rattle.sig_json.specs.Member.{optional}
use Rattle.sig_json.specs.Record.{record_in}
use Rattle.sig_json.specs.declared.error.JsonError.{JsonError}
use Rattle.sig_root.specs.RootRecord.{trusted_root_of}
use Rattle.sig_root.specs.declared.record.TrustedRoot.{TrustedRoot}

-- ---- the members

unfoldable pub configured_root_of : Data → Option (Option TrustedRoot)
configured_root_of d = optional trusted_root_of (codes "trustedRoot") d

-- the trusted root that the configuration of a text has, if any, or why the text is not a configuration
abbrev pub configured_root_in : List ℕ → Result (Option TrustedRoot) JsonError
configured_root_in = record_in configured_root_of

-- the trusted root has to be there
abbrev pub there : Result (Option TrustedRoot) JsonError → Result TrustedRoot SigstoreError
there (Ok (Some root)) = Ok root
there (Ok None) = Err (SigstorePKIFileMalformedError TrustedRootMissing)
there (Err why) = Err (SigstorePKIFileMalformedError NotReadable)

abbrev pub configured_root_of_text : List ℕ → Result TrustedRoot SigstoreError
configured_root_of_text text = there (configured_root_in text)

-- ---- what that means

-- the text is a JSON document without floats, an object whose member `trustedRoot` is read as this trusted root
pub record HasConfiguredRoot (text : List ℕ) (root : TrustedRoot) : Type 0 where
  pub tree : Data
  pub value : Data
  pub document : document_of text ≡ Ok tree
  pub member : get (codes "trustedRoot") tree ≡ Some value
  pub read : trusted_root_of value ≡ Some root

-- the text is a JSON document without floats, an object without the member `trustedRoot`, or with a null there
pub record LacksConfiguredRoot (text : List ℕ) : Type 0 where
  pub tree : Data
  pub members : Members
  pub document : document_of text ≡ Ok tree
  pub object : as_object tree ≡ Some members
  pub absent : (value : Data) → get (codes "trustedRoot") tree ≡ Some value → value ≡ null

-- the text is a client's configuration
abbrev pub IsClientConfig : List ℕ → Type 0
IsClientConfig text = LacksConfiguredRoot text ⊎ ((root : TrustedRoot) × HasConfiguredRoot text root)
