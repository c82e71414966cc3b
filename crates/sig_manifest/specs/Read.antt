-- A text as a manifest with the rows of its `accepted`, or the first cause why it is not one.
use Rattle.std.specs.Prelude.{◌≡◌, ℕ, List, Option, Some, None, Result, Ok, Err}
use Rattle.sig_base.specs.declared.checker.AcceptedRow.{AcceptedRow}
use Rattle.sig_json.specs.Data.{Data}
use Rattle.sig_json.specs.Document.{document_of}
use Rattle.sig_json.specs.Record.{record_in}
use Rattle.sig_json.specs.declared.error.DocumentError.TheVariants as document
use Rattle.sig_json.specs.declared.error.JsonError.{JsonError}
use Rattle.sig_manifest.specs.Errors.{of_json}
use Rattle.sig_manifest.specs.Manifest.{Gate, manifest_view, with_accepted}
use Rattle.sig_manifest.specs.Unknown.{AreNamed, IsUnknownPolicy, IsUnknownRoot, unknown_in}
use Rattle.sig_manifest.specs.declared.error.ManifestError.{ManifestError}
use Rattle.sig_manifest.specs.declared.error.ManifestError.TheVariants as manifest
use Rattle.sig_manifest.specs.declared.manifest.Manifest.{Manifest}
use Rattle.sig_request.specs.Accepted.{with_rows}

-- a manifest and the rows that are accepted
abbrev pub Parts : Type 0
Parts = Gate × List AcceptedRow

abbrev pub parts_view : Manifest × List AcceptedRow → Parts
parts_view parts = (manifest_view parts.0, parts.1)

abbrev pub unless_unknown : Parts → Option ManifestError → Result Parts ManifestError
unless_unknown parts None = Ok parts
unless_unknown parts (Some error) = Err error

abbrev pub manifest_of : Result Parts JsonError → Result Parts ManifestError
manifest_of (Err error) = Err (of_json error)
manifest_of (Ok parts) = unless_unknown parts (unknown_in parts.0)

abbrev pub manifest_in : List ℕ → Result Parts ManifestError
manifest_in text = manifest_of (record_in (with_rows with_accepted) text)

-- ---- the same in the words of the text

-- the text is a document that means this manifest with these rows, whatever its artifacts name
pub record IsReadAs (text : List ℕ) (parts : Parts) : Type 0 where
  pub tree : Data
  pub document : document_of text ≡ Ok tree
  pub members : with_rows with_accepted tree ≡ Some parts

-- the text is this manifest with these rows: it means this, and what its artifacts name is there
pub record IsManifestWith (text : List ℕ) (parts : Parts) : Type 0 where
  pub read : IsReadAs text parts
  pub named : AreNamed parts.0

-- the text is a document whose members are not those of a manifest
pub record HasOtherMembers (text : List ℕ) : Type 0 where
  pub tree : Data
  pub document : document_of text ≡ Ok tree
  pub members : with_rows with_accepted tree ≡ None

-- why a text is not a manifest: the first cause
abbrev pub IsRefused : List ℕ → ManifestError → Type 0
IsRefused text manifest.NotJson = document_of text ≡ Err document.NotJson
IsRefused text manifest.Float = document_of text ≡ Err document.Float
IsRefused text manifest.Member = HasOtherMembers text
IsRefused text (manifest.UnknownRoot place) = (parts : Parts) × IsReadAs text parts × IsUnknownRoot parts.0 place
IsRefused text (manifest.UnknownPolicy place) = (parts : Parts) × IsReadAs text parts × IsUnknownPolicy parts.0 place
IsRefused text manifest.OutOfMemory = Unit {0}
