-- The media types of the Sigstore bundle format (sigstore_bundle.proto, the comment on media_type).
use Rattle.std.specs.Prelude.{◌≡◌, ◌⊎◌, ℕ, List, Option, Some, None, Result, IfOk, OnErr, codes, if◌then◌else◌}
use Rattle.std.specs.Result.{result_ok}
use Rattle.std.specs.Str.{bytes_eq}
use Rattle.sig_checked_bundle.specs.declared.version.Version.{Version}
use Rattle.sig_checked_bundle.specs.declared.version.Version.TheVariants.{Bundle0_1, Bundle0_2, Bundle0_3}

-- the media type that is written
abbrev pub media_type : Version → List ℕ
media_type Bundle0_1 = codes "application/vnd.dev.sigstore.bundle+json;version=0.1"
media_type Bundle0_2 = codes "application/vnd.dev.sigstore.bundle+json;version=0.2"
media_type Bundle0_3 = codes "application/vnd.dev.sigstore.bundle.v0.3+json"

-- the other name of 0.3, in the form of the older versions: it is read, and never written
abbrev pub older_media_type : List ℕ
older_media_type = codes "application/vnd.dev.sigstore.bundle+json;version=0.3"

-- a text names a version
abbrev pub IsMediaType : List ℕ → Version → Type 0
IsMediaType text version = (text ≡ media_type version) ⊎ ((text ≡ older_media_type) × (version ≡ Bundle0_3))

-- the version that a text names
abbrev pub version_of : List ℕ → Option Version
version_of text =
    if bytes_eq text (media_type Bundle0_1) then Some Bundle0_1 else
    if bytes_eq text (media_type Bundle0_2) then Some Bundle0_2 else
    if bytes_eq text (media_type Bundle0_3) then Some Bundle0_3 else
    if bytes_eq text older_media_type then Some Bundle0_3 else None

-- the result of a reader of media types: the version that the text names; an error if and only if it does not name one
pub record IsVersionRead (text : List ℕ) (read : Result Version (Unit {0})) : Type 0 where
  pub named : IfOk read (IsMediaType text)
  pub refused : OnErr read ((version : Version) → ¬ IsMediaType text version)
  pub value : result_ok read ≡ version_of text
