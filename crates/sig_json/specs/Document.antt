-- *Document*: the tree that a text is (RFC 8259, as `serde_json` reads it), where no number in it is held as a float.
use Rattle.std.specs.Prelude.{ℕ, List, Option, Some, None, Result, Ok, Err, if◌then◌else◌}
use Rattle.std.specs.Str.{is_utf8}
use Rattle.serde_json.specs.Data.{Data}
use Rattle.serde_json.specs.Read.{read}
use Rattle.serde_json.specs.Written.{has_float}
use Rattle.sig_json.specs.declared.error.DocumentError.{DocumentError}
use Rattle.sig_json.specs.declared.error.DocumentError.TheVariants.{NotJson, Float}

-- a tree with a float in it is refused, and a text without a reading before that
abbrev pub without_float : Option Data → Result Data DocumentError
without_float None = Err NotJson
without_float (Some tree) = if has_float tree then Err Float else Ok tree

-- the tree of a text of UTF-8, or why there is none
unfoldable pub document_of : List ℕ → Result Data DocumentError
document_of text = if is_utf8 text then without_float (read text) else Err NotJson
