-- Bytes that may be a text.
use Rattle.std.specs.Prelude.{ℕ, List, Option, Some, None, if◌then◌else◌}
use Rattle.std.specs.Str.{is_utf8}

-- the bytes themselves, if they are UTF-8 (RFC 3629 section 4)
unfoldable pub utf8_text : List ℕ → Option (List ℕ)
utf8_text bytes = if is_utf8 bytes then Some bytes else None
