-- *Texts that stand for bytes* in Rekor's API, of any length: hexadecimal digits in either case (RFC 4648 section 8),
-- padded base64 (RFC 4648 section 4), and the canonical JSON (RFC 8785) of a body.
use Rattle.std.specs.Prelude.{ℕ, List, Option, Result, Ok, Err}
use Rattle.std.specs.Option.{ok_or}
use Rattle.std.specs.Result.{result_ok}
use Rattle.hex.specs.Hex.{decode_of}
use Rattle.sig_base.specs.Base64.{base64_bytes}
use Rattle.sig_json_text.specs.declared.error.CanonicalError.{CanonicalError}
use Rattle.sig_signing.specs.declared.conversion_error.ConversionError.{ConversionError}
use Rattle.sig_signing.specs.declared.conversion_error.ConversionError.TheVariants.{Refused}

-- the bytes that digits are, `None` for another text
unfoldable pub hex_bytes : List ℕ → Option (List ℕ)
hex_bytes text = result_ok (decode_of text)

abbrev pub hex_or_refused : List ℕ → Result (List ℕ) ConversionError
hex_or_refused text = ok_or (hex_bytes text) Refused

-- the same for a text in a list, whatever its index
abbrev pub hex_at : ℕ → List ℕ → Result (List ℕ) ConversionError
hex_at index = hex_or_refused

abbrev pub base64_or_refused : List ℕ → Result (List ℕ) ConversionError
base64_or_refused text = ok_or (base64_bytes text) Refused

abbrev pub canonical_or_refused : Result (List ℕ) CanonicalError → Result (List ℕ) ConversionError
canonical_or_refused (Ok text) = Ok text
canonical_or_refused (Err e) = Err Refused
