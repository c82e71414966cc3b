-- *Unpadded base64*: bytes as text of the standard alphabet, without padding and without stray bits (RFC 4648 sections
-- 3.2 and 4).
use Rattle.std.specs.Prelude.{ℕ, List, Option}
use Rattle.std.specs.Result.{result_ok}
use Rattle.base64.specs.Engines.{standard_no_pad}
use Rattle.base64.specs.GeneralPurpose.{encode_of, decode_of}

-- the text of some bytes
unfoldable pub unpadded_text : List ℕ → List ℕ
unpadded_text bytes = encode_of standard_no_pad bytes

-- the bytes of a text that is exactly such, `None` for any other
unfoldable pub unpadded_bytes : List ℕ → Option (List ℕ)
unpadded_bytes text = result_ok (decode_of standard_no_pad text)
