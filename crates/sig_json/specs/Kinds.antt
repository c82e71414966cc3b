-- The kinds of the values of member tables: what a value means under a kind, or none where it is of another.
use Rattle.std.specs.Prelude.{ℕ, ℤ, List, [], ◌∷◌, Option, Some}
use Rattle.std.specs.Result.{result_ok}
use Rattle.sig_base.specs.OptionSteps.{◌>>=◌}
use Rattle.hex.specs.Hex.{decode_sized}
use Rattle.serde_json.specs.Data.{Data}
use Rattle.serde_json.specs.Find.{as_str}
use Rattle.sig_base.specs.Base64.{base64_bytes}
use Rattle.sig_json.specs.Integer.{integer_of, in_u64, in_i64}
use Rattle.sig_json.specs.Members.{members_of}

-- a text, as its bytes of UTF-8
unfoldable pub text_of : Data → Option (List ℕ)
text_of d = as_str d

-- a text of padded standard base64 (RFC 4648 section 4)
unfoldable pub bytes_of : Data → Option (List ℕ)
bytes_of d = as_str d >>= base64_bytes

-- a text of 64 hexadecimal digits in either case (RFC 4648 section 8)
unfoldable pub hash_of : Data → Option (List ℕ)
hash_of d = as_str d >>= λ text. result_ok (decode_sized text 32)

unfoldable pub u64_of : Data → Option ℕ
u64_of d = integer_of d >>= in_u64

unfoldable pub i64_of : Data → Option ℤ
i64_of d = integer_of d >>= in_i64

-- the texts that these members are, by their names; a null is not a text
abbrev pub texts_by_name : List (List ℕ × Data) → Option (List (List ℕ × List ℕ))
texts_by_name [] = Some []
texts_by_name (m ∷ ms) = text_of m.1 >>= λ text. texts_by_name ms >>= λ texts. Some ((m.0, text) ∷ texts)

-- an object whose every member is a text, in byte order of the names
unfoldable pub text_map_of : Data → Option (List (List ℕ × List ℕ))
text_map_of d = members_of d >>= texts_by_name
