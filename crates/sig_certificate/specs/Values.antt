-- *Extension values*, the second half: what the value of an extension says. Each is the whole value; another form says
-- nothing.
use Rattle.std.specs.Prelude.{ℕ, ◌+◌, ◌*◌, List, [], ◌∷◌, Bool, false, not, ◌&&◌, Option, Some, None, option_map}
use Rattle.std.specs.Prelude.{bit_and, nat_lt, ◌==◌, if◌then◌else◌}
use Rattle.std.specs.Str.{bytes_eq}
use Rattle.std.specs.List.{list_any}
use Rattle.sig_base.specs.OptionSteps.{◌>>=◌}
use Rattle.sig_der.specs.Reading.{Piece}
use Rattle.sig_der.specs.FrontReaders.{take_tag, take_whole, take_optional, many_at}
use Rattle.sig_der.specs.KeyInfo.{is_empty}
use Rattle.sig_certificate.specs.declared.values.KeyUsage.{KeyUsage}
use Rattle.sig_certificate.specs.declared.values.BasicConstraints.{BasicConstraints}
use Rattle.sig_certificate.specs.Cutting.{flag_at}
use Rattle.sig_der.specs.Tag.{BIT_STRING, INTEGER, OBJECT_IDENTIFIER, SEQUENCE}

-- ---- key usage, RFC 5280 section 4.2.1.3

abbrev pub has_bit : ℕ → ℕ → Bool
has_bit byte mask = not (bit_and byte mask == 0)

-- the content of its BIT STRING: a count of unused bits from 0 to 7, which is 0 where no byte follows, and the bits
unfoldable pub usage_of : List ℕ → Option KeyUsage
usage_of [] = None
usage_of (unused ∷ []) =
    if unused == 0 then Some (record { digital_signature = false; key_cert_sign = false }) else None
usage_of (unused ∷ first ∷ rest) =
    if nat_lt unused 8 then Some (record { digital_signature = has_bit first 128; key_cert_sign = has_bit first 4 })
    else None

unfoldable pub key_usage_of : List ℕ → Option KeyUsage
key_usage_of value = take_whole BIT_STRING value >>= λ s. usage_of s.content

-- ---- extended key usage, RFC 5280 section 4.2.1.12

-- an object identifier that is not empty, and what follows it
unfoldable pub oid_at : List ℕ → Option (List ℕ × List ℕ)
oid_at bytes =
    take_tag OBJECT_IDENTIFIER bytes >>= λ x. (if is_empty x.0.content then None else Some (x.0.content, x.1))

-- a SEQUENCE of them
unfoldable pub purposes_of : List ℕ → Option (List (List ℕ))
purposes_of value = take_whole SEQUENCE value >>= λ s. many_at oid_at s.content

-- whether this purpose is among them
abbrev pub has_purpose : List ℕ → List (List ℕ) → Bool
has_purpose oid purposes = list_any (λ p. bytes_eq p oid) purposes

-- ---- basic constraints, RFC 5280 section 4.2.1.9

-- the content of an INTEGER that is minimal, not negative and has at most four bytes
unfoldable pub natural_of : List ℕ → Option ℕ
natural_of [] = None
natural_of (a ∷ []) = if nat_lt a 128 then Some a else None
natural_of (a ∷ b ∷ []) = if (a == 0) && nat_lt b 128 then None else if nat_lt a 128 then Some (a * 256 + b) else None
natural_of (a ∷ b ∷ c ∷ []) =
    if (a == 0) && nat_lt b 128 then None else if nat_lt a 128 then Some (a * 65536 + b * 256 + c) else None
natural_of (a ∷ b ∷ c ∷ d ∷ []) =
    if (a == 0) && nat_lt b 128 then None
    else if nat_lt a 128 then Some (a * 16777216 + b * 65536 + c * 256 + d)
    else None
natural_of (a ∷ b ∷ c ∷ d ∷ e ∷ rest) = None

abbrev pub path_len_of : Option Piece → Option (Option ℕ)
path_len_of None = Some None
path_len_of (Some p) = option_map (λ n. Some n) (natural_of p.content)

-- a SEQUENCE of a BOOLEAN DEFAULT FALSE and an optional INTEGER
unfoldable pub constraints_in : List ℕ → Option BasicConstraints
constraints_in bytes = do
  c ← flag_at bytes
  i ← take_optional INTEGER c.1
  n ← path_len_of i.0
  if is_empty i.1 then Some (record { ca = c.0; path_len = n }) else None

unfoldable pub basic_constraints_of : List ℕ → Option BasicConstraints
basic_constraints_of value = take_whole SEQUENCE value >>= λ s. constraints_in s.content
