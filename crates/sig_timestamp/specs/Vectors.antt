-- The presentation language of TLS, as far as SCTs need it: RFC 5246 section 4.
use Rattle.std.specs.Prelude.{ℕ, ◌+◌, ◌*◌, ◌/◌, ◌%◌, ◌^◌, ◌<◌, List, [], ◌∷◌, ◌++◌, length, take, drop, Option, Some}
use Rattle.std.specs.Prelude.{None, nat_lt}
use Rattle.std.specs.Prelude.{if◌then◌else◌}
use Rattle.sig_base.specs.OptionSteps.{◌>>=◌}
use Rattle.sig_der.specs.KeyInfo.{is_empty}

-- uint16 and uint24, section 4.4: the most significant byte first
abbrev pub uint16_bytes : ℕ → List ℕ
uint16_bytes n = (n / 256) ∷ (n % 256) ∷ []

abbrev pub uint24_bytes : ℕ → List ℕ
uint24_bytes n = (n / 65536) ∷ (n / 256 % 256) ∷ (n % 256) ∷ []

-- opaque<0..2^16-1>, section 4.3: the length in two bytes, and the bytes
abbrev pub vector : List ℕ → List ℕ
vector content = uint16_bytes (length content) ++ content

abbrev pub IsShort : List ℕ → Type 0
IsShort content = length content < 2 ^ 16

-- opaque<0..2^24-1>: the length in three bytes, and the bytes
abbrev pub long_vector : List ℕ → List ℕ
long_vector content = uint24_bytes (length content) ++ content

abbrev pub IsLong : List ℕ → Type 0
IsLong content = length content < 2 ^ 24

-- ---- how they are read

-- the first `n` bytes, and what follows them
unfoldable pub bytes_at : ℕ → List ℕ → Option (List ℕ × List ℕ)
bytes_at n bytes = if nat_lt (length bytes) n then None else Some (take n bytes, drop n bytes)

-- a vector's bytes, and what follows it
unfoldable pub vector_at : List ℕ → Option (List ℕ × List ℕ)
vector_at [] = None
vector_at (a ∷ []) = None
vector_at (a ∷ b ∷ rest) = bytes_at (a * 256 + b) rest

-- all of the bytes as a vector
unfoldable pub whole_vector : List ℕ → Option (List ℕ)
whole_vector bytes = do
  v ← vector_at bytes
  if is_empty v.1 then Some v.0 else None
