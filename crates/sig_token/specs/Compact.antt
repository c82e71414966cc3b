-- *Compact form*: a header, a payload and a signature, with a point between each two (RFC 7515 section 7.1).
use Rattle.std.specs.Prelude.{◌≡◌, ℕ, ◌==◌, Bool, false, List, [], ◌∷◌, ◌++◌, Option, Some, None}
use Rattle.std.specs.List.{All, slice_split}

-- `.`
abbrev pub is_point : ℕ → Bool
is_point byte = byte == 46

abbrev pub LacksPoints : List ℕ → Type 0
LacksPoints part = All (λ byte. is_point byte ≡ false) part

-- the text is these three parts
pub record IsCompact (text header payload signature : List ℕ) : Type 0 where
  pub whole : text ≡ header ++ 46 ∷ (payload ++ 46 ∷ signature)
  pub header_is_part : LacksPoints header
  pub payload_is_part : LacksPoints payload
  pub signature_is_part : LacksPoints signature

-- the text is three parts, and this is the second
abbrev pub HasPayload : List ℕ → List ℕ → Type 0
HasPayload text payload = (header : List ℕ) × (signature : List ℕ) × IsCompact text header payload signature

-- ---- the same as a function

abbrev pub second_of_three : List (List ℕ) → Option (List ℕ)
second_of_three [] = None
second_of_three (header ∷ []) = None
second_of_three (header ∷ payload ∷ []) = None
second_of_three (header ∷ payload ∷ signature ∷ []) = Some payload
second_of_three (header ∷ payload ∷ signature ∷ other ∷ others) = None

-- the payload of a text that is three parts
unfoldable pub payload_of : List ℕ → Option (List ℕ)
payload_of text = second_of_three (slice_split is_point text)
