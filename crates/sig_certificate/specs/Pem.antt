-- A certificate as text: RFC 7468 section 5.1.
use Rattle.std.specs.Prelude.{◌≡◌, ℕ, zero, suc, ◌<◌, ◌≤◌, List, [], ◌∷◌, ◌++◌, length, take, drop, codes}
use Rattle.base64.specs.Engines.{standard}
use Rattle.base64.specs.GeneralPurpose.{encode_of}

-- The lines of the base64 text, each ended by a newline. Three bytes make four characters, so a full line of 64
-- characters is 48 bytes, and only the last line may be shorter. The number of bytes bounds the lines.
unfoldable pub lines_within : ℕ → List ℕ → List ℕ
lines_within n [] = []
lines_within zero (b ∷ bytes) = []
lines_within (suc n) (b ∷ bytes) =
    encode_of standard (take 48 (b ∷ bytes)) ++ 10 ∷ [] ++ lines_within n (drop 48 (b ∷ bytes))

unfoldable pub lines_of : List ℕ → List ℕ
lines_of bytes = lines_within (length bytes) bytes

abbrev pub border : List ℕ → List ℕ
border word = codes "-----" ++ word ++ codes " CERTIFICATE-----" ++ 10 ∷ []

abbrev pub pem_of : List ℕ → List ℕ
pem_of der = border (codes "BEGIN") ++ lines_of der ++ border (codes "END")

-- ---- the lines by RFC 7468 section 2: exactly 64 characters a line, and the rest in the last

abbrev pub IsWrapped : List (List ℕ) → Type 0
IsWrapped [] = Unit {0}
IsWrapped (line ∷ []) = (0 < length line) × (length line ≤ 64)
IsWrapped (line ∷ next ∷ lines) = (length line ≡ 64) × IsWrapped (next ∷ lines)

-- the lines without their newlines, one after another
abbrev pub unwrapped : List (List ℕ) → List ℕ
unwrapped [] = []
unwrapped (line ∷ lines) = line ++ unwrapped lines

-- the lines, each ended by a newline
abbrev pub ended : List (List ℕ) → List ℕ
ended [] = []
ended (line ∷ lines) = line ++ 10 ∷ [] ++ ended lines

-- the text is the base64 of all the bytes, wrapped
pub record IsWrappedBase64 (bytes text : List ℕ) : Type 0 where
  pub lines : List (List ℕ)
  pub wrapped : IsWrapped lines
  pub whole : unwrapped lines ≡ encode_of standard bytes
  pub spelled : text ≡ ended lines
