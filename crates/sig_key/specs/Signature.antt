-- The bytes of a signature that is given as bytes or as base64 text.
use Rattle.std.specs.Prelude.{◌≡◌, ◌⊎◌, ℕ, Bool, not, ◌||◌, ◌==◌, List, [], ◌∷◌, filter, Option, Some, None}
use Rattle.sig_base.specs.Base64.{base64_bytes}
use Rattle.sig_base.specs.ByteLists.{AreBytes}
use Rattle.sig_base.specs.OptionSteps.{or_else}
use Rattle.sig_key.specs.declared.signature.Signature.{Signature}
use Rattle.sig_key.specs.declared.signature.Signature.TheVariants.{Raw, Base64Encoded}

-- a line feed or a carriage return
abbrev pub IsLineEnd : ℕ → Type 0
IsLineEnd byte = (byte ≡ 10) ⊎ (byte ≡ 13)

-- The text is these letters in lines: each of its bytes is a line end, or the next letter.
abbrev pub IsInLines : List ℕ → List ℕ → Type 0
IsInLines letters [] = letters ≡ []
IsInLines letters (byte ∷ text) =
    (IsLineEnd byte × IsInLines letters text)
    ⊎ ((rest : List ℕ) × ((letters ≡ byte ∷ rest) × IsInLines rest text))

-- The text is base64 of these bytes (RFC 4648 section 4), maybe in lines.
abbrev pub IsTextOf : List ℕ → List ℕ → Type 0
IsTextOf text bytes = (letters : List ℕ) × (IsInLines letters text × (base64_bytes letters ≡ Some bytes))

-- *Signature text*: the signature is given as these bytes, or as a text of them
abbrev pub HasBytes : Signature → List ℕ → Type 0
HasBytes (Raw raw) bytes = raw.now ≡ bytes
HasBytes (Base64Encoded text) bytes = IsTextOf text.now bytes

-- ---- by computation

-- neither a line feed nor a carriage return
abbrev pub is_no_line_end : ℕ → Bool
is_no_line_end byte = not (byte == 10 || byte == 13)

abbrev pub without_line_ends : List ℕ → List ℕ
without_line_ends text = filter is_no_line_end text

-- the bytes of a text in base64 (RFC 4648 section 4), or else of the text without its line ends
unfoldable pub text_bytes : List ℕ → Option (List ℕ)
text_bytes text = or_else (base64_bytes text) (base64_bytes (without_line_ends text))

-- the bytes as they are, or those of the text
abbrev pub signature_bytes : Signature → Option (List ℕ)
signature_bytes (Raw bytes) = Some bytes.now
signature_bytes (Base64Encoded text) = text_bytes text.now

-- a text is one of bytes
abbrev pub IsOfBytes : Signature → Type 0
IsOfBytes (Raw _) = Unit {0}
IsOfBytes (Base64Encoded text) = AreBytes text.now

-- it is given as bytes
abbrev pub IsRaw : Signature → Type 0
IsRaw (Raw _) = Unit {0}
IsRaw (Base64Encoded _) = ⊥
