-- AlgorithmIdentifier of RFC 5280 section 4.1.1.2 and SubjectPublicKeyInfo of section 4.1.2.7, and the plain readers
-- of both. That these read exactly the encodings of the relations is in proofs/KeyInfos.
use Rattle.std.specs.Prelude.{◌≡◌, ℕ, ◌<◌, List, [], ◌∷◌, ◌++◌, length, Bool, Option, Some, None, ◌==◌, if◌then◌else◌}
use Rattle.sig_base.specs.OptionSteps.{◌>>=◌}
use Rattle.sig_der.specs.Element.{IsElement}
use Rattle.sig_der.specs.Reading.{Piece}
use Rattle.sig_der.specs.FrontReaders.{take_any, take_tag, take_whole}
use Rattle.sig_der.specs.Tag.{BIT_STRING, OBJECT_IDENTIFIER, SEQUENCE}

-- ---- what they are

-- An algorithm: its whole text, its object identifier, and the element of its parameters, if there is one.
pub record Algorithm : Type 0 where
  pub whole : List ℕ
  pub oid : List ℕ
  pub parameters : Option Piece

-- at most one element of any tag
abbrev pub IsAtMostOne : List ℕ → Option Piece → Type 0
IsAtMostOne text None = text ≡ []
IsAtMostOne text (Some p) = IsElement text p.tag p.content × (p.whole ≡ text)

-- A SEQUENCE of an object identifier, which is not empty, and at most one element.
pub record IsAlgorithm (a : Algorithm) : Type 0 where
  pub oid_text : List ℕ
  pub parameters_text : List ℕ
  pub whole : IsElement a.whole SEQUENCE (oid_text ++ parameters_text)
  pub oid : IsElement oid_text OBJECT_IDENTIFIER a.oid
  pub named : 0 < length a.oid
  pub parameters : IsAtMostOne parameters_text a.parameters

-- A SubjectPublicKeyInfo: its encoding, its algorithm, and the bits of its key.
pub record KeyInfo : Type 0 where
  pub whole : List ℕ
  pub algorithm : Algorithm
  pub bits : List ℕ

-- A SEQUENCE of an algorithm and a BIT STRING without unused bits.
pub record IsKeyInfo (k : KeyInfo) : Type 0 where
  pub bits_text : List ℕ
  pub whole : IsElement k.whole SEQUENCE (k.algorithm.whole ++ bits_text)
  pub algorithm : IsAlgorithm k.algorithm
  pub bits : IsElement bits_text BIT_STRING (0 ∷ k.bits)

-- ---- at the front of a text

-- The text is the algorithm and what follows it.
pub record IsFirstAlgorithm (a : Algorithm) (rest text : List ℕ) : Type 0 where
  pub is : IsAlgorithm a
  pub parts : text ≡ a.whole ++ rest

-- The text is the SubjectPublicKeyInfo and what follows it.
pub record IsFirstKeyInfo (k : KeyInfo) (rest text : List ℕ) : Type 0 where
  pub is : IsKeyInfo k
  pub parts : text ≡ k.whole ++ rest

-- The text is the SubjectPublicKeyInfo.
pub record IsWholeKeyInfo (k : KeyInfo) (text : List ℕ) : Type 0 where
  pub is : IsKeyInfo k
  pub whole : k.whole ≡ text

-- ---- how they are read

abbrev pub is_empty : List ℕ → Bool
is_empty bytes = length bytes == 0

-- all of the text as at most one element
unfoldable pub at_most_one : List ℕ → Option (Option Piece)
at_most_one [] = Some None
at_most_one (b ∷ bytes) = do
  x ← take_any (b ∷ bytes)
  if is_empty x.1 then Some (Some x.0) else None

unfoldable pub algorithm_at : List ℕ → Option (Algorithm × List ℕ)
algorithm_at bytes = do
  x ← take_tag SEQUENCE bytes
  o ← take_tag OBJECT_IDENTIFIER x.0.content
  p ← at_most_one o.1
  if is_empty o.0.content then None
      else Some (record { whole = x.0.whole; oid = o.0.content; parameters = p }, x.1)

-- the bits after a count of unused bits that is 0
unfoldable pub after_zero : List ℕ → Option (List ℕ)
after_zero [] = None
after_zero (n ∷ bits) = if n == 0 then Some bits else None

-- all of the text as a BIT STRING without unused bits: the bits
unfoldable pub bits_of : List ℕ → Option (List ℕ)
bits_of bytes = take_whole BIT_STRING bytes >>= λ s. after_zero s.content

unfoldable pub key_info_at : List ℕ → Option (KeyInfo × List ℕ)
key_info_at bytes = do
  x ← take_tag SEQUENCE bytes
  a ← algorithm_at x.0.content
  b ← bits_of a.1
  Some (record { whole = x.0.whole; algorithm = a.0; bits = b }, x.1)

-- the SubjectPublicKeyInfo that the bytes are
unfoldable pub whole_key_info : List ℕ → Option KeyInfo
whole_key_info bytes = do
  k ← key_info_at bytes
  if is_empty k.1 then Some k.0 else None
