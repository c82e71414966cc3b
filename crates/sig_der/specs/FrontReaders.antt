-- Readers that go on from the front of a text: an element of any tag, of one tag, an optional one, and a list of like
-- parts. Each returns what it read and what follows it, or `None`.
use Rattle.std.specs.Prelude.{ℕ, zero, suc, List, [], ◌∷◌, length, Bool, false, Option, Some, None, Result, Ok, Err}
use Rattle.std.specs.Prelude.{◌==◌, if◌then◌else◌}
use Rattle.sig_base.specs.OptionSteps.{◌>>=◌}
use Rattle.sig_base.specs.declared.fault.DerError.{DerError}
use Rattle.sig_der.specs.Reading.{Piece, element_at}

-- the value if there is one, `None` for every error
abbrev pub answered : {A : Type 0} → Result A DerError → Option A
answered (Ok x) = Some x
answered (Err e) = None

-- the front element, and what follows it
unfoldable pub take_any : List ℕ → Option (Piece × List ℕ)
take_any bytes = answered (element_at bytes)

-- the front element, if it has this tag, and what follows it
unfoldable pub take_tag : ℕ → List ℕ → Option (Piece × List ℕ)
take_tag tag bytes = do
  x ← take_any bytes
  if x.0.tag == tag then Some x else None

abbrev pub begins_with : ℕ → List ℕ → Bool
begins_with tag [] = false
begins_with tag (b ∷ bytes) = b == tag

-- the front element, where the first byte is this tag, and what follows it; else nothing is taken
unfoldable pub take_optional : ℕ → List ℕ → Option (Option Piece × List ℕ)
take_optional tag bytes =
    if begins_with tag bytes then (take_tag tag bytes >>= λ x. Some (Some x.0, x.1)) else Some (None, bytes)

-- the whole text is one element of this tag
unfoldable pub take_whole : ℕ → List ℕ → Option Piece
take_whole tag bytes = do
  x ← take_tag tag bytes
  if length x.1 == 0 then Some x.0 else None

-- All of the text as a list of parts that the reader takes one after another. The number bounds the readings; the
-- number of bytes suffices, since each part takes at least one byte.
unfoldable pub many_within : {A : Type 0} → (List ℕ → Option (A × List ℕ)) → ℕ → List ℕ → Option (List A)
many_within read n [] = Some []
many_within read zero (b ∷ bytes) = None
many_within read (suc n) (b ∷ bytes) = read (b ∷ bytes) >>= λ x. many_within read n x.1 >>= λ xs. Some (x.0 ∷ xs)

unfoldable pub many_at : {A : Type 0} → (List ℕ → Option (A × List ℕ)) → List ℕ → Option (List A)
many_at read bytes = many_within read (length bytes) bytes
