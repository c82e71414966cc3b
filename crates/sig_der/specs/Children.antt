-- The elements of a content, one after another: the results of reading at the content and then at each rest. They end
-- where the rest is empty, and after the first fault.
use Rattle.std.specs.Prelude.{ℕ, zero, suc, List, [], ◌∷◌, length, map, Result, Ok, Err}
use Rattle.sig_base.specs.declared.fault.DerError.{DerError}
use Rattle.sig_der.specs.Element.{IsElement}
use Rattle.sig_der.specs.Reading.{Piece, element_at}

-- a result, and the results at its rest where it is not an error
abbrev pub then_rest : (List ℕ → List (Result Piece DerError)) → Result (Piece × List ℕ) DerError
    → List (Result Piece DerError)
then_rest go (Ok x) = Ok x.0 ∷ go x.1
then_rest go (Err e) = Err e ∷ []

-- The number bounds the readings; the number of bytes suffices, since each element takes at least one byte.
unfoldable pub children_within : ℕ → List ℕ → List (Result Piece DerError)
children_within zero bytes = []
children_within (suc n) [] = []
children_within (suc n) (b ∷ bytes) = then_rest (children_within n) (element_at (b ∷ bytes))

unfoldable pub children_of : List ℕ → List (Result Piece DerError)
children_of bytes = children_within (length bytes) bytes

-- a piece is an element
abbrev pub IsPiece : Piece → Type 0
IsPiece p = IsElement p.whole p.tag p.content

-- the results that are not errors
abbrev pub all_read : List Piece → List (Result Piece DerError)
all_read ps = map (λ p. Ok p) ps
