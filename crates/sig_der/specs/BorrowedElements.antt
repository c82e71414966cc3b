-- What contracts see of the values that borrow parts of a buffer.
use Rattle.std.specs.Prelude.{List, ℕ}
use Rattle.std.specs.Borrow.{Bor}
use Rattle.sig_der.specs.declared.element.Element.{Element}
use Rattle.sig_der.specs.Reading.{Piece}

-- a borrowed element
abbrev pub piece_of : Element → Piece
piece_of e = record { tag = e.tag; whole = e.whole.now; content = e.content.now }

-- a borrowed element and the bytes after it
abbrev pub front_of : Element × Bor (List ℕ) → Piece × List ℕ
front_of x = (piece_of x.0, x.1.now)
