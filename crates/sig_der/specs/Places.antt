-- Elements by their offsets in one buffer, and what is at the offsets.
use Rattle.std.specs.Prelude.{◌≡◌, ℕ, ◌<◌, ◌≤◌, List, length, slice_range}
use Rattle.sig_der.specs.declared.place.Place.{Place}
use Rattle.sig_der.specs.Reading.{Piece}

-- the element at the offsets
abbrev pub piece_at : List ℕ → Place → Piece
piece_at bytes p =
    record { tag = p.tag; whole = slice_range bytes p.start p.end; content = slice_range bytes p.content p.end }

-- an element that begins at the first offset and ends at the second or before it
pub record IsWithin (at end : ℕ) (p : Place) : Type 0 where
  pub starts : p.start ≡ at
  pub headed : at < p.content
  pub filled : p.content ≤ p.end
  pub ends : p.end ≤ end

-- the contents octets lie within the buffer
pub record IsInside (bytes : List ℕ) (p : Place) : Type 0 where
  pub filled : p.content ≤ p.end
  pub below : p.end ≤ length bytes
