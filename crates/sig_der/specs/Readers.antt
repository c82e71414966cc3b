-- What contracts see of a reader over a range of a buffer, and of what it returns.
use Rattle.std.specs.Prelude.{◌≡◌, ℕ, List, Option, Some, None, option_map, slice_range}
use Rattle.sig_der.specs.declared.place.Place.{Place}
use Rattle.sig_der.specs.declared.reader.Reader.{Reader}
use Rattle.sig_der.specs.Reading.{Piece}
use Rattle.sig_der.specs.Places.{piece_at, IsWithin}

-- the bytes that are left
abbrev pub left : Reader → List ℕ
left r = slice_range r.bytes.now r.at r.end

-- the element of the buffer that was read, and the bytes that are left after it
abbrev pub piece_read : List ℕ → Place × Reader → Piece × List ℕ
piece_read bytes x = (piece_at bytes x.0, left x.1)

-- the same of an element that may be absent
abbrev pub option_read : List ℕ → Option Place × Reader → Option Piece × List ℕ
option_read bytes x = (option_map (piece_at bytes) x.0, left x.1)

-- a reader after another: over the same buffer, from this offset on, to the same end
pub record GoesOn (r : Reader) (at : ℕ) (next : Reader) : Type 0 where
  pub buffer : next.bytes.now ≡ r.bytes.now
  pub starts : next.at ≡ at
  pub ends : next.end ≡ r.end

-- an element at the front of what was left, and the reader after it
pub record IsRead (r : Reader) (x : Place × Reader) : Type 0 where
  pub place : IsWithin r.at r.end x.0
  pub next : GoesOn r x.0.end x.1

-- such an element, or `None` and the reader where it was
abbrev pub IsReadIf : Reader → Option Place × Reader → Type 0
IsReadIf r (Some p, next) = IsWithin r.at r.end p × GoesOn r p.end next
IsReadIf r (None, next) = GoesOn r r.at next
