-- What contracts see of an iterator over the elements of a content: the results that it has left.
use Rattle.std.specs.Prelude.{List, Result, Ok, Err}
use Rattle.sig_base.specs.declared.fault.DerError.{DerError}
use Rattle.sig_der.specs.declared.element.Element.{Element}
use Rattle.sig_der.specs.declared.iter.Children.{Children}
use Rattle.sig_der.specs.Reading.{Piece}
use Rattle.sig_der.specs.BorrowedElements.{piece_of}
use Rattle.sig_der.specs.Children.{children_of}

abbrev pub item_of : Result Element DerError → Result Piece DerError
item_of (Ok e) = Ok (piece_of e)
item_of (Err e) = Err e

abbrev pub left_of : Children → List (Result Piece DerError)
left_of c = children_of c.rest.now
