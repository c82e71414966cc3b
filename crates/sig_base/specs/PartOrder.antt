-- Accepted rows in the order of one of their parts, and whether some row has it.
use Rattle.std.specs.Prelude.{ℕ, ◌<◌, List, Bool, Contains, Option, length, option_map, slice_get}
use Rattle.std.specs.Cmp.Lexicographic.{slice_cmp}
use Rattle.std.specs.List.{list_any}
use Rattle.std.specs.List.Sorted.{IsSortedBy}
use Rattle.std.specs.Option.{option_cmp}
use Rattle.std.specs.Ordering.{nat_cmp, is_lt}
use Rattle.std.specs.Str.{bytes_eq}
use Rattle.std.specs.declared.cmp.Ordering.{Ordering}
use Rattle.sig_base.specs.declared.checker.AcceptedRow.{AcceptedRow}
use Rattle.sig_base.specs.declared.part_order.PartOrders.{PartOrders}
use Rattle.sig_base.specs.declared.part_order.RowPart.{RowPart}
use Rattle.sig_base.specs.declared.part_order.RowPart.TheVariants.{Key, Message, Signature}

abbrev pub part_of : RowPart → AcceptedRow → List ℕ
part_of Key row = row.key
part_of Message row = row.message
part_of Signature row = row.signature

-- some row has these bytes as this part
abbrev pub has_part : RowPart → List AcceptedRow → List ℕ → Bool
has_part part rows bytes = list_any (λ row. bytes_eq (part_of part row) bytes) rows

abbrev pub bytes_cmp : List ℕ → List ℕ → Ordering
bytes_cmp = slice_cmp nat_cmp

-- the part of the row at an index
abbrev pub part_at : RowPart → List AcceptedRow → ℕ → Option (List ℕ)
part_at part rows index = option_map (part_of part) (slice_get rows index)

-- the row at one index before the row at another
abbrev pub order_at : RowPart → List AcceptedRow → ℕ → ℕ → Ordering
order_at part rows one other = option_cmp bytes_cmp (part_at part rows one) (part_at part rows other)

-- indices in the order of this part of their rows
abbrev pub Ascends : RowPart → List AcceptedRow → List ℕ → Type 0
Ascends part rows order = IsSortedBy (λ one other. is_lt (order_at part rows one other)) order

-- the indices of all rows, in that order
pub record IsOrderBy (part : RowPart) (rows : List AcceptedRow) (order : List ℕ) : Type 0 where
  pub covers : (index : ℕ) → index < length rows → Contains order index
  pub ascends : Ascends part rows order

-- the orders of each part
pub record AreOrders (rows : List AcceptedRow) (orders : PartOrders) : Type 0 where
  pub keys : IsOrderBy Key rows orders.keys.items
  pub messages : IsOrderBy Message rows orders.messages.items
  pub signatures : IsOrderBy Signature rows orders.signatures.items
