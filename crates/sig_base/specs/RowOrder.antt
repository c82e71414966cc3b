-- The order in which a table of accepted rows is searched: the last bytes of signature, message and key, then the
-- operation first, the message last; for a certificate the key last, so that its keys are side by side.
use Rattle.std.specs.Prelude.{◌≡◌, ◌↔◌, ℕ, ◌<◌, ◌+◌, ◌-◌, ◌*◌, nat_lt, if◌then◌else◌, List, length, slice_get}
use Rattle.std.specs.Prelude.{slice_index, Contains, Some}
use Rattle.std.specs.Option.{option_cmp}
use Rattle.std.specs.Ordering.{nat_cmp, is_lt, on, then_cmp}
use Rattle.std.specs.Cmp.Lexicographic.{slice_cmp}
use Rattle.std.specs.List.Sorted.{IsSortedBy}
use Rattle.std.specs.declared.cmp.Ordering.{Ordering}
use Rattle.std.specs.declared.cmp.Ordering.TheVariants.{Equal}
use Rattle.sig_base.specs.declared.checker.AcceptedRow.{AcceptedRow}
use Rattle.sig_base.specs.declared.checker.Operation.{Operation}
use Rattle.sig_base.specs.declared.checker.Operation.TheVariants.{Message, Prehash, Point, Certificate}
use Rattle.sig_base.specs.Checker.{operation_code}

-- the last four bytes as a number, 0 if there are fewer
unfoldable pub ending : List ℕ → ℕ
ending bytes =
    let at = λ (back : ℕ). slice_index bytes (length bytes - back) in
    if nat_lt (length bytes) 4 then 0 else (((at 4 * 256 + at 3) * 256 + at 2) * 256 + at 1)

-- the ending of a key, 0 for a certificate
unfoldable pub key_ending : Operation → List ℕ → ℕ
key_ending Message key = ending key
key_ending Prehash key = ending key
key_ending Point key = ending key
key_ending Certificate key = 0

-- one row before another: by the endings of signature, message, key
unfoldable pub ending_order : AcceptedRow → AcceptedRow → Ordering
ending_order =
    then_cmp (then_cmp
    (on (λ row. ending row.signature) nat_cmp)
    (on (λ row. ending row.message) nat_cmp))
    (on (λ row. key_ending row.operation row.key) nat_cmp)

-- of message and key, the one that is compared first: the message of a certificate, else the key
abbrev pub leading_of : Operation → List ℕ → List ℕ → List ℕ
leading_of Message message key = key
leading_of Prehash message key = key
leading_of Point message key = key
leading_of Certificate message key = message

unfoldable pub leading : AcceptedRow → List ℕ
leading row = leading_of row.operation row.message row.key

-- the other one of message and key
unfoldable pub following : AcceptedRow → List ℕ
following row = leading_of row.operation row.key row.message

-- one row before another by all parts except the following one: the endings, operation, signature, scheme, the leading
-- part
unfoldable pub group_order : AcceptedRow → AcceptedRow → Ordering
group_order =
    then_cmp (then_cmp (then_cmp (then_cmp
    ending_order
    (on (λ row. operation_code row.operation) nat_cmp))
    (on (λ row. row.signature) (slice_cmp nat_cmp)))
    (on (λ row. row.scheme) (slice_cmp nat_cmp)))
    (on leading (slice_cmp nat_cmp))

-- one row before another: by all those, then the following part
unfoldable pub row_order : AcceptedRow → AcceptedRow → Ordering
row_order = then_cmp group_order (on following (slice_cmp nat_cmp))

-- the row at one index before the row at another
abbrev pub order_at : List AcceptedRow → ℕ → ℕ → Ordering
order_at rows one other = option_cmp row_order (slice_get rows one) (slice_get rows other)

-- the row at an index before another row, by all parts except the following one
abbrev pub group_at : List AcceptedRow → ℕ → AcceptedRow → Ordering
group_at rows index row = option_cmp group_order (slice_get rows index) (Some row)

-- the indices among these whose rows tie with another row in all parts except the following one
abbrev pub IsGroupOf : List AcceptedRow → List ℕ → AcceptedRow → List ℕ → Type 0
IsGroupOf rows order row group =
    (index : ℕ) → Contains group index ↔ (Contains order index × (group_at rows index row ≡ Equal))

-- indices in the order of their rows
abbrev pub Ascends : List AcceptedRow → List ℕ → Type 0
Ascends rows order = IsSortedBy (λ one other. is_lt (order_at rows one other)) order

-- the indices of all rows, in the order of the rows
pub record IsOrderOf (rows : List AcceptedRow) (order : List ℕ) : Type 0 where
  pub covers : (index : ℕ) → index < length rows → Contains order index
  pub ascends : Ascends rows order
