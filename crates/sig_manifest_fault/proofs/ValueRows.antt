-- A walk over the members of an object, each under one table.
use Rattle.std.proofs.Common.{◌≡◌, ℕ, List, [], ◌∷◌, Option, Some, None, Ok, Err, refl, ◌∙◌}
use Rattle.sig_base.specs.Answers.{OrMemory}
use Rattle.sig_json.specs.Data.{Data, null, boolean, number, string, array, object}
use Rattle.sig_json.specs.Members.{members_list, members_of}
use Rattle.sig_manifest_fault.specs.Values.{value_rows, values_table}
use Rattle.sig_table.proofs.Steps.{ended, passed}
use Rattle.sig_table.specs.Fault.{fault_of, here, or_fault, row_fault, rows_fault}
use Rattle.sig_table.specs.Table.{Table, required_row, rows_of}
use Rattle.sig_table.specs.declared.fault.Cause.TheVariants.{OtherKind}
use Rattle.sig_table.specs.declared.fault.MemberFault.{MemberFault}
use Rattle.sig_table.specs.declared.fault.TableError.{TableError}
use Rattle.sig_table.specs.declared.fault.TableError.TheVariants.{OutOfMemory}

-- what the rows of these members find
abbrev pub rows_left : Table → List (List ℕ × Data) → Data → Option MemberFault
rows_left t ms d = rows_fault (rows_of (value_rows t ms)) d

pub values-none : (t : Table) (d : Data) → None ≡ members_of d → fault_of (values_table t) d ≡ Some (here OtherKind)
unfolding values_table
values-none t null none = refl
values-none t (boolean b) none = refl
values-none t (number n) none = refl
values-none t (string s) none = refl
values-none t (array ds) none = refl
values-none t (object ms) none = cc

pub values-start : (t : Table) (d : Data) (ms : List (List ℕ × Data)) → Some ms ≡ members_of d
    → fault_of (values_table t) d ≡ rows_left t ms d
unfolding values_table
values-start t null ms is = cc
values-start t (boolean b) ms is = cc
values-start t (number n) ms is = cc
values-start t (string s) ms is = cc
values-start t (array ds) ms is = cc
values-start t (object members) ms is =
    let same : members_list members ≡ ms = cc in rw same refl

pub values-next : (t : Table) (d : Data) (left after : List (List ℕ × Data)) (m : List ℕ × Data)
    (whole : Option MemberFault) → whole ≡ rows_left t left d → left ≡ m ∷ after
    → or_fault (row_fault (required_row m.0 t) d) ≡ Ok tt → whole ≡ rows_left t after d
values-next t d left after m whole so_far next sound =
    so_far ∙ rw (next, passed (row_fault (required_row m.0 t) d) sound) refl

pub values-wrong : (t : Table) (d : Data) (left after : List (List ℕ × Data)) (m : List ℕ × Data)
    (whole : Option MemberFault) (error : TableError) → whole ≡ rows_left t left d → left ≡ m ∷ after
    → OrMemory OutOfMemory error (or_fault (row_fault (required_row m.0 t) d) ≡ Err error)
    → OrMemory OutOfMemory error (or_fault whole ≡ Err error)
values-wrong t d left after m whole error so_far next wrong =
    rw (so_far, next) (ended (row_fault (required_row m.0 t) d) (rows_left t after d) error wrong)

pub values-end : (t : Table) (d : Data) (left : List (List ℕ × Data)) (whole : Option MemberFault)
    → whole ≡ rows_left t left d → left ≡ [] → whole ≡ None
values-end t d left whole so_far none = so_far ∙ rw none refl

pub ruleset walks = (values-none, values-start, values-next, values-wrong, values-end)
