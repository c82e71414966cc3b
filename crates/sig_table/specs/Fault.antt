-- *Fault*: the first member of a tree that breaks a table, as one function; `IsFirstFault` is the same in words.
use Rattle.std.specs.Prelude.{ℕ, ◌+◌, List, [], ◌∷◌, Bool, true, false, Option, Some, None, option_map, is_some}
use Rattle.std.specs.Prelude.{if◌then◌else◌, Result, Ok, Err, ⊤}
use Rattle.sig_base.specs.OptionSteps.{or_else}
use Rattle.sig_json.specs.Data.{Data}
use Rattle.sig_json.specs.Find.{as_object}
use Rattle.sig_json.specs.List.{list_of}
use Rattle.sig_table.specs.Table.{Table, leaf, elements, members, chosen, Row, required_row, optional_row, oneof_row, Rows}
use Rattle.sig_table.specs.Table.{no_rows, row, member_in}
use Rattle.sig_table.specs.declared.fault.Cause.{Cause}
use Rattle.sig_table.specs.declared.fault.Cause.TheVariants.{Absent, OtherKind, NotAlone}
use Rattle.sig_table.specs.declared.fault.MemberFault.{MemberFault}
use Rattle.sig_table.specs.declared.fault.TableError.{TableError}
use Rattle.sig_table.specs.declared.fault.TableError.TheVariants.{Fault, OutOfMemory}
use Rattle.sig_table.specs.declared.path.Step.{Step}
use Rattle.sig_table.specs.declared.path.Step.TheVariants.{Name, Index}

-- the value itself breaks its table
abbrev pub here : Cause → MemberFault
here cause = record { path = []; cause = cause }

-- what breaks it is inside, after this step
abbrev pub under : Step → MemberFault → MemberFault
under step fault = record { path = step ∷ fault.path; cause = fault.cause }

-- what is wrong with the member of this name
abbrev pub at_name : List ℕ → Option MemberFault → Option MemberFault
at_name name found = option_map (under (Name name)) found

-- what is wrong with what is there, and with what is absent
abbrev pub fault_there : Option MemberFault → (Data → Option MemberFault) → Option Data → Option MemberFault
fault_there absent inside None = absent
fault_there absent inside (Some d) = inside d

-- the first element in which something is wrong, counted from this index on
abbrev pub elements_fault : (Data → Option MemberFault) → ℕ → List Data → Option MemberFault
elements_fault inside index [] = None
elements_fault inside index (d ∷ ds) =
    or_else (option_map (under (Index index)) (inside d)) (elements_fault inside (index + 1) ds)

abbrev pub list_fault : (Data → Option MemberFault) → Option (List Data) → Option MemberFault
list_fault inside None = Some (here OtherKind)
list_fault inside (Some ds) = elements_fault inside 0 ds

abbrev pub object_fault : Data → Option MemberFault
object_fault d = if is_some (as_object d) then None else Some (here OtherKind)

-- the first name whose member is there after another one that is; `found` says whether one is before them
abbrev pub oneof_fault : Bool → List (List ℕ) → Data → Option MemberFault
oneof_fault found [] d = None
oneof_fault found (name ∷ names) d =
    if is_some (member_in name d) then (if found then at_name name (Some (here NotAlone)) else oneof_fault true names d)
    else oneof_fault found names d

abbrev mutual
  pub fault_of : Table → Data → Option MemberFault
  fault_of (leaf cause) d = option_map here (cause d)
  fault_of (elements table) d = list_fault (fault_of table) (list_of d)
  fault_of (members rows) d = or_else (object_fault d) (rows_fault rows d)
  fault_of (chosen table) d = fault_of (table d) d

  pub rows_fault : Rows → Data → Option MemberFault
  rows_fault no_rows d = None
  rows_fault (row first rows) d = or_else (row_fault first d) (rows_fault rows d)

  pub row_fault : Row → Data → Option MemberFault
  row_fault (required_row name table) d =
      at_name name (fault_there (Some (here Absent)) (fault_of table) (member_in name d))
  row_fault (optional_row name table) d = at_name name (fault_there None (fault_of table) (member_in name d))
  row_fault (oneof_row names) d = oneof_fault false names d

-- the same for the error of a check
abbrev pub error_under : Step → TableError → TableError
error_under step (Fault fault) = Fault (under step fault)
error_under step OutOfMemory = OutOfMemory

-- what a check returns
abbrev pub or_fault : Option MemberFault → Result ⊤ TableError
or_fault None = Ok tt
or_fault (Some fault) = Err (Fault fault)
