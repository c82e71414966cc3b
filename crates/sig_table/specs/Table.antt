-- *Member tables* as data: what the value of a member has to be, and which members an object has. Null is the same as
-- absent, and members that a table does not name are ignored.
use Rattle.std.specs.Prelude.{ℕ, List, [], ◌∷◌, Bool, true, false, ◌&&◌, Option, Some, None, is_some, is_none}
use Rattle.std.specs.List.{filter, list_all}
use Rattle.sig_base.specs.OptionSteps.{◌>>=◌}
use Rattle.sig_json.specs.Data.{Data}
use Rattle.sig_json.specs.Find.{as_object, get}
use Rattle.sig_json.specs.List.{list_of}
use Rattle.sig_json.specs.Member.{not_null}
use Rattle.sig_table.specs.declared.fault.Cause.{Cause}

mutual
  pub data Table : Type 0 where
    -- a value of one kind, or what is wrong with it
    leaf : (Data → Option Cause) → Table
    -- a list whose elements keep to one table
    elements : Table → Table
    -- an object whose members keep to these rows
    members : Rows → Table
    -- a table that the value itself chooses, where a rule is over several of its members
    chosen : (Data → Table) → Table

  pub data Row : Type 0 where
    -- a member that has to be there
    required_row : List ℕ → Table → Row
    -- a member that may be absent
    optional_row : List ℕ → Table → Row
    -- members of which at most one is there
    oneof_row : List (List ℕ) → Row

  pub data Rows : Type 0 where
    no_rows : Rows
    row : Row → Rows → Rows

-- the table of these rows in order
abbrev pub rows_of : List Row → Rows
rows_of [] = no_rows
rows_of (first ∷ rows) = row first (rows_of rows)

abbrev pub record_table : List Row → Table
record_table rows = members (rows_of rows)

-- ---- whether a tree keeps to a table

-- a member of an object, unless it is absent or null
abbrev pub member_in : List ℕ → Data → Option Data
member_in name d = get name d >>= not_null

-- those of these names whose members are there
abbrev pub names_there : List (List ℕ) → Data → List (List ℕ)
names_there names d = filter (λ name. is_some (member_in name d)) names

abbrev pub is_empty : {A : Type 0} → List A → Bool
is_empty [] = true
is_empty (x ∷ xs) = false

abbrev pub at_most_one : {A : Type 0} → List A → Bool
at_most_one [] = true
at_most_one (x ∷ xs) = is_empty xs

-- a value that is there passes a test, and `absent` says whether an absent one does
abbrev pub passes : Bool → (Data → Bool) → Option Data → Bool
passes absent test None = absent
passes absent test (Some d) = test d

-- the value is a list, and each element passes a test
abbrev pub each_passes : (Data → Bool) → Option (List Data) → Bool
each_passes test None = false
each_passes test (Some ds) = list_all test ds

abbrev mutual
  pub fits : Table → Data → Bool
  fits (leaf cause) d = is_none (cause d)
  fits (elements table) d = each_passes (fits table) (list_of d)
  fits (members rows) d = is_some (as_object d) && rows_hold rows d
  fits (chosen table) d = fits (table d) d

  pub rows_hold : Rows → Data → Bool
  rows_hold no_rows d = true
  rows_hold (row first rows) d = row_holds first d && rows_hold rows d

  pub row_holds : Row → Data → Bool
  row_holds (required_row name table) d = passes false (fits table) (member_in name d)
  row_holds (optional_row name table) d = passes true (fits table) (member_in name d)
  row_holds (oneof_row names) d = at_most_one (names_there names d)
