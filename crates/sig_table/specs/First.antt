-- *First fault*: which member of a tree is the first to break a table, in the table's order: where it is, and why.
use Rattle.std.specs.Prelude.{◌≡◌, ◌⊎◌, ℕ, List, [], ◌∷◌, ◌++◌, length, Bool, Option, Some, IsTrue, MatchOption}
use Rattle.std.specs.List.{AllByRecursion}
use Rattle.sig_json.specs.Data.{Data}
use Rattle.sig_json.specs.Find.{as_object}
use Rattle.sig_json.specs.List.{list_of}
use Rattle.sig_table.specs.Table.{Table, leaf, elements, members, chosen, Row, required_row, optional_row, oneof_row, Rows}
use Rattle.sig_table.specs.Table.{no_rows, row, member_in, names_there, fits, row_holds}
use Rattle.sig_table.specs.declared.fault.Cause.{Cause}
use Rattle.sig_table.specs.declared.fault.Cause.TheVariants.{Absent, OtherKind, NotAlone}
use Rattle.sig_table.specs.declared.fault.MemberFault.{MemberFault}
use Rattle.sig_table.specs.declared.path.Step.{Step}
use Rattle.sig_table.specs.declared.path.Step.TheVariants.{Name, Index}

-- what is wrong with a value: at which path in it, and why
abbrev pub Breaks : Type 1
Breaks = Data → List Step → Cause → Type 0

-- the path begins with this step, and after it something is wrong with the value
abbrev pub After : Step → Breaks → Breaks
After step Inside d path cause = (rest : List Step) × (path ≡ step ∷ rest) × Inside d rest cause

-- the value itself is wrong, and nothing inside it is named
abbrev pub IsHere : Cause → List Step → Cause → Type 0
IsHere why path cause = (path ≡ []) × (cause ≡ why)

-- the elements before one pass a test, and that one is wrong
pub record IsFirstElement (test : Data → Bool) (Inside : Breaks) (ds : List Data) (path : List Step) (cause : Cause)
    : Type 0 where
  pub before : List Data
  pub element : Data
  pub after : List Data
  pub split : ds ≡ before ++ element ∷ after
  pub sound : AllByRecursion (λ d. IsTrue (test d)) before
  pub wrong : After (Index (length before)) Inside element path cause

-- this member is the second of those that are there
pub record IsSecond (there : List (List ℕ)) (path : List Step) (cause : Cause) : Type 0 where
  pub first : List ℕ
  pub second : List ℕ
  pub others : List (List ℕ)
  pub split : there ≡ first ∷ second ∷ others
  pub place : path ≡ Name second ∷ []
  pub why : cause ≡ NotAlone

abbrev mutual
  pub IsFirstFault : Table → Breaks
  IsFirstFault (leaf why) d path cause = (path ≡ []) × (why d ≡ Some cause)
  IsFirstFault (elements table) d path cause =
      MatchOption (list_of d) (IsHere OtherKind path cause)
      (λ ds. IsFirstElement (fits table) (IsFirstFault table) ds path cause)
  IsFirstFault (members rows) d path cause =
      MatchOption (as_object d) (IsHere OtherKind path cause) (λ _. IsFirstRow rows d path cause)
  IsFirstFault (chosen table) d path cause = IsFirstFault (table d) d path cause

  -- this row does not hold; or it does, and the first that does not is after it
  pub IsFirstRow : Rows → Breaks
  IsFirstRow no_rows d path cause = ⊥
  IsFirstRow (row first rows) d path cause =
      BreaksRow first d path cause ⊎ (IsTrue (row_holds first d) × IsFirstRow rows d path cause)

  pub BreaksRow : Row → Breaks
  BreaksRow (required_row name table) d path cause =
      MatchOption (member_in name d) (After (Name name) (λ _. IsHere Absent) d path cause)
      (λ value. After (Name name) (IsFirstFault table) value path cause)
  BreaksRow (optional_row name table) d path cause =
      MatchOption (member_in name d) ⊥ (λ value. After (Name name) (IsFirstFault table) value path cause)
  BreaksRow (oneof_row names) d path cause = IsSecond (names_there names d) path cause

-- a tree keeps to a table, or this is the first fault
abbrev pub IsFaultOf : Table → Data → Option MemberFault → Type 0
IsFaultOf table d found =
    MatchOption found (IsTrue (fits table d)) (λ fault. IsFirstFault table d fault.path fault.cause)
