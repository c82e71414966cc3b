-- Tables that the value chooses: lists of a given length, and what may not be there beside another member.
use Rattle.std.specs.Prelude.{ℕ, List, length, Bool, ◌&&◌, nat_le, Option, Some, None}
use Rattle.sig_json.specs.Data.{Data}
use Rattle.sig_json.specs.List.{list_of}
use Rattle.sig_table.specs.Kinds.{unless}
use Rattle.sig_table.specs.Table.{Table, leaf, elements, chosen}
use Rattle.sig_table.specs.declared.fault.Cause.{Cause}
use Rattle.sig_table.specs.declared.fault.Cause.TheVariants.{BeyondRange, NotAlone}

-- what is there is wrong for this cause, or has to keep to a table
abbrev pub wrong_or : Table → Option Cause → Table
wrong_or table None = table
wrong_or table (Some cause) = leaf (λ _. Some cause)

-- a value that first passes a test itself, and then keeps to a table
abbrev pub guarded : (Data → Option Cause) → Table → Table
guarded cause table = chosen (λ d. wrong_or table (cause d))

-- a list does not have as many elements as a test allows
abbrev pub length_cause : (ℕ → Bool) → Option (List Data) → Option Cause
length_cause test None = None
length_cause test (Some ds) = unless (test (length ds)) BeyondRange

abbrev pub other_length : (ℕ → Bool) → Data → Option Cause
other_length test d = length_cause test (list_of d)

-- a list of as many elements as a test allows, which keep to one table
abbrev pub sized : (ℕ → Bool) → Table → Table
sized test table = guarded (other_length test) (elements table)

abbrev pub is_between : ℕ → ℕ → ℕ → Bool
is_between least most n = nat_le least n && nat_le n most

-- the table that no value keeps to: what may not be there beside another member
abbrev pub nothing_table : Table
nothing_table = leaf (λ _. Some NotAlone)
