-- A check that is a chain of calls: what a call tells of what is found.
use Rattle.std.proofs.Common.{◌≡◌, Option, Some, None, option_map, Ok, Err, inl, inr, refl}
use Rattle.sig_base.specs.Answers.{OrMemory}
use Rattle.sig_base.specs.OptionSteps.{or_else}
use Rattle.sig_json.specs.Data.{Data}
use Rattle.sig_table.specs.Chosen.{wrong_or}
use Rattle.sig_table.specs.Fault.{fault_of, here, or_fault}
use Rattle.sig_table.specs.Table.{Table}
use Rattle.sig_table.specs.declared.fault.Cause.{Cause}
use Rattle.sig_table.specs.declared.fault.MemberFault.{MemberFault}
use Rattle.sig_table.specs.declared.fault.TableError.{TableError}
use Rattle.sig_table.specs.declared.fault.TableError.TheVariants.{OutOfMemory}

-- where nothing is found, what is left decides
pub passed : (found : Option MemberFault) → or_fault found ≡ Ok tt → found ≡ None
passed None sound = refl
passed (Some fault) sound = cc

-- what is found first is what is found
pub ended : (found others : Option MemberFault) (error : TableError)
    → OrMemory OutOfMemory error (or_fault found ≡ Err error)
    → OrMemory OutOfMemory error (or_fault (or_else found others) ≡ Err error)
ended found others error (inl memory) = inl memory
ended None others error (inr wrong) = cc
ended (Some fault) others error (inr wrong) = inr wrong

pub ruleset steps = (passed, ended)

-- ---- a guarded table: what is wrong with the value itself, and then what the table finds

pub guard_passed : (t : Table) (d : Data) (why : Option Cause) → or_fault (option_map here why) ≡ Ok tt
    → fault_of (wrong_or t why) d ≡ fault_of t d
guard_passed t d None sound = refl
guard_passed t d (Some cause) sound = cc

pub guard_ended : (t : Table) (d : Data) (why : Option Cause) (error : TableError)
    → OrMemory OutOfMemory error (or_fault (option_map here why) ≡ Err error)
    → OrMemory OutOfMemory error (or_fault (fault_of (wrong_or t why) d) ≡ Err error)
guard_ended t d why error (inl memory) = inl memory
guard_ended t d None error (inr wrong) = cc
guard_ended t d (Some cause) error (inr wrong) = inr wrong

pub ruleset guards = (guard_passed, guard_ended)
