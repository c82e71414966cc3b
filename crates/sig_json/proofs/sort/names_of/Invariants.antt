-- The names so far, and those of the members that are left.
use Rattle.std.proofs.Common.{◌≡◌, ◌++◌, drop}
use Rattle.sig_json.specs.Only.{names_of}
use Rattle.sig_json.specs.Sorting.{entry_names}
use Rattle.sig_json.proofs.sort.names_of.Given as goal

abbrev pub invariant-members : goal.invariant-members
invariant-members l = names_of l.names.items ++ entry_names (drop l.member-index l.members) ≡ entry_names l.members
