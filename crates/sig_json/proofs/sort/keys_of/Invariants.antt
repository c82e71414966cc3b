-- The keys so far, and those of the names that are left.
use Rattle.std.proofs.Common.{◌≡◌, ◌++◌, drop, length}
use Rattle.sig_json.specs.Only.{names_of}
use Rattle.sig_json.specs.Sorting.{ranked}
use Rattle.sig_json.proofs.sort.keys_of.Given as goal

abbrev pub invariant-names : goal.invariant-names
invariant-names l =
    l.keys.items ++ ranked l.from (length l.keys.items) (names_of (drop l.name-index l.names)) ≡ ranked l.from 0 (names_of l.names)
