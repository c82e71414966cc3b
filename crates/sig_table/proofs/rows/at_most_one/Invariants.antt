use Rattle.std.proofs.Common.{◌≡◌, false, drop}
use Rattle.sig_json.specs.Only.{names_of}
use Rattle.sig_json.specs.Tree.{tree}
use Rattle.sig_table.specs.Fault.{oneof_fault}
use Rattle.sig_table.proofs.rows.at_most_one.Given as goal

-- no second member is there so far: the names that are left decide
abbrev pub invariant-names : goal.invariant-names
invariant-names l =
    oneof_fault false (names_of l.names) (tree l.json)
    ≡ oneof_fault l.found (names_of (drop l.name-index l.names)) (tree l.json)
