use Rattle.std.proofs.Common.{◌≡◌, Some, map, drop}
use Rattle.serde_json.specs.Find.{as_array}
use Rattle.sig_json.specs.Member.{list_each}
use Rattle.sig_json.specs.Tree.{tree}
use Rattle.sig_json.specs.View.{items_view}
use Rattle.sig_json.proofs.Elements.{read_with}
use Rattle.sig_json.proofs.element.read_list.Given as goal

-- the elements so far are read, and those that are left decide
abbrev pub invariant-elements : goal.invariant-elements
invariant-elements g l =
    let meaning = g.T.ElementReader.meaning in
    (Some (items_view l.element-items) ≡ as_array (tree l.list))
    × (list_each meaning (tree l.list)
    ≡ read_with meaning (map g.T.ElementReader.seen_as.item l.found)
    (items_view (drop l.element-index l.element-items)))
