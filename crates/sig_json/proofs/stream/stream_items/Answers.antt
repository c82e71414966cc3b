use Rattle.std.proofs.Common.{◌≡◌, Some, None, arith}
use Rattle.json.specs.Json.{after_end_array}
use Rattle.sig_json.proofs.StreamedLists.{items_end, items_fault}
use Rattle.sig_json.proofs.stream.stream_items.Goals as goal

pub returns-in_err-more-clause-err : goal.returns-in_err-more-clause-err
returns-in_err-more-clause-err g c refused =
    let l = c.elements in
    let going : (after_end_array l.reader ≡ None) × (c.take_end_array.new.self ≡ l.reader) = grind arith in
    items_fault _ _ _ _ _ _ l.invariant going.0 (rw (← going.1) (c.stream_element.ensures.err (grind arith)))

pub returns-clause-ok : goal.returns-clause-ok
returns-clause-ok g c =
    let l = c.elements in
    let end : after_end_array l.reader ≡ Some c.take_end_array.new.self = grind arith in
    items_end _ _ _ _ _ _ _ l.invariant end
