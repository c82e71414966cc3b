-- The text of a value, byte by byte.
use Rattle.std.proofs.lemmas.List.{nil_from_length}
use Rattle.sig_name.proofs.Values.{value_pushed}
use Rattle.sig_name.proofs.text.push_value.Goals as goal

pub returns : goal.returns
returns c =
    value_pushed c.args.out.now.items c.push_first.new.out.items c.bytes.out.items c.bytes.rest.now
    c.in-Some.others.now c.args.value.now c.in-Some.first.now c.in-Some.ensures.cases.0
    (nil_from_length c.bytes.rest.now c.in_default-split_first.ensures.cases) c.in_ok-push_first.ensures
    c.bytes.invariant
