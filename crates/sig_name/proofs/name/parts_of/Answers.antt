-- The parts so far, and then those of the rest, are all.
use Rattle.std.proofs.Common.{sym}
use Rattle.sig_der.proofs.ElementLists.{ends_list, fails_list}
use Rattle.sig_der.specs.FrontReaders.{many_at}
use Rattle.sig_name.proofs.Parts.{none_left, one_more, part_at_shrinks, some_left}
use Rattle.sig_name.specs.Name.{part_at}
use Rattle.sig_name.specs.Seen.{all_seen, seen}
use Rattle.sig_name.proofs.name.parts_of.Goals as goal

pub returns-in_default : goal.returns-in_default
returns-in_default c =
    sym (fails_list part_at (all_seen c.parts.found.items) c.parts.rest.now (many_at part_at c.args.bytes.now)
    (some_left c.parts.rest.now c.parts-test.ensures) (sym c.in_default.ensures) c.parts.invariant)

pub parts-smaller : goal.parts-smaller
parts-smaller c =
    part_at_shrinks c.parts.rest.now (seen c.in-Some.part, c.in-Some.after.now) (sym c.in-Some.ensures)

pub parts-preserved : goal.parts-preserved
parts-preserved c =
    one_more c.parts.found.items c.push.new.self.items c.in-Some.part c.parts.rest.now c.in-Some.after.now
    c.args.bytes.now c.parts.invariant c.in_ok-push.ensures.items (sym c.in-Some.ensures)

pub returns : goal.returns
returns c =
    sym (ends_list part_at (all_seen c.parts.found.items) c.parts.rest.now (many_at part_at c.args.bytes.now)
    (none_left c.parts.rest.now c.parts-test.ensures) c.parts.invariant)
