-- The last byte, or one before it.
use Rattle.std.proofs.Common.{length, sym}
use Rattle.std.proofs.lemmas.Bool.{eqb-true}
use Rattle.std.proofs.lemmas.Result.{on_ok_weaker}
use Rattle.sig_name.proofs.Parts.{some_left}
use Rattle.sig_name.proofs.Values.{last_pushed, more_pushed}
use Rattle.sig_name.proofs.text.push_after.Goals as goal

pub returns-then-is_empty : goal.returns-then-is_empty
returns-then-is_empty c =
    on_ok_weaker c.push_last.result
    (last_pushed c.args.out.now.items c.push_last.new.out.items c.args.rest.now c.args.byte
    (eqb-true (length c.args.rest.now) 0 (sym c.if-is_empty.ensures))) c.push_last.ensures

pub returns-else-is_empty : goal.returns-else-is_empty
returns-else-is_empty c =
    on_ok_weaker c.push_escaped.result
    (more_pushed c.args.out.now.items c.push_escaped.new.out.items c.args.rest.now c.args.byte
    (some_left c.args.rest.now c.if-is_empty.ensures)) c.push_escaped.ensures
