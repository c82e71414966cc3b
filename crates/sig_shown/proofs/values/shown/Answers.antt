-- The text is whole, or cut.
use Rattle.std.proofs.Common.{sym}
use Rattle.sig_shown.proofs.ShownTexts.{shown-cut, shown-whole}
use Rattle.sig_shown.proofs.values.shown.Goals as goal

pub returns-then-text-le-MOST_SHOWN : goal.returns-then-text-le-MOST_SHOWN
returns-then-text-le-MOST_SHOWN c = sym (shown-whole c.args.text.now c.if-text-le-MOST_SHOWN.true)

pub returns : goal.returns
returns c =
    let last = c.floor_char_boundary.ensures in
    shown-cut c.args.text.now c.split_at.result.0.now c.floor_char_boundary.result c.if-text-le-MOST_SHOWN.false
    (record { bound = last.bound; boundary = last.boundary; nearest = last.nearest }) c.split_at.ensures.front
