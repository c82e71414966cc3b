use Rattle.std.proofs.Common.{◌++◌, ap, ◌∙◌}
use Rattle.std.proofs.lemmas.Iterator.{YieldsList-from_chars}
use Rattle.std.proofs.lemmas.Iterator.Consumers.{YieldsList-turn, YieldsList-end}
use Rattle.std.specs.Str.{chars}
use Rattle.sig_json_text.proofs.CanonicalTexts.{units_more, units_all}
use Rattle.sig_json_text.specs.Canonical.{utf16_units}
use Rattle.sig_json_text.proofs.member_order.utf16_units.Goals as goal

pub units-preserved : goal.units-preserved
units-preserved c =
    let t =
    YieldsList-turn (YieldsList-from_chars c.args.text.now c.utf8.text cc) c.units.yielded _ c.units.yielded_by _ _
    c.in-Some.c c.in-Some.is c.next.ensures.steps in
    units_more (chars c.args.text.now) c.units.yielded c.in-Some.c t c.units.units.items
    c.extend_from_slice.new.self.items c.units.invariant
    (c.in_ok-extend_from_slice.ensures.items ∙ ap (λ s. c.units.units.items ++ s) c.encode_utf16.ensures.value)

pub returns : goal.returns
unfolding utf16_units
returns c =
    let t =
    YieldsList-end (YieldsList-from_chars c.args.text.now c.utf8.text cc) c.units.yielded _ c.units.yielded_by _ _
    c.in-None.is c.next.ensures.steps in
    units_all (chars c.args.text.now) c.units.yielded t.1 c.units.units.items c.units.invariant
