use Rattle.std.proofs.Common.{sym, ◌∙◌}
use Rattle.sig_json.proofs.StreamedLists.{element_read}
use Rattle.sig_json.specs.View.{view}
use Rattle.sig_json.proofs.stream.stream_element.Goals as goal

pub returns-clause-ok : goal.returns-clause-ok
returns-clause-ok g c =
    element_read _ g.E.ElementReader.seen_as.item _ _ _ (view c.in_ok-value.value) c.args.found c.in-Some.elements _
    c.in-Some.is c.in_ok-value.ensures.ok (sym c.is_float_in.ensures ∙ c.if-is_float_in.false) c.in_ok-more.ensures
