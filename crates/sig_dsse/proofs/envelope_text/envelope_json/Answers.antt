use Rattle.std.proofs.Common.{ap, ◌∙◌}
use Rattle.sig_json_text.specs.Canonical.{in_braces}
use Rattle.sig_dsse.specs.EnvelopeText.{envelope_text}
use Rattle.sig_dsse.proofs.EnvelopeTexts.{envelope_members}
use Rattle.sig_dsse.proofs.envelope_text.envelope_json.Goals as goal

pub returns : goal.returns
unfolding envelope_text
returns c =
    c.from.ensures ∙ c.in_ok-braced.ensures
    ∙ ap in_braces (envelope_members _ _ _ _ _ _ _ _ _ c.new-members.ensures.items c.as_slice.ensures c.as_str.ensures
    c.in_ok-push_bytes.ensures c.in_ok-push_text.ensures c.in_ok-push_signatures.ensures)
