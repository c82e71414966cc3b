use Rattle.std.proofs.Common.{◌≡◌, subst, string_bytes}
use Rattle.std.specs.Prelude.{IfOk}
use Rattle.sig_json_text.specs.Canonical.{in_braces}
use Rattle.sig_dsse.specs.EnvelopeText.{envelope_signature_text}
use Rattle.sig_dsse.proofs.EnvelopeTexts.{signature_members}
use Rattle.sig_dsse.proofs.envelope_text.signature_json.Goals as goal

pub returns : goal.returns
unfolding envelope_signature_text
returns c =
    subst (λ members. IfOk c.braced.result (λ text. string_bytes text ≡ in_braces members))
    (signature_members _ _ _ _ _ _ _ c.new-members.ensures.items c.as_slice.ensures c.as_str.ensures
    c.in_ok-push_bytes.ensures c.in_ok-push_text.ensures)
    c.braced.ensures
