use Rattle.std.proofs.Common.{◌≡◌, map, take}
use Rattle.sig_json_text.specs.Spells.{texts_of}
use Rattle.sig_dsse.specs.EnvelopeText.{envelope_signature_text}
use Rattle.sig_dsse.proofs.envelope_text.signature_texts.Given as goal

-- the texts so far are those of the signatures so far
abbrev pub invariant-signatures : goal.invariant-signatures
invariant-signatures l = texts_of l.texts.items ≡ map envelope_signature_text
    (take l.signature-index l.signature-items)
