use Rattle.sig_payload.proofs.PayloadTexts.{exact-text, wide-text}
use Rattle.sig_payload.proofs.laws.payload_texts.Goals as goal

pub returns-clause-text : goal.returns-clause-text
returns-clause-text c = exact-text

pub returns-clause-too_large : goal.returns-clause-too_large
returns-clause-too_large c = wide-text
