use Rattle.sig_token.proofs.Parts.{payload_found, payload_only}
use Rattle.sig_token.proofs.laws.payloads.Goals as goal

pub returns : goal.returns
returns c text payload = (payload_found text payload, payload_only text payload)
