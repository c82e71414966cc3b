use Rattle.std.proofs.Common.{refl}
use Rattle.sig_json.proofs.ReaderResults.{is_read}
use Rattle.sig_attestation.specs.Body.{spelled_in}
use Rattle.sig_attestation.proofs.body.SpelledReaderElementReader.read.Goals as goal

pub returns : goal.returns
unfolding spelled_in
returns c =
    rw (
      is_read c.in_ok-envelope.ensures,
      is_read c.in_ok-payload.ensures,
      is_read c.in_ok-required.ensures,
    ) refl
