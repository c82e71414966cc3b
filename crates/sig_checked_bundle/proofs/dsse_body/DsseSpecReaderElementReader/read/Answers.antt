use Rattle.std.proofs.Common.{refl}
use Rattle.sig_json.proofs.ReaderResults.{is_read}
use Rattle.sig_checked_bundle.specs.DsseBody.{dsse_spec_of}
use Rattle.sig_checked_bundle.proofs.dsse_body.DsseSpecReaderElementReader.read.Goals as goal

pub returns : goal.returns
unfolding dsse_spec_of
returns c =
    rw (
      is_read c.in_ok-required.ensures,
      is_read c.in_ok-required-2.ensures,
      is_read c.in_ok-required-3.ensures,
    ) refl
