use Rattle.sig_json.proofs.ReaderResults.{is_read}
use Rattle.sig_bundle.specs.BundleRecord.{content_of}
use Rattle.sig_bundle.proofs.read_content.read_content.Goals as goal

pub returns : goal.returns
unfolding content_of
returns c = rw (is_read c.in_ok-signature.ensures, is_read c.in_ok-envelope.ensures) c.one_of.ensures
