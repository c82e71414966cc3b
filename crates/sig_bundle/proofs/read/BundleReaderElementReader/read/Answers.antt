use Rattle.std.proofs.Common.{refl}
use Rattle.sig_json.proofs.ReaderResults.{is_read, first_refused}
use Rattle.sig_bundle.specs.BundleRecord.{bundle_of}
use Rattle.sig_bundle.proofs.read.BundleReaderElementReader.read.Goals as goal

pub returns-in-Err : goal.returns-in-Err
unfolding bundle_of
returns-in-Err c =
    rw (is_read c.in_ok-media_type.ensures, is_read c.in_ok-verification_material.ensures)
    (first_refused _ _ _ c.in-Err.ensures)

pub returns-in-Ok : goal.returns-in-Ok
unfolding bundle_of
returns-in-Ok c =
    rw (
      is_read c.in_ok-media_type.ensures,
      is_read c.in_ok-verification_material.ensures,
      is_read c.in-Ok.ensures,
    ) refl
