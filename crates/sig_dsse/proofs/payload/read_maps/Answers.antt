use Rattle.sig_dsse.proofs.DigestsAlone.{record-read}
use Rattle.sig_dsse.proofs.payload.read_maps.Goals as goal

-- src/payload.rt:60:1
pub returns-in-Ok : goal.returns-in-Ok
returns-in-Ok c = record-read _ _ c.in-Ok.ensures
