use Rattle.sig_x509.proofs.DirectPaths.{issuer_issued}
use Rattle.sig_x509.proofs.PlaceLaws.{longer, room_at, shorter}
use Rattle.sig_x509.proofs.laws.path_laws.Goals as goal

pub returns-clause-longer : goal.returns-clause-longer
returns-clause-longer c accepts pool leaf t below x anchor =
    (shorter accepts pool leaf t below x anchor, longer accepts pool leaf t below x anchor)

pub returns-clause-path_length : goal.returns-clause-path_length
returns-clause-path_length c = room_at

pub returns-clause-issuer : goal.returns-clause-issuer
returns-clause-issuer c = issuer_issued
