use Rattle.sig_constraint.proofs.KeyLaws.{read_none, read_ok}
use Rattle.sig_constraint.proofs.certificate_verifier.read_certificate.Goals as goal

pub returns-in-Ok : goal.returns-in-Ok
returns-in-Ok c = read_ok c.args.der.now c.in-Ok.certificate c.in-Ok.ensures.found c.in-Ok.ensures.only

pub returns-in-Err-Der : goal.returns-in-Err-Der
returns-in-Err-Der c =
    read_none c.args.der.now c.in-Err-Der.field-0 c.in-Err-Der.field-0-is c.in-Err-Der.ensures.refused
