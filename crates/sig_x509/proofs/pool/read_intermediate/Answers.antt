use Rattle.sig_certificate.proofs.Readings.{der_only}
use Rattle.sig_x509.proofs.pool.read_intermediate.Goals as goal

pub returns-in-Err-Der : goal.returns-in-Err-Der
returns-in-Err-Der c =
    der_only c.args.der.now c.in-Err-Der.field-0 c.in-Err-Der.field-0-is c.in-Err-Der.ensures.refused
