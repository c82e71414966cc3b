use Rattle.sig_checked_bundle.proofs.SigningCertificateLaws.{malformed_told}
use Rattle.sig_checked_bundle.proofs.signing_certificate.read_certificate.Goals as goal

pub returns-in-Err-Der-clause-refused : goal.returns-in-Err-Der-clause-refused
returns-in-Err-Der-clause-refused c =
    malformed_told c.args.index c.args.der.now c.in-Err-Der.field-0 c.in-Err-Der.field-0-is c.in-Err-Der.ensures.refused
