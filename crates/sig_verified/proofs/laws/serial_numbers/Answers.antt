-- The number is the one after the version.
use Rattle.sig_verified.proofs.SerialNumbers.{shows_serial}
use Rattle.sig_verified.proofs.laws.serial_numbers.Goals as goal

pub returns : goal.returns
returns c = shows_serial c.args.certificate.now.whole c.args.certificate.now c.is_certificate.ensures
