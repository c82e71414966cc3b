use Rattle.std.proofs.Common.{refl}
use Rattle.sig_certificate.proofs.Readings.{der_only}
use Rattle.sig_x509.proofs.IssuanceLaws.{no_anchor}
use Rattle.sig_x509.proofs.pool.read_anchor.Goals as goal

pub returns-else-is_unconstrained-clause-refused : goal.returns-else-is_unconstrained-clause-refused
returns-else-is_unconstrained-clause-refused c = (
  refl,
  λ d is. no_anchor c.in-Ok.anchor d c.is_unconstrained.result (c.in-Ok.ensures.only d is.certificate)
      c.if-is_unconstrained.false c.is_unconstrained.ensures is.unconstrained,
)

pub returns-in-Err-Der-clause-refused : goal.returns-in-Err-Der-clause-refused
returns-in-Err-Der-clause-refused c = (
  refl,
  λ d is. der_only c.args.der.now c.in-Err-Der.field-0 c.in-Err-Der.field-0-is c.in-Err-Der.ensures.refused d
      is.certificate,
)
