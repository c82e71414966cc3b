-- What a reader that may run out of memory fails with; sig_base's `Answers` defines its results.
use Rattle.std.specs.Prelude.{Option, Some, None, Result, Ok, Err}
use Rattle.sig_certificate.specs.declared.error.X509ReadError.{X509ReadError}
use Rattle.sig_certificate.specs.declared.error.X509ReadError.TheVariants.{Der}

-- what a definition reads, or `Der` where it reads nothing
abbrev pub or_der : {Y : Type 0} → Option Y → Result Y X509ReadError
or_der (Some y) = Ok y
or_der None = Err Der
