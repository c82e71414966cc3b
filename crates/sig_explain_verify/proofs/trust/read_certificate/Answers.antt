use Rattle.std.proofs.Common.{◌≡◌, Result, Err, ap}
use Rattle.sig_certificate.specs.Certificate.{Cert}
use Rattle.sig_certificate.specs.declared.error.X509ReadError.{X509ReadError}
use Rattle.sig_certificate.specs.declared.error.X509ReadError.TheVariants.{Der}
use Rattle.sig_explain_verify.proofs.trust.read_certificate.Goals as goal

pub returns-in-Err-Der : goal.returns-in-Err-Der
returns-in-Err-Der c =
    let is : ◌≡◌ {A = Result Cert X509ReadError} (Err c.in-Err-Der.field-0) (Err Der) =
    ap (λ (e : X509ReadError). Err e) c.in-Err-Der.field-0-is in
    c.in-Err-Der.ensures.refused.0 is
