use Rattle.std.proofs.Common.{◌≡◌, Err, refl, rules}
use Rattle.sig_base.proofs.PairedLists.{zip_more}
use Rattle.sig_checked_bundle.proofs.SigningCertificateLaws.{after_refused}
use Rattle.sig_certificate.specs.Certificate.{IsCertificate}
use Rattle.sig_checked_bundle.proofs.signing_certificate.read_further.Goals as goal

pub ders-preserved : goal.ders-preserved
ders-preserved c =
    zip_more IsCertificate c.args.ders.now c.args.ders.now c.ders.index c.as_slice.result.now c.index-ders-index.result
    c.in_ok-certificate.certificate c.ders.further c.push.new.self refl c.ders-test.true c.index-ders-index.is
    c.as_slice.ensures c.in_ok-certificate.ensures.found c.in_ok-push.ensures.ok c.ders.invariant

pub returns-in_err-certificate-clause-refused : goal.returns-in_err-certificate-clause-refused
returns-in_err-certificate-clause-refused c =
    let is : c.from_residual.result ≡ Err c.in_err-certificate.field-0.0 = search rules in
    after_refused c.args.ders.now c.ders.index c.as_slice.result.now c.index-ders-index.result c.ders.further
    c.in_err-certificate.field-0.0 c.from_residual.result is c.ders-test.true c.index-ders-index.is c.as_slice.ensures
    c.ders.invariant c.in_err-certificate.ensures.refused
