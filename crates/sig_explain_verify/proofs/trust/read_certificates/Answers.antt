use Rattle.std.proofs.Common.{Option, subst}
use Rattle.sig_base.proofs.PairedLists.{zip_more}
use Rattle.sig_certificate.specs.Certificate.{Cert, IsCertificate}
use Rattle.sig_explain_verify.proofs.ShownRoots.{not_read}
use Rattle.sig_explain_verify.specs.Parts.{IsReadOne}
use Rattle.sig_explain_verify.proofs.trust.read_certificates.Goals as goal

pub returns-in-None : goal.returns-in-None
returns-in-None c =
    not_read c.args.ders.now c.as_slice-der-items.result.now c.ders.der-index c.as_slice.result.now c.der-item.result
    c.in_ok-certificate.field-0 c.as_slice-der-items.ensures c.ders-test.true c.der-item.is c.as_slice.ensures c.in_ok-certificate.ensures
    c.in-None.is

pub ders-preserved : goal.ders-preserved
ders-preserved c =
    zip_more IsCertificate c.args.ders.now c.as_slice-der-items.result.now c.ders.der-index c.as_slice.result.now
    c.der-item.result c.in-Some.certificate c.ders.certificates c.push.new.self c.as_slice-der-items.ensures
    c.ders-test.true c.der-item.is c.as_slice.ensures
    (subst (λ (o : Option Cert). IsReadOne c.as_slice.result.now o) c.in-Some.is c.in_ok-certificate.ensures)
    c.in_ok-push-in-Some.ensures.ok c.ders.invariant
