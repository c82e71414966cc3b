use Rattle.sig_base.proofs.PairedLists.{zip_more}
use Rattle.sig_certificate.specs.Certificate.{IsCertificate}
use Rattle.sig_questions.proofs.anchors.read_anchors.Goals as goal

pub ders-preserved : goal.ders-preserved
ders-preserved c =
    zip_more IsCertificate c.args.ders.now c.as_slice-der-items.result.now c.ders.der-index c.as_slice.result.now
    c.der-item.result c.in_ok-anchor.anchor c.ders.anchors c.push.new.self c.as_slice-der-items.ensures
    c.ders-test.true c.der-item.is c.as_slice.ensures c.in_ok-anchor.ensures c.in_ok-push.ensures.ok c.ders.invariant
