use Rattle.sig_base.proofs.PairedLists.{zip_more}
use Rattle.sig_x509.specs.Issuance.{IsAnchor}
use Rattle.sig_x509.proofs.pool.read_anchors.Goals as goal

pub ders-preserved : goal.ders-preserved
ders-preserved c =
    zip_more IsAnchor c.args.ders.now c.as_slice-der-items.result.now c.ders.index c.as_slice.result.now
    c.der-item.result c.in_ok-anchor.anchor c.ders.anchors c.push.new.self c.as_slice-der-items.ensures
    c.ders-test.true c.der-item.is c.as_slice.ensures c.in_ok-anchor.ensures.found c.in_ok-push.ensures.ok
    c.ders.invariant
