use Rattle.sig_base.proofs.PairedLists.{zip_more}
use Rattle.sig_x509.specs.Pool.{IsReadAs}
use Rattle.sig_x509.proofs.pool.read_intermediates.Goals as goal

pub ders-preserved : goal.ders-preserved
ders-preserved c =
    zip_more IsReadAs c.args.ders.now c.as_slice-der-items.result.now c.ders.der-index c.as_slice.result.now
    c.der-item.result c.in_ok-intermediate.intermediate c.ders.intermediates c.push.new.self
    c.as_slice-der-items.ensures c.ders-test.true c.der-item.is c.as_slice.ensures c.in_ok-intermediate.ensures
    c.in_ok-push.ensures.ok c.ders.invariant
