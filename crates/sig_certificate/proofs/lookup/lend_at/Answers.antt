-- What is borrowed is the extension at the index.
use Rattle.sig_certificate.proofs.Spans.{lent_at}
use Rattle.sig_certificate.proofs.lookup.lend_at.Goals as goal

pub returns-clause-found : goal.returns-clause-found
returns-clause-found c =
    let got = c.in_ok-places.ensures.lookup in
    lent_at c.args.bytes.now c.args.extensions.now c.args.index c.in_ok-places.places.now c.lend.result got.3.0 got.1
    c.lend.ensures
