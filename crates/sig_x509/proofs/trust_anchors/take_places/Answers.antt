use Rattle.std.proofs.Common.{None}
use Rattle.sig_x509.proofs.NamedAnchors.{kept_places}
use Rattle.sig_x509.proofs.trust_anchors.take_places.Goals as goal

pub returns-in-Some-clause-kept : goal.returns-in-Some-clause-kept
returns-in-Some-clause-kept c =
    kept_places c.args.subject.now c.args.by_name.now c.remove.new.self None c.remove.ensures.updates
