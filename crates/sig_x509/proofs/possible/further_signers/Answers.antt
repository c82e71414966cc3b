use Rattle.std.proofs.Common.{refl}
use Rattle.std.proofs.Math.Facts.{to_z-of_z}
use Rattle.sig_x509.proofs.PossibleLists.{signer_more}
use Rattle.sig_x509.proofs.possible.further_signers.Goals as goal

pub further-preserved : goal.further-preserved
further-preserved c =
    signer_more c.args.anchors.now c.args.further.now c.args.leaf.now c.args.time _ (to_z-of_z c.ranges.time)
    c.args.rows.now c.further.place c.index-further-place.result c.further-test.true c.index-further-place.is
    c.requires.rows c.further.signers.items c.push.new.self.items _ refl c.in_ok-up.ensures
    c.in_ok-push.ensures.items c.further.invariant
