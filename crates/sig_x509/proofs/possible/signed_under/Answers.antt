use Rattle.std.proofs.Common.{refl, sym, ◌∙◌}
use Rattle.sig_x509.proofs.SignerLists.{no_more, one_more}
use Rattle.sig_x509.specs.Possible.{seen_signed}
use Rattle.sig_x509.proofs.possible.signed_under.Goals as goal
use Rattle.sig_x509.proofs.possible.signed_under.Goals.{then-may_sign+in_ok-push, else-may_sign}

pub signers-preserved : goal.signers-preserved
signers-preserved c =
    elim c.if-may_sign.branch [
      | then-may_sign+in_ok-push w ↦
          rw w.found-is
          (one_more (seen_signed c.args.signed.now) c.args.anchors.now c.args.signers.now c.signers.signer-index
          c.signer-item.result c.signers-test.true c.signer-item.is c.signers.found.items w.push.new.self.items _ refl
          c.signers.invariant w.in_ok-push.ensures.items (sym c.may_sign.ensures ∙ w.if-may_sign.true))
      | else-may_sign w ↦
          rw w.found-is
          (no_more (seen_signed c.args.signed.now) c.args.anchors.now c.args.signers.now c.signers.signer-index
          c.signer-item.result c.signers-test.true c.signer-item.is c.signers.found.items c.signers.invariant
          (sym c.may_sign.ensures ∙ w.if-may_sign.false))
    ]
