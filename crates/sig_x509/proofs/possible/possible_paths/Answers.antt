use Rattle.std.proofs.Common.{List, map, ap, ◌∙◌}
use Rattle.std.proofs.Math.Facts.{to_z-of_z}
use Rattle.sig_x509.proofs.SignerLists.{further_under}
use Rattle.sig_x509.specs.Possible.{seen_signed, signed_under, signers_with}
use Rattle.sig_x509.specs.declared.possible.Signed.{Signed}
use Rattle.sig_x509.specs.declared.possible.Signer.{Signer}
use Rattle.sig_x509.proofs.possible.possible_paths.Goals as goal

pub returns-clause-further : goal.returns-clause-further
returns-clause-further c =
    further_under c.args.anchors.now c.args.further.now c.args.leaf.now c.args.time _ (to_z-of_z c.ranges.time)
    c.in_ok-signers.signers.items c.in_ok-signers.ensures c.in_ok-each_under.field-0.items c.in_ok-signed.signed.items
    c.in_ok-signed.ensures
    (c.in_ok-each_under.ensures
    ∙ ap (λ (xs : List Signer). map (λ y. signed_under (signers_with c.args.anchors.now xs) (seen_signed y))
    c.deref-3.result.now) c.deref-2.ensures.value
    ∙ ap (λ (ys : List Signed). map (λ y. signed_under (signers_with c.args.anchors.now c.in_ok-signers.signers.items)
    (seen_signed y)) ys) c.deref-3.ensures.value)
