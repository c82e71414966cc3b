-- The first fault of a piece.
use Rattle.std.proofs.Common.{◌≡◌, Err, arith}
use Rattle.std.proofs.lemmas.Grind.{common_steps}
use Rattle.sig_rekor.proofs.Signatures.{ends_at_cut}
use Rattle.sig_rekor.proofs.signed_note.read_signatures.Goals as goal

pub returns-in_err-add_signature : goal.returns-in_err-add_signature
returns-in_err-add_signature c =
    let is : c.from_residual.result ≡ Err c.in_err-add_signature.field-0.0 = grind (arith, common_steps) in
    rw is
    (ends_at_cut c.pieces.signatures _ _ _ _ _ c.pieces.invariant.0 c.in-Some.ensures.cut
    c.in_err-add_signature.ensures)
