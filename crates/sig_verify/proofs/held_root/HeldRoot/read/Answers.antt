use Rattle.std.proofs.Common.{List, inr, subst}
use Rattle.std.specs.List.{AllByRecursion}
use Rattle.std.proofs.Math.Facts.{to_z-of_z}
use Rattle.sig_root.specs.OfBytes.{HasRawBytes}
use Rattle.sig_root.specs.declared.record.TransparencyLogInstance.{TransparencyLogInstance}
use Rattle.sig_verify.proofs.HeldRoots.{held_of, unread_of}
use Rattle.sig_verify.proofs.held_root.HeldRoot.read.Goals as goal

pub returns-in_ok-held-in-Ok : goal.returns-in_ok-held-in-Ok
returns-in_ok-held-in-Ok c =
    inr (held_of c.args.text.now c.in-Ok.root _ c.args.now _ c.in_ok-held-in-Ok.held (to_z-of_z c.ranges.now) c.of-root.ensures
    c.in-Ok.ensures
    (subst (λ (l : List TransparencyLogInstance). AllByRecursion HasRawBytes l) c.as_slice.ensures
    c.are_log_key_bytes.ensures)
    c.in_ok-held-in-Ok.ensures)

pub returns-in-Err : goal.returns-in-Err
returns-in-Err c =
    unread_of c.args.text.now c.args.now c.in-Err.error c.json_error.result c.json_error.ensures c.in-Err.ensures
