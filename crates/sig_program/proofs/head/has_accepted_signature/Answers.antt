-- The checker's answer is the table's.
use Rattle.std.proofs.Common.{◌≡◌, rules}
use Rattle.sig_base.specs.declared.error.SigstoreError.TheVariants.{CheckpointSignatureVerificationError}
use Rattle.sig_program.proofs.HeadSignatures.{signed-refused, signed-yes}
use Rattle.sig_program.proofs.head.has_accepted_signature.Goals as goal

pub returns-in-Ok : goal.returns-in-Ok
returns-in-Ok c =
    signed-yes c.args.head.now c.args.checkpoint.now c.in_ok-key.key c.in_ok-key.ensures.scheme
    c.in_ok-key.ensures.info c.in-Ok.ensures.ok

pub returns-in-Err-CheckpointSignatureVerificationError : goal.returns-in-Err-CheckpointSignatureVerificationError
returns-in-Err-CheckpointSignatureVerificationError c =
    let it : c.in-Err-CheckpointSignatureVerificationError.field-0 ≡ CheckpointSignatureVerificationError =
    search (rules, c.in-Err-CheckpointSignatureVerificationError.field-0-is) in
    signed-refused c.args.head.now c.args.checkpoint.now c.in_ok-key.key c.in_ok-key.ensures.scheme
    c.in_ok-key.ensures.info c.in-Err-CheckpointSignatureVerificationError.field-0
    it
    (rw c.in-Err-CheckpointSignatureVerificationError.is at c.verify_signature-answer.ensures.answer)
