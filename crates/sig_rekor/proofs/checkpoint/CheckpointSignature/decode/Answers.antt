-- The reader meets the grammar both ways.
use Rattle.sig_rekor.specs.SignatureText.{IsSignature, signature_of}
use Rattle.sig_rekor.proofs.Steps.{reads-found, reads-only}
use Rattle.sig_rekor.proofs.SignatureLaws.{signature-found, signature-only}
use Rattle.sig_rekor.proofs.checkpoint.CheckpointSignature.decode.Goals as goal

pub returns-clause-found : goal.returns-clause-found
returns-clause-found c =
    reads-found (IsSignature c.args.s.now) c.read_signature.result (signature_of c.args.s.now) c.read_signature.ensures
    (signature-found c.args.s.now)

pub returns-clause-only : goal.returns-clause-only
returns-clause-only c =
    λ x is. reads-only c.read_signature.result (signature_of c.args.s.now) x c.read_signature.ensures
    (signature-only c.args.s.now x is)
