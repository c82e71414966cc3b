-- What the checker accepts under the key is what the request accepts.
use Rattle.std.proofs.Common.{◌≡◌, ℕ, List, Result, refl}
use Rattle.sig_audit.specs.Faults.{IsAuditAnswer}
use Rattle.sig_audit.specs.declared.error.AuditError.{AuditError}
use Rattle.sig_audit.specs.declared.heads.AuditHead.{AuditHead}
use Rattle.sig_audit.specs.declared.heads.Watch.{Watch}
use Rattle.sig_base.specs.Answers.{UnlessMemory}
use Rattle.sig_base.specs.Checker.{accepted}
use Rattle.sig_base.specs.Scheme.{name_of, scheme_of}
use Rattle.sig_base.specs.declared.checker.Operation.TheVariants.{Message}
use Rattle.sig_key.specs.Key.{key_accepts, key_info, key_scheme}
use Rattle.sig_key.specs.declared.verification_key.CosignVerificationKey.{CosignVerificationKey}
use Rattle.sig_request.specs.declared.audit_request.AuditRequest.{AuditRequest}
use Rattle.sig_audit_command.specs.Heads.{accepts}

pub under-key : (request : AuditRequest) (heads : List AuditHead) (key : CosignVerificationKey) (memory : AuditError)
    (answer : Result ℕ AuditError) → key_scheme key ≡ scheme_of request.scheme → key_info key ≡ request.key
    → UnlessMemory memory answer (IsAuditAnswer (key_accepts (λ scheme info message signature. accepted request.accepted
    Message (name_of scheme) info message signature) key) heads request.watched answer)
    → UnlessMemory memory answer (IsAuditAnswer (accepts request) heads request.watched answer)
under-key request heads key memory answer scheme info is =
    let opened : UnlessMemory memory answer (IsAuditAnswer (λ message signature. accepted request.accepted Message
    (name_of (key_scheme key)) (key_info key) message signature) heads request.watched answer) = is in
    rw (scheme, info) at opened
