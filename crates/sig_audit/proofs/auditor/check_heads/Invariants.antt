use Rattle.std.proofs.Common.{◌≡◌, None, drop, option_map}
use Rattle.sig_key.specs.Key.{key_accepts}
use Rattle.sig_audit.specs.Answer.{first_error, head_answer}
use Rattle.sig_audit.proofs.auditor.check_heads.Given as goal

-- what the heads that are left give is what all give
abbrev pub invariant-heads : goal.invariant-heads
invariant-heads g l =
    first_error (head_answer (key_accepts (g.C.SignatureChecker.spki_accepts l.checker) l.key) l.first) None 0 l.fn.heads
    ≡ first_error (head_answer (key_accepts (g.C.SignatureChecker.spki_accepts l.checker) l.key) l.first)
    (option_map (λ h. h.now) l.before) l.place (drop l.place l.fn.heads)
