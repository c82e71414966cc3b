use Rattle.std.proofs.Common.{◌≡◌, None, drop}
use Rattle.sig_audit.specs.Answer.{first_error, watch_answer}
use Rattle.sig_audit.proofs.auditor.check_watches.Given as goal

-- what the watches that are left give is what all give
abbrev pub invariant-watches : goal.invariant-watches
invariant-watches l =
    first_error (watch_answer l.heads) None 0 l.fn.watched
    ≡ first_error (watch_answer l.heads) None l.place (drop l.place l.fn.watched)
