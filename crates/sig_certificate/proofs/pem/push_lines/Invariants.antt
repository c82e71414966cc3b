use Rattle.std.proofs.Common.{◌≡◌, ◌++◌, length}
use Rattle.std.specs.Prelude.{string_bytes}
use Rattle.sig_certificate.specs.Pem.{lines_of}
use Rattle.sig_certificate.proofs.pem.push_lines.Given as goal

-- what was written, and then the lines of what is left, is all
abbrev pub invariant-loop-rest : goal.invariant-loop-rest
invariant-loop-rest l = string_bytes l.pem ++ lines_of l.rest ≡ string_bytes l.fn.pem ++ lines_of l.der

abbrev pub decreases-loop-rest : goal.decreases-loop-rest
decreases-loop-rest l = length l.rest
