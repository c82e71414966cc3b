use Rattle.std.proofs.Common.{◌≡◌, false}
use Rattle.sig_x509.specs.Possible.{any_below, meets_at}
use Rattle.sig_x509.proofs.possible.meets.Given as goal

-- none so far
abbrev pub invariant-levels : goal.invariant-levels
invariant-levels l = any_below l.others (meets_at l.next l.trusted l.up) ≡ false
