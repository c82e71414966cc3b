use Rattle.std.proofs.Common.{◌≡◌, ◌&&◌, false}
use Rattle.sig_x509.specs.Possible.{any_below, bit}
use Rattle.sig_x509.proofs.reach.any_both.Given as goal

-- none so far
abbrev pub invariant-places : goal.invariant-places
invariant-places l = any_below l.place (λ k. bit l.one k && bit l.other k) ≡ false
