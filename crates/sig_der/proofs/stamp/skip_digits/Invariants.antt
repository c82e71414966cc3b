use Rattle.std.proofs.Common.{◌≡◌, ◌-◌}
use Rattle.sig_der.specs.Stamp.{after_digits}
use Rattle.sig_der.proofs.stamp.skip_digits.Given as goal

abbrev pub invariant-loop : goal.invariant-loop
invariant-loop l = after_digits (9 - l.counter) l.rest ≡ after_digits 9 l.text
