-- The bytes so far are alike.
use Rattle.std.proofs.Common.{◌≡◌}
use Rattle.sig_base.specs.Rank.{alike}
use Rattle.sig_base.proofs.rank.alike.Given as goal

abbrev pub invariant-bytes : goal.invariant-bytes
invariant-bytes l = alike l.index l.one l.other ≡ l.index
