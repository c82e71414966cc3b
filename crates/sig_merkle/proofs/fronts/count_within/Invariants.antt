use Rattle.std.proofs.Common.{◌≡◌, ◌+◌, drop}
use Rattle.sig_merkle.specs.Fronts.{within_len}
use Rattle.sig_merkle.proofs.fronts.count_within.Given as goal

-- so far each was at most `most`
abbrev pub invariant-counts : goal.invariant-counts
invariant-counts l = within_len l.most l.fn.counts ≡ l.place + within_len l.most (drop l.place l.fn.counts)
