use Rattle.std.proofs.Common.{take}
use Rattle.std.specs.List.{AllByRecursion}
use Rattle.sig_audit.specs.Audited.{IsListed}
use Rattle.sig_audit.proofs.log_collision.watched_collision.Given as goal

-- the watched entries so far are the list's
abbrev pub invariant-watches : goal.invariant-watches
invariant-watches l = AllByRecursion (IsListed l.entries) (take l.watch-index l.fn.watched)
