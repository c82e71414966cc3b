-- What was copied so far, and what is left, are the map.
use Rattle.std.proofs.Common.{◌≡◌, ◌++◌}
use Rattle.sig_base.proofs.copy_map.CopyMap.copy.Given as goal

abbrev pub invariant-entry : goal.invariant-entry
invariant-entry g l = l.copied ++ l.key-iterator ≡ l.self
