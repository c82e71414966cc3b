-- The entries so far are those before the index.
use Rattle.std.proofs.Common.{◌≡◌, ◌≤◌}
use Rattle.sig_demo.specs.Log.{demo_entries}
use Rattle.sig_demo.proofs.log.entries_of.Given as goal

abbrev pub invariant-entries : goal.invariant-entries
invariant-entries l = (l.entries ≡ demo_entries l.index) × (l.index ≤ l.count)
