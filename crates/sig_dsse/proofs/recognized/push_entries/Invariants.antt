use Rattle.sig_dsse.proofs.CollectedDigests.{SoFar}
use Rattle.sig_dsse.specs.Recognized.{entry_digest}
use Rattle.sig_dsse.proofs.recognized.push_entries.Given as goal

-- the digests so far and the entries that are left are what is meant
abbrev pub invariant-entries : goal.invariant-entries
invariant-entries l = SoFar entry_digest l.fn.digest l.name-iterator l.fn.digests l.digests
