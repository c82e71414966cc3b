use Rattle.sig_merkle.proofs.SameEntries.{twins-or-broken, entry-or-broken}
use Rattle.sig_merkle.proofs.laws.same_entries.Goals as goal

pub returns : goal.returns
returns c = record { twins = twins-or-broken; listed = entry-or-broken }
