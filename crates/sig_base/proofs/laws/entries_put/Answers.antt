-- By recursion over the entries.
use Rattle.sig_base.proofs.TextEntries.{put_found, put_others, put_ascends}
use Rattle.sig_base.proofs.laws.entries_put.Goals as goal

pub returns-clause-found : goal.returns-clause-found
returns-clause-found g c = put_found

pub returns-clause-others : goal.returns-clause-others
returns-clause-others g c = put_others

pub returns-clause-ascend : goal.returns-clause-ascend
returns-clause-ascend g c = put_ascends
