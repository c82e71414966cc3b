-- The walk shows the entries in order.
use Rattle.std.proofs.lemmas.Iterator.Consumers.{nth_from_yields_List, YieldsList-from_rest}
use Rattle.sig_base.proofs.by_text.ByText.at.Goals as goal

pub returns-clause-entry : goal.returns-clause-entry
returns-clause-entry g c = nth_from_yields_List _ _ _ c.nth.ensures.ran (YieldsList-from_rest _ c.iter.ensures.rest)
