-- No entries ascend.
use Rattle.sig_base.proofs.Texts.{ascend-entries}
use Rattle.sig_witness.proofs.logs.Logs.new.Goals as goal

pub invariant_of-result : goal.invariant_of-result
invariant_of-result c = ascend-entries c.new.result.entries c.new.ensures.ordered
