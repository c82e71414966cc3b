use Rattle.std.proofs.Common.{◌∙◌}
use Rattle.sig_policy.proofs.SetLaws.{found_by_order}
use Rattle.sig_policy.proofs.identity_set.has.Goals as goal

pub returns : goal.returns
returns c = c.contains.ensures ∙ found_by_order c.args.text.now c.args.set.now.keys
