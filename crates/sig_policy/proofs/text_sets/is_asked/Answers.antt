use Rattle.std.proofs.Common.{◌∙◌}
use Rattle.sig_policy.proofs.SetLaws.{found_said}
use Rattle.sig_policy.proofs.text_sets.is_asked.Goals as goal

pub returns : goal.returns
returns c = c.contains.ensures ∙ found_said c.args.text.now c.args.asked.now.keys
