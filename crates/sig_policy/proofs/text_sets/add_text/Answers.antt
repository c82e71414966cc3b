use Rattle.sig_policy.proofs.SetLaws.{one_more}
use Rattle.sig_policy.proofs.text_sets.add_text.Goals as goal

pub returns : goal.returns
returns c = λ test. rw c.in_ok-insert.ensures.keys (one_more test c.args.text c.args.texts.now.keys)
