use Rattle.sig_token.proofs.Parts.{cut_parts}
use Rattle.sig_token.proofs.compact.cut.Goals as goal

pub returns : goal.returns
returns c = cut_parts c.args.text.now c.split_once.result c.split_once.ensures.cases
