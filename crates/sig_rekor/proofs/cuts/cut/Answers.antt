-- The cut that `split_once` says.
use Rattle.sig_rekor.proofs.CutLaws.{cut_at-split_once}
use Rattle.sig_rekor.proofs.cuts.cut.Goals as goal

pub returns-clause-cut : goal.returns-clause-cut
returns-clause-cut c =
    cut_at-split_once c.args.separator.now c.args.text.now c.split_once.result c.requires c.split_once.ensures.cases
