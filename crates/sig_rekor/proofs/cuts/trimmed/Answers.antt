-- The trims at both ends, one after the other.
use Rattle.sig_rekor.proofs.CutLaws.{trimmed_by_both}
use Rattle.sig_rekor.proofs.cuts.trimmed.Goals as goal

pub returns : goal.returns
returns c =
    trimmed_by_both c.args.mark c.args.text.now c.trim_start_matches.result.now c.trim_end_matches.result.now
    c.requires c.trim_start_matches.ensures.matches c.trim_end_matches.ensures.matches
