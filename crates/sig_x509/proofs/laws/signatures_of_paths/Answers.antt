use Rattle.sig_x509.proofs.PossibleLaws.{further_under_anchor, further_under_further, leaf_under_anchor, leaf_under_further}
use Rattle.sig_x509.proofs.laws.signatures_of_paths.Goals as goal

pub returns : goal.returns
returns c = record {
  leaf_under_anchor = leaf_under_anchor;
  leaf_under_further = leaf_under_further;
  further_under_anchor = further_under_anchor;
  further_under_further = further_under_further;
}
