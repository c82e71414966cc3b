use Rattle.sig_merkle.proofs.InclusionLaws as laws
use Rattle.sig_merkle.proofs.laws.inclusion_answers.Goals as goal

pub returns : goal.returns
returns c = record { root = laws.root_answers; verdict = laws.inclusion_answers }
