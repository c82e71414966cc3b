use Rattle.sig_questions.proofs.Places.{pair_places, signer_places}
use Rattle.sig_questions.proofs.laws.places.Goals as goal

pub returns-clause-signers : goal.returns-clause-signers
returns-clause-signers c = signer_places

pub returns-clause-pairs : goal.returns-clause-pairs
returns-clause-pairs c = pair_places
