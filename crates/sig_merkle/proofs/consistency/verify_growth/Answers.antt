use Rattle.sig_merkle.proofs.ConsistencyAnswers.{growth-wrong_size}
use Rattle.sig_merkle.proofs.consistency.verify_growth.Goals as goal

pub returns-then-got-want-clause-answer : goal.returns-then-got-want-clause-answer
returns-then-got-want-clause-answer g c =
    growth-wrong_size _ _ _ _ _ _ c.if-is_empty.ensures c.decomp_consistency_proof-taken.ensures.sum c.if-got-want.true
