use Rattle.std.proofs.Common.{◌≡◌, ◌∙◌, sym, arith}
use Rattle.sig_merkle.specs.ConsistencyAnswer.{consistency_answer}
use Rattle.sig_merkle.proofs.ConsistencyAnswers.{consistency_answer-smaller, consistency_answer-same}
use Rattle.sig_merkle.proofs.ConsistencyAnswers.{consistency_answer-from_empty, consistency_answer-growth}
use Rattle.sig_merkle.proofs.ConsistencyAnswers.{answered-cause, answered-ok}
use Rattle.sig_merkle.proofs.consistency.verify_consistency.Goals as goal

pub returns-then-old_size-new_size-clause-answer : goal.returns-then-old_size-new_size-clause-answer
returns-then-old_size-new_size-clause-answer g c =
    sym (consistency_answer-smaller _ _ _ _ _ c.if-old_size-new_size.true)

pub returns-then-old_size-new_size-2-clause-answer : goal.returns-then-old_size-new_size-2-clause-answer
returns-then-old_size-new_size-2-clause-answer g c =
    c.verify_same_tree.ensures ∙ sym (consistency_answer-same _ _ _ _ _ c.if-old_size-new_size-2.true)

pub returns-then-old_size-eq0-clause-answer : goal.returns-then-old_size-eq0-clause-answer
returns-then-old_size-eq0-clause-answer g c =
    c.verify_from_empty.ensures
    ∙ sym (consistency_answer-from_empty _ _ _ _ _ c.if-old_size-eq0.true (omega arith))

pub returns-clause-answer : goal.returns-clause-answer
returns-clause-answer g c =
    c.verify_growth.ensures.answer ∙ sym (consistency_answer-growth _ _ _ _ _ (omega arith) (omega arith))

pub returns-clause-ok : goal.returns-clause-ok
returns-clause-ok g c =
    let answer : c.verify_growth.result ≡ consistency_answer c.args.old_size c.args.new_size c.args.proof_hashes.now
    c.args.old_root.now c.args.new_root.now =
    c.verify_growth.ensures.answer ∙ sym (consistency_answer-growth _ _ _ _ _ (omega arith) (omega arith)) in
    answered-ok _ _ _ _ _ _ answer

pub returns-clause-causes : goal.returns-clause-causes
returns-clause-causes g c =
    let answer : c.verify_growth.result ≡ consistency_answer c.args.old_size c.args.new_size c.args.proof_hashes.now
    c.args.old_root.now c.args.new_root.now =
    c.verify_growth.ensures.answer ∙ sym (consistency_answer-growth _ _ _ _ _ (omega arith) (omega arith)) in
    answered-cause _ _ _ _ _ _ answer
