use Rattle.std.proofs.Common.{◌≡◌, ◌≢◌, arith, rules}
use Rattle.sig_merkle.specs.Inclusion.{inclusion_answer}
use Rattle.sig_merkle.proofs.InclusionLaws.{answered_same, answered_apart, answer-ok, passes_refusal}
use Rattle.sig_merkle.proofs.inclusion.verify_inclusion.Goals as goal

pub returns-in_err-root-clause-ok : goal.returns-in_err-root-clause-ok
returns-in_err-root-clause-ok g c =
    let answer : c.from_residual.result ≡ inclusion_answer c.args.index c.args.leaf_hash.now c.args.tree_size
    c.args.proof_hashes.now c.args.root_hash.now = grind (arith, passes_refusal) in
    answer-ok _ _ _ _ _ _ answer

pub returns-then-ne-clause-answer : goal.returns-then-ne-clause-answer
returns-then-ne-clause-answer g c =
    let apart : c.in_ok-root.root ≢ c.args.root_hash.now = search rules in
    answered_apart _ _ _ _ _ _ c.in_ok-root.ensures.answer apart

pub returns-clause-answer : goal.returns-clause-answer
returns-clause-answer g c =
    let same : c.in_ok-root.root ≡ c.args.root_hash.now = search rules in
    answered_same _ _ _ _ _ _ c.in_ok-root.ensures.answer same
