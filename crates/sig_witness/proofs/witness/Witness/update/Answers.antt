-- The result and the logs of an update are those of the step.
use Rattle.sig_witness.proofs.UpdateAnswers.{answer-only, answer-step}
use Rattle.sig_witness.specs.Updates.{update_of}
use Rattle.sig_witness.proofs.witness.Witness.update.Goals as goal

pub returns-clause-only : goal.returns-clause-only
returns-clause-only g c =
    answer-only (g.C.SignatureChecker.spki_accepts c.args.checker.now) c.args.self.now
    (update_of c.args.checkpoint.now c.args.old_size c.args.hashes.now) c.take.ensures.kept c.take.result
    c.take.ensures.answer

pub returns-clause-step : goal.returns-clause-step
returns-clause-step g c =
    answer-step (g.C.SignatureChecker.spki_accepts c.args.checker.now) c.args.self.now
    (update_of c.args.checkpoint.now c.args.old_size c.args.hashes.now) c.take.ensures.kept c.take.new.self c.take.result
    c.take.ensures.answer c.take.ensures.ok c.take.ensures.err
