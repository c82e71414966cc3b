use Rattle.sig_verify.proofs.OfflineBytes.{kept_told, links_told, steps_told}
use Rattle.sig_verify.specs.Outcome.{outside_of}
use Rattle.sig_verify.proofs.held_root.HeldRoot.verify.Goals as goal

pub returns-clause-links : goal.returns-clause-links
returns-clause-links g c root now is =
    links_told (outside_of g.C.SignatureChecker c.args.checker.now g.P.VerificationPolicy c.args.policy.now)
    c.args.self.now c.args.digest.now c.args.bundle.now c.judge.result c.judge.ensures.steps root now is
    c.outcomes.ensures c.judge.ensures.bytes

pub returns-clause-kept : goal.returns-clause-kept
returns-clause-kept g c root now is =
    kept_told (outside_of g.C.SignatureChecker c.args.checker.now g.P.VerificationPolicy c.args.policy.now)
    c.args.self.now c.args.digest.now c.args.bundle.now c.judge.result c.judge.ensures.steps root now is
    c.outcomes.ensures c.judge.ensures.bytes

pub returns-clause-steps : goal.returns-clause-steps
returns-clause-steps g c root now is =
    steps_told (outside_of g.C.SignatureChecker c.args.checker.now g.P.VerificationPolicy c.args.policy.now)
    c.args.self.now c.args.digest.now c.args.bundle.now c.judge.result c.judge.ensures.steps root now is
