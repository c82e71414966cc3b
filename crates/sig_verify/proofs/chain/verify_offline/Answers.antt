use Rattle.std.proofs.Common.{◌≡◌, Err, rules}
use Rattle.std.proofs.Math.Facts.{to_z-of_z}
use Rattle.sig_verify.proofs.HeldRoots.{held_there}
use Rattle.sig_verify.proofs.OfflineBytes.{kept_told, links_told, steps_told, unread_links, unread_steps}
use Rattle.sig_verify.specs.Outcome.{outside_of}
use Rattle.sig_verify.proofs.chain.verify_offline.Goals as goal

pub returns-in_err-held-clause-links : goal.returns-in_err-held-clause-links
returns-in_err-held-clause-links g c =
    let is : c.from_residual.result ≡ Err c.in_err-held.field-0.0 = search rules in
    rw is (unread_links (outside_of g.C.SignatureChecker c.args.checker.now g.P.VerificationPolicy c.args.policy.now)
    c.args.trusted_root.now c.args.now c.args.digest.now c.args.bundle.now c.in_err-held.field-0.0
    c.in_err-held.ensures)

pub returns-in_err-held-clause-steps : goal.returns-in_err-held-clause-steps
returns-in_err-held-clause-steps g c =
    let is : c.from_residual.result ≡ Err c.in_err-held.field-0.0 = search rules in
    rw is (unread_steps (outside_of g.C.SignatureChecker c.args.checker.now g.P.VerificationPolicy c.args.policy.now)
    c.args.trusted_root.now c.args.now c.args.digest.now c.args.bundle.now c.in_err-held.field-0.0
    c.in_err-held.ensures)

pub returns-clause-links : goal.returns-clause-links
returns-clause-links g c =
    links_told (outside_of g.C.SignatureChecker c.args.checker.now g.P.VerificationPolicy c.args.policy.now)
    c.in_ok-held.held c.args.digest.now c.args.bundle.now c.judge.result c.judge.ensures.steps c.args.trusted_root.now
    c.args.now
    (held_there c.args.trusted_root.now c.args.now _ c.in_ok-held.held (to_z-of_z c.ranges.now) c.in_ok-held.ensures)
    c.outcomes.ensures c.judge.ensures.bytes

pub returns-clause-kept : goal.returns-clause-kept
returns-clause-kept g c =
    kept_told (outside_of g.C.SignatureChecker c.args.checker.now g.P.VerificationPolicy c.args.policy.now)
    c.in_ok-held.held c.args.digest.now c.args.bundle.now c.judge.result c.judge.ensures.steps c.args.trusted_root.now
    c.args.now
    (held_there c.args.trusted_root.now c.args.now _ c.in_ok-held.held (to_z-of_z c.ranges.now) c.in_ok-held.ensures)
    c.outcomes.ensures c.judge.ensures.bytes

pub returns-clause-steps : goal.returns-clause-steps
returns-clause-steps g c =
    steps_told (outside_of g.C.SignatureChecker c.args.checker.now g.P.VerificationPolicy c.args.policy.now)
    c.in_ok-held.held c.args.digest.now c.args.bundle.now c.judge.result c.judge.ensures.steps c.args.trusted_root.now
    c.args.now
    (held_there c.args.trusted_root.now c.args.now _ c.in_ok-held.held (to_z-of_z c.ranges.now) c.in_ok-held.ensures)
