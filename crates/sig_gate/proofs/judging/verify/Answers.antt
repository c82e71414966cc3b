-- The chain of trust holds, or its first link that fails is known.
use Rattle.std.proofs.lemmas.Result.{IfOk-weaker}
use Rattle.sig_gate.proofs.FoundVerdicts.{refused-by, verified-found}
use Rattle.sig_gate.specs.BundleVerdict.{outside}
use Rattle.sig_gate.specs.FoundVerdict.{IsFoundUnder, IsRefusedBy}
use Rattle.sig_gate.specs.declared.named_roots.NamedRoot.TheVariants.{Held}
use Rattle.sig_verify.specs.Verdict.{checker_of}
use Rattle.sig_gate.proofs.judging.verify.Goals as goal

pub returns-in-Ok : goal.returns-in-Ok
returns-in-Ok g c = λ text now is.
    verified-found (outside (checker_of g.C.SignatureChecker c.args.checker.now) c.args.policy.now)
    (record { root = text; now = now; digest = c.args.digest.now; bundle = c.args.bundle.now }) c.in-Ok.entry
    (c.in-Ok.ensures.links text now is) (c.in-Ok.ensures.kept text now is) (c.in-Ok.ensures.steps text now is)

pub returns-in-Err : goal.returns-in-Err
returns-in-Err g c =
    let k = checker_of g.C.SignatureChecker c.args.checker.now in
    IfOk-weaker c.refused.result (IsRefusedBy c.link-link.result)
    (IsFoundUnder k c.args.policy.now (Held c.args.root.now) c.args.digest.now c.args.bundle.now)
    (λ verdict refused text now is.
    refused-by (outside k c.args.policy.now)
    (record { root = text; now = now; digest = c.args.digest.now; bundle = c.args.bundle.now }) c.in-Err.error
    c.link-link.result verdict c.link-link.ensures refused (c.in-Err.ensures.links text now is)
    (c.in-Err.ensures.steps text now is)) c.refused.ensures
