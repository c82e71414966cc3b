-- The text of the trusted root is not one.
use Rattle.std.proofs.Common.{subst}
use Rattle.sig_gate.proofs.FoundVerdicts.{not_root-found}
use Rattle.sig_gate.specs.BundleVerdict.{outside}
use Rattle.sig_gate.specs.NamedRoots.{IsRootOf}
use Rattle.sig_gate.specs.declared.named_roots.NamedRoot.{NamedRoot}
use Rattle.sig_verify.specs.Verdict.{checker_of}
use Rattle.sig_gate.proofs.judging.judge.Goals as goal

pub returns-in-NotRoot : goal.returns-in-NotRoot
returns-in-NotRoot g c = λ text now is.
    let none = subst (λ (root : NamedRoot). IsRootOf text now root) c.in-NotRoot.is is in
    not_root-found (outside (checker_of g.C.SignatureChecker c.args.checker.now) c.args.policy.now)
    (record { root = text; now = now; digest = c.args.digest.now; bundle = c.args.bundle.now }) none.0 none.1
