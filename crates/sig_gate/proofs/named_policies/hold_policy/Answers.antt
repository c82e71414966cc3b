-- The policy is held beside the others.
use Rattle.std.proofs.Common.{Some, ap, sym, subst, ◌∙◌}
use Rattle.sig_gate.proofs.HeldNames.{policy-put, put-held}
use Rattle.sig_gate.specs.NamedPolicies.{AreHeldPolicies}
use Rattle.sig_manifest.specs.Manifest.{manifest_view}
use Rattle.sig_manifest.specs.Policies.{ByName}
use Rattle.sig_gate.proofs.named_policies.hold_policy.Goals as goal

pub returns-clause-held : goal.returns-clause-held
returns-clause-held c =
    let gate = manifest_view c.args.manifest.now in
    subst (λ (held : ByName). AreHeldPolicies gate held) (sym c.in_ok-insert.ensures.ok)
    (policy-put gate c.args.held.now c.args.name.now c.in_ok-policy.policy c.requires.held
    (sym c.in-Some.ensures.value ∙ ap Some (sym c.in_ok-policy.ensures)))

pub returns-clause-there : goal.returns-clause-there
returns-clause-there c =
    put-held c.args.name.now c.in_ok-policy.policy c.args.held.now c.insert.new.self c.in_ok-insert.ensures.ok
