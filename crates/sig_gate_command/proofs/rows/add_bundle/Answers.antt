-- A bundle under a text that is not a trusted root asks for nothing.
use Rattle.std.proofs.Common.{subst}
use Rattle.sig_gate_command.proofs.Walks.{bundle-unrooted}
use Rattle.sig_gate_command.specs.AskedRoots.{IsRootOf}
use Rattle.sig_gate_command.specs.declared.asked_roots.NamedRoot.{NamedRoot}
use Rattle.sig_verify.specs.Outcome.{inputs_of}
use Rattle.sig_gate_command.proofs.rows.add_bundle.Goals as goal

pub returns-in-NotRoot-clause-added : goal.returns-in-NotRoot-clause-added
returns-in-NotRoot-clause-added c = λ text now is before so_far.
    bundle-unrooted (inputs_of text now c.args.digest.now c.args.bundle.now) before c.args.rows.now
    (subst (λ (root : NamedRoot). IsRootOf text now root) c.in-NotRoot.is is) so_far
