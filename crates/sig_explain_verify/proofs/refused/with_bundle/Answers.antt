use Rattle.std.proofs.Common.{Ok, None, Some, Option, refl, subst}
use Rattle.sig_json.specs.Writing.{members}
use Rattle.sig_checked_bundle.specs.Checked.{Checked}
use Rattle.sig_explain_verify.proofs.ShownRoots.{of_checked}
use Rattle.sig_explain_verify.specs.Inputs.{inputs_of}
use Rattle.sig_explain_verify.specs.Parts.{IsCheckedIn}
use Rattle.sig_explain_verify.proofs.refused.with_bundle.Goals as goal

pub returns-in-Some : goal.returns-in-Some
returns-in-Some c =
    of_checked (inputs_of c.args.inputs.now) c.args.link c.args.root.now (Some c.in-Some.checked)
    c.with_checked-made.result (members c.args.object) c.requires
    (subst (λ (found : Option Checked). IsCheckedIn c.args.inputs.now.bundle.now found) c.in-Some.is
    c.in_ok-checked.ensures)
    c.with_checked-made.ensures

pub returns-in-None : goal.returns-in-None
returns-in-None c =
    of_checked (inputs_of c.args.inputs.now) c.args.link c.args.root.now None (Ok c.args.object)
    (members c.args.object) c.requires
    (subst (λ (found : Option Checked). IsCheckedIn c.args.inputs.now.bundle.now found) c.in-None.is
    c.in_ok-checked.ensures)
    refl
