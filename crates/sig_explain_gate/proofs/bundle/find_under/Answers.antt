-- The text of the trusted root is not one.
use Rattle.std.proofs.Common.{subst}
use Rattle.std.proofs.lemmas.Result.{IfOk-weaker}
use Rattle.std.specs.Prelude.{Result}
use Rattle.sig_explain_gate.proofs.Bundles.{no_root-found}
use Rattle.sig_explain_gate.specs.Bundle.{IsFoundHere, IsRefusedHere}
use Rattle.sig_explain_verify.specs.Inputs.{inputs_of}
use Rattle.sig_verify.specs.HeldRoot.{IsHeldIn}
use Rattle.sig_verify.specs.declared.held_root.HeldRoot.{HeldRoot}
use Rattle.sig_verify.specs.declared.offline_error.OfflineError.{OfflineError}
use Rattle.sig_explain_gate.proofs.bundle.find_under.Goals as goal

pub returns-in-Err : goal.returns-in-Err
returns-in-Err c =
    let i = inputs_of c.args.inputs.now in
    let held = subst (λ (h : Result HeldRoot OfflineError). IsHeldIn i.root i.now h) c.in-Err.is c.requires.root.held in
    IfOk-weaker c.refused.result (IsRefusedHere i c.in-Err.error) (IsFoundHere i)
    (λ found. no_root-found i c.in-Err.error found held) c.refused.ensures
