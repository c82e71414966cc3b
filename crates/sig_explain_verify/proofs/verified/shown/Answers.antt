use Rattle.std.proofs.Common.{refl, sym, ◌∙◌}
use Rattle.sig_explain_verify.proofs.Issuers.{run_shown}
use Rattle.sig_explain_verify.specs.Inputs.{inputs_of}
use Rattle.sig_explain_verify.specs.ShownRoot.{anchors_in}
use Rattle.sig_explain_verify.specs.Verified.{issuer_among}
use Rattle.sig_verified.specs.declared.run.VerifiedRun.{VerifiedRun}
use Rattle.sig_explain_verify.proofs.verified.shown.Goals as goal

pub returns : goal.returns
returns c =
    let run : VerifiedRun = record {
      bundle = c.args.bundle;
      checked = c.args.checked;
      issuer = c.in-Some.issuer;
      proof = record { ref_ptr = c.args.entry.ref_ptr; now = c.args.entry.now.proof };
      digest = c.args.inputs.now.digest;
      policy = c.args.inputs.now.policy;
    } in
    run_shown (inputs_of c.args.inputs.now) c.args.entry.now c.args.bundle.now c.args.checked.now c.in-Some.issuer
    (issuer_among c.args.inputs.now.accepted.now (anchors_in c.args.root.now) c.args.checked.now) run c.verified.result
    (sym c.in_ok-issuer.ensures ∙ c.in-Some.is)
    (record { bundle = refl; checked = refl; issuer = refl; proof = refl; digest = refl; policy = refl })
    c.verified.ensures
