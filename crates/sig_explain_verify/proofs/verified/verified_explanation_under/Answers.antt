use Rattle.std.proofs.Common.{Ok, None, Some, refl, sym, ap, ◌∙◌}
use Rattle.sig_explain_verify.proofs.ShownRoots.{verified}
use Rattle.sig_explain_verify.specs.Inputs.{inputs_of}
use Rattle.sig_json.specs.Data.{object}
use Rattle.sig_explain_verify.proofs.verified.verified_explanation_under.Goals as goal

pub returns-in-Some : goal.returns-in-Some
returns-in-Some c =
    verified (inputs_of c.args.inputs.now) c.args.entry.now c.args.root.now (Some c.in-Some.bundle)
    c.shown_bundle-made.result c.requires (sym c.in_ok-bundle.ensures ∙ c.in-Some.is) c.shown_bundle-made.ensures

pub returns-in-None : goal.returns-in-None
returns-in-None c =
    verified (inputs_of c.args.inputs.now) c.args.entry.now c.args.root.now None (Ok c.new.result) c.requires
    (sym c.in_ok-bundle.ensures ∙ c.in-None.is) (None, refl, ap object c.new.ensures)
