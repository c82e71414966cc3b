use Rattle.std.proofs.Common.{Ok, None, Some, [], refl, sym, ◌∙◌}
use Rattle.sig_json.specs.Writing.{members}
use Rattle.sig_explain_verify.proofs.Rows.{refused}
use Rattle.sig_explain_verify.specs.Inputs.{inputs_of}
use Rattle.sig_explain_verify.proofs.refused.refused_explanation_under.Goals as goal

pub returns-in-Some : goal.returns-in-Some
returns-in-Some c =
    refused (inputs_of c.args.inputs.now) c.args.error.now (Some c.in-Some.link) c.with_evidence.result
    (members c.in_ok-object.object) (sym c.link.ensures ∙ c.in-Some.is) c.in_ok-object.ensures c.with_evidence.ensures

pub returns-in-None : goal.returns-in-None
returns-in-None c =
    refused (inputs_of c.args.inputs.now) c.args.error.now None (Ok c.in_ok-object.object)
    (members c.in_ok-object.object) (sym c.link.ensures ∙ c.in-None.is) c.in_ok-object.ensures ([], refl, refl)
