-- The chain of trust holds, or its first link that fails is known.
use Rattle.std.proofs.Common.{◌≡◌, Err, Ok}
use Rattle.std.proofs.lemmas.Result.{IfOk-weaker}
use Rattle.sig_explain_gate.proofs.Bundles.{both-ok, chain_here, links_here, refused-found, verified-found}
use Rattle.sig_explain_gate.specs.Bundle.{IsFoundHere, IsRefusedHere}
use Rattle.sig_explain_verify.specs.Inputs.{inputs_of}
use Rattle.sig_explain_verify.specs.Verified.{IsVerifiedTree}
use Rattle.sig_gate.specs.declared.verdict.BundleVerdict.TheVariants.{Verified}
use Rattle.sig_json.specs.Tree.{document_tree}
use Rattle.sig_explain_gate.proofs.bundle.find_held.Goals as goal

pub returns-in-Ok : goal.returns-in-Ok
returns-in-Ok c =
    let i = inputs_of c.args.inputs.now in
    let p = c.args.policy.now in
    both-ok c.verified.result (λ found. found.verdict ≡ Verified c.in-Ok.entry)
    (λ found. IsVerifiedTree i c.in-Ok.entry (document_tree found.document)) (IsFoundHere i)
    (λ found verdict tree. verified-found i c.in-Ok.entry found
    (links_here i p c.requires.policy (Ok c.in-Ok.entry) (c.in-Ok.ensures.links i.root i.now c.requires.held))
    (c.in-Ok.ensures.kept i.root i.now c.requires.held)
    (chain_here i p c.requires.policy (Ok c.in-Ok.entry) (c.in-Ok.ensures.steps i.root i.now c.requires.held)) verdict tree)
    c.verified.ensures.verdict c.verified.ensures.tree

pub returns-in-Err : goal.returns-in-Err
returns-in-Err c =
    let i = inputs_of c.args.inputs.now in
    let p = c.args.policy.now in
    IfOk-weaker c.refused-found.result (IsRefusedHere i c.in-Err.error) (IsFoundHere i)
    (λ found. refused-found i c.in-Err.error found
    (links_here i p c.requires.policy (Err c.in-Err.error) (c.in-Err.ensures.links i.root i.now c.requires.held))
    (chain_here i p c.requires.policy (Err c.in-Err.error) (c.in-Err.ensures.steps i.root i.now c.requires.held)))
    c.refused-found.ensures
