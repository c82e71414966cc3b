-- What was written so far is the front of the list.
use Rattle.std.proofs.Common.{◌≡◌, length, min, take, arith, ap, sym, ◌∙◌, Some}
use Rattle.std.proofs.lemmas.List.{take_min}
use Rattle.std.proofs.lemmas.Option.{get_or_from_slice_get, slice_get_within}
use Rattle.std.specs.List.{slice_get}
use Rattle.std.specs.Option.{option_copied}
use Rattle.sig_json.specs.Writing.{list_tree}
use Rattle.sig_json.specs.Tree.{document_tree}
use Rattle.sig_policy.specs.Failures.{failures}
use Rattle.sig_explanation.specs.KeptRows.{inner_policy_tree, inner_policy_trees}
use Rattle.sig_shown.proofs.Lists.{list_more}
use Rattle.sig_explanation.proofs.policy.inner_documents.Goals as goal

pub errors-preserved : goal.errors-preserved
errors-preserved c =
    let xs = failures c.args.errors.now in
    let x = c.in-Some.error.now in
    let found : slice_get xs c.errors.index ≡ Some x = sym c.get.ensures ∙ ap option_copied c.in-Some.is in
    list_more inner_policy_tree xs c.errors.index x (document_tree c.errors.list)
    (document_tree c.in_ok-inner_document.field-0) (document_tree c.push.new.self)
    (slice_get_within xs c.errors.index x found) (sym (get_or_from_slice_get xs c.errors.index x x found))
    c.errors.invariant c.in_ok-inner_document.ensures c.in_ok-push.ensures.ok

pub returns : goal.returns
unfolding inner_policy_trees
returns c =
    let xs = failures c.args.errors.now in
    let whole : c.errors.index ≡ min 64 (length xs) = omega (arith, c.len.ensures, c.min-index-end.ensures) in
    let all : take c.errors.index xs ≡ take 64 xs =
    ap (λ n. take n xs) whole ∙ take_min 64 xs in
    c.errors.invariant ∙ ap (list_tree inner_policy_tree) all
