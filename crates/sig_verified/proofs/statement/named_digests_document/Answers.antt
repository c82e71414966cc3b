-- What was written so far is the front of the list.
use Rattle.std.proofs.Common.{◌≡◌, ℕ, List, length, min, take, arith, ap, sym, ◌∙◌, Some}
use Rattle.std.proofs.lemmas.List.{take_min}
use Rattle.std.proofs.lemmas.Option.{get_or_from_slice_get, slice_get_within}
use Rattle.std.specs.List.{slice_get}
use Rattle.sig_json.specs.Writing.{list_tree}
use Rattle.sig_json.specs.Tree.{document_tree}
use Rattle.sig_shown.proofs.Lists.{list_more}
use Rattle.sig_verified.specs.Statement.{named_digest_tree, named_digests_tree}
use Rattle.sig_verified.proofs.statement.named_digests_document.Goals as goal

pub digests-preserved : goal.digests-preserved
digests-preserved c =
    let xs = c.args.digests.now in
    let x : List ℕ × List ℕ = (c.in-Some.name.now, c.in-Some.value.now) in
    let found : slice_get xs c.digests.place ≡ Some x = sym c.in-Some.ensures.entry in
    list_more named_digest_tree xs c.digests.place x (document_tree c.digests.list)
    (document_tree c.in_ok-named_digest_document.field-0) (document_tree c.push.new.self)
    (slice_get_within xs c.digests.place x found) (sym (get_or_from_slice_get xs c.digests.place x x found))
    c.digests.invariant c.in_ok-named_digest_document.ensures c.in_ok-push.ensures.ok

pub returns : goal.returns
unfolding named_digests_tree
returns c =
    let xs = c.args.digests.now in
    let whole : c.digests.place ≡ min 32 (length xs) = omega (arith, c.len.ensures, c.min-place-end.ensures) in
    let all : take c.digests.place xs ≡ take 32 xs = ap (λ n. take n xs) whole ∙ take_min 32 xs in
    c.digests.invariant ∙ ap (list_tree named_digest_tree) all
