-- The lengths of the three elements have a spelling.
use Rattle.std.proofs.Common.{ℕ, ◌^◌, ◌<◌, List, ◌++◌, length, sym, ap, subst, ◌∙◌}
use Rattle.sig_der.specs.Element.{element}
use Rattle.sig_timestamp.proofs.precert.made_anew.Goals as goal

pub write_short-requires-clause-short : goal.write_short-requires-clause-short
write_short-requires-clause-short c =
    let kept = c.deref.ensures.value ∙ c.in_ok-kept.ensures in
    subst (λ (w : List ℕ). length w < 2 ^ 32) (sym kept) c.requires.kept

pub write_short-requires-2-clause-short : goal.write_short-requires-2-clause-short
write_short-requires-2-clause-short c =
    let kept = c.deref.ensures.value ∙ c.in_ok-kept.ensures in
    let list = c.as_slice.ensures ∙ c.in_ok-list.ensures.spelled ∙ ap (λ (w : List ℕ). element 48 w) kept in
    subst (λ (w : List ℕ). length w < 2 ^ 32) (sym list) c.requires.list

pub write_short-requires-3-clause-short : goal.write_short-requires-3-clause-short
write_short-requires-3-clause-short c =
    let kept = c.deref.ensures.value ∙ c.in_ok-kept.ensures in
    let list = c.as_slice.ensures ∙ c.in_ok-list.ensures.spelled ∙ ap (λ (w : List ℕ). element 48 w) kept in
    let extensions =
    c.as_slice-2.ensures ∙ c.in_ok-extensions.ensures.spelled ∙ ap (λ (w : List ℕ). element 163 w) list in
    let front = c.in_ok-elements.ensures.items ∙ c.front.ensures in
    let body = c.deref-2.ensures.value ∙ c.in_ok-extend_from_slice.ensures.items
    ∙ ap (λ (w : List ℕ). w ++ c.as_slice-2.result.now) front
    ∙ ap (λ (w : List ℕ). c.args.leaf.now.front ++ w) extensions in
    subst (λ (w : List ℕ). length w < 2 ^ 32) (sym body) c.requires.body
