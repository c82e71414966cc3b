-- The sort only moves the bodies, and `dedup` keeps one of each; so no two are the same.
use Rattle.std.proofs.Common.{◌≡◌, Bool, map, sym, ap, ◌∙◌}
use Rattle.std.specs.List.{list_any}
use Rattle.std.proofs.lemmas.List.Filters.{dedup_is}
use Rattle.std.proofs.lemmas.List.Sorted.{list_any-IsPermutation}
use Rattle.sig_base.proofs.SeenTexts.{list_any_seen}
use Rattle.sig_rekor.proofs.DedupedLists.{Raw, same_raw, any_dedup}
use Rattle.sig_gate.proofs.SortedTexts.{apart-sorted}
use Rattle.sig_gate.specs.RuleHolds.{bodies_of}
use Rattle.sig_gate.specs.VerifiedBundles.{entries_of}
use Rattle.sig_gate.proofs.different.different_bodies.Goals as goal

pub returns-clause-kept : goal.returns-clause-kept
returns-clause-kept c = λ test.
    let raws = c.in_ok-bodies.bodies.items in
    let same : map (λ raw. raw.now) raws ≡ bodies_of (entries_of c.args.bundles.now) = c.in_ok-bodies.ensures in
    let passes : Raw → Bool = λ raw. test raw.now in
    rw (dedup_is same_raw _ _ c.dedup.ensures.filtered)
    (any_dedup test c.sort_unstable.new.self.items
    ∙ sym (list_any-IsPermutation passes _ _ c.sort_unstable.ensures.permutation)
    ∙ sym (list_any_seen test (λ raw. raw.now) raws)
    ∙ ap (list_any test) same)

pub returns-clause-apart : goal.returns-clause-apart
returns-clause-apart c =
    rw (dedup_is same_raw _ _ c.dedup.ensures.filtered)
    (apart-sorted c.sort_unstable.new.self.items c.sort_unstable.ensures.sorted)
