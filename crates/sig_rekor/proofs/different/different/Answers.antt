use Rattle.std.proofs.Common.{◌≡◌, Bool, map, sym, ap, ◌∙◌}
use Rattle.std.specs.List.{list_any}
use Rattle.std.proofs.lemmas.List.Filters.{dedup_is}
use Rattle.std.proofs.lemmas.List.Sorted.{list_any-IsPermutation}
use Rattle.sig_base.proofs.SeenTexts.{list_any_seen}
use Rattle.sig_rekor.proofs.DedupedLists.{Raw, same_raw, any_dedup}
use Rattle.sig_rekor.proofs.different.different.Goals as goal

-- the sort only moves the raw bytes, and `dedup` keeps one of each
pub returns : goal.returns
returns c test =
    let raws = c.in_ok-raws.raws.items in
    let same : map (λ raw. raw.now) raws ≡ map (λ s. s.raw) c.args.signatures.now = c.in_ok-raws.ensures in
    let passes : Raw → Bool = λ raw. test raw.now in
    rw (dedup_is same_raw _ _ c.dedup.ensures.filtered)
    (any_dedup test c.sort_unstable.new.self.items
    ∙ sym (list_any-IsPermutation passes _ _ c.sort_unstable.ensures.permutation)
    ∙ sym (list_any_seen test (λ raw. raw.now) raws)
    ∙ ap (list_any test) same
    ∙ list_any_seen test (λ s. s.raw) c.args.signatures.now)
