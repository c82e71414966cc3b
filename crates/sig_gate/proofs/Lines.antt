-- Lines that are written one after another: what is written, and what is left to write.
use Rattle.std.proofs.Common.{◌≡◌, ℕ, ◌+◌, ◌<◌, ◌≤◌, List, [], ◌∷◌, ◌++◌, length, drop, get_or, Some}
use Rattle.std.proofs.Common.{sym, ap, ◌∙◌, append_assoc, append-nil}
use Rattle.std.proofs.lemmas.List.{at_drop_all, at_drop_more}
use Rattle.std.proofs.lemmas.Option.{get_or_from_slice_get, slice_get_within}
use Rattle.std.specs.Prelude.{slice_get}
use Rattle.sig_gate.specs.Report.{all_lines, artifact_lines, bundle_line, bundle_lines}
use Rattle.sig_gate.specs.declared.verdict.BundleVerdict.{BundleVerdict}
use Rattle.sig_gate.specs.declared.verdict.Verdict.{Verdict}
use Rattle.sig_manifest.specs.Artifact.{artifact_view}
use Rattle.sig_manifest.specs.Manifest.{artifacts_view}
use Rattle.sig_manifest.specs.declared.artifact.Artifact.{Artifact}

-- ---- bundles

pub bundles-more : (all : List ℕ) (xs : List BundleVerdict) (i : ℕ) (x : BundleVerdict) (before after : List ℕ)
    → i < length xs → x ≡ get_or xs i x → after ≡ before ++ bundle_line i x
    → all ≡ before ++ bundle_lines i (drop i xs) → all ≡ after ++ bundle_lines (i + 1) (drop (i + 1) xs)
bundles-more all xs i x before after below is grown so_far =
    let next : bundle_lines i (drop i xs) ≡ bundle_line i x ++ bundle_lines (i + 1) (drop (i + 1) xs) =
    at_drop_more (bundle_lines i) xs i x below
    ∙ ap (λ v. bundle_line i v ++ bundle_lines (i + 1) (drop (i + 1) xs)) (sym is) in
    so_far ∙ rw (next, grown) (sym (append_assoc before (bundle_line i x) (bundle_lines (i + 1) (drop (i + 1) xs))))

pub bundles-end : (all : List ℕ) (xs : List BundleVerdict) (i : ℕ) (before : List ℕ) → length xs ≤ i
    → all ≡ before ++ bundle_lines i (drop i xs) → before ≡ all
bundles-end all xs i before end so_far =
    sym (so_far ∙ rw (at_drop_all (bundle_lines i) xs i end) (append-nil before))

pub ruleset bundles = (bundles-more, bundles-end)

-- ---- artifacts

module _ (all : List ℕ) (xs : List Artifact) (vs : List Verdict) (i : ℕ) where
  pub artifacts-more : (x : Artifact) (v : Verdict) (before after : List ℕ) → i < length xs → x ≡ get_or xs i x
      → Some v ≡ slice_get vs i → after ≡ before ++ artifact_lines x.name v
      → all ≡ before ++ all_lines (artifacts_view (drop i xs)) (drop i vs)
      → all ≡ after ++ all_lines (artifacts_view (drop (i + 1) xs)) (drop (i + 1) vs)
  artifacts-more x v before after below is found grown so_far =
      let inside : i < length vs = slice_get_within vs i v (sym found) in
      let there : get_or vs i v ≡ v = get_or_from_slice_get vs i v v (sym found) in
      let rest = all_lines (artifacts_view (drop (i + 1) xs)) (drop (i + 1) vs) in
      let artifacts : artifacts_view (drop i xs) ≡ artifact_view x ∷ artifacts_view (drop (i + 1) xs) =
      at_drop_more artifacts_view xs i x below
      ∙ ap (λ a. artifact_view a ∷ artifacts_view (drop (i + 1) xs)) (sym is) in
      let verdicts : drop i vs ≡ v ∷ drop (i + 1) vs =
      at_drop_more (λ l. l) vs i v inside ∙ ap (λ w. w ∷ drop (i + 1) vs) there in
      so_far ∙ rw (artifacts, verdicts, grown) (sym (append_assoc before (artifact_lines x.name v) rest))

  pub artifacts-end : (before : List ℕ) → length xs ≤ i
      → all ≡ before ++ all_lines (artifacts_view (drop i xs)) (drop i vs) → before ≡ all
  artifacts-end before end so_far =
      let none : artifacts_view (drop i xs) ≡ [] = at_drop_all artifacts_view xs i end in
      sym (so_far ∙ rw none (append-nil before))

pub ruleset artifacts = (artifacts-more, artifacts-end)
