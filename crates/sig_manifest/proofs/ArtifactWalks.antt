-- Artifacts that are looked at one after another.
use Rattle.std.proofs.Common.{◌≡◌, ℕ, ◌+◌, ◌-◌, ◌<◌, ◌≤◌, List, [], ◌∷◌, length, drop, get_or, Option, Some, None, refl, sym}
use Rattle.std.proofs.Common.{ap, ◌∙◌, true, false, IsTrue, is_some, nat_lt, arith}
use Rattle.std.proofs.Math.Seq.{drop-length}
use Rattle.std.proofs.lemmas.List.{at_drop_more}
use Rattle.std.specs.List.{AllByRecursion}
use Rattle.std.specs.Option.{option_or}
use Rattle.sig_base.specs.ByText.{text_lookup}
use Rattle.sig_manifest.proofs.Sizes.{above, not_above}
use Rattle.sig_manifest.specs.Artifact.{Asked, artifact_view}
use Rattle.sig_manifest.specs.Manifest.{Gate, are_few_bundles, artifacts_view}
use Rattle.sig_manifest.specs.Unknown.{IsNamedIn, unknown_at, unknown_from}
use Rattle.sig_manifest.specs.declared.artifact.Artifact.{Artifact}
use Rattle.sig_manifest.specs.declared.error.ManifestError.{ManifestError}

-- the artifact at a place, and those after it
pub next_artifact : (xs : List Artifact) (i : ℕ) (x : Artifact) → i < length xs → x ≡ get_or xs i x
    → artifacts_view (drop i xs) ≡ artifact_view x ∷ artifacts_view (drop (i + 1) xs)
next_artifact xs i x below is =
    at_drop_more artifacts_view xs i x below ∙ ap (λ v. artifact_view v ∷ artifacts_view (drop (i + 1) xs)) (sym is)

pub none_left : (xs : List Artifact) (i : ℕ) → i ≡ length xs → artifacts_view (drop i xs) ≡ []
none_left xs i end = rw (end, drop-length xs) refl

-- ---- bundles

pub bundles-more : (most : ℕ) (all : List Asked) (xs : List Artifact) (i : ℕ) (x : Artifact) (left : ℕ)
    → i < length xs → x ≡ get_or xs i x → length x.bundles ≤ left
    → are_few_bundles most all ≡ are_few_bundles left (artifacts_view (drop i xs))
    → are_few_bundles most all ≡ are_few_bundles (left - length x.bundles) (artifacts_view (drop (i + 1) xs))
bundles-more most all xs i x left below is fits so_far =
    so_far ∙ rw (next_artifact xs i x below is, not_above left (length x.bundles) fits) refl

pub bundles-many : (most : ℕ) (all : List Asked) (xs : List Artifact) (i : ℕ) (x : Artifact) (left : ℕ)
    → i < length xs → x ≡ get_or xs i x → left < length x.bundles
    → are_few_bundles most all ≡ are_few_bundles left (artifacts_view (drop i xs)) → are_few_bundles most all ≡ false
bundles-many most all xs i x left below is many so_far =
    so_far ∙ rw (next_artifact xs i x below is, above left (length x.bundles) many) refl

pub bundles-end : (most : ℕ) (all : List Asked) (xs : List Artifact) (i left : ℕ) → i ≡ length xs
    → are_few_bundles most all ≡ are_few_bundles left (artifacts_view (drop i xs)) → are_few_bundles most all ≡ true
bundles-end most all xs i left end so_far = so_far ∙ rw (none_left xs i end) refl

pub ruleset bundles = (bundles-more, bundles-many, bundles-end)

-- ---- names

pub unknown-more : (gate : Gate) (all : Option ManifestError) (xs : List Artifact) (i : ℕ) (x : Artifact)
    → i < length xs → x ≡ get_or xs i x → unknown_at gate i (artifact_view x) ≡ None
    → all ≡ unknown_from gate i (artifacts_view (drop i xs))
    → all ≡ unknown_from gate (i + 1) (artifacts_view (drop (i + 1) xs))
unknown-more gate all xs i x below is known so_far = so_far ∙ rw (next_artifact xs i x below is, known) refl

pub unknown-here : (gate : Gate) (all : Option ManifestError) (xs : List Artifact) (i : ℕ) (x : Artifact) (e : ManifestError)
    → i < length xs → x ≡ get_or xs i x → unknown_at gate i (artifact_view x) ≡ Some e
    → all ≡ unknown_from gate i (artifacts_view (drop i xs)) → all ≡ Some e
unknown-here gate all xs i x e below is found so_far = so_far ∙ rw (next_artifact xs i x below is, found) refl

pub unknown-end : (gate : Gate) (all : Option ManifestError) (xs : List Artifact) (i : ℕ) → i ≡ length xs
    → all ≡ unknown_from gate i (artifacts_view (drop i xs)) → all ≡ None
unknown-end gate all xs i end so_far = so_far ∙ rw (none_left xs i end) refl

pub ruleset names = (unknown-more, unknown-here, unknown-end)
