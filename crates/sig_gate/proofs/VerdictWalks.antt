-- Verdicts that are looked at one after another: what those that are left have.
use Rattle.std.proofs.Common.{◌≡◌, ℕ, ◌+◌, ◌<◌, List, [], ◌∷◌, ◌++◌, length, drop, get_or, refl, sym, ap, ◌∙◌}
use Rattle.std.proofs.Common.{append_assoc, append-nil}
use Rattle.std.proofs.Math.Seq.{drop-length}
use Rattle.std.proofs.lemmas.List.{at_drop_more}
use Rattle.sig_gate.specs.RuleHolds.{bodies_of}
use Rattle.sig_gate.specs.VerifiedBundles.{entries_of, largest_from}
use Rattle.sig_gate.specs.declared.verdict.BundleVerdict.{BundleVerdict}
use Rattle.sig_gate.specs.declared.verdict.BundleVerdict.TheVariants.{Verified, Refused}
use Rattle.sig_verify.specs.declared.link.Link.{Link}
use Rattle.sig_verify.specs.declared.logged_entry.LoggedEntry.{LoggedEntry}

-- the verdict at an index, and those after it
pub next_verdict : (xs : List BundleVerdict) (i : ℕ) (x : BundleVerdict) → i < length xs → x ≡ get_or xs i x
    → entries_of (drop i xs) ≡ entries_of (x ∷ drop (i + 1) xs)
next_verdict xs i x below is =
    at_drop_more entries_of xs i x below ∙ ap (λ v. entries_of (v ∷ drop (i + 1) xs)) (sym is)

none_left : (xs : List BundleVerdict) (i : ℕ) → i ≡ length xs → entries_of (drop i xs) ≡ []
none_left xs i end = rw (end, drop-length xs) refl

-- ---- sizes

size-first : (largest : ℕ) (x : BundleVerdict) (later : List BundleVerdict)
    → largest_from largest (entries_of (x ∷ later)) ≡ largest_from (largest_from largest (entries_of (x ∷ []))) (entries_of later)
size-first largest (Verified entry) later = refl
size-first largest (Refused link) later = refl

pub sizes-more : (all : ℕ) (xs : List BundleVerdict) (i : ℕ) (x : BundleVerdict) (largest next : ℕ)
    → i < length xs → x ≡ get_or xs i x → next ≡ largest_from largest (entries_of (x ∷ []))
    → all ≡ largest_from largest (entries_of (drop i xs)) → all ≡ largest_from next (entries_of (drop (i + 1) xs))
sizes-more all xs i x largest next below is grown so_far =
    so_far ∙ ap (largest_from largest) (next_verdict xs i x below is)
    ∙ size-first largest x (drop (i + 1) xs) ∙ ap (λ l. largest_from l (entries_of (drop (i + 1) xs))) (sym grown)

pub sizes-end : (all : ℕ) (xs : List BundleVerdict) (i largest : ℕ) → i ≡ length xs
    → all ≡ largest_from largest (entries_of (drop i xs)) → all ≡ largest
sizes-end all xs i largest end so_far = so_far ∙ rw (none_left xs i end) refl

pub ruleset sizes = (sizes-more, sizes-end)

-- ---- bodies

module _ (all : List (List ℕ)) (xs : List BundleVerdict) (i : ℕ) where
  pub bodies-more : (entry : LoggedEntry) (before after : List (List ℕ)) → i < length xs
      → Verified entry ≡ get_or xs i (Verified entry) → after ≡ before ++ entry.body ∷ []
      → all ≡ before ++ bodies_of (entries_of (drop i xs)) → all ≡ after ++ bodies_of (entries_of (drop (i + 1) xs))
  bodies-more entry before after below is grown so_far =
      so_far ∙ rw (next_verdict xs i (Verified entry) below is, grown)
      (sym (append_assoc before (entry.body ∷ []) (bodies_of (entries_of (drop (i + 1) xs)))))

  pub bodies-same : (link : Link) (before : List (List ℕ)) → i < length xs
      → Refused link ≡ get_or xs i (Refused link)
      → all ≡ before ++ bodies_of (entries_of (drop i xs)) → all ≡ before ++ bodies_of (entries_of (drop (i + 1) xs))
  bodies-same link before below is so_far = so_far ∙ rw (next_verdict xs i (Refused link) below is) refl

  pub bodies-end : (before : List (List ℕ)) → i ≡ length xs → all ≡ before ++ bodies_of (entries_of (drop i xs))
      → before ≡ all
  bodies-end before end so_far = sym (so_far ∙ rw (none_left xs i end) (append-nil before))

pub ruleset bodies = (bodies-more, bodies-same, bodies-end)
