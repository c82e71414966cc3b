-- For private clauses: what a rule needs of the verified bundles.
use Rattle.std.specs.Prelude.{◌≤◌, ◌↔◌, ℕ, Bool, true, false, ◌&&◌, ◌||◌, not, List, [], ◌∷◌, Option, Some, None}
use Rattle.std.specs.Prelude.{bytes_eq, if◌then◌else◌, nat_le, nat_lt}
use Rattle.std.specs.List.{list_any}
use Rattle.sig_gate.specs.RuleHolds.{HasDifferent}
use Rattle.sig_gate.specs.declared.verdict.BundleVerdict.{BundleVerdict}
use Rattle.sig_gate.specs.declared.verdict.BundleVerdict.TheVariants.{Verified, Refused}
use Rattle.sig_manifest.specs.Formula.{Formula, Formulas, at_least, with_origin, with_size, all_of, any_of, not_so}
use Rattle.sig_manifest.specs.Formula.{no_formula, formula}
use Rattle.sig_rekor.specs.declared.checkpoint.SignedCheckpoint.{SignedCheckpoint}
use Rattle.sig_verify.specs.declared.logged_entry.LoggedEntry.{LoggedEntry}

-- the entries of the bundles that are verified, in order
abbrev pub entries_of : List BundleVerdict → List LoggedEntry
entries_of [] = []
entries_of (Verified entry ∷ later) = entry ∷ entries_of later
entries_of (Refused link ∷ later) = entries_of later

-- the entries have this many different log bodies
pub record IsDifferentCount (entries : List LoggedEntry) (count : ℕ) : Type 0 where
  pub exact : (asked : ℕ) → (asked ≤ count) ↔ HasDifferent asked entries

-- the greater of two
abbrev pub larger : ℕ → ℕ → ℕ
larger a b = if nat_lt a b then b else a

-- the largest tree size, or this where it is larger
abbrev pub largest_from : ℕ → List LoggedEntry → ℕ
largest_from largest [] = largest
largest_from largest (entry ∷ later) = largest_from (larger largest entry.proof.tree_size) later

abbrev pub checkpoint_of_origin : List ℕ → Option SignedCheckpoint → Bool
checkpoint_of_origin origin None = false
checkpoint_of_origin origin (Some checkpoint) = bytes_eq checkpoint.note.origin origin

-- whether the bundle is verified, and the checkpoint of its proof is of a log of this origin
abbrev pub shows_origin : List ℕ → BundleVerdict → Bool
shows_origin origin (Verified entry) = checkpoint_of_origin origin entry.proof.checkpoint
shows_origin origin (Refused link) = false

-- whether a rule holds of bundles that have this many different log bodies and this largest tree size
module _ (bundles : List BundleVerdict) (different largest : ℕ) where
  abbrev mutual
    pub holds : Formula → Bool
    holds (at_least count) = nat_le count different
    holds (with_origin origin) = list_any (shows_origin origin) bundles
    holds (with_size size) = nat_le size largest
    holds (all_of rules) = each_holds rules
    holds (any_of rules) = one_holds rules
    holds (not_so rule) = not (holds rule)

    pub each_holds : Formulas → Bool
    each_holds no_formula = true
    each_holds (formula rule rules) = holds rule && each_holds rules

    pub one_holds : Formulas → Bool
    one_holds no_formula = false
    one_holds (formula rule rules) = holds rule || one_holds rules
