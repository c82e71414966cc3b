-- *Rule holds*: a rule holds of the log entries of an artifact's verified bundles.
use Rattle.std.specs.Prelude.{◌≡◌, ◌≢◌, ◌≤◌, ◌⊎◌, ℕ, List, [], ◌∷◌, length, map, Contains, Some}
use Rattle.std.specs.List.{AllByRecursion}
use Rattle.sig_manifest.specs.Formula.{Formula, Formulas, at_least, with_origin, with_size, all_of, any_of, not_so}
use Rattle.sig_manifest.specs.Formula.{no_formula, formula}
use Rattle.sig_rekor.specs.declared.checkpoint.SignedCheckpoint.{SignedCheckpoint}
use Rattle.sig_verify.specs.declared.logged_entry.LoggedEntry.{LoggedEntry}

abbrev pub bodies_of : List LoggedEntry → List (List ℕ)
bodies_of entries = map (λ entry. entry.body) entries

-- no two of these are the same
abbrev pub AreDifferent : List (List ℕ) → Type 0
AreDifferent [] = Unit {0}
AreDifferent (body ∷ later) = (¬ Contains later body) × AreDifferent later

-- there are this many log bodies of these entries, no two of them the same
pub record HasDifferent (count : ℕ) (entries : List LoggedEntry) : Type 0 where
  pub bodies : List (List ℕ)
  pub as_many : length bodies ≡ count
  pub logged : AllByRecursion (Contains (bodies_of entries)) bodies
  pub different : AreDifferent bodies

-- the checkpoint of the proof is of a log of this origin
pub record IsOfOrigin (origin : List ℕ) (entry : LoggedEntry) : Type 0 where
  pub checkpoint : SignedCheckpoint
  pub there : entry.proof.checkpoint ≡ Some checkpoint
  pub same : checkpoint.note.origin ≡ origin

-- the proof is in a tree of at least this size
abbrev pub IsOfSize : ℕ → LoggedEntry → Type 0
IsOfSize size entry = size ≤ entry.proof.tree_size

-- this holds of some of the entries
abbrev pub OfSome : (LoggedEntry → Type 0) → List LoggedEntry → Type 0
OfSome P entries = (entry : LoggedEntry) × Contains entries entry × P entry

module _ (entries : List LoggedEntry) where
  abbrev mutual
    pub Holds : Formula → Type 0
    Holds (at_least count) = HasDifferent count entries
    Holds (with_origin origin) = OfSome (IsOfOrigin origin) entries
    Holds (with_size size) = OfSome (IsOfSize size) entries
    Holds (all_of rules) = EachHolds rules
    Holds (any_of rules) = OneHolds rules
    Holds (not_so rule) = ¬ Holds rule

    -- each of these rules holds
    pub EachHolds : Formulas → Type 0
    EachHolds no_formula = Unit {0}
    EachHolds (formula rule rules) = Holds rule × EachHolds rules

    -- one of these rules holds
    pub OneHolds : Formulas → Type 0
    OneHolds no_formula = ⊥
    OneHolds (formula rule rules) = Holds rule ⊎ OneHolds rules

-- some bundle is verified, and the rule holds of those that are
abbrev pub IsAdmitted : Formula → List LoggedEntry → Type 0
IsAdmitted rule entries = (entries ≢ []) × Holds entries rule
