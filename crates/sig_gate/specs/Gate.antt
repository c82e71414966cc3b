-- *Gate*: which artifacts of a manifest are admitted, and the result for each bundle.
use Rattle.std.specs.Prelude.{◌≡◌, ◌⊎◌, ◌↔◌, ℕ, Bool, true, List, [], ◌∷◌, Some}
use Rattle.std.specs.List.{AllZip}
use Rattle.sig_base.specs.ByText.{text_lookup}
use Rattle.sig_gate.specs.BundleVerdict.{IsBundleVerdict, inputs, outside}
use Rattle.sig_gate.specs.RuleHolds.{IsAdmitted}
use Rattle.sig_gate.specs.declared.verdict.Verdict.{Verdict}
use Rattle.sig_manifest.specs.Artifact.{Asked}
use Rattle.sig_manifest.specs.Manifest.{Gate}
use Rattle.sig_policy.specs.declared.request.RequestPolicy.{RequestPolicy}
use Rattle.sig_verify.specs.LinkLaws.{IsKept}
use Rattle.sig_verify.specs.Links.{EveryChainLinkHolds, Inputs, OfPassed, Outside}
use Rattle.sig_verify.specs.Verdict.{Checker}
use Rattle.sig_verify.specs.declared.logged_entry.LoggedEntry.{LoggedEntry}

-- this holds of the trusted root and the policy that an artifact names, and of a bundle of it
abbrev pub OfBundle : Checker → Gate → Asked → List ℕ → (Outside → Inputs → Type 0) → Type 0
OfBundle k gate x bundle P =
    (root : List ℕ) × (text_lookup x.root gate.roots ≡ Some root)
    × ((policy : RequestPolicy) × (text_lookup x.policy gate.policies ≡ Some policy)
    × P (outside k policy) (inputs gate x root bundle))

-- every link of the chain of trust of the bundle holds
abbrev pub IsVerified : Checker → Gate → Asked → List ℕ → Type 0
IsVerified k gate x bundle = OfBundle k gate x bundle EveryChainLinkHolds

-- the body of the bundle's log entry, with the proof that its members are
abbrev pub IsEntryOf : Checker → Gate → Asked → List ℕ → LoggedEntry → Type 0
IsEntryOf k gate x bundle entry = OfBundle k gate x bundle (λ o i. OfPassed i (λ c. IsKept c.entry entry))

-- *Verified bundles*: those of an artifact's bundles for which every link holds, in order, each as its log entry
abbrev pub AreVerified : Checker → Gate → Asked → List (List ℕ) → List LoggedEntry → Type 0
AreVerified k gate x [] entries = entries ≡ []
AreVerified k gate x (bundle ∷ later) entries =
    (IsVerified k gate x bundle
    × ((entry : LoggedEntry) × (others : List LoggedEntry) × (entries ≡ entry ∷ others)
    × IsEntryOf k gate x bundle entry × AreVerified k gate x later others))
    ⊎ ((¬ IsVerified k gate x bundle) × AreVerified k gate x later entries)

-- whether an artifact is admitted
pub record IsDecided (k : Checker) (gate : Gate) (x : Asked) (admitted : Bool) : Type 0 where
  pub entries : List LoggedEntry
  pub verified : AreVerified k gate x x.bundles entries
  pub decided : (admitted ≡ true) ↔ IsAdmitted x.rule entries

-- the verdict on an artifact: one on each bundle in order, and whether it is admitted
pub record IsVerdict (k : Checker) (gate : Gate) (x : Asked) (verdict : Verdict) : Type 0 where
  pub bundles : AllZip (IsBundleVerdict k gate x) x.bundles verdict.bundles
  pub decided : IsDecided k gate x verdict.admitted

-- one verdict on each artifact in order
abbrev pub IsGate : Checker → Gate → List Verdict → Type 0
IsGate k gate verdicts = AllZip (IsVerdict k gate) gate.artifacts verdicts
