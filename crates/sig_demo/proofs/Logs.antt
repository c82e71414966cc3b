-- The entries of the demonstration's log.
use Rattle.std.proofs.Common.{◌≡◌, ℕ, zero, suc, ◌+◌, ◌<◌, ◌≤◌, List, [], ◌∷◌, ◌++◌, length, take, refl, sym, ◌∙◌, ap}
use Rattle.std.proofs.Common.{arith, length-append, Some, inl, inr}
use Rattle.std.specs.Prelude.{slice_get}
use Rattle.std.proofs.lemmas.Bool.{cases_lt}
use Rattle.std.proofs.lemmas.List.{take_all}
use Rattle.sig_merkle.specs.AuditPath.{audit_path}
use Rattle.sig_merkle.specs.Root.{root}
use Rattle.sig_demo.specs.Log.{demo_entries, demo_entry, demo_index, demo_log}
use Rattle.sig_demo.specs.declared.log.DemoLog.{DemoLog}

-- one more entry
pub entries-none : demo_entries 0 ≡ []
unfolding demo_entries
entries-none = refl

pub entries-more : (index : ℕ) → demo_entries (index + 1) ≡ demo_entries index ++ demo_entry index ∷ []
unfolding demo_entries
entries-more index = let step : index + 1 ≡ suc index = omega arith in rw step refl

pub length-entries : (count : ℕ) → length (demo_entries count) ≡ count
unfolding demo_entries
length-entries zero = refl
length-entries (suc count) =
    let front = length-append (demo_entries count) (demo_entry count ∷ []) in
    omega (arith, front, length-entries count)

slice_get-before : (front : List (List ℕ)) (last : List ℕ) (index : ℕ) → index < length front
    → slice_get (front ++ last ∷ []) index ≡ slice_get front index
slice_get-before [] last index below = absurd (omega (arith, below))
slice_get-before (x ∷ front) last zero below = refl
slice_get-before (x ∷ front) last (suc index) below = slice_get-before front last index (omega (arith, below))

slice_get-last : (front : List (List ℕ)) (last : List ℕ) → slice_get (front ++ last ∷ []) (length front) ≡ Some last
slice_get-last [] last = refl
slice_get-last (x ∷ front) last = slice_get-last front last

-- the entry at an index of the log
pub entry-at : (count index : ℕ) → index < count → slice_get (demo_entries count) index ≡ Some (demo_entry index)
unfolding demo_entries
entry-at zero index below = absurd (omega (arith, below))
entry-at (suc count) index below =
    let size = length-entries count in
    elim (cases_lt index count) [
      | inl before ↦ slice_get-before (demo_entries count) (demo_entry count) index (omega (arith, before, size))
          ∙ entry-at count index before
      | inr last ↦ (let same : index ≡ count = omega (arith, below, last) in
          ap (slice_get (demo_entries count ++ demo_entry count ∷ [])) (same ∙ sym size)
          ∙ slice_get-last (demo_entries count) (demo_entry count) ∙ ap (λ i. Some (demo_entry i)) (sym same))
    ]

-- the root of all entries
pub root-all : (entries : List (List ℕ)) (count : ℕ) → count ≡ length entries
    → root (take count entries) ≡ root entries
root-all entries count all = ap root (take_all count entries (omega arith))

-- the log of these parts
abbrev made : ℕ → List (List ℕ) → List ℕ → List (List ℕ) → DemoLog
made count entries top path = record { count = count; entries = entries; root = top; path = path }

pub log_made : (count size half : ℕ) (entries path : List (List ℕ)) (top : List ℕ) → entries ≡ demo_entries count
    → size ≡ length entries → top ≡ root (take size entries) → half ≡ demo_index count
    → path ≡ audit_path half entries → made count entries top path ≡ demo_log count
unfolding demo_log
log_made count size half entries path top are all leads middle shows =
    rw (shows, middle, leads, root-all entries size all, are) refl

pub ruleset logs = (entries-none, entries-more, length-entries, root-all)
