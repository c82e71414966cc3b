-- The law `audit_paths`: `audit_path` is the recursion of RFC 6962 section 2.1.1, and leads from
-- its entry to the root.
use Rattle.std.proofs.Common.{◌≡◌, ℕ, zero, suc, ◌+◌, ◌-◌, ◌*◌, ◌^◌, ◌<◌, ◌≤◌, Some, List, [], ◌∷◌, ◌++◌, length, take}
use Rattle.std.proofs.Common.{drop, refl, sym, ◌∙◌, ap, inl, inr, arith, get_or, length-take, length-drop}
use Rattle.std.proofs.Common.{slice_get, Ok}
use Rattle.std.proofs.Math.Nat.{pow-suc}
use Rattle.std.proofs.lemmas.Bool.{le-ltb, lt-ltb, cases_lt}
use Rattle.std.proofs.lemmas.Option.{slice_get_within, get_or_from_slice_get, slice_get-get_or}
use Rattle.std.proofs.lemmas.List.{get_or-take, get_or-drop}
use Rattle.sig_merkle.specs.Split.{IsSplit}
use Rattle.sig_merkle.specs.Root.{leaf_of, root}
use Rattle.sig_merkle.specs.Path.{path_root}
use Rattle.sig_merkle.specs.AuditPath.{audit_path_at, audit_path}
use Rattle.sig_merkle.proofs.Levels.{same_level, within_pow}
use Rattle.sig_merkle.proofs.RootLaws.{root-one, root-more}
use Rattle.sig_merkle.specs.Inclusion.{inclusion_answer}
use Rattle.sig_merkle.proofs.PathLaws.{path_root-one, path_root-left, path_root-right}
use Rattle.sig_merkle.proofs.InclusionLaws.{inclusion_answers}

-- one level more than the entries need changes nothing
audit_path_at-step : (index : ℕ) (entries : List (List ℕ)) (e : ℕ) → length entries ≤ 2 ^ e
    → audit_path_at (suc e) index entries ≡ audit_path_at e index entries
unfolding audit_path_at
audit_path_at-step index entries e fits = rw (le-ltb (2 ^ e) (length entries) fits) refl

audit_path_at-left : (index : ℕ) (entries : List (List ℕ)) (e : ℕ) → 2 ^ e < length entries → index < 2 ^ e
    → audit_path_at (suc e) index entries
    ≡ audit_path_at e index (take (2 ^ e) entries) ++ root (drop (2 ^ e) entries) ∷ []
unfolding audit_path_at
audit_path_at-left index entries e below left =
    rw (lt-ltb (2 ^ e) (length entries) below, lt-ltb index (2 ^ e) left) refl

audit_path_at-right : (index : ℕ) (entries : List (List ℕ)) (e : ℕ) → 2 ^ e < length entries → 2 ^ e ≤ index
    → audit_path_at (suc e) index entries
    ≡ audit_path_at e (index - 2 ^ e) (drop (2 ^ e) entries) ++ root (take (2 ^ e) entries) ∷ []
unfolding audit_path_at
audit_path_at-right index entries e below right =
    rw (lt-ltb (2 ^ e) (length entries) below, le-ltb index (2 ^ e) right) refl

-- the path, at any level that is high enough
pub audit_path_is : (index : ℕ) (entries : List (List ℕ)) (e : ℕ) → length entries ≤ 2 ^ e
    → audit_path index entries ≡ audit_path_at e index entries
unfolding audit_path
audit_path_is index entries e fits =
    same_level (λ level. audit_path_at level index entries) (length entries) (audit_path_at-step index entries)
    (length entries) e (within_pow (length entries)) fits

pub audit_path-one : (entries : List (List ℕ)) → length entries ≤ 1 → audit_path 0 entries ≡ []
unfolding audit_path_at
audit_path-one entries single = audit_path_is 0 entries 0 (omega arith)

pub audit_path-entry : (entry : List ℕ) → audit_path 0 (entry ∷ []) ≡ []
audit_path-entry entry = audit_path-one (entry ∷ []) (omega arith)

audit_path-cut_left : (index e : ℕ) (entries : List (List ℕ)) → 2 ^ e < length entries → length entries ≤ 2 * 2 ^ e
    → index < 2 ^ e
    → audit_path index entries ≡ audit_path index (take (2 ^ e) entries) ++ root (drop (2 ^ e) entries) ∷ []
audit_path-cut_left index e entries below largest left =
    let front = length-take (2 ^ e) entries in
    audit_path_is index entries (suc e) (omega (arith, pow-suc 2 e)) ∙ audit_path_at-left index entries e below left
    ∙ rw (audit_path_is index (take (2 ^ e) entries) e (omega arith)) refl

audit_path-cut_right : (index e : ℕ) (entries : List (List ℕ)) → 2 ^ e < length entries → length entries ≤ 2 * 2 ^ e
    → 2 ^ e ≤ index
    → audit_path index entries ≡ audit_path (index - 2 ^ e) (drop (2 ^ e) entries) ++ root (take (2 ^ e) entries) ∷ []
audit_path-cut_right index e entries below largest right =
    let back = length-drop (2 ^ e) entries in
    audit_path_is index entries (suc e) (omega (arith, pow-suc 2 e)) ∙ audit_path_at-right index entries e below right
    ∙ rw (audit_path_is (index - 2 ^ e) (drop (2 ^ e) entries) e (omega arith)) refl

-- the recursion of the standard
pub audit_path-left : (index k : ℕ) (entries : List (List ℕ)) → IsSplit (length entries) k → index < k
    → audit_path index entries ≡ audit_path index (take k entries) ++ root (drop k entries) ∷ []
audit_path-left index k entries s left =
    rw (s.power) (audit_path-cut_left index s.exponent entries (rw (← s.power) s.below) (rw (← s.power) s.largest)
    (rw (← s.power) left))

pub audit_path-right : (index k : ℕ) (entries : List (List ℕ)) → IsSplit (length entries) k → k ≤ index
    → audit_path index entries ≡ audit_path (index - k) (drop k entries) ++ root (take k entries) ∷ []
audit_path-right index k entries s right =
    rw (s.power) (audit_path-cut_right index s.exponent entries (rw (← s.power) s.below) (rw (← s.power) s.largest)
    (rw (← s.power) right))

-- the path of an entry leads from its leaf to the root

accepts-one : (index : ℕ) (entries : List (List ℕ)) (entry : List ℕ) → length entries ≤ 1
    → slice_get entries index ≡ Some entry
    → path_root index (leaf_of entry) (length entries) (audit_path index entries) ≡ Some (root entries)
accepts-one index [] entry single at = absurd (omega (arith, slice_get_within [] index entry at))
accepts-one index (one ∷ []) entry single at =
    let first : index ≡ 0 = omega (arith, slice_get_within (one ∷ []) index entry at) in
    let same : one ≡ entry = get_or_from_slice_get (one ∷ []) 0 entry [] (rw first at at) in
    rw (first, audit_path-one (one ∷ []) single, root-one one, same) (path_root-one (leaf_of entry))
accepts-one index (one ∷ other ∷ rest) entry single at = absurd (omega arith)

accepts-left : (index k : ℕ) (entries : List (List ℕ)) (leaf : List ℕ) → IsSplit (length entries) k → index < k
    → path_root index leaf k (audit_path index (take k entries)) ≡ Some (root (take k entries))
    → path_root index leaf (length entries) (audit_path index entries) ≡ Some (root entries)
accepts-left index k entries leaf s left led =
    rw (audit_path-left index k entries s left, root-more k entries s)
    (path_root-left index (length entries) k leaf (root (drop k entries)) (audit_path index (take k entries)) s left
    ∙ rw led refl)

accepts-right : (index k : ℕ) (entries : List (List ℕ)) (leaf : List ℕ) → IsSplit (length entries) k → k ≤ index
    → path_root (index - k) leaf (length entries - k) (audit_path (index - k) (drop k entries))
    ≡ Some (root (drop k entries))
    → path_root index leaf (length entries) (audit_path index entries) ≡ Some (root entries)
accepts-right index k entries leaf s right led =
    rw (audit_path-right index k entries s right, root-more k entries s)
    (path_root-right index (length entries) k leaf (root (take k entries)) (audit_path (index - k) (drop k entries)) s
    right ∙ rw led refl)

-- an entry of a half is the entry of the whole
pub slice_get-take : (k i : ℕ) (entries : List (List ℕ)) → i < k → k ≤ length entries
    → slice_get (take k entries) i ≡ slice_get entries i
slice_get-take k i entries left fits =
    let count = length-take k entries in
    slice_get-get_or (take k entries) i [] (omega arith) ∙ ap (λ entry. Some entry) (get_or-take k entries i [] left)
    ∙ sym (slice_get-get_or entries i [] (omega arith))

pub slice_get-drop : (k i : ℕ) (entries : List (List ℕ)) → k ≤ i → i < length entries
    → slice_get (drop k entries) (i - k) ≡ slice_get entries i
slice_get-drop k i entries right within =
    let count = length-drop k entries in
    let whole : k + (i - k) ≡ i = omega arith in
    slice_get-get_or (drop k entries) (i - k) [] (omega arith)
    ∙ ap (λ entry. Some entry) (get_or-drop k entries (i - k) [] ∙ ap (λ j. get_or entries j []) whole)
    ∙ sym (slice_get-get_or entries i [] within)

accepts-at : (e index : ℕ) (entries : List (List ℕ)) (entry : List ℕ) → length entries ≤ 2 ^ e
    → slice_get entries index ≡ Some entry
    → path_root index (leaf_of entry) (length entries) (audit_path index entries) ≡ Some (root entries)
accepts-at zero index entries entry fits at = accepts-one index entries entry (omega arith) at
accepts-at (suc e) index entries entry fits at =
    let double = pow-suc 2 e in
    let within = slice_get_within entries index entry at in
    elim (cases_lt (2 ^ e) (length entries)) [
      | inl below ↦ (let s : IsSplit (length entries) (2 ^ e) =
          record { exponent = e; power = refl; below = below; largest = omega arith } in
          elim (cases_lt index (2 ^ e)) [
            | inl left ↦ (let count : length (take (2 ^ e) entries) ≡ 2 ^ e =
                omega (arith, length-take (2 ^ e) entries) in
                accepts-left index (2 ^ e) entries (leaf_of entry) s left
                (rw count at (accepts-at e index (take (2 ^ e) entries) entry (omega arith)
                (slice_get-take (2 ^ e) index entries left (omega arith) ∙ at))))
            | inr right ↦ (let count : length (drop (2 ^ e) entries) ≡ length entries - 2 ^ e =
                length-drop (2 ^ e) entries in
                accepts-right index (2 ^ e) entries (leaf_of entry) s right
                (rw count at (accepts-at e (index - 2 ^ e) (drop (2 ^ e) entries) entry (omega arith)
                (slice_get-drop (2 ^ e) index entries right within ∙ at))))
          ])
      | inr fits_below ↦ accepts-at e index entries entry fits_below at
    ]

pub audit_path-accepted : (index : ℕ) (entries : List (List ℕ)) (entry : List ℕ) → slice_get entries index ≡ Some entry
    → inclusion_answer index (leaf_of entry) (length entries) (audit_path index entries) (root entries) ≡ Ok tt
audit_path-accepted index entries entry at =
    let led = accepts-at (length entries) index entries entry (within_pow (length entries)) at in
    (inclusion_answers index (length entries) (leaf_of entry) (root entries) (audit_path index entries) (Ok tt)).1
    (slice_get_within entries index entry at, led)
