-- The consistency proof of a list leads from the root of its first entries to both roots, so the
-- check accepts it; and it accepts the empty proof where there is nothing to prove.
use Rattle.std.proofs.Common.{◌≡◌, ℕ, zero, suc, ◌-◌, ◌^◌, ◌<◌, ◌≤◌, Bool, true, false, Some, Ok, List}
use Rattle.std.proofs.Common.{[], length, take, drop, refl, sym, ◌∙◌, ap, subst, inl, inr, arith, length-drop}
use Rattle.std.proofs.Math.Nat.{pow-suc}
use Rattle.std.proofs.lemmas.Bool.{cases_lt, cases_eq, false≢true}
use Rattle.std.proofs.lemmas.List.{take_all, drop-take, length-take-le, take-append-drop, take-append-le}
use Rattle.sig_merkle.specs.Split.{IsSplit}
use Rattle.sig_merkle.specs.Root.{node_of, root}
use Rattle.sig_merkle.specs.Consistency.{roots_of}
use Rattle.sig_merkle.specs.ConsistencyAnswer.{consistency_answer}
use Rattle.sig_merkle.specs.ConsistencyProof.{subproof, consistency_proof}
use Rattle.sig_merkle.proofs.Levels.{within_pow}
use Rattle.sig_merkle.proofs.RootLaws.{root-more, root-none}
use Rattle.sig_merkle.proofs.ConsistencyLaws.{roots_of-known, roots_of-repeated, roots_of-left, roots_of-right}
use Rattle.sig_merkle.proofs.ConsistencyAnswers.{consistency_answers}
use Rattle.sig_merkle.proofs.SubproofLaws.{subproof-shared, subproof-left, subproof-right}

-- the proof leads to the root of the first entries, and to the root of all; the old root is looked
-- at only where the proof does not repeat it
abbrev Leads : ℕ → List (List ℕ) → Bool → List ℕ → Type 0
Leads old_size entries known old =
    roots_of old_size (length entries) known old (subproof old_size entries known)
    ≡ Some (root (take old_size entries), root entries)

-- the first entries of the first are the first
pub take-take : (j k : ℕ) (entries : List (List ℕ)) → j ≤ k → k ≤ length entries → take j (take k entries) ≡ take j entries
take-take j k entries fewer fits =
    let count : j ≤ length (take k entries) = omega (arith, length-take-le k entries fits) in
    sym (take-append-le j (take k entries) (drop k entries) count) ∙ ap (take j) (take-append-drop k entries)

leads-shared : (entries : List (List ℕ)) (known : Bool) (old : List ℕ) → (known ≡ true → old ≡ root entries)
    → Leads (length entries) entries known old
leads-shared entries true old asked =
    rw (subproof-shared entries true, take_all (length entries) entries (omega arith))
    (roots_of-known (length entries) old ∙ rw (asked refl) refl)
leads-shared entries false old asked =
    rw (subproof-shared entries false, take_all (length entries) entries (omega arith))
    (roots_of-repeated (length entries) old (root entries))

leads-left : (old_size k : ℕ) (entries : List (List ℕ)) (known : Bool) (old : List ℕ) → IsSplit (length entries) k
    → old_size ≤ k → Leads old_size (take k entries) known old → Leads old_size entries known old
leads-left old_size k entries known old s left led =
    let count : length (take k entries) ≡ k = length-take-le k entries (omega (arith, s.below)) in
    let within : roots_of old_size k known old (subproof old_size (take k entries) known)
    ≡ Some (root (take old_size (take k entries)), root (take k entries)) = rw count at led in
    rw (subproof-left old_size k entries known s left, root-more k entries s)
    (roots_of-left old_size (length entries) k known old (root (drop k entries))
    (subproof old_size (take k entries) known) s left
    ∙ rw (within, take-take old_size k entries left (omega (arith, s.below))) refl)

-- the first entries are cut where all are
older-split : (old_size n k : ℕ) → IsSplit n k → k < old_size → old_size ≤ n → IsSplit old_size k
older-split old_size n k s right older =
    let largest = s.largest in
    record { exponent = s.exponent; power = s.power; below = right; largest = omega arith }

pub root-older : (old_size k : ℕ) (entries : List (List ℕ)) → IsSplit (length entries) k → k < old_size
    → old_size ≤ length entries
    → root (take old_size entries) ≡ node_of (root (take k entries)) (root (take (old_size - k) (drop k entries)))
root-older old_size k entries s right older =
    let count : length (take old_size entries) ≡ old_size = length-take-le old_size entries older in
    let split = older-split old_size (length entries) k s right older in
    let back : drop k (take old_size entries) ≡ take (old_size - k) (drop k entries) =
    ap (λ (n : ℕ). drop k (take n entries)) (omega arith) ∙ drop-take k (old_size - k) entries in
    root-more k (take old_size entries) (rw count split)
    ∙ rw (take-take k old_size entries (omega arith) older, back) refl

leads-right : (old_size k : ℕ) (entries : List (List ℕ)) (known : Bool) (old : List ℕ) → IsSplit (length entries) k
    → k < old_size → old_size < length entries → Leads (old_size - k) (drop k entries) false old
    → Leads old_size entries known old
leads-right old_size k entries known old s right older led =
    let count : length (drop k entries) ≡ length entries - k = length-drop k entries in
    let within : roots_of (old_size - k) (length entries - k) false old (subproof (old_size - k) (drop k entries) false)
    ≡ Some (root (take (old_size - k) (drop k entries)), root (drop k entries)) = rw count at led in
    rw (
      subproof-right old_size k entries known s right older,
      root-more k entries s,
      root-older old_size k entries s right (omega arith),
    )
    (roots_of-right old_size (length entries) k known old (root (take k entries))
    (subproof (old_size - k) (drop k entries) false) s right older ∙ rw within refl)

leads-whole : (old_size : ℕ) (entries : List (List ℕ)) (known : Bool) (old : List ℕ) → old_size ≡ length entries
    → (known ≡ true → old ≡ root (take old_size entries)) → Leads old_size entries known old
leads-whole old_size entries known old same asked =
    let all : (known ≡ true → old ≡ root (take (length entries) entries)) → Leads (length entries) entries known old =
    λ given. leads-shared entries known old
    (λ is. given is ∙ ap root (take_all (length entries) entries (omega arith))) in
    subst (λ (m : ℕ). (known ≡ true → old ≡ root (take m entries)) → Leads m entries known old) (sym same) all asked

leads-at : (e old_size : ℕ) (entries : List (List ℕ)) (known : Bool) (old : List ℕ) → length entries ≤ 2 ^ e
    → 0 < old_size → old_size ≤ length entries → (known ≡ true → old ≡ root (take old_size entries))
    → Leads old_size entries known old
leads-at zero old_size entries known old fits some within asked =
    leads-whole old_size entries known old (omega arith) asked
leads-at (suc e) old_size entries known old fits some within asked =
    let double = pow-suc 2 e in
    elim (cases_eq old_size (length entries)) [
      | inl same ↦ leads-whole old_size entries known old same asked
      | inr apart ↦ elim (cases_lt (2 ^ e) (length entries)) [
        | inl below ↦ (let s : IsSplit (length entries) (2 ^ e) =
            record { exponent = e; power = refl; below = below; largest = omega arith } in
            elim (cases_lt (2 ^ e) old_size) [
              | inl right ↦ (let count = length-drop (2 ^ e) entries in
                  leads-right old_size (2 ^ e) entries known old s right (omega arith)
                  (leads-at e (old_size - 2 ^ e) (drop (2 ^ e) entries) false old (omega arith) (omega arith)
                  (omega arith) (λ is. absurd (false≢true is))))
              | inr left ↦ (let count = length-take-le (2 ^ e) entries (omega arith) in
                  leads-left old_size (2 ^ e) entries known old s left
                  (leads-at e old_size (take (2 ^ e) entries) known old (omega arith) some (omega arith)
                  (λ is. asked is ∙ ap root (sym (take-take old_size (2 ^ e) entries left (omega arith))))))
            ])
        | inr fits_below ↦ leads-at e old_size entries known old fits_below some within asked
      ]
    ]

pub consistency_proof-leads : (old_size : ℕ) (entries : List (List ℕ)) → 0 < old_size → old_size ≤ length entries
    → roots_of old_size (length entries) true (root (take old_size entries)) (consistency_proof old_size entries)
    ≡ Some (root (take old_size entries), root entries)
consistency_proof-leads old_size entries some within =
    leads-at (length entries) old_size entries true (root (take old_size entries)) (within_pow (length entries)) some
    within (λ asked. refl)

-- what the check answers

pub consistency_proof-accepted : (old_size : ℕ) (entries : List (List ℕ)) → 0 < old_size → old_size < length entries
    → consistency_answer old_size (length entries) (consistency_proof old_size entries) (root (take old_size entries))
    (root entries) ≡ Ok tt
consistency_proof-accepted old_size entries some older =
    (consistency_answers old_size (length entries) (root (take old_size entries)) (root entries)
    (consistency_proof old_size entries) (Ok tt)).1
    (inr (inr ((some, older), consistency_proof-leads old_size entries some (omega arith))))

pub same_tree-accepted : (size : ℕ) (given : List ℕ) → consistency_answer size size [] given given ≡ Ok tt
same_tree-accepted size given =
    (consistency_answers size size given given [] (Ok tt)).1 (inl ((refl, refl), refl))

pub from_empty-accepted : (size : ℕ) (new : List ℕ) → 0 < size
    → consistency_answer 0 size [] (root []) new ≡ Ok tt
from_empty-accepted size new some =
    (consistency_answers 0 size (root []) new [] (Ok tt)).1 (inr (inl ((refl, some, refl), root-none)))
