-- The walk to two roots within a full tree, of 2 ^ e leaves, which goes by the bits alone.
use Rattle.std.proofs.Common.{◌≡◌, ℕ, zero, suc, ◌+◌, ◌-◌, ◌*◌, ◌^◌, ◌<◌, ◌≤◌, Bool, false, Some, List, []}
use Rattle.std.proofs.Common.{◌∷◌, ◌++◌, length, refl, sym, ◌∙◌, ap, subst, inl, inr, arith}
use Rattle.std.proofs.Math.Nat.{pow-suc}
use Rattle.std.proofs.lemmas.Nat.{pow_pos}
use Rattle.std.proofs.lemmas.Bool.{cases_lt, cases_eq}
use Rattle.sig_merkle.specs.Consistency.{roots_of}
use Rattle.sig_merkle.specs.Walk.{bit_fold, inner_fold}
use Rattle.sig_merkle.specs.GrowthWalk.{shift_of, mask_of, right_fold}
use Rattle.sig_merkle.proofs.ConsistencyLaws.{roots_of-left, roots_of-right}
use Rattle.sig_merkle.proofs.WalkFolds.{inner_fold-left, inner_fold-right}
use Rattle.sig_merkle.proofs.Walks.{last_of, power_split, split_at}
use Rattle.sig_merkle.proofs.GrowthBits.{shift-power, shift-within, shift-above, mask-low, mask-above}
use Rattle.sig_merkle.proofs.GrowthFolds.{right_fold-left, right_fold-right}
use Rattle.sig_merkle.proofs.GrowthStarts.{IsStart, start-left, start-right, start-whole}

-- the roots of a walk by the bits alone
abbrev pub Climbs : ℕ → ℕ → Bool → List ℕ → List (List ℕ) → List ℕ → List (List ℕ) → Type 0
Climbs m size known old hashes seed rest =
    roots_of m size known old hashes ≡ Some (right_fold seed rest (mask_of m), inner_fold seed rest (mask_of m))

-- from the full left half to the tree: the last hash lies on the right, so it is of the new tree alone
pub climbs-left : (m size e : ℕ) (known : Bool) (old : List ℕ) (front : List (List ℕ)) (seed : List ℕ)
    (rest : List (List ℕ)) (last : List ℕ) → m < 2 ^ 64 → 0 < m → 2 ^ e < size → size ≤ 2 * 2 ^ e → m ≤ 2 ^ e
    → length rest ≡ e - shift_of m → Climbs m (2 ^ e) known old front seed rest
    → Climbs m size known old (front ++ last ∷ []) seed (rest ++ last ∷ [])
climbs-left m size e known old front seed rest last fits some below largest left count led =
    let low = mask-low m e some fits left in
    roots_of-left m size (2 ^ e) known old last front (split_at size e below largest) left
    ∙ rw (
      led,
      right_fold-left (e - shift_of m) seed rest last (mask_of m) count low,
      inner_fold-left (e - shift_of m) seed rest last (mask_of m) count low,
    ) refl

-- from the right half of a full tree to it: the last hash lies on the left, so it is of both
climbs-right : (m e : ℕ) (known : Bool) (old : List ℕ) (front : List (List ℕ)) (seed : List ℕ)
    (rest : List (List ℕ)) (last : List ℕ) → m < 2 ^ 64 → 2 ^ e < m → m < 2 * 2 ^ e
    → length rest ≡ e - shift_of m → Climbs (m - 2 ^ e) (2 ^ e) false old front seed rest
    → Climbs m (2 ^ suc e) known old (front ++ last ∷ []) seed (rest ++ last ∷ [])
climbs-right m e known old front seed rest last fits above below count led =
    let double = pow-suc 2 e in
    let half : 2 ^ suc e - 2 ^ e ≡ 2 ^ e = omega arith in
    let mask = mask-above m e above below fits in
    let rest_mask : mask_of m - 2 ^ (e - shift_of m) ≡ mask_of (m - 2 ^ e) = omega arith in
    let low : mask_of (m - 2 ^ e) < 2 ^ (e - shift_of m) =
    rw (shift-above m e above below fits) (mask-low (m - 2 ^ e) e (omega arith) (omega arith) (omega arith)) in
    roots_of-right m (2 ^ suc e) (2 ^ e) known old last front (power_split e) above (omega arith)
    ∙ rw (
      half,
      led,
      right_fold-right (e - shift_of m) seed rest last (mask_of m) count (omega arith) (omega arith),
      inner_fold-right (e - shift_of m) seed rest last (mask_of m) count (omega arith) (omega arith),
      rest_mask,
    ) refl

-- a full tree, of 2 ^ e leaves

climbs-whole : (m e : ℕ) (known : Bool) (old : List ℕ) (hashes : List (List ℕ)) (seed : List ℕ)
    (rest : List (List ℕ)) → e < 64 → m ≡ 2 ^ e → length rest ≡ e - shift_of m
    → IsStart known m old hashes seed rest → Climbs m (2 ^ e) known old hashes seed rest
unfolding bit_fold
climbs-whole m e known old hashes seed [] few same count start =
    let shift : shift_of m ≡ e = ap shift_of same ∙ shift-power e few in
    let power : m ≡ 2 ^ shift_of m = same ∙ ap (λ k. 2 ^ k) (sym shift) in
    rw (← same) (start-whole known m old hashes seed power start)
climbs-whole m e known old hashes seed (hash ∷ rest) few same count start =
    let shift : shift_of m ≡ e = ap shift_of same ∙ shift-power e few in
    absurd (omega arith)

-- whatever the hashes are
abbrev pub ClimbsAll : ℕ → ℕ → Bool → List ℕ → Type 0
ClimbsAll m e known old =
    (hashes : List (List ℕ)) (seed : List ℕ) (rest : List (List ℕ)) → length rest ≡ e - shift_of m
    → IsStart known m old hashes seed rest → Climbs m (2 ^ e) known old hashes seed rest

-- the last hash of a list that is not empty is taken from the walk, and so from the proof
pub last-left : (m n : ℕ) (known : Bool) (old : List ℕ) (hashes : List (List ℕ)) (seed : List ℕ) (rest : List (List ℕ))
    → length rest ≡ n + 1 → IsStart known m old hashes seed rest
    → (front : List (List ℕ)) × (lower : List (List ℕ)) × (last : List ℕ) × (hashes ≡ front ++ last ∷ [])
    × (rest ≡ lower ++ last ∷ []) × (length lower ≡ n) × IsStart known m old front seed lower
last-left m n known old hashes seed rest count start =
    let (lower, last, ends, short) = last_of rest n count in
    let (front, cut, started) = start-left known m old hashes seed lower last
    (subst (IsStart known m old hashes seed) ends start) in
    (front, lower, last, cut, ends, short, started)

pub last-right : (m e n : ℕ) (known : Bool) (old : List ℕ) (hashes : List (List ℕ)) (seed : List ℕ)
    (rest : List (List ℕ)) → 2 ^ e < m → m < 2 * 2 ^ e → m < 2 ^ 64 → length rest ≡ n + 1
    → IsStart known m old hashes seed rest
    → (front : List (List ℕ)) × (lower : List (List ℕ)) × (last : List ℕ) × (hashes ≡ front ++ last ∷ [])
    × (rest ≡ lower ++ last ∷ []) × (length lower ≡ n) × IsStart false (m - 2 ^ e) old front seed lower
last-right m e n known old hashes seed rest above below fits count start =
    let (lower, last, ends, short) = last_of rest n count in
    let (front, cut, started) = start-right known m e old hashes seed lower last above below fits
    (subst (IsStart known m old hashes seed) ends start) in
    (front, lower, last, cut, ends, short, started)

pub climbs-ends : (m size : ℕ) (known : Bool) (old : List ℕ) (hashes front : List (List ℕ)) (seed : List ℕ)
    (rest lower : List (List ℕ)) (last : List ℕ) → hashes ≡ front ++ last ∷ [] → rest ≡ lower ++ last ∷ []
    → Climbs m size known old (front ++ last ∷ []) seed (lower ++ last ∷ [])
    → Climbs m size known old hashes seed rest
climbs-ends m size known old hashes front seed rest lower last cut ends climbs = rw (cut, ends) climbs

full-left : (m e : ℕ) (known : Bool) (old : List ℕ) → m < 2 ^ 64 → 0 < m → m ≤ 2 ^ e → ClimbsAll m e known old
    → ClimbsAll m (suc e) known old
full-left m e known old fits some left climbs hashes seed rest count start =
    let double = pow-suc 2 e in
    let shift = shift-within m e some fits left in
    let (front, lower, last, cut, ends, short, started) = last-left m (e - shift_of m) known old hashes seed rest
    (omega arith) start in
    climbs-ends m (2 ^ suc e) known old hashes front seed rest lower last cut ends
    (climbs-left m (2 ^ suc e) e known old front seed lower last fits some (omega (arith, pow_pos e)) (omega arith) left
    short (climbs front seed lower short started))

full-right : (m e : ℕ) (known : Bool) (old : List ℕ) → m < 2 ^ 64 → 2 ^ e < m → m < 2 * 2 ^ e
    → ClimbsAll (m - 2 ^ e) e false old → ClimbsAll m (suc e) known old
full-right m e known old fits above below climbs hashes seed rest count start =
    let same = shift-above m e above below fits in
    let shift = shift-within (m - 2 ^ e) e (omega arith) (omega arith) (omega arith) in
    let (front, lower, last, cut, ends, short, started) = last-right m e (e - shift_of m) known old hashes seed rest
    above below fits (omega arith) start in
    climbs-ends m (2 ^ suc e) known old hashes front seed rest lower last cut ends
    (climbs-right m e known old front seed lower last fits above below short
    (climbs front seed lower (omega arith) started))

pub climbs-full : (e m : ℕ) (known : Bool) (old : List ℕ) → e < 64 → m < 2 ^ 64 → 0 < m → m ≤ 2 ^ e
    → ClimbsAll m e known old
climbs-full zero m known old few fits some within hashes seed rest count start =
    climbs-whole m 0 known old hashes seed rest few (omega arith) count start
climbs-full (suc e) m known old few fits some within hashes seed rest count start =
    let double = pow-suc 2 e in
    elim (cases_eq m (2 ^ suc e)) [
      | inl same ↦ climbs-whole m (suc e) known old hashes seed rest few same count start
      | inr apart ↦ elim (cases_lt (2 ^ e) m) [
        | inl above ↦ full-right m e known old fits above (omega arith)
            (climbs-full e (m - 2 ^ e) false old (omega arith) (omega arith) (omega arith) (omega arith))
            hashes seed rest count start
        | inr left ↦ full-left m e known old fits some left
            (climbs-full e m known old (omega arith) fits some left) hashes seed rest count start
      ]
    ]
