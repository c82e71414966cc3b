-- Where a walk to two roots starts, and how a recursion from the root takes the last of the hashes from it.
use Rattle.std.proofs.Common.{◌≡◌, ◌≢◌, ◌⊎◌, ℕ, ◌-◌, ◌*◌, ◌^◌, ◌<◌, ◌≤◌, Bool, true, false, Some, List, [], ◌∷◌, ◌++◌}
use Rattle.std.proofs.Common.{refl, inl, inr, arith}
use Rattle.std.proofs.Math.Nat.{pow-le-pow_right}
use Rattle.std.proofs.lemmas.Bool.{false≢true}
use Rattle.sig_merkle.specs.Consistency.{roots_of}
use Rattle.sig_merkle.specs.GrowthWalk.{shift_of}
use Rattle.sig_merkle.proofs.ConsistencyLaws.{roots_of-known, roots_of-repeated}
use Rattle.sig_merkle.proofs.GrowthBits.{shift-above, shift-low}

-- the walk starts at the old root, where that is known and of one full node, and else at the first hash
abbrev pub IsStart : Bool → ℕ → List ℕ → List (List ℕ) → List ℕ → List (List ℕ) → Type 0
IsStart known m old hashes seed rest =
    ((known ≡ true) × (m ≡ 2 ^ shift_of m) × (seed ≡ old) × (hashes ≡ rest))
    ⊎ ((known ≡ true → m ≢ 2 ^ shift_of m) × (hashes ≡ seed ∷ rest))

-- the last hash is taken away, and the start stays
pub start-left : (known : Bool) (m : ℕ) (old : List ℕ) (hashes : List (List ℕ)) (seed : List ℕ)
    (rest : List (List ℕ)) (last : List ℕ) → IsStart known m old hashes seed (rest ++ last ∷ [])
    → (front : List (List ℕ)) × (hashes ≡ front ++ last ∷ []) × IsStart known m old front seed rest
start-left known m old hashes seed rest last (inl whole) =
    (rest, whole.3, inl (whole.0, whole.1, whole.2, refl))
start-left known m old hashes seed rest last (inr taken) = (seed ∷ rest, taken.1, inr (taken.0, refl))

-- a size between two powers of two is none
not_power : (m e : ℕ) → 2 ^ e < m → m < 2 * 2 ^ e → m < 2 ^ 64 → m ≢ 2 ^ shift_of m
not_power m e above below fits = λ same.
    let low = shift-low (m - 2 ^ e) e (omega arith) (omega arith) (omega arith) in
    let shorter : 2 ^ shift_of m ≤ 2 ^ e =
    pow-le-pow_right (omega arith) (omega (arith, shift-above m e above below fits)) in
    absurd (omega arith)

-- in the right half, the start is the first hash
pub start-right : (known : Bool) (m e : ℕ) (old : List ℕ) (hashes : List (List ℕ)) (seed : List ℕ)
    (rest : List (List ℕ)) (last : List ℕ) → 2 ^ e < m → m < 2 * 2 ^ e → m < 2 ^ 64
    → IsStart known m old hashes seed (rest ++ last ∷ [])
    → (front : List (List ℕ)) × (hashes ≡ front ++ last ∷ []) × IsStart false (m - 2 ^ e) old front seed rest
start-right known m e old hashes seed rest last above below fits (inl whole) =
    absurd (not_power m e above below fits whole.1)
start-right known m e old hashes seed rest last above below fits (inr taken) =
    (seed ∷ rest, taken.1, inr (λ same. absurd (false≢true same), refl))

-- where the old tree is the whole, both roots are the start
pub start-whole : (known : Bool) (m : ℕ) (old : List ℕ) (hashes : List (List ℕ)) (seed : List ℕ)
    → m ≡ 2 ^ shift_of m → IsStart known m old hashes seed []
    → roots_of m m known old hashes ≡ Some (seed, seed)
start-whole known m old hashes seed power (inl whole) =
    rw (whole.0, whole.2, whole.3) (roots_of-known m old)
start-whole true m old hashes seed power (inr taken) = absurd (taken.0 refl power)
start-whole false m old hashes seed power (inr taken) = rw (taken.1) (roots_of-repeated m old seed)
