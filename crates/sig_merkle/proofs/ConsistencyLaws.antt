-- The law `consistency_roots`: `roots_of` is the recursion of RFC 6962 section 2.1.2.
use Rattle.std.proofs.Common.{◌≡◌, ◌≢◌, ℕ, zero, suc, ◌-◌, ◌*◌, ◌^◌, ◌<◌, ◌≤◌, Bool, true, false, Some}
use Rattle.std.proofs.Common.{option_map, List, [], ◌∷◌, ◌++◌, reverse, length, refl, sym, ◌∙◌, inl, inr, arith}
use Rattle.std.proofs.Math.Nat.{pow-suc}
use Rattle.std.proofs.lemmas.Bool.{le-leb, lt-leb, le-ltb, lt-ltb, eq-eqb, ne_eqb, cases_eq}
use Rattle.std.proofs.lemmas.List.{reverse-append}
use Rattle.sig_merkle.specs.Split.{IsSplit}
use Rattle.sig_merkle.specs.Consistency.{at_shared, grown_by, beside, with_grown, with_beside, roots_at, roots_of}
use Rattle.sig_merkle.proofs.Levels.{same_level, within_pow}

reverse_short : (hashes : List (List ℕ)) → length hashes ≤ 1 → reverse hashes ≡ hashes
reverse_short [] few = refl
reverse_short (hash ∷ []) few = refl
reverse_short (hash ∷ next ∷ rest) few = absurd (omega arith)

-- where the old tree is the whole, any level says so
roots_at-shared : (e size : ℕ) (known : Bool) (old : List ℕ) (hashes : List (List ℕ))
    → roots_at e size size known old hashes ≡ at_shared known old hashes
unfolding roots_at
roots_at-shared zero size known old hashes = refl
roots_at-shared (suc e) size known old hashes = rw (eq-eqb size size refl) refl

-- one level more than the size needs changes nothing
roots_at-step : (old_size size : ℕ) (known : Bool) (old : List ℕ) (hashes : List (List ℕ)) (e : ℕ) → size ≤ 2 ^ e
    → roots_at (suc e) old_size size known old hashes ≡ roots_at e old_size size known old hashes
unfolding roots_at
roots_at-step old_size size known old hashes e fits =
    elim (cases_eq old_size size) [
      | inl same ↦ rw same (roots_at-shared (suc e) size known old hashes
          ∙ sym (roots_at-shared e size known old hashes))
      | inr apart ↦ rw (ne_eqb old_size size apart, le-ltb (2 ^ e) size fits) refl
    ]

-- where the old tree is in the left half, and where it has leaves in the right
roots_at-left : (old_size size : ℕ) (known : Bool) (old : List ℕ) (hashes : List (List ℕ)) (e : ℕ) → old_size ≢ size
    → 2 ^ e < size → old_size ≤ 2 ^ e → roots_at (suc e) old_size size known old hashes
    ≡ with_grown hashes (λ rest. roots_at e old_size (2 ^ e) known old rest)
unfolding roots_at
roots_at-left old_size size known old hashes e apart below left =
    rw (ne_eqb old_size size apart, lt-ltb (2 ^ e) size below, le-leb old_size (2 ^ e) left) refl

roots_at-right : (old_size size : ℕ) (known : Bool) (old : List ℕ) (hashes : List (List ℕ)) (e : ℕ) → old_size ≢ size
    → 2 ^ e < size → 2 ^ e < old_size → roots_at (suc e) old_size size known old hashes
    ≡ with_beside hashes (λ rest. roots_at e (old_size - 2 ^ e) (size - 2 ^ e) false old rest)
unfolding roots_at
roots_at-right old_size size known old hashes e apart below right =
    rw (ne_eqb old_size size apart, lt-ltb (2 ^ e) size below, lt-leb old_size (2 ^ e) right) refl

-- the roots, at any level that is high enough
pub roots_of_is : (old_size size : ℕ) (known : Bool) (old : List ℕ) (hashes : List (List ℕ)) (e : ℕ) → size ≤ 2 ^ e
    → roots_of old_size size known old hashes ≡ roots_at e old_size size known old (reverse hashes)
unfolding roots_of
roots_of_is old_size size known old hashes e fits =
    same_level (λ level. roots_at level old_size size known old (reverse hashes)) size
    (roots_at-step old_size size known old (reverse hashes)) size e (within_pow size) fits

-- where the old tree is the whole, its root is known, or the only hash
pub roots_of-whole : (size : ℕ) (known : Bool) (old : List ℕ) (hashes : List (List ℕ)) → length hashes ≤ 1
    → roots_of size size known old hashes ≡ at_shared known old hashes
roots_of-whole size known old hashes few =
    roots_of_is size size known old hashes size (within_pow size)
    ∙ roots_at-shared size size known old (reverse hashes) ∙ rw (reverse_short hashes few) refl

pub roots_of-known : (size : ℕ) (old : List ℕ) → roots_of size size true old [] ≡ Some (old, old)
roots_of-known size old = roots_of-whole size true old [] (omega arith)

pub roots_of-repeated : (size : ℕ) (old hash : List ℕ) → roots_of size size false old (hash ∷ []) ≡ Some (hash, hash)
roots_of-repeated size old hash = roots_of-whole size false old (hash ∷ []) (omega arith)

roots_of-cut_left : (old_size size e : ℕ) (known : Bool) (old hash : List ℕ) (rest : List (List ℕ)) → 2 ^ e < size
    → size ≤ 2 * 2 ^ e → old_size ≤ 2 ^ e → roots_of old_size size known old (rest ++ hash ∷ [])
    ≡ option_map (grown_by hash) (roots_of old_size (2 ^ e) known old rest)
roots_of-cut_left old_size size e known old hash rest below largest left =
    roots_of_is old_size size known old (rest ++ hash ∷ []) (suc e) (omega (arith, pow-suc 2 e))
    ∙ roots_at-left old_size size known old (reverse (rest ++ hash ∷ [])) e (λ same. absurd (omega arith)) below left
    ∙ rw (reverse-append rest (hash ∷ []), roots_of_is old_size (2 ^ e) known old rest e (omega arith)) refl

roots_of-cut_right : (old_size size e : ℕ) (known : Bool) (old hash : List ℕ) (rest : List (List ℕ))
    → old_size < size → size ≤ 2 * 2 ^ e → 2 ^ e < old_size → roots_of old_size size known old (rest ++ hash ∷ [])
    ≡ option_map (beside hash) (roots_of (old_size - 2 ^ e) (size - 2 ^ e) false old rest)
roots_of-cut_right old_size size e known old hash rest older largest right =
    roots_of_is old_size size known old (rest ++ hash ∷ []) (suc e) (omega (arith, pow-suc 2 e))
    ∙ roots_at-right old_size size known old (reverse (rest ++ hash ∷ [])) e (λ same. absurd (omega arith))
    (omega arith) right
    ∙ rw (
      reverse-append rest (hash ∷ []),
      roots_of_is (old_size - 2 ^ e) (size - 2 ^ e) false old rest e (omega arith),
    ) refl

-- the recursion of the standard
pub roots_of-left : (old_size size k : ℕ) (known : Bool) (old hash : List ℕ) (rest : List (List ℕ)) → IsSplit size k
    → old_size ≤ k → roots_of old_size size known old (rest ++ hash ∷ [])
    ≡ option_map (grown_by hash) (roots_of old_size k known old rest)
roots_of-left old_size size k known old hash rest s left =
    rw (s.power) (roots_of-cut_left old_size size s.exponent known old hash rest (rw (← s.power) s.below)
    (rw (← s.power) s.largest) (rw (← s.power) left))

pub roots_of-right : (old_size size k : ℕ) (known : Bool) (old hash : List ℕ) (rest : List (List ℕ)) → IsSplit size k
    → k < old_size → old_size < size → roots_of old_size size known old (rest ++ hash ∷ [])
    ≡ option_map (beside hash) (roots_of (old_size - k) (size - k) false old rest)
roots_of-right old_size size k known old hash rest s right older =
    rw (s.power) (roots_of-cut_right old_size size s.exponent known old hash rest older (rw (← s.power) s.largest)
    (rw (← s.power) right))
