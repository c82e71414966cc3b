-- The law `consistency_lens`: `roots_len` goes down as `roots_of` does, and a proof leads to roots
-- if and only if it has that many hashes.
use Rattle.std.proofs.Common.{◌≡◌, ◌≢◌, ℕ, zero, suc, ◌+◌, ◌-◌, ◌*◌, ◌^◌, ◌<◌, ◌≤◌, ◌↔◌, Bool, true, false, Option}
use Rattle.std.proofs.Common.{Some, None, MatchOption, IsSome, List, [], ◌∷◌, reverse, length}
use Rattle.std.proofs.Common.{refl, sym, ◌∙◌, inl, inr, arith}
use Rattle.std.proofs.Math.Nat.{pow-suc}
use Rattle.std.proofs.lemmas.Bool.{le-leb, lt-leb, le-ltb, lt-ltb, eq-eqb, ne_eqb, cases_lt, cases_eq}
use Rattle.std.proofs.lemmas.List.{length-reverse}
use Rattle.sig_merkle.specs.Split.{IsSplit}
use Rattle.sig_merkle.specs.Consistency.{at_shared, grown_by, beside, with_grown, with_beside, roots_at, roots_of}
use Rattle.sig_merkle.specs.Consistency.{shared_len, roots_len_at, roots_len}
use Rattle.sig_merkle.proofs.Levels.{same_level, within_pow, split_of}
use Rattle.sig_merkle.proofs.PathLaws.{Fits, Fits-map, IsSome-from_fits}

roots_len_at-shared : (e size : ℕ) (known : Bool) → roots_len_at e size size known ≡ shared_len known
unfolding roots_len_at
roots_len_at-shared zero size known = refl
roots_len_at-shared (suc e) size known = rw (eq-eqb size size refl) refl

roots_len_at-step : (old_size size : ℕ) (known : Bool) (e : ℕ) → size ≤ 2 ^ e
    → roots_len_at (suc e) old_size size known ≡ roots_len_at e old_size size known
unfolding roots_len_at
roots_len_at-step old_size size known e fits =
    elim (cases_eq old_size size) [
      | inl same ↦ rw same (roots_len_at-shared (suc e) size known ∙ sym (roots_len_at-shared e size known))
      | inr apart ↦ rw (ne_eqb old_size size apart, le-ltb (2 ^ e) size fits) refl
    ]

roots_len_at-left : (old_size size : ℕ) (known : Bool) (e : ℕ) → old_size ≢ size → 2 ^ e < size → old_size ≤ 2 ^ e
    → roots_len_at (suc e) old_size size known ≡ roots_len_at e old_size (2 ^ e) known + 1
unfolding roots_len_at
roots_len_at-left old_size size known e apart below left =
    rw (ne_eqb old_size size apart, lt-ltb (2 ^ e) size below, le-leb old_size (2 ^ e) left) refl

roots_len_at-right : (old_size size : ℕ) (known : Bool) (e : ℕ) → old_size ≢ size → 2 ^ e < size → 2 ^ e < old_size
    → roots_len_at (suc e) old_size size known ≡ roots_len_at e (old_size - 2 ^ e) (size - 2 ^ e) false + 1
unfolding roots_len_at
roots_len_at-right old_size size known e apart below right =
    rw (ne_eqb old_size size apart, lt-ltb (2 ^ e) size below, lt-leb old_size (2 ^ e) right) refl

-- the number of hashes, at any level that is high enough
pub roots_len_is : (old_size size : ℕ) (known : Bool) (e : ℕ) → size ≤ 2 ^ e
    → roots_len old_size size known ≡ roots_len_at e old_size size known
unfolding roots_len
roots_len_is old_size size known e fits =
    same_level (λ level. roots_len_at level old_size size known) size (roots_len_at-step old_size size known) size e
    (within_pow size) fits

pub roots_len-shared : (size : ℕ) (known : Bool) → roots_len size size known ≡ shared_len known
roots_len-shared size known =
    roots_len_is size size known size (within_pow size) ∙ roots_len_at-shared size size known

roots_len-cut_left : (old_size size e : ℕ) (known : Bool) → 2 ^ e < size → size ≤ 2 * 2 ^ e → old_size ≤ 2 ^ e
    → roots_len old_size size known ≡ roots_len old_size (2 ^ e) known + 1
roots_len-cut_left old_size size e known below largest left =
    roots_len_is old_size size known (suc e) (omega (arith, pow-suc 2 e))
    ∙ roots_len_at-left old_size size known e (λ same. absurd (omega arith)) below left
    ∙ rw (roots_len_is old_size (2 ^ e) known e (omega arith)) refl

roots_len-cut_right : (old_size size e : ℕ) (known : Bool) → old_size < size → size ≤ 2 * 2 ^ e → 2 ^ e < old_size
    → roots_len old_size size known ≡ roots_len (old_size - 2 ^ e) (size - 2 ^ e) false + 1
roots_len-cut_right old_size size e known older largest right =
    roots_len_is old_size size known (suc e) (omega (arith, pow-suc 2 e))
    ∙ roots_len_at-right old_size size known e (λ same. absurd (omega arith)) (omega arith) right
    ∙ rw (roots_len_is (old_size - 2 ^ e) (size - 2 ^ e) false e (omega arith)) refl

pub roots_len-left : (old_size size k : ℕ) (known : Bool) → IsSplit size k → old_size ≤ k
    → roots_len old_size size known ≡ roots_len old_size k known + 1
roots_len-left old_size size k known s left =
    rw (s.power) (roots_len-cut_left old_size size s.exponent known (rw (← s.power) s.below)
    (rw (← s.power) s.largest) (rw (← s.power) left))

pub roots_len-right : (old_size size k : ℕ) (known : Bool) → IsSplit size k → k < old_size → old_size < size
    → roots_len old_size size known ≡ roots_len (old_size - k) (size - k) false + 1
roots_len-right old_size size k known s right older =
    rw (s.power) (roots_len-cut_right old_size size s.exponent known older (rw (← s.power) s.largest)
    (rw (← s.power) right))

-- a tree that grew needs a hash
pub roots_len-grown : (old_size size : ℕ) (known : Bool) → 0 < old_size → old_size < size
    → 0 < roots_len old_size size known
roots_len-grown old_size size known some older =
    let (k, split) = split_of size (omega arith) in
    elim (cases_lt k old_size) [
      | inl right ↦ omega (arith, roots_len-right old_size size k known split right older)
      | inr left ↦ omega (arith, roots_len-left old_size size k known split left)
    ]

-- one hash a level, at most, and one for the tree that both have

pub shared_len-within : (known : Bool) → shared_len known ≤ 1
shared_len-within true = omega arith
shared_len-within false = omega arith

roots_len_at-within : (e old_size size : ℕ) (known : Bool) → roots_len_at e old_size size known ≤ e + 1
unfolding roots_len_at
roots_len_at-within zero old_size size known = shared_len-within known
roots_len_at-within (suc e) old_size size known =
    elim (cases_eq old_size size) [
      | inl same ↦ rw (eq-eqb old_size size same) (omega (arith, shared_len-within known))
      | inr apart ↦ elim (cases_lt (2 ^ e) size) [
        | inl below ↦ elim (cases_lt (2 ^ e) old_size) [
          | inl right ↦ rw (ne_eqb old_size size apart, lt-ltb (2 ^ e) size below, lt-leb old_size (2 ^ e) right)
              (omega (arith, roots_len_at-within e (old_size - 2 ^ e) (size - 2 ^ e) false))
          | inr left ↦ rw (ne_eqb old_size size apart, lt-ltb (2 ^ e) size below, le-leb old_size (2 ^ e) left)
              (omega (arith, roots_len_at-within e old_size (2 ^ e) known))
        ]
        | inr within ↦ rw (ne_eqb old_size size apart, le-ltb (2 ^ e) size within)
            (omega (arith, roots_len_at-within e old_size size known))
      ]
    ]

-- a size that is a `u64` needs 64 levels
pub roots_len-within : (old_size size : ℕ) (known : Bool) → size ≤ 2 ^ 64 → roots_len old_size size known ≤ 65
roots_len-within old_size size known fits =
    rw (roots_len_is old_size size known 64 fits) (roots_len_at-within 64 old_size size known)

-- a proof leads to roots if and only if the number of its hashes fits

Fits-grown : (hashes : List (List ℕ)) (below : List (List ℕ) → Option (List ℕ × List ℕ)) (wanted : ℕ)
    → ((rest : List (List ℕ)) → Fits (below rest) (length rest) wanted)
    → Fits (with_grown hashes below) (length hashes) (wanted + 1)
Fits-grown [] below wanted fits = λ same. absurd (omega arith)
Fits-grown (hash ∷ rest) below wanted fits = Fits-map (grown_by hash) (below rest) (length rest) wanted (fits rest)

Fits-beside : (hashes : List (List ℕ)) (below : List (List ℕ) → Option (List ℕ × List ℕ)) (wanted : ℕ)
    → ((rest : List (List ℕ)) → Fits (below rest) (length rest) wanted)
    → Fits (with_beside hashes below) (length hashes) (wanted + 1)
Fits-beside [] below wanted fits = λ same. absurd (omega arith)
Fits-beside (hash ∷ rest) below wanted fits = Fits-map (beside hash) (below rest) (length rest) wanted (fits rest)

Fits-shared : (known : Bool) (old : List ℕ) (hashes : List (List ℕ))
    → Fits (at_shared known old hashes) (length hashes) (shared_len known)
Fits-shared true old [] = refl
Fits-shared true old (hash ∷ rest) = λ same. absurd (omega arith)
Fits-shared false old [] = λ same. absurd (omega arith)
Fits-shared false old (hash ∷ []) = refl
Fits-shared false old (hash ∷ next ∷ rest) = λ same. absurd (omega arith)

roots_at-fits : (e old_size size : ℕ) (known : Bool) (old : List ℕ) (hashes : List (List ℕ))
    → Fits (roots_at e old_size size known old hashes) (length hashes) (roots_len_at e old_size size known)
unfolding roots_at roots_len_at
roots_at-fits zero old_size size known old hashes = Fits-shared known old hashes
roots_at-fits (suc e) old_size size known old hashes =
    elim (cases_eq old_size size) [
      | inl same ↦ rw (eq-eqb old_size size same) (Fits-shared known old hashes)
      | inr apart ↦ elim (cases_lt (2 ^ e) size) [
        | inl below ↦ elim (cases_lt (2 ^ e) old_size) [
          | inl right ↦ rw (ne_eqb old_size size apart, lt-ltb (2 ^ e) size below, lt-leb old_size (2 ^ e) right)
              (Fits-beside hashes (λ rest. roots_at e (old_size - 2 ^ e) (size - 2 ^ e) false old rest)
              (roots_len_at e (old_size - 2 ^ e) (size - 2 ^ e) false)
              (roots_at-fits e (old_size - 2 ^ e) (size - 2 ^ e) false old))
          | inr left ↦ rw (ne_eqb old_size size apart, lt-ltb (2 ^ e) size below, le-leb old_size (2 ^ e) left)
              (Fits-grown hashes (λ rest. roots_at e old_size (2 ^ e) known old rest)
              (roots_len_at e old_size (2 ^ e) known) (roots_at-fits e old_size (2 ^ e) known old))
        ]
        | inr within ↦ rw (ne_eqb old_size size apart, le-ltb (2 ^ e) size within)
            (roots_at-fits e old_size size known old hashes)
      ]
    ]

pub roots_of-fits : (old_size size : ℕ) (known : Bool) (old : List ℕ) (hashes : List (List ℕ))
    → MatchOption (roots_of old_size size known old hashes) (length hashes ≢ roots_len old_size size known)
    (λ _. length hashes ≡ roots_len old_size size known)
unfolding roots_of roots_len
roots_of-fits old_size size known old hashes =
    let fits = roots_at-fits size old_size size known old (reverse hashes) in
    rw (← length-reverse hashes) fits

pub roots_of-some : (old_size size : ℕ) (known : Bool) (old : List ℕ) (hashes : List (List ℕ))
    → IsSome (roots_of old_size size known old hashes) ↔ (length hashes ≡ roots_len old_size size known)
roots_of-some old_size size known old hashes =
    IsSome-from_fits (roots_of old_size size known old hashes) (length hashes) (roots_len old_size size known)
    (roots_of-fits old_size size known old hashes)

None-from_fits : (led : Option (List ℕ × List ℕ)) (count wanted : ℕ) → Fits led count wanted → count ≢ wanted
    → led ≡ None
None-from_fits None count wanted fits apart = refl
None-from_fits (Some roots) count wanted same apart = absurd (apart same)

-- and to none where it does not
pub roots_of-none : (old_size size : ℕ) (known : Bool) (old : List ℕ) (hashes : List (List ℕ))
    → length hashes ≢ roots_len old_size size known → roots_of old_size size known old hashes ≡ None
roots_of-none old_size size known old hashes apart =
    None-from_fits (roots_of old_size size known old hashes) (length hashes) (roots_len old_size size known)
    (roots_of-fits old_size size known old hashes) apart
