-- The law `consistency_proofs`: `subproof` is the recursion of RFC 6962 section 2.1.2, and its
-- hashes lead to the roots of both trees.
use Rattle.std.proofs.Common.{◌≡◌, ◌≢◌, ℕ, zero, suc, ◌-◌, ◌*◌, ◌^◌, ◌<◌, ◌≤◌, Bool, false, List}
use Rattle.std.proofs.Common.{[], ◌∷◌, ◌++◌, length, take, drop, refl, sym, ◌∙◌, inl, inr, arith}
use Rattle.std.proofs.Common.{length-take, length-drop}
use Rattle.std.proofs.Math.Nat.{pow-suc}
use Rattle.std.proofs.lemmas.Bool.{le-leb, lt-leb, le-ltb, lt-ltb, eq-eqb, ne_eqb, cases_eq}
use Rattle.sig_merkle.specs.Split.{IsSplit}
use Rattle.sig_merkle.specs.Root.{root}
use Rattle.sig_merkle.specs.ConsistencyProof.{shared_proof, subproof_at, subproof}
use Rattle.sig_merkle.proofs.Levels.{same_level, within_pow}

-- where the first entries are all of them, any level says so
subproof_at-shared : (e : ℕ) (entries : List (List ℕ)) (known : Bool)
    → subproof_at e (length entries) entries known ≡ shared_proof known entries
unfolding subproof_at
subproof_at-shared zero entries known = refl
subproof_at-shared (suc e) entries known = rw (eq-eqb (length entries) (length entries) refl) refl

-- one level more than the entries need changes nothing
subproof_at-step : (old_size : ℕ) (entries : List (List ℕ)) (known : Bool) (e : ℕ) → length entries ≤ 2 ^ e
    → subproof_at (suc e) old_size entries known ≡ subproof_at e old_size entries known
unfolding subproof_at
subproof_at-step old_size entries known e fits =
    elim (cases_eq old_size (length entries)) [
      | inl same ↦ rw same (subproof_at-shared (suc e) entries known ∙ sym (subproof_at-shared e entries known))
      | inr apart ↦ rw (ne_eqb old_size (length entries) apart, le-ltb (2 ^ e) (length entries) fits) refl
    ]

subproof_at-left : (old_size : ℕ) (entries : List (List ℕ)) (known : Bool) (e : ℕ) → old_size ≢ length entries
    → 2 ^ e < length entries → old_size ≤ 2 ^ e → subproof_at (suc e) old_size entries known
    ≡ subproof_at e old_size (take (2 ^ e) entries) known ++ root (drop (2 ^ e) entries) ∷ []
unfolding subproof_at
subproof_at-left old_size entries known e apart below left =
    rw (ne_eqb old_size (length entries) apart, lt-ltb (2 ^ e) (length entries) below, le-leb old_size (2 ^ e) left)
    refl

subproof_at-right : (old_size : ℕ) (entries : List (List ℕ)) (known : Bool) (e : ℕ) → old_size ≢ length entries
    → 2 ^ e < length entries → 2 ^ e < old_size → subproof_at (suc e) old_size entries known
    ≡ subproof_at e (old_size - 2 ^ e) (drop (2 ^ e) entries) false ++ root (take (2 ^ e) entries) ∷ []
unfolding subproof_at
subproof_at-right old_size entries known e apart below right =
    rw (ne_eqb old_size (length entries) apart, lt-ltb (2 ^ e) (length entries) below, lt-leb old_size (2 ^ e) right)
    refl

-- the proof, at any level that is high enough
pub subproof_is : (old_size : ℕ) (entries : List (List ℕ)) (known : Bool) (e : ℕ) → length entries ≤ 2 ^ e
    → subproof old_size entries known ≡ subproof_at e old_size entries known
unfolding subproof
subproof_is old_size entries known e fits =
    same_level (λ level. subproof_at level old_size entries known) (length entries)
    (subproof_at-step old_size entries known) (length entries) e (within_pow (length entries)) fits

pub subproof-shared : (entries : List (List ℕ)) (known : Bool)
    → subproof (length entries) entries known ≡ shared_proof known entries
subproof-shared entries known =
    subproof_is (length entries) entries known (length entries) (within_pow (length entries))
    ∙ subproof_at-shared (length entries) entries known

subproof-cut_left : (old_size e : ℕ) (entries : List (List ℕ)) (known : Bool) → 2 ^ e < length entries
    → length entries ≤ 2 * 2 ^ e → old_size ≤ 2 ^ e → subproof old_size entries known
    ≡ subproof old_size (take (2 ^ e) entries) known ++ root (drop (2 ^ e) entries) ∷ []
subproof-cut_left old_size e entries known below largest left =
    let front = length-take (2 ^ e) entries in
    subproof_is old_size entries known (suc e) (omega (arith, pow-suc 2 e))
    ∙ subproof_at-left old_size entries known e (λ same. absurd (omega arith)) below left
    ∙ rw (subproof_is old_size (take (2 ^ e) entries) known e (omega arith)) refl

subproof-cut_right : (old_size e : ℕ) (entries : List (List ℕ)) (known : Bool) → old_size < length entries
    → length entries ≤ 2 * 2 ^ e → 2 ^ e < old_size → subproof old_size entries known
    ≡ subproof (old_size - 2 ^ e) (drop (2 ^ e) entries) false ++ root (take (2 ^ e) entries) ∷ []
subproof-cut_right old_size e entries known older largest right =
    let back = length-drop (2 ^ e) entries in
    subproof_is old_size entries known (suc e) (omega (arith, pow-suc 2 e))
    ∙ subproof_at-right old_size entries known e (λ same. absurd (omega arith)) (omega arith) right
    ∙ rw (subproof_is (old_size - 2 ^ e) (drop (2 ^ e) entries) false e (omega arith)) refl

-- the recursion of the standard
pub subproof-left : (old_size k : ℕ) (entries : List (List ℕ)) (known : Bool) → IsSplit (length entries) k
    → old_size ≤ k
    → subproof old_size entries known ≡ subproof old_size (take k entries) known ++ root (drop k entries) ∷ []
subproof-left old_size k entries known s left =
    rw (s.power) (subproof-cut_left old_size s.exponent entries known (rw (← s.power) s.below)
    (rw (← s.power) s.largest) (rw (← s.power) left))

pub subproof-right : (old_size k : ℕ) (entries : List (List ℕ)) (known : Bool) → IsSplit (length entries) k
    → k < old_size → old_size < length entries
    → subproof old_size entries known ≡ subproof (old_size - k) (drop k entries) false ++ root (take k entries) ∷ []
subproof-right old_size k entries known s right older =
    rw (s.power) (subproof-cut_right old_size s.exponent entries known older (rw (← s.power) s.largest)
    (rw (← s.power) right))
