-- A fold by bits at the first of its hashes, and at the last, which is the first that a recursion from the root takes.
use Rattle.std.proofs.Common.{◌≡◌, ℕ, zero, suc, ◌+◌, ◌-◌, ◌*◌, ◌/◌, ◌%◌, ◌^◌, ◌<◌, ◌≤◌, List, [], ◌∷◌, ◌++◌, length}
use Rattle.std.proofs.Common.{drop, get_or, refl, sym, ◌∙◌, ap, arith}
use Rattle.std.specs.Int.{bit_at}
use Rattle.std.proofs.Math.Nat.{pow-suc, div-eq_of_lt-le}
use Rattle.std.proofs.lemmas.List.{drop_more, drop_all}
use Rattle.std.proofs.lemmas.Nat.Bits.{bit_at_lowest, bit_at-suc}
use Rattle.sig_merkle.specs.Walk.{bit_fold}

abbrev Step : Type 0
Step = ℕ → List ℕ → List ℕ → List ℕ

-- the hash at a place of the list is taken by the bit of this place
pub bit_fold-last : (step : Step) (value : List ℕ) (rest : List (List ℕ)) (hash : List ℕ) (index : ℕ)
    → bit_fold step value (rest ++ hash ∷ []) index
    ≡ step (bit_at index (length rest)) (bit_fold step value rest index) hash
unfolding bit_fold
bit_fold-last step value [] hash index = rw (bit_at_lowest index) refl
bit_fold-last step value (first ∷ rest) hash index =
    bit_fold-last step (step (index % 2) value first) rest hash (index / 2)
    ∙ ap (λ bit. step bit (bit_fold step (step (index % 2) value first) rest (index / 2)) hash)
    (sym (bit_at-suc index (length rest)))

-- a bit at or above the number of hashes does not count
bit_fold-low : (step : Step) (e : ℕ) (value : List ℕ) (hashes : List (List ℕ)) (index : ℕ) → length hashes ≤ e
    → bit_fold step value hashes (2 ^ e + index) ≡ bit_fold step value hashes index
unfolding bit_fold
bit_fold-low step e value [] index short = refl
bit_fold-low step zero value (hash ∷ rest) index short = absurd (omega arith)
bit_fold-low step (suc e) value (hash ∷ rest) index short =
    let double = pow-suc 2 e in
    let odd : (2 ^ suc e + index) % 2 ≡ index % 2 = omega arith in
    let half : (2 ^ suc e + index) / 2 ≡ 2 ^ e + index / 2 = omega arith in
    rw (odd, half) (bit_fold-low step e (step (index % 2) value hash) rest (index / 2) (omega arith))

pub bit_fold-above : (step : Step) (e : ℕ) (value : List ℕ) (hashes : List (List ℕ)) (index : ℕ) → length hashes ≤ e
    → 2 ^ e ≤ index → bit_fold step value hashes index ≡ bit_fold step value hashes (index - 2 ^ e)
bit_fold-above step e value hashes index short above =
    let whole : index ≡ 2 ^ e + (index - 2 ^ e) = omega arith in
    ap (bit_fold step value hashes) whole ∙ bit_fold-low step e value hashes (index - 2 ^ e) short

pub bit_at-top : (index e : ℕ) → 2 ^ e ≤ index → index < 2 * 2 ^ e → bit_at index e ≡ 1
bit_at-top index e right within =
    let one : index / 2 ^ e ≡ 1 = div-eq_of_lt-le (2 ^ e) (omega arith) (omega arith) in
    rw one refl

-- one hash more, and none

pub bit_fold-step : (step : Step) (value : List ℕ) (hashes : List (List ℕ)) (i bits : ℕ) → i < length hashes
    → bit_fold step value (drop i hashes) bits
    ≡ bit_fold step (step (bits % 2) value (get_or hashes i [])) (drop (i + 1) hashes) (bits / 2)
unfolding bit_fold
bit_fold-step step value hashes i bits within = rw (drop_more hashes i [] within) refl

pub bit_fold-done : (step : Step) (value : List ℕ) (hashes : List (List ℕ)) (i bits : ℕ) → length hashes ≤ i
    → bit_fold step value (drop i hashes) bits ≡ value
unfolding bit_fold
bit_fold-done step value hashes i bits all = rw (drop_all i hashes all) refl

pub ruleset follows_bits = (bit_fold-step, bit_fold-done)
