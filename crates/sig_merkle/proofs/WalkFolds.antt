-- The folds of a walk at the last of their hashes, which is the first that a recursion from the root takes.
use Rattle.std.proofs.Common.{◌≡◌, ℕ, ◌-◌, ◌*◌, ◌^◌, ◌<◌, ◌≤◌, List, [], ◌∷◌, ◌++◌, length, refl, ◌∙◌, arith}
use Rattle.std.proofs.lemmas.Nat.Bits.{bit_at_above}
use Rattle.sig_merkle.specs.Root.{node_of}
use Rattle.sig_merkle.specs.Walk.{node_by_bit, inner_fold, border_fold}
use Rattle.sig_merkle.proofs.BitFolds.{bit_at-top, bit_fold-above, bit_fold-last}

pub border_fold-last : (value : List ℕ) (rest : List (List ℕ)) (hash : List ℕ)
    → border_fold value (rest ++ hash ∷ []) ≡ node_of hash (border_fold value rest)
unfolding border_fold
border_fold-last value [] hash = refl
border_fold-last value (first ∷ rest) hash = border_fold-last (node_of first value) rest hash

-- the last hash of a path from the left half of 2 ^ e leaves lies on the right, and the other way round
pub inner_fold-left : (e : ℕ) (value : List ℕ) (rest : List (List ℕ)) (last : List ℕ) (index : ℕ) → length rest ≡ e
    → index < 2 ^ e → inner_fold value (rest ++ last ∷ []) index ≡ node_of (inner_fold value rest index) last
inner_fold-left e value rest last index count left =
    bit_fold-last node_by_bit value rest last index ∙ rw (count, bit_at_above index e e left (omega arith)) refl

pub inner_fold-right : (e : ℕ) (value : List ℕ) (rest : List (List ℕ)) (last : List ℕ) (index : ℕ) → length rest ≡ e
    → 2 ^ e ≤ index → index < 2 * 2 ^ e
    → inner_fold value (rest ++ last ∷ []) index ≡ node_of last (inner_fold value rest (index - 2 ^ e))
inner_fold-right e value rest last index count right within =
    bit_fold-last node_by_bit value rest last index
    ∙ rw (
      count,
      bit_at-top index e right within,
      bit_fold-above node_by_bit e value rest index (omega arith) right,
    ) refl
