-- The fold to the old root at the last of its hashes, which is the first that a recursion from the root takes: it
-- leaves the value as it is where it lies on the right, and else is the left child beside it.
use Rattle.std.proofs.Common.{◌≡◌, ℕ, ◌-◌, ◌*◌, ◌^◌, ◌<◌, ◌≤◌, List, [], ◌∷◌, ◌++◌, length, refl, ◌∙◌, arith}
use Rattle.std.proofs.lemmas.Nat.Bits.{bit_at_above}
use Rattle.sig_merkle.specs.Root.{node_of}
use Rattle.sig_merkle.specs.GrowthWalk.{kept_by_bit, right_fold}
use Rattle.sig_merkle.proofs.BitFolds.{bit_at-top, bit_fold-above, bit_fold-last}

pub right_fold-left : (e : ℕ) (value : List ℕ) (rest : List (List ℕ)) (last : List ℕ) (index : ℕ) → length rest ≡ e
    → index < 2 ^ e → right_fold value (rest ++ last ∷ []) index ≡ right_fold value rest index
right_fold-left e value rest last index count left =
    bit_fold-last kept_by_bit value rest last index ∙ rw (count, bit_at_above index e e left (omega arith)) refl

pub right_fold-right : (e : ℕ) (value : List ℕ) (rest : List (List ℕ)) (last : List ℕ) (index : ℕ) → length rest ≡ e
    → 2 ^ e ≤ index → index < 2 * 2 ^ e
    → right_fold value (rest ++ last ∷ []) index ≡ node_of last (right_fold value rest (index - 2 ^ e))
right_fold-right e value rest last index count right within =
    bit_fold-last kept_by_bit value rest last index
    ∙ rw (
      count,
      bit_at-top index e right within,
      bit_fold-above kept_by_bit e value rest index (omega arith) right,
    ) refl
