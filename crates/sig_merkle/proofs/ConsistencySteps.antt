-- The laws of consistency proofs as a function that goes down a tree takes them: one step to a half.
use Rattle.std.proofs.Common.{◌≡◌, ℕ, ◌+◌, ◌-◌, ◌<◌, ◌≤◌, Bool, true, false, Some, List, [], ◌∷◌, ◌++◌, length}
use Rattle.std.proofs.Common.{refl, ◌∙◌, sym, inl, inr, arith}
use Rattle.std.proofs.lemmas.Bool.{cases_lt}
use Rattle.sig_merkle.specs.Split.{IsSplit}
use Rattle.sig_merkle.specs.Root.{node_of}
use Rattle.sig_merkle.specs.Consistency.{at_shared, shared_len, roots_of, roots_len}
use Rattle.sig_merkle.proofs.ConsistencyLaws.{roots_of-whole, roots_of-left, roots_of-right}
use Rattle.sig_merkle.proofs.ConsistencyLens.{shared_len-within, roots_len-shared, roots_len-left}
use Rattle.sig_merkle.proofs.ConsistencyLens.{roots_len-right, roots_len-grown}

-- counting the hashes

pub counted_whole : (old_size size count : ℕ) (known : Bool) → old_size ≡ size → count ≡ shared_len known
    → count ≡ roots_len old_size size known
counted_whole old_size size count known same counted = rw same (counted ∙ sym (roots_len-shared size known))

pub counted_left : (old_size size half count : ℕ) (known : Bool) → IsSplit size half → old_size ≤ half
    → count ≡ roots_len old_size half known → count + 1 ≡ roots_len old_size size known
counted_left old_size size half count known split left counted =
    omega (arith, roots_len-left old_size size half known split left)

pub counted_right : (old_size size half count : ℕ) (known : Bool) → IsSplit size half → half < old_size
    → old_size < size → count ≡ roots_len (old_size - half) (size - half) false
    → count + 1 ≡ roots_len old_size size known
counted_right old_size size half count known split right older counted =
    omega (arith, roots_len-right old_size size half known split right older)

-- folding them

-- where a proof of the right length has no hash, the old tree is the whole
pub fold_whole : (old_size size : ℕ) (known : Bool) (hashes : List (List ℕ)) → 0 < old_size → old_size ≤ size
    → length hashes ≡ roots_len old_size size known → length hashes ≡ 0 → old_size ≡ size
fold_whole old_size size known hashes some within fits none =
    elim (cases_lt old_size size) [
      | inl older ↦ absurd (omega (arith, roots_len-grown old_size size known some older))
      | inr same ↦ omega arith
    ]

-- and its root is the known one, or the only hash

shared_count : (old_size size count : ℕ) (known : Bool) → old_size ≡ size → count ≡ roots_len old_size size known
    → count ≡ shared_len known
shared_count old_size size count known same fits =
    let whole : roots_len old_size size known ≡ shared_len known = rw same (roots_len-shared size known) in
    fits ∙ whole

shared_known : (known : Bool) (old : List ℕ) (hashes : List (List ℕ)) → length hashes ≡ shared_len known
    → length hashes ≡ 0 → at_shared known old hashes ≡ Some (old, old)
shared_known true old [] fits none = refl
shared_known true old (hash ∷ rest) fits none = absurd (omega arith)
shared_known false old hashes fits none = absurd (omega arith)

shared_last : (known : Bool) (old last : List ℕ) (rest : List (List ℕ))
    → length (rest ++ last ∷ []) ≡ shared_len known → at_shared known old (rest ++ last ∷ []) ≡ Some (last, last)
shared_last true old last [] fits = absurd (omega arith)
shared_last true old last (hash ∷ rest) fits = absurd (omega arith)
shared_last false old last [] fits = refl
shared_last false old last (hash ∷ []) fits = absurd (omega arith)
shared_last false old last (hash ∷ next ∷ rest) fits = absurd (omega arith)

roots_whole : (old_size size : ℕ) (known : Bool) (old : List ℕ) (hashes : List (List ℕ)) → old_size ≡ size
    → length hashes ≤ 1 → roots_of old_size size known old hashes ≡ at_shared known old hashes
roots_whole old_size size known old hashes same few = rw same (roots_of-whole size known old hashes few)

pub fold_known : (old_size size : ℕ) (known : Bool) (old : List ℕ) (hashes : List (List ℕ)) → 0 < old_size
    → old_size ≤ size → length hashes ≡ roots_len old_size size known → length hashes ≡ 0
    → roots_of old_size size known old hashes ≡ Some (old, old)
fold_known old_size size known old hashes some within fits none =
    let same = fold_whole old_size size known hashes some within fits none in
    let count = shared_count old_size size (length hashes) known same fits in
    roots_whole old_size size known old hashes same (omega arith) ∙ shared_known known old hashes count none

pub fold_last : (old_size size : ℕ) (known : Bool) (old last : List ℕ) (hashes rest : List (List ℕ))
    → old_size ≡ size → length hashes ≡ roots_len old_size size known → hashes ≡ rest ++ last ∷ []
    → roots_of old_size size known old hashes ≡ Some (last, last)
fold_last old_size size known old last hashes rest same fits ends =
    let count = shared_count old_size size (length hashes) known same fits in
    let few : length hashes ≤ 1 = omega (arith, shared_len-within known) in
    let joined : length (rest ++ last ∷ []) ≡ shared_len known = rw (← ends) count in
    roots_whole old_size size known old hashes same few ∙ rw ends (shared_last known old last rest joined)

-- from the roots of the left half to the roots, by the last hash
pub fold_left : (old_size size half : ℕ) (known : Bool) (old led_old led_new new last : List ℕ)
    (hashes rest : List (List ℕ)) → IsSplit size half → old_size ≤ half → hashes ≡ rest ++ last ∷ []
    → roots_of old_size half known old rest ≡ Some (led_old, led_new) → new ≡ node_of led_new last
    → roots_of old_size size known old hashes ≡ Some (led_old, new)
fold_left old_size size half known old led_old led_new new last hashes rest split left ends led hashed =
    rw (ends, hashed) (roots_of-left old_size size half known old last rest split left ∙ rw led refl)

-- from the roots of the right half to the roots, by the last hash
pub fold_right : (old_size size half : ℕ) (known : Bool) (old led_old led_new both new last : List ℕ)
    (hashes rest : List (List ℕ)) → IsSplit size half → half < old_size → old_size < size
    → hashes ≡ rest ++ last ∷ []
    → roots_of (old_size - half) (size - half) false old rest ≡ Some (led_old, led_new)
    → both ≡ node_of last led_old → new ≡ node_of last led_new
    → roots_of old_size size known old hashes ≡ Some (both, new)
fold_right old_size size half known old led_old led_new both new last hashes rest split right older ends led hashed_old
    hashed_new =
    rw (ends, hashed_old, hashed_new)
    (roots_of-right old_size size half known old last rest split right older ∙ rw led refl)
