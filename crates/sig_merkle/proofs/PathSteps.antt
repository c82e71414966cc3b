-- The laws of paths as a function that goes down a tree takes them: one step to a half.
use Rattle.std.proofs.Common.{◌≡◌, ℕ, ◌-◌, ◌<◌, ◌≤◌, Some, List, [], ◌∷◌, ◌++◌, length, refl, ◌∙◌, inl, inr, arith}
use Rattle.std.proofs.lemmas.Bool.{cases_lt}
use Rattle.sig_merkle.specs.Split.{IsSplit}
use Rattle.sig_merkle.specs.Root.{node_of}
use Rattle.sig_merkle.specs.Path.{path_root_at, path_root, path_len_at, path_len}
use Rattle.sig_merkle.proofs.Levels.{split_of}
use Rattle.sig_merkle.proofs.PathLaws.{path_root_is, path_root-left, path_root-right, path_len_is, path_len-left}
use Rattle.sig_merkle.proofs.PathLaws.{path_len-right, path_len-within}

-- a tree of one leaf has no hash on a path
pub path_len-leaf : (index size : ℕ) → size ≤ 1 → path_len index size ≡ 0
unfolding path_len_at
path_len-leaf index size single = path_len_is index size 0 (omega arith)

-- and a larger tree has one
pub path_len-several : (index size : ℕ) → 1 < size → 0 < path_len index size
path_len-several index size several =
    let (k, split) = split_of size several in
    elim (cases_lt index k) [
      | inl left ↦ omega (arith, path_len-left index size k split left)
      | inr right ↦ omega (arith, path_len-right index size k split right)
    ]

-- what counting the hashes of a path cites
pub ruleset counts_path = (path_len-leaf, path_len-left, path_len-right, path_len-within)

list_empty : (hashes : List (List ℕ)) → length hashes ≡ 0 → hashes ≡ []
list_empty [] none = refl
list_empty (hash ∷ rest) none = absurd (omega arith)

-- where a path of the right length has no hash, it leads to the leaf
pub fold_leaf : (index size : ℕ) (leaf : List ℕ) (hashes : List (List ℕ)) → length hashes ≡ path_len index size
    → length hashes ≡ 0 → path_root index leaf size hashes ≡ Some leaf
unfolding path_root_at
fold_leaf index size leaf hashes fits none =
    elim (cases_lt 1 size) [
      | inl several ↦ absurd (omega (arith, path_len-several index size several))
      | inr single ↦ path_root_is index leaf size hashes 0 (omega arith) ∙ rw (list_empty hashes none) refl
    ]

-- where it has one, the tree has more than one leaf
pub fold_several : (index size : ℕ) (hashes : List (List ℕ)) → length hashes ≡ path_len index size → 0 < length hashes
    → 1 < size
fold_several index size hashes fits some =
    elim (cases_lt 1 size) [
      | inl several ↦ several
      | inr single ↦ absurd (omega (arith, path_len-leaf index size single))
    ]

-- from the root of the left half to the root, by the last hash
pub fold_left : (index size half : ℕ) (leaf root last : List ℕ) (hashes rest : List (List ℕ)) → IsSplit size half
    → index < half → hashes ≡ rest ++ last ∷ [] → path_root index leaf half rest ≡ Some root
    → path_root index leaf size hashes ≡ Some (node_of root last)
fold_left index size half leaf root last hashes rest split left ends led =
    rw ends (path_root-left index size half leaf last rest split left ∙ rw led refl)

-- from the root of the right half to the root, by the last hash
pub fold_right : (index size half : ℕ) (leaf root last : List ℕ) (hashes rest : List (List ℕ)) → IsSplit size half
    → half ≤ index → hashes ≡ rest ++ last ∷ [] → path_root (index - half) leaf (size - half) rest ≡ Some root
    → path_root index leaf size hashes ≡ Some (node_of last root)
fold_right index size half leaf root last hashes rest split right ends led =
    rw ends (path_root-right index size half leaf last rest split right ∙ rw led refl)
