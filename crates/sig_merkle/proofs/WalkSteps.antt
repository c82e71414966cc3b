-- The walk as the code takes it: one hash after another, and the parts of a path.
use Rattle.std.proofs.Common.{◌≡◌, ℕ, ◌+◌, ◌-◌, ◌/◌, ◌^◌, ◌<◌, ◌≤◌, List, [], length, take, drop, Some}
use Rattle.std.proofs.Common.{get_or, refl, ◌∙◌, arith}
use Rattle.std.specs.Prelude.{bit_xor, count_ones}
use Rattle.std.specs.Int.{w64, leading_zeros}
use Rattle.std.proofs.lemmas.List.{drop_more, drop_all}
use Rattle.sig_merkle.specs.Root.{node_of}
use Rattle.sig_merkle.specs.Path.{path_root, path_len}
use Rattle.sig_merkle.specs.Walk.{bit_len, inner_len, border_len, inner_fold, border_fold, walk_root}
use Rattle.sig_merkle.proofs.PathLaws.{path_len-within}
use Rattle.sig_merkle.proofs.WalkBits.{no_ones_above}
use Rattle.sig_merkle.proofs.Walks.{walk_lens, walk_leads}

-- the two numbers, as they are computed

pub inner_len-computed : (index size : ℕ) → 64 - leading_zeros w64 (bit_xor index (size - 1)) ≡ inner_len index size
unfolding inner_len bit_len
inner_len-computed index size = refl

pub border_len-computed : (index size : ℕ) → count_ones (index / 2 ^ inner_len index size) ≡ border_len index size
unfolding border_len
border_len-computed index size = refl

pub ruleset counts_ones = (no_ones_above)

pub ruleset parts_path = (inner_len-computed, border_len-computed, walk_lens, path_len-within)

-- one hash more, and none

pub border_fold-step : (value : List ℕ) (hashes : List (List ℕ)) (i : ℕ) → i < length hashes
    → border_fold value (drop i hashes) ≡ border_fold (node_of (get_or hashes i []) value) (drop (i + 1) hashes)
unfolding border_fold
border_fold-step value hashes i within = rw (drop_more hashes i [] within) refl

pub border_fold-done : (value : List ℕ) (hashes : List (List ℕ)) (i : ℕ) → length hashes ≤ i
    → border_fold value (drop i hashes) ≡ value
unfolding border_fold
border_fold-done value hashes i all = rw (drop_all i hashes all) refl

pub ruleset follows_border = (border_fold-step, border_fold-done)

-- a walk's end

pub inner_len-within : (index size inner : ℕ) (hashes : List (List ℕ)) → size < 2 ^ 64 → index < size
    → inner ≡ inner_len index size → length hashes ≡ path_len index size → inner ≤ length hashes
inner_len-within index size inner hashes fits within is count = omega (arith, walk_lens index size fits within)

pub walk-ends : (index size inner : ℕ) (leaf below root : List ℕ) (hashes front back : List (List ℕ)) → size < 2 ^ 64
    → index < size → inner ≡ inner_len index size → length hashes ≡ path_len index size → front ≡ take inner hashes
    → back ≡ drop inner hashes → below ≡ inner_fold leaf front index → root ≡ border_fold below back
    → path_root index leaf size hashes ≡ Some root
unfolding walk_root
walk-ends index size inner leaf below root hashes front back fits within is count taken left_out first then =
    walk_leads index size leaf hashes fits within count ∙ rw (then, first, taken, left_out, is) refl

pub ruleset ends_walk = (inner_len-within, walk-ends)
