-- The walk to two roots as the code takes it: one hash after another, and the parts of a proof.
use Rattle.std.proofs.Common.{◌≡◌, ℕ, ◌-◌, ◌/◌, ◌^◌, ◌<◌, ◌≤◌, true, false, Some, List, ◌∷◌, length, take}
use Rattle.std.proofs.Common.{drop, refl, ◌∙◌, arith}
use Rattle.std.specs.Prelude.{nat_eq}
use Rattle.std.specs.Int.{w64, trailing_zeros}
use Rattle.std.proofs.lemmas.List.{length-drop}
use Rattle.sig_merkle.specs.Consistency.{roots_of, roots_len}
use Rattle.sig_merkle.specs.Walk.{inner_len, inner_fold, border_fold}
use Rattle.sig_merkle.specs.GrowthWalk.{shift_of, mask_of, right_fold, seed_len, seed_of}
use Rattle.sig_merkle.specs.GrowthWalk.{growth_inner_len, walk_roots}
use Rattle.sig_merkle.proofs.ConsistencyLens.{roots_len-within}
use Rattle.sig_merkle.proofs.GrowthBits.{shift-below}
use Rattle.sig_merkle.proofs.Growths.{growth_lens, growth_leads, shift-inner}

-- the numbers, as they are computed

pub shift-computed : (m : ℕ) → trailing_zeros w64 m ≡ shift_of m
unfolding shift_of
shift-computed m = refl

pub ruleset counts_zeros = (shift-computed, shift-below)

pub growth_inner_len-computed : (m n : ℕ) → inner_len (m - 1) n - shift_of m ≡ growth_inner_len m n
unfolding growth_inner_len
growth_inner_len-computed m n = refl

pub ruleset parts_growth = (growth_inner_len-computed, shift-inner, growth_lens, roots_len-within)

-- the start

pub seed_len-full : (m : ℕ) → nat_eq m (2 ^ shift_of m) ≡ true → seed_len m ≡ 0
unfolding seed_len
seed_len-full m full = rw full refl

pub seed_len-taken : (m : ℕ) → nat_eq m (2 ^ shift_of m) ≡ false → seed_len m ≡ 1
unfolding seed_len
seed_len-taken m taken = rw taken refl

pub seed_of-full : (m : ℕ) (old : List ℕ) (hashes : List (List ℕ)) → nat_eq m (2 ^ shift_of m) ≡ true
    → seed_of m old hashes ≡ old
unfolding seed_of
seed_of-full m old hashes full = rw full refl

pub seed_of-taken : (m : ℕ) (old first : List ℕ) (rest : List (List ℕ)) → nat_eq m (2 ^ shift_of m) ≡ false
    → seed_of m old (first ∷ rest) ≡ first
unfolding seed_of
seed_of-taken m old first rest taken = rw taken refl

pub ruleset takes_seed = (seed_len-full, seed_len-taken, seed_of-full, seed_of-taken)

-- a walk's end

pub seed_len-enough : (m n : ℕ) (hashes : List (List ℕ)) → n < 2 ^ 64 → 0 < m → m < n
    → length hashes ≡ roots_len m n true → seed_len m ≤ length hashes
seed_len-enough m n hashes fits some older count = omega (arith, growth_lens m n fits some older)

pub growth_inner_len-within : (m n inner : ℕ) (hashes rest : List (List ℕ)) → n < 2 ^ 64 → 0 < m → m < n
    → inner ≡ growth_inner_len m n → length hashes ≡ roots_len m n true → rest ≡ drop (seed_len m) hashes
    → inner ≤ length rest
growth_inner_len-within m n inner hashes rest fits some older is count left_over =
    rw left_over (omega (arith, growth_lens m n fits some older, length-drop (seed_len m) hashes))

pub growth-ends : (m n inner mask : ℕ) (old_root seed below_old below_new old new : List ℕ)
    (hashes rest front back : List (List ℕ)) → n < 2 ^ 64 → 0 < m → m < n → inner ≡ growth_inner_len m n
    → length hashes ≡ roots_len m n true → seed ≡ seed_of m old_root hashes → rest ≡ drop (seed_len m) hashes
    → front ≡ take inner rest → back ≡ drop inner rest → mask ≡ (m - 1) / 2 ^ shift_of m
    → below_old ≡ right_fold seed front mask → below_new ≡ inner_fold seed front mask
    → old ≡ border_fold below_old back → new ≡ border_fold below_new back
    → roots_of m n true old_root hashes ≡ Some (old, new)
unfolding walk_roots mask_of
growth-ends m n inner mask old_root seed below_old below_new old new hashes rest front back fits some older is count
    first left_over taken above bits climbed_old climbed_new ends_old ends_new =
    growth_leads m n old_root hashes fits some older count
    ∙ rw (ends_old, ends_new, climbed_old, climbed_new, taken, above, bits, left_over, first, is) refl

pub ruleset ends_growth = (growth_inner_len-within)
