-- The law `inclusion_walks`: the walk over the bits of the index leads where the recursion of RFC 6962 does.
use Rattle.std.proofs.Common.{◌≡◌, ℕ, zero, suc, ◌+◌, ◌-◌, ◌*◌, ◌^◌, ◌<◌, ◌≤◌, List, [], ◌∷◌, ◌++◌, length}
use Rattle.std.proofs.Common.{Some, take, drop, refl, ◌∙◌, ap, inl, inr, arith}
use Rattle.std.proofs.Math.Nat.{pow-suc}
use Rattle.std.proofs.lemmas.Nat.{pow_pos}
use Rattle.std.proofs.lemmas.List.{length-append, length-take-le, take_all, drop_all, take-append-le, drop-append-le}
use Rattle.std.proofs.lemmas.Bool.{cases_lt}
use Rattle.sig_merkle.specs.Split.{IsSplit}
use Rattle.sig_merkle.specs.Root.{node_of}
use Rattle.sig_merkle.specs.Path.{path_root, path_len}
use Rattle.sig_merkle.specs.Walk.{inner_len, border_len, node_by_bit, bit_fold, inner_fold, border_fold, walk_root}
use Rattle.sig_merkle.proofs.Levels.{by_power, exponent_le}
use Rattle.sig_merkle.proofs.PathLaws.{path_len-one, path_len-left, path_len-right, path_root-one}
use Rattle.sig_merkle.proofs.PathLaws.{path_root-left, path_root-right}
use Rattle.sig_merkle.proofs.WalkBits.{inner_len-left, border_len-left, inner_len-right, border_len-right}
use Rattle.sig_merkle.proofs.WalkBits.{inner_len-one, border_len-one, inner_len-low}
use Rattle.sig_merkle.proofs.BitFolds.{bit_fold-above}
use Rattle.sig_merkle.proofs.WalkFolds.{inner_fold-left, inner_fold-right, border_fold-last}

-- a list that is not empty has a last element
pub last_of : (hashes : List (List ℕ)) (n : ℕ) → length hashes ≡ n + 1
    → (rest : List (List ℕ)) × (last : List ℕ) × (hashes ≡ rest ++ last ∷ []) × (length rest ≡ n)
last_of [] n count = absurd (omega arith)
last_of (hash ∷ []) n count = ([], hash, refl, omega arith)
last_of (first ∷ second ∷ more) zero count = absurd (omega arith)
last_of (first ∷ second ∷ more) (suc n) count =
    let (rest, last, ends, short) = last_of (second ∷ more) n (omega arith) in
    (first ∷ rest, last, ap (λ l. first ∷ l) ends, omega arith)

-- a full tree, of 2 ^ e leaves: a path has e hashes, and the bits of the index alone say where it leads

pub power_split : (e : ℕ) → IsSplit (2 ^ suc e) (2 ^ e)
power_split e =
    let double = pow-suc 2 e in
    record { exponent = e; power = refl; below = omega (arith, pow_pos e); largest = omega arith }

path_len-full : (e index : ℕ) → index < 2 ^ e → path_len index (2 ^ e) ≡ e
path_len-full zero index within =
    let first : index ≡ 0 = omega arith in
    rw first path_len-one
path_len-full (suc e) index within =
    let double = pow-suc 2 e in
    elim (cases_lt index (2 ^ e)) [
      | inl left ↦ omega (
        arith,
        path_len-left index (2 ^ suc e) (2 ^ e) (power_split e) left,
        path_len-full e index left,
      )
      | inr right ↦ (let rest : 2 ^ suc e - 2 ^ e ≡ 2 ^ e = omega arith in
          omega (
            arith,
            path_len-right index (2 ^ suc e) (2 ^ e) (power_split e) right,
            ap (path_len (index - 2 ^ e)) rest,
            path_len-full e (index - 2 ^ e) (omega arith),
          ))
    ]

full_root-more : (e index : ℕ) (leaf : List ℕ) (rest : List (List ℕ)) (last : List ℕ) → index < 2 * 2 ^ e
    → length rest ≡ e
    → ((i : ℕ) → i < 2 ^ e → path_root i leaf (2 ^ e) rest ≡ Some (inner_fold leaf rest i))
    → path_root index leaf (2 ^ suc e) (rest ++ last ∷ []) ≡ Some (inner_fold leaf (rest ++ last ∷ []) index)
full_root-more e index leaf rest last within count below =
    let double = pow-suc 2 e in
    let half : 2 ^ suc e - 2 ^ e ≡ 2 ^ e = omega arith in
    elim (cases_lt index (2 ^ e)) [
      | inl left ↦ path_root-left index (2 ^ suc e) (2 ^ e) leaf last rest (power_split e) left
          ∙ rw (below index left, inner_fold-left e leaf rest last index count left) refl
      | inr right ↦ path_root-right index (2 ^ suc e) (2 ^ e) leaf last rest (power_split e) right
          ∙ rw (
            half,
            below (index - 2 ^ e) (omega arith),
            inner_fold-right e leaf rest last index count right within,
          ) refl
    ]

pub full_root : (e index : ℕ) (leaf : List ℕ) (hashes : List (List ℕ)) → index < 2 ^ e → length hashes ≡ e
    → path_root index leaf (2 ^ e) hashes ≡ Some (inner_fold leaf hashes index)
unfolding bit_fold
full_root zero index leaf [] within count =
    let first : index ≡ 0 = omega arith in
    rw first (path_root-one leaf)
full_root zero index leaf (hash ∷ rest) within count = absurd (omega arith)
full_root (suc e) index leaf hashes within count =
    let (rest, last, ends, short) = last_of hashes e (omega arith) in
    rw ends (full_root-more e index leaf rest last (omega (arith, pow-suc 2 e)) short
    (λ i low. full_root e i leaf rest low short))

-- any tree: its left half is full, and in its right half the last hash is one of the border

pub split_at : (size e : ℕ) → 2 ^ e < size → size ≤ 2 * 2 ^ e → IsSplit size (2 ^ e)
split_at size e below largest = record { exponent = e; power = refl; below = below; largest = largest }

pub narrow : (size e : ℕ) → size < 2 ^ 64 → 2 ^ e < size → e < 64
narrow size e fits below = omega (arith, exponent_le size e 63 below (omega arith))

abbrev HasLens : ℕ → Type 0
HasLens size = (index : ℕ) → size < 2 ^ 64 → index < size
    → inner_len index size + border_len index size ≡ path_len index size

lens-more : (size e : ℕ) → 2 ^ e < size → size ≤ 2 * 2 ^ e → HasLens (size - 2 ^ e) → HasLens size
lens-more size e below largest rest index fits within =
    let split = split_at size e below largest in
    elim (cases_lt index (2 ^ e)) [
      | inl left ↦ omega (
        arith,
        inner_len-left index size e fits below largest left,
        border_len-left index size e fits below largest left,
        path_len-left index size (2 ^ e) split left,
        path_len-full e index left,
      )
      | inr right ↦ omega (
        arith,
        inner_len-right index size e within largest right,
        border_len-right index size e (narrow size e fits below) within largest right,
        path_len-right index size (2 ^ e) split right,
        rest (index - 2 ^ e) (omega arith) (omega arith),
      )
    ]

-- the two numbers add up to the number of hashes of the path
pub walk_lens : (index size : ℕ) → size < 2 ^ 64 → index < size
    → inner_len index size + border_len index size ≡ path_len index size
walk_lens index size fits within =
    by_power HasLens (λ i _ low. absurd (omega arith))
    (λ i _ low. (let first : i ≡ 0 = omega arith in
    rw first (omega (arith, inner_len-one, border_len-one, path_len-one))))
    (λ n e below largest _ rest. lens-more n e below largest rest) size index fits within

abbrev Leads : ℕ → Type 0
Leads size = (index : ℕ) (leaf : List ℕ) (hashes : List (List ℕ)) → size < 2 ^ 64 → index < size
    → length hashes ≡ path_len index size → path_root index leaf size hashes ≡ Some (walk_root index leaf size hashes)

-- a walk from the left half takes all hashes by the bits
walk_root-left : (size e index : ℕ) (leaf : List ℕ) (hashes : List (List ℕ)) → size < 2 ^ 64 → 2 ^ e < size
    → size ≤ 2 * 2 ^ e → index < 2 ^ e → length hashes ≡ suc e
    → walk_root index leaf size hashes ≡ inner_fold leaf hashes index
unfolding walk_root border_fold
walk_root-left size e index leaf hashes fits below largest left count =
    rw (
      inner_len-left index size e fits below largest left,
      take_all (suc e) hashes (omega arith),
      drop_all (suc e) hashes (omega arith),
    ) refl

leads-left : (size e index : ℕ) (leaf : List ℕ) (rest : List (List ℕ)) (last : List ℕ) → size < 2 ^ 64 → 2 ^ e < size
    → size ≤ 2 * 2 ^ e → index < 2 ^ e → length rest ≡ e
    → path_root index leaf size (rest ++ last ∷ []) ≡ Some (walk_root index leaf size (rest ++ last ∷ []))
leads-left size e index leaf rest last fits below largest left count =
    let whole : length (rest ++ last ∷ []) ≡ suc e = omega (arith, length-append rest (last ∷ [])) in
    path_root-left index size (2 ^ e) leaf last rest (split_at size e below largest) left
    ∙ rw (
      full_root e index leaf rest left count,
      walk_root-left size e index leaf (rest ++ last ∷ []) fits below largest left whole,
      inner_fold-left e leaf rest last index count left,
    ) refl

-- a walk from the right half takes its last hash on the left, after the walk in that half
walk_root-right : (size e index : ℕ) (leaf : List ℕ) (rest : List (List ℕ)) (last : List ℕ) → size < 2 ^ 64
    → 2 ^ e < size → size ≤ 2 * 2 ^ e → 2 ^ e ≤ index → index < size
    → length rest ≡ path_len (index - 2 ^ e) (size - 2 ^ e)
    → walk_root index leaf size (rest ++ last ∷ [])
    ≡ node_of last (walk_root (index - 2 ^ e) leaf (size - 2 ^ e) rest)
unfolding walk_root
walk_root-right size e index leaf rest last fits below largest right within count =
    let inner = inner_len (index - 2 ^ e) (size - 2 ^ e) in
    let low = inner_len-low (index - 2 ^ e) (size - 2 ^ e) e (omega arith) (narrow size e fits below) (omega arith) in
    let sum = walk_lens (index - 2 ^ e) (size - 2 ^ e) (omega arith) (omega arith) in
    let few : inner ≤ length rest = omega arith in
    let taken : length (take inner rest) ≤ e = omega (arith, length-take-le inner rest few) in
    rw (
      inner_len-right index size e within largest right,
      take-append-le inner rest (last ∷ []) few,
      drop-append-le inner rest (last ∷ []) few,
      bit_fold-above node_by_bit e leaf (take inner rest) index taken right,
    )
    (border_fold-last (inner_fold leaf (take inner rest) (index - 2 ^ e)) (drop inner rest) last)

leads-right : (size e index : ℕ) (leaf : List ℕ) (rest : List (List ℕ)) (last : List ℕ) → size < 2 ^ 64
    → 2 ^ e < size → size ≤ 2 * 2 ^ e → 2 ^ e ≤ index → index < size
    → length rest ≡ path_len (index - 2 ^ e) (size - 2 ^ e) → Leads (size - 2 ^ e)
    → path_root index leaf size (rest ++ last ∷ []) ≡ Some (walk_root index leaf size (rest ++ last ∷ []))
leads-right size e index leaf rest last fits below largest right within count leads =
    path_root-right index size (2 ^ e) leaf last rest (split_at size e below largest) right
    ∙ rw (
      leads (index - 2 ^ e) leaf rest (omega arith) (omega arith) count,
      walk_root-right size e index leaf rest last fits below largest right within count,
    ) refl

leads-more : (size e : ℕ) → 2 ^ e < size → size ≤ 2 * 2 ^ e → Leads (size - 2 ^ e) → Leads size
leads-more size e below largest leads index leaf hashes fits within count =
    let split = split_at size e below largest in
    elim (cases_lt index (2 ^ e)) [
      | inl left ↦ (let (rest, last, ends, short) = last_of hashes e (omega (
        arith,
        path_len-left index size (2 ^ e) split left,
        path_len-full e index left,
      )) in
          rw ends (leads-left size e index leaf rest last fits below largest left short))
      | inr right ↦ (let (rest, last, ends, short) = last_of hashes (path_len (index - 2 ^ e) (size - 2 ^ e))
          (omega (arith, path_len-right index size (2 ^ e) split right)) in
          rw ends (leads-right size e index leaf rest last fits below largest right within short leads))
    ]

leads-one : Leads 1
unfolding walk_root bit_fold border_fold
leads-one index leaf [] fits within count =
    let first : index ≡ 0 = omega arith in
    rw (first, inner_len-one) (path_root-one leaf)
leads-one index leaf (hash ∷ rest) fits within count =
    let first : index ≡ 0 = omega arith in
    absurd (omega (arith, ap (λ i. path_len i 1) first, path_len-one))

-- the walk leads to the root of the path
pub walk_leads : (index size : ℕ) (leaf : List ℕ) (hashes : List (List ℕ)) → size < 2 ^ 64 → index < size
    → length hashes ≡ path_len index size → path_root index leaf size hashes ≡ Some (walk_root index leaf size hashes)
walk_leads index size leaf hashes =
    by_power Leads (λ i l h _ low. absurd (omega arith)) leads-one
    (λ n e below largest _ leads. leads-more n e below largest leads) size index leaf hashes
