-- The laws `path_roots` and `path_lens`: both are the recursion of RFC 6962 section 2.1.1.
use Rattle.std.proofs.Common.{◌≡◌, ◌≢◌, ℕ, zero, suc, ◌+◌, ◌-◌, ◌*◌, ◌^◌, ◌<◌, ◌≤◌, ◌↔◌, Option, Some, None}
use Rattle.std.proofs.Common.{option_map, MatchOption, IsSome, IsNone, List, [], ◌∷◌, ◌++◌, reverse, length, refl, sym}
use Rattle.std.proofs.Common.{◌∙◌, inl, inr, arith}
use Rattle.std.proofs.Math.Nat.{pow-suc}
use Rattle.std.proofs.lemmas.Bool.{le-ltb, lt-ltb, cases_lt, false≢true}
use Rattle.std.proofs.lemmas.List.{reverse-append, length-reverse}
use Rattle.sig_merkle.specs.Split.{IsSplit}
use Rattle.sig_merkle.specs.Root.{node_of}
use Rattle.sig_merkle.specs.Path.{at_leaf, with_right, with_left, path_root_at, path_root, path_len_at, path_len}
use Rattle.sig_merkle.proofs.Levels.{same_level, within_pow}

-- one level more than the size needs changes nothing
path_root_at-step : (index : ℕ) (leaf : List ℕ) (size : ℕ) (hashes : List (List ℕ)) (e : ℕ) → size ≤ 2 ^ e
    → path_root_at (suc e) index leaf size hashes ≡ path_root_at e index leaf size hashes
unfolding path_root_at
path_root_at-step index leaf size hashes e fits = rw (le-ltb (2 ^ e) size fits) refl

-- where the leaf is in the left half, and where it is in the right
path_root_at-left : (index : ℕ) (leaf : List ℕ) (size : ℕ) (hashes : List (List ℕ)) (e : ℕ) → 2 ^ e < size
    → index < 2 ^ e → path_root_at (suc e) index leaf size hashes
    ≡ with_right hashes (λ rest. path_root_at e index leaf (2 ^ e) rest)
unfolding path_root_at
path_root_at-left index leaf size hashes e below left =
    rw (lt-ltb (2 ^ e) size below, lt-ltb index (2 ^ e) left) refl

path_root_at-right : (index : ℕ) (leaf : List ℕ) (size : ℕ) (hashes : List (List ℕ)) (e : ℕ) → 2 ^ e < size
    → 2 ^ e ≤ index → path_root_at (suc e) index leaf size hashes
    ≡ with_left hashes (λ rest. path_root_at e (index - 2 ^ e) leaf (size - 2 ^ e) rest)
unfolding path_root_at
path_root_at-right index leaf size hashes e below right =
    rw (lt-ltb (2 ^ e) size below, le-ltb index (2 ^ e) right) refl

-- where a path leads, at any level that is high enough
pub path_root_is : (index : ℕ) (leaf : List ℕ) (size : ℕ) (hashes : List (List ℕ)) (e : ℕ) → size ≤ 2 ^ e
    → path_root index leaf size hashes ≡ path_root_at e index leaf size (reverse hashes)
unfolding path_root
path_root_is index leaf size hashes e fits =
    same_level (λ level. path_root_at level index leaf size (reverse hashes)) size
    (path_root_at-step index leaf size (reverse hashes)) size e (within_pow size) fits

pub path_root-one : (leaf : List ℕ) → path_root 0 leaf 1 [] ≡ Some leaf
unfolding path_root_at
path_root-one leaf = path_root_is 0 leaf 1 [] 0 (omega arith)

path_root-cut_left : (index size e : ℕ) (leaf hash : List ℕ) (rest : List (List ℕ)) → 2 ^ e < size → size ≤ 2 * 2 ^ e
    → index < 2 ^ e → path_root index leaf size (rest ++ hash ∷ [])
    ≡ option_map (λ child. node_of child hash) (path_root index leaf (2 ^ e) rest)
path_root-cut_left index size e leaf hash rest below largest left =
    path_root_is index leaf size (rest ++ hash ∷ []) (suc e) (omega (arith, pow-suc 2 e))
    ∙ path_root_at-left index leaf size (reverse (rest ++ hash ∷ [])) e below left
    ∙ rw (reverse-append rest (hash ∷ []), path_root_is index leaf (2 ^ e) rest e (omega arith)) refl

path_root-cut_right : (index size e : ℕ) (leaf hash : List ℕ) (rest : List (List ℕ)) → 2 ^ e < size → size ≤ 2 * 2 ^ e
    → 2 ^ e ≤ index → path_root index leaf size (rest ++ hash ∷ [])
    ≡ option_map (λ child. node_of hash child) (path_root (index - 2 ^ e) leaf (size - 2 ^ e) rest)
path_root-cut_right index size e leaf hash rest below largest right =
    path_root_is index leaf size (rest ++ hash ∷ []) (suc e) (omega (arith, pow-suc 2 e))
    ∙ path_root_at-right index leaf size (reverse (rest ++ hash ∷ [])) e below right
    ∙ rw (reverse-append rest (hash ∷ []), path_root_is (index - 2 ^ e) leaf (size - 2 ^ e) rest e (omega arith)) refl

-- the recursion of the standard
pub path_root-left : (index size k : ℕ) (leaf hash : List ℕ) (rest : List (List ℕ)) → IsSplit size k → index < k
    → path_root index leaf size (rest ++ hash ∷ [])
    ≡ option_map (λ child. node_of child hash) (path_root index leaf k rest)
path_root-left index size k leaf hash rest s left =
    rw (s.power) (path_root-cut_left index size s.exponent leaf hash rest (rw (← s.power) s.below)
    (rw (← s.power) s.largest) (rw (← s.power) left))

pub path_root-right : (index size k : ℕ) (leaf hash : List ℕ) (rest : List (List ℕ)) → IsSplit size k → k ≤ index
    → path_root index leaf size (rest ++ hash ∷ [])
    ≡ option_map (λ child. node_of hash child) (path_root (index - k) leaf (size - k) rest)
path_root-right index size k leaf hash rest s right =
    rw (s.power) (path_root-cut_right index size s.exponent leaf hash rest (rw (← s.power) s.below)
    (rw (← s.power) s.largest) (rw (← s.power) right))

-- the same for the number of hashes

path_len_at-step : (index size e : ℕ) → size ≤ 2 ^ e → path_len_at (suc e) index size ≡ path_len_at e index size
unfolding path_len_at
path_len_at-step index size e fits = rw (le-ltb (2 ^ e) size fits) refl

path_len_at-left : (index size e : ℕ) → 2 ^ e < size → index < 2 ^ e
    → path_len_at (suc e) index size ≡ path_len_at e index (2 ^ e) + 1
unfolding path_len_at
path_len_at-left index size e below left = rw (lt-ltb (2 ^ e) size below, lt-ltb index (2 ^ e) left) refl

path_len_at-right : (index size e : ℕ) → 2 ^ e < size → 2 ^ e ≤ index
    → path_len_at (suc e) index size ≡ path_len_at e (index - 2 ^ e) (size - 2 ^ e) + 1
unfolding path_len_at
path_len_at-right index size e below right = rw (lt-ltb (2 ^ e) size below, le-ltb index (2 ^ e) right) refl

-- the number of hashes, at any level that is high enough
pub path_len_is : (index size e : ℕ) → size ≤ 2 ^ e → path_len index size ≡ path_len_at e index size
unfolding path_len
path_len_is index size e fits =
    same_level (λ level. path_len_at level index size) size (path_len_at-step index size) size e (within_pow size) fits

pub path_len-one : path_len 0 1 ≡ 0
unfolding path_len_at
path_len-one = path_len_is 0 1 0 (omega arith)

path_len-cut_left : (index size e : ℕ) → 2 ^ e < size → size ≤ 2 * 2 ^ e → index < 2 ^ e
    → path_len index size ≡ path_len index (2 ^ e) + 1
path_len-cut_left index size e below largest left =
    path_len_is index size (suc e) (omega (arith, pow-suc 2 e)) ∙ path_len_at-left index size e below left
    ∙ rw (path_len_is index (2 ^ e) e (omega arith)) refl

path_len-cut_right : (index size e : ℕ) → 2 ^ e < size → size ≤ 2 * 2 ^ e → 2 ^ e ≤ index
    → path_len index size ≡ path_len (index - 2 ^ e) (size - 2 ^ e) + 1
path_len-cut_right index size e below largest right =
    path_len_is index size (suc e) (omega (arith, pow-suc 2 e)) ∙ path_len_at-right index size e below right
    ∙ rw (path_len_is (index - 2 ^ e) (size - 2 ^ e) e (omega arith)) refl

pub path_len-left : (index size k : ℕ) → IsSplit size k → index < k → path_len index size ≡ path_len index k + 1
path_len-left index size k s left =
    rw (s.power) (path_len-cut_left index size s.exponent (rw (← s.power) s.below) (rw (← s.power) s.largest)
    (rw (← s.power) left))

pub path_len-right : (index size k : ℕ) → IsSplit size k → k ≤ index
    → path_len index size ≡ path_len (index - k) (size - k) + 1
path_len-right index size k s right =
    rw (s.power) (path_len-cut_right index size s.exponent (rw (← s.power) s.below) (rw (← s.power) s.largest)
    (rw (← s.power) right))

-- one hash a level, at most
path_len_at-within : (e index size : ℕ) → path_len_at e index size ≤ e
unfolding path_len_at
path_len_at-within zero index size = omega arith
path_len_at-within (suc e) index size =
    elim (cases_lt (2 ^ e) size) [
      | inl below ↦ elim (cases_lt index (2 ^ e)) [
        | inl left ↦ rw (lt-ltb (2 ^ e) size below, lt-ltb index (2 ^ e) left)
            (omega (arith, path_len_at-within e index (2 ^ e)))
        | inr right ↦ rw (lt-ltb (2 ^ e) size below, le-ltb index (2 ^ e) right)
            (omega (arith, path_len_at-within e (index - 2 ^ e) (size - 2 ^ e)))
      ]
      | inr within ↦ rw (le-ltb (2 ^ e) size within) (omega (arith, path_len_at-within e index size))
    ]

-- a size that is a `u64` needs 64 levels
pub path_len-within : (index size : ℕ) → size ≤ 2 ^ 64 → path_len index size ≤ 64
path_len-within index size fits = rw (path_len_is index size 64 fits) (path_len_at-within 64 index size)

-- the tree of RFC 6962 section 2.1.3
pub path_len-seven : (path_len 0 7 ≡ 3) × (path_len 3 7 ≡ 3) × (path_len 4 7 ≡ 3) × (path_len 6 7 ≡ 2)
unfolding path_len_at
path_len-seven =
    let three : 7 ≤ 2 ^ 3 = omega arith in
    (path_len_is 0 7 3 three, path_len_is 3 7 3 three, path_len_is 4 7 3 three, path_len_is 6 7 3 three)

-- a path leads to a root if and only if the number of its hashes fits

-- something is led to where the count is the wanted one, and nothing elsewhere
abbrev pub Fits : {A : Type 0} → Option A → ℕ → ℕ → Type 0
Fits led count wanted = MatchOption led (count ≢ wanted) (λ _. count ≡ wanted)

pub Fits-map : {A B : Type 0} (f : A → B) (led : Option A) (count wanted : ℕ) → Fits led count wanted
    → Fits (option_map f led) (suc count) (wanted + 1)
Fits-map f None count wanted apart = λ same. apart (omega arith)
Fits-map f (Some root) count wanted same = omega arith

Fits-right : (hashes : List (List ℕ)) (below : List (List ℕ) → Option (List ℕ)) (wanted : ℕ)
    → ((rest : List (List ℕ)) → Fits (below rest) (length rest) wanted)
    → Fits (with_right hashes below) (length hashes) (wanted + 1)
Fits-right [] below wanted fits = λ same. absurd (omega arith)
Fits-right (hash ∷ rest) below wanted fits =
    Fits-map (λ child. node_of child hash) (below rest) (length rest) wanted (fits rest)

Fits-left : (hashes : List (List ℕ)) (below : List (List ℕ) → Option (List ℕ)) (wanted : ℕ)
    → ((rest : List (List ℕ)) → Fits (below rest) (length rest) wanted)
    → Fits (with_left hashes below) (length hashes) (wanted + 1)
Fits-left [] below wanted fits = λ same. absurd (omega arith)
Fits-left (hash ∷ rest) below wanted fits =
    Fits-map (λ child. node_of hash child) (below rest) (length rest) wanted (fits rest)

Fits-leaf : (leaf : List ℕ) (hashes : List (List ℕ)) → Fits (at_leaf leaf hashes) (length hashes) 0
Fits-leaf leaf [] = refl
Fits-leaf leaf (hash ∷ rest) = λ same. absurd (omega arith)

path_root_at-fits : (e index : ℕ) (leaf : List ℕ) (size : ℕ) (hashes : List (List ℕ))
    → Fits (path_root_at e index leaf size hashes) (length hashes) (path_len_at e index size)
unfolding path_root_at path_len_at
path_root_at-fits zero index leaf size hashes = Fits-leaf leaf hashes
path_root_at-fits (suc e) index leaf size hashes =
    elim (cases_lt (2 ^ e) size) [
      | inl below ↦ elim (cases_lt index (2 ^ e)) [
        | inl left ↦ rw (lt-ltb (2 ^ e) size below, lt-ltb index (2 ^ e) left)
            (Fits-right hashes (λ rest. path_root_at e index leaf (2 ^ e) rest) (path_len_at e index (2 ^ e))
            (path_root_at-fits e index leaf (2 ^ e)))
        | inr right ↦ rw (lt-ltb (2 ^ e) size below, le-ltb index (2 ^ e) right)
            (Fits-left hashes (λ rest. path_root_at e (index - 2 ^ e) leaf (size - 2 ^ e) rest)
            (path_len_at e (index - 2 ^ e) (size - 2 ^ e)) (path_root_at-fits e (index - 2 ^ e) leaf (size - 2 ^ e)))
      ]
      | inr within ↦ rw (le-ltb (2 ^ e) size within) (path_root_at-fits e index leaf size hashes)
    ]

pub path_root-fits : (index size : ℕ) (leaf : List ℕ) (hashes : List (List ℕ))
    → MatchOption (path_root index leaf size hashes) (length hashes ≢ path_len index size)
    (λ _. length hashes ≡ path_len index size)
unfolding path_root path_len
path_root-fits index size leaf hashes =
    let fits = path_root_at-fits size index leaf size (reverse hashes) in
    rw (← length-reverse hashes) fits

pub IsSome-from_fits : {A : Type 0} (led : Option A) (count wanted : ℕ) → Fits led count wanted
    → IsSome led ↔ (count ≡ wanted)
IsSome-from_fits None count wanted apart = (λ some. absurd (false≢true some), λ same. absurd (apart same))
IsSome-from_fits (Some root) count wanted same = (λ some. same, λ _. refl)

IsNone-from_fits : (led : Option (List ℕ)) (count wanted : ℕ) → Fits led count wanted → IsNone led ↔ (count ≢ wanted)
IsNone-from_fits None count wanted apart = (λ none. apart, λ _. refl)
IsNone-from_fits (Some root) count wanted same = (λ none. absurd (false≢true (sym none)), λ apart. absurd (apart same))

pub path_root-some : (index size : ℕ) (leaf : List ℕ) (hashes : List (List ℕ))
    → IsSome (path_root index leaf size hashes) ↔ (length hashes ≡ path_len index size)
path_root-some index size leaf hashes =
    IsSome-from_fits (path_root index leaf size hashes) (length hashes) (path_len index size)
    (path_root-fits index size leaf hashes)

pub path_root-none : (index size : ℕ) (leaf : List ℕ) (hashes : List (List ℕ))
    → IsNone (path_root index leaf size hashes) ↔ (length hashes ≢ path_len index size)
path_root-none index size leaf hashes =
    IsNone-from_fits (path_root index leaf size hashes) (length hashes) (path_len index size)
    (path_root-fits index size leaf hashes)
