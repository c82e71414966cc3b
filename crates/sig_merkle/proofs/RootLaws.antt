-- The law `tree_roots`: `root` is the recursion of RFC 6962 section 2.1.
use Rattle.std.proofs.Common.{◌≡◌, ℕ, suc, ◌*◌, ◌^◌, ◌<◌, ◌≤◌, List, [], ◌∷◌, length, take, drop, refl, sym, ◌∙◌}
use Rattle.std.proofs.Common.{arith, length-take, length-drop}
use Rattle.std.proofs.Math.Nat.{pow-suc}
use Rattle.std.proofs.lemmas.Bool.{le-ltb, lt-ltb}
use Rattle.sig_base.specs.Sha256.{sha256}
use Rattle.sig_merkle.specs.Split.{IsSplit}
use Rattle.sig_merkle.specs.Root.{leaf_of, node_of, root_at, root}
use Rattle.sig_merkle.proofs.Levels.{same_level, within_pow}

root_at-step : (entries : List (List ℕ)) (e : ℕ) → length entries ≤ 2 ^ e → root_at (suc e) entries ≡ root_at e entries
unfolding root_at
root_at-step entries e fits = rw (le-ltb (2 ^ e) (length entries) fits) refl

root_at-cut : (entries : List (List ℕ)) (e : ℕ) → 2 ^ e < length entries
    → root_at (suc e) entries ≡ node_of (root_at e (take (2 ^ e) entries)) (root_at e (drop (2 ^ e) entries))
unfolding root_at
root_at-cut entries e more = rw (lt-ltb (2 ^ e) (length entries) more) refl

-- the root, at any level that is high enough
pub root_is : (entries : List (List ℕ)) (e : ℕ) → length entries ≤ 2 ^ e → root entries ≡ root_at e entries
unfolding root
root_is entries e fits =
    same_level (λ level. root_at level entries) (length entries) (root_at-step entries) (length entries) e
    (within_pow (length entries)) fits

pub root-none : root [] ≡ sha256 []
unfolding root_at
root-none = root_is [] 0 (omega arith)

pub root-one : (entry : List ℕ) → root (entry ∷ []) ≡ leaf_of entry
unfolding root_at
root-one entry = root_is (entry ∷ []) 0 (omega arith)

root-cut : (entries : List (List ℕ)) (e : ℕ) → 2 ^ e < length entries → length entries ≤ 2 * 2 ^ e
    → root entries ≡ node_of (root (take (2 ^ e) entries)) (root (drop (2 ^ e) entries))
root-cut entries e below largest =
    let left = length-take (2 ^ e) entries in
    let right = length-drop (2 ^ e) entries in
    root_is entries (suc e) (omega (arith, pow-suc 2 e)) ∙ root_at-cut entries e below
    ∙ sym (rw (root_is (take (2 ^ e) entries) e (omega arith), root_is (drop (2 ^ e) entries) e (omega arith))
    refl)

pub root-more : (k : ℕ) (entries : List (List ℕ)) → IsSplit (length entries) k
    → root entries ≡ node_of (root (take k entries)) (root (drop k entries))
root-more k entries s =
    rw (s.power) (root-cut entries s.exponent (rw (← s.power) s.below) (rw (← s.power) s.largest))
