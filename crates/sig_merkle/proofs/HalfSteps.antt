-- The laws of roots and audit paths as a function that cuts its entries in two takes them.
use Rattle.std.proofs.Common.{◌≡◌, ℕ, ◌+◌, ◌-◌, ◌*◌, ◌<◌, ◌≤◌, List, [], ◌∷◌, ◌++◌, length, drop, refl, sym, ◌∙◌, ap}
use Rattle.std.proofs.Common.{arith, get_or, length-drop, append_assoc}
use Rattle.sig_base.specs.Sha256.{sha256}
use Rattle.sig_merkle.specs.Root.{leaf_of, node_of, root}
use Rattle.sig_merkle.specs.AuditPath.{AreHalves, audit_path}
use Rattle.sig_merkle.proofs.RootLaws.{root-none, root-one, root-more}
use Rattle.sig_merkle.proofs.AuditPathLaws.{audit_path-one, audit_path-left, audit_path-right}

pub root-empty : (entries : List (List ℕ)) → length entries < 1 → root entries ≡ sha256 []
root-empty [] empty = root-none
root-empty (entry ∷ rest) empty = absurd (omega arith)

pub root-single : (entries : List (List ℕ)) (entry : List ℕ) → 1 ≤ length entries → length entries < 2
    → entry ≡ get_or entries 0 entry → root entries ≡ leaf_of entry
root-single [] entry some single first = absurd (omega arith)
root-single (one ∷ []) entry some single first = rw first (root-one one)
root-single (one ∷ other ∷ rest) entry some single first = absurd (omega arith)

-- the root is the node over the halves' roots
pub root-halves : (entries left right : List (List ℕ)) → AreHalves entries left right
    → root entries ≡ node_of (root left) (root right)
root-halves entries left right h = rw (← h.front, ← h.back) at (root-more (length left) entries h.split)

pub root-over : (entries left right : List (List ℕ)) (one other node : List ℕ) → AreHalves entries left right
    → one ≡ root left → other ≡ root right → node ≡ node_of one other → node ≡ root entries
root-over entries left right one other node h is other_is hashed =
    hashed ∙ rw (is, other_is) (sym (root-halves entries left right h))

-- how many entries the halves have
pub record HalfLengths (entries left right : List (List ℕ)) : Type 0 where
  pub some : 0 < length left
  pub below : length left < length entries
  pub whole : length left + length right ≡ length entries

pub halves-length : (entries left right : List (List ℕ)) → AreHalves entries left right
    → HalfLengths entries left right
halves-length entries left right h =
    let rest : length right ≡ length entries - length left =
    ap (λ half. length half) h.back ∙ length-drop (length left) entries in
    let below = h.split.below in
    let largest = h.split.largest in
    record { some = omega arith; below = below; whole = omega arith }

-- a list of one entry has no path
pub path-single : (index : ℕ) (entries : List (List ℕ)) → index < length entries → length entries ≡ 1
    → audit_path index entries ≡ []
path-single index entries within single =
    let first : index ≡ 0 = omega arith in
    rw first (audit_path-one entries (omega arith))

-- the path within the half that has the entry, and then the other half's root
pub path-in_left : (index : ℕ) (entries left right : List (List ℕ)) → AreHalves entries left right
    → index < length left → audit_path index entries ≡ audit_path index left ++ root right ∷ []
path-in_left index entries left right h within =
    rw (← h.front, ← h.back) at (audit_path-left index (length left) entries h.split within)

pub path-in_right : (index : ℕ) (entries left right : List (List ℕ)) → AreHalves entries left right
    → length left ≤ index → audit_path index entries ≡ audit_path (index - length left) right ++ root left ∷ []
path-in_right index entries left right h past =
    rw (← h.front, ← h.back) at (audit_path-right index (length left) entries h.split past)

-- what pushing the hashes of a path cites
pub ruleset pushes_path = (path-single, path-in_left, path-in_right, append_assoc)
