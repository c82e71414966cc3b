-- How an entry with its path and a list of entries meet: from the children to their node.
use Rattle.std.proofs.Common.{◌≡◌, ℕ, ◌-◌, ◌<◌, ◌≤◌, inl, inr, Some, List, [], ◌∷◌, ◌++◌, length, sym, ◌∙◌, ap, arith}
use Rattle.std.proofs.Common.{refl, get_or, slice_get, length-append}
use Rattle.std.proofs.lemmas.Bool.{cases_lt}
use Rattle.sig_merkle.specs.declared.meeting.Meeting.{Meeting}
use Rattle.sig_merkle.specs.declared.meeting.Meeting.TheVariants.{Hashed, Collided}
use Rattle.sig_merkle.specs.AuditPath.{AreHalves}
use Rattle.sig_merkle.specs.Meeting.{LeavesMeet, NodesMeet, EntryMeets}
use Rattle.sig_merkle.specs.Path.{path_root, path_len}
use Rattle.sig_merkle.specs.Split.{IsSplit}
use Rattle.sig_merkle.specs.Root.{leaf_of, root}
use Rattle.sig_merkle.proofs.AuditPathLaws.{slice_get-take, slice_get-drop}
use Rattle.sig_merkle.proofs.HalfSteps.{root-halves, root-single, halves-length}
use Rattle.sig_merkle.proofs.PathLaws.{path_root-some, path_len-left, path_len-right}
use Rattle.sig_merkle.proofs.PathSteps.{path_len-several, fold_leaf, fold_left, fold_right}

-- an accepted path has as many hashes as it should
pub count_of : (index size : ℕ) (leaf top : List ℕ) (hashes : List (List ℕ))
    → path_root index leaf size hashes ≡ Some top → length hashes ≡ path_len index size
count_of index size leaf top hashes led = (path_root-some index size leaf hashes).0 (rw led refl)

-- a tree whose paths have no hash has one leaf
pub one_leaf : (index size : ℕ) (hashes : List (List ℕ)) → length hashes ≡ path_len index size → length hashes ≡ 0
    → index < size → size ≡ 1
one_leaf index size hashes fits none within =
    elim (cases_lt 1 size) [
      | inl several ↦ absurd (omega (arith, path_len-several index size several))
      | inr single ↦ omega arith
    ]

-- the first of a list is the entry that is read there
read_first : (entries : List (List ℕ)) (entry : List ℕ) → 0 < length entries → entry ≡ get_or entries 0 entry
    → slice_get entries 0 ≡ Some entry
read_first [] entry some is = absurd (omega arith)
read_first (first ∷ rest) entry some is = ap (λ found. Some found) (sym is)

-- where a path has no hash, it is the leaf, and the list its entry
pub meets-leaf : (index : ℕ) (entry listed : List ℕ) (hashes entries : List (List ℕ)) (m : Meeting)
    → length hashes ≡ path_len index (length entries) → length hashes ≡ 0 → index < length entries
    → listed ≡ get_or entries index listed → LeavesMeet entry listed m → EntryMeets index entry hashes entries m
meets-leaf index entry listed hashes entries (Hashed a b) fits none within is met =
    let single = one_leaf index (length entries) hashes fits none within in
    let first : index ≡ 0 = omega arith in
    let read : slice_get entries 0 ≡ Some listed = read_first entries listed (omega arith) (rw first at is) in (
      fold_leaf index (length entries) (leaf_of entry) hashes fits none ∙ ap (λ found. Some found) met.0,
      root-single entries listed (omega arith) (omega arith) (rw first at is) ∙ met.1,
      λ equal. rw (first, met.2 equal) read,
    )
meets-leaf index entry listed hashes entries (Collided found) fits none within is met = met

-- from the left half to the whole
pub meets-left : (index : ℕ) (entry one other last : List ℕ) (hashes rest entries left right : List (List ℕ))
    (m : Meeting) → AreHalves entries left right → index < length left → hashes ≡ rest ++ last ∷ []
    → EntryMeets index entry rest left (Hashed one other) → NodesMeet one last other (root right) m
    → EntryMeets index entry hashes entries m
meets-left index entry one other last hashes rest entries left right (Hashed a b) h within ends below met =
    let cut = h.split.below in (
      fold_left index (length entries) (length left) (leaf_of entry) one last hashes rest h.split within ends below.0
          ∙ ap (λ found. Some found) met.0,
      root-halves entries left right h ∙ rw (below.1) met.1,
      λ equal. sym (slice_get-take (length left) index entries within (omega arith))
          ∙ rw (← h.front) (below.2 (met.2 equal).0),
    )
meets-left index entry one other last hashes rest entries left right (Collided found) h within ends below met = met

-- from the right half to the whole
pub meets-right : (index : ℕ) (entry one other last : List ℕ) (hashes rest entries left right : List (List ℕ))
    (m : Meeting) → AreHalves entries left right → length left ≤ index → index < length entries
    → hashes ≡ rest ++ last ∷ [] → EntryMeets (index - length left) entry rest right (Hashed one other)
    → NodesMeet last one (root left) other m → EntryMeets index entry hashes entries m
meets-right index entry one other last hashes rest entries left right (Hashed a b) h past within ends below met =
    let lengths = halves-length entries left right h in
    let count : length right ≡ length entries - length left = omega arith in (
      fold_right index (length entries) (length left) (leaf_of entry) one last hashes rest h.split past ends
          (rw count at below.0) ∙ ap (λ found. Some found) met.0,
      root-halves entries left right h ∙ rw (below.1) met.1,
      λ equal. sym (slice_get-drop (length left) index entries past within)
          ∙ rw (← h.back) (below.2 (met.2 equal).1),
    )
meets-right index entry one other last hashes rest entries left right (Collided found) h past within ends below met =
    met

-- the hashes but the last are as many as the path within the half has
pub rest-left : (index size k : ℕ) (last : List ℕ) (hashes rest : List (List ℕ)) → IsSplit size k → index < k
    → hashes ≡ rest ++ last ∷ [] → length hashes ≡ path_len index size → length rest ≡ path_len index k
rest-left index size k last hashes rest s left ends fits =
    omega (arith, ap length ends, length-append rest (last ∷ []), path_len-left index size k s left)

pub rest-right : (index size k : ℕ) (last : List ℕ) (hashes rest : List (List ℕ)) → IsSplit size k → k ≤ index
    → hashes ≡ rest ++ last ∷ [] → length hashes ≡ path_len index size
    → length rest ≡ path_len (index - k) (size - k)
rest-right index size k last hashes rest s right ends fits =
    omega (arith, ap length ends, length-append rest (last ∷ []), path_len-right index size k s right)

-- at the top: the roots are the same, so the entry is the list's
pub same_entry : (index : ℕ) (entry a b top : List ℕ) (hashes entries : List (List ℕ))
    → path_root index (leaf_of entry) (length entries) hashes ≡ Some top → top ≡ root entries
    → EntryMeets index entry hashes entries (Hashed a b) → slice_get entries index ≡ Some entry
same_entry index entry a b top hashes entries led is met =
    let both : Some a ≡ Some top = sym met.0 ∙ led in
    let equal : a ≡ top = cc in
    met.2 (equal ∙ is ∙ met.1)

pub ruleset finds_entry = (count_of, same_entry)
