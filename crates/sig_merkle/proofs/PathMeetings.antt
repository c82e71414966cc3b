-- How two entries with their paths meet: from the children to their node.
use Rattle.std.proofs.Common.{◌≡◌, ℕ, ◌-◌, ◌<◌, ◌≤◌, Some, List, [], ◌∷◌, ◌++◌, length, sym, ◌∙◌, ap, arith}
use Rattle.sig_merkle.specs.declared.meeting.Meeting.{Meeting}
use Rattle.sig_merkle.specs.declared.meeting.Meeting.TheVariants.{Hashed, Collided}
use Rattle.sig_merkle.specs.Inclusion.{AreIncluded}
use Rattle.sig_merkle.specs.Meeting.{LeavesMeet, NodesMeet, PathsMeet}
use Rattle.sig_merkle.specs.Path.{path_len}
use Rattle.sig_merkle.specs.Split.{IsSplit}
use Rattle.sig_merkle.specs.Root.{leaf_of}
use Rattle.sig_merkle.proofs.EntryMeetings.{count_of}
use Rattle.sig_merkle.proofs.PathSteps.{fold_leaf, fold_left, fold_right}

-- paths without a hash lead to the leaves
pub paths-leaf : (index size : ℕ) (left right : List ℕ) (left_hashes right_hashes : List (List ℕ)) (m : Meeting)
    → length left_hashes ≡ path_len index size → length right_hashes ≡ path_len index size
    → length left_hashes ≡ 0 → LeavesMeet left right m → PathsMeet index size left left_hashes right right_hashes m
paths-leaf index size left right left_hashes right_hashes (Hashed a b) fits right_fits none met = (
  fold_leaf index size (leaf_of left) left_hashes fits none ∙ ap (λ found. Some found) met.0,
  fold_leaf index size (leaf_of right) right_hashes right_fits (omega arith) ∙ ap (λ found. Some found) met.1,
  met.2,
)
paths-leaf index size left right left_hashes right_hashes (Collided found) fits right_fits none met = met

-- from the left half to the whole
pub paths-left : (index size k : ℕ) (left right one other left_last right_last : List ℕ)
    (left_hashes left_rest right_hashes right_rest : List (List ℕ)) (m : Meeting) → IsSplit size k → index < k
    → left_hashes ≡ left_rest ++ left_last ∷ [] → right_hashes ≡ right_rest ++ right_last ∷ []
    → PathsMeet index k left left_rest right right_rest (Hashed one other)
    → NodesMeet one left_last other right_last m → PathsMeet index size left left_hashes right right_hashes m
paths-left index size k left right one other left_last right_last left_hashes left_rest right_hashes right_rest
    (Hashed a b) s within left_ends right_ends below met = (
      fold_left index size k (leaf_of left) one left_last left_hashes left_rest s within left_ends below.0
          ∙ ap (λ found. Some found) met.0,
      fold_left index size k (leaf_of right) other right_last right_hashes right_rest s within right_ends below.1
          ∙ ap (λ found. Some found) met.1,
      λ equal. below.2 (met.2 equal).0,
    )
paths-left index size k left right one other left_last right_last left_hashes left_rest right_hashes right_rest
    (Collided found) s within left_ends right_ends below met = met

-- from the right half to the whole
pub paths-right : (index size k : ℕ) (left right one other left_last right_last : List ℕ)
    (left_hashes left_rest right_hashes right_rest : List (List ℕ)) (m : Meeting) → IsSplit size k → k ≤ index
    → left_hashes ≡ left_rest ++ left_last ∷ [] → right_hashes ≡ right_rest ++ right_last ∷ []
    → PathsMeet (index - k) (size - k) left left_rest right right_rest (Hashed one other)
    → NodesMeet left_last one right_last other m → PathsMeet index size left left_hashes right right_hashes m
paths-right index size k left right one other left_last right_last left_hashes left_rest right_hashes right_rest
    (Hashed a b) s past left_ends right_ends below met = (
      fold_right index size k (leaf_of left) one left_last left_hashes left_rest s past left_ends below.0
          ∙ ap (λ found. Some found) met.0,
      fold_right index size k (leaf_of right) other right_last right_hashes right_rest s past right_ends below.1
          ∙ ap (λ found. Some found) met.1,
      λ equal. below.2 (met.2 equal).1,
    )
paths-right index size k left right one other left_last right_last left_hashes left_rest right_hashes right_rest
    (Collided found) s past left_ends right_ends below met = met

-- at the top: the roots are the same, so the entries are
pub same_entries : (index size : ℕ) (left right a b : List ℕ) (left_hashes right_hashes : List (List ℕ))
    → AreIncluded index size left left_hashes right right_hashes
    → PathsMeet index size left left_hashes right right_hashes (Hashed a b) → left ≡ right
same_entries index size left right a b left_hashes right_hashes (top, (_, led), (_, right_led)) met =
    let one : Some a ≡ Some top = sym met.0 ∙ led in
    let other : Some b ≡ Some top = sym met.1 ∙ right_led in
    met.2 cc

-- accepted paths have as many hashes as they should
pub paths-within : (index size : ℕ) (left right : List ℕ) (left_hashes right_hashes : List (List ℕ))
    → AreIncluded index size left left_hashes right right_hashes → index < size
paths-within index size left right left_hashes right_hashes (top, (within, _), _) = within

pub left_count : (index size : ℕ) (left right : List ℕ) (left_hashes right_hashes : List (List ℕ))
    → AreIncluded index size left left_hashes right right_hashes → length left_hashes ≡ path_len index size
left_count index size left right left_hashes right_hashes (top, (_, led), _) =
    count_of index size (leaf_of left) top left_hashes led

pub right_count : (index size : ℕ) (left right : List ℕ) (left_hashes right_hashes : List (List ℕ))
    → AreIncluded index size left left_hashes right right_hashes → length right_hashes ≡ path_len index size
right_count index size left right left_hashes right_hashes (top, _, (_, led)) =
    count_of index size (leaf_of right) top right_hashes led

pub ruleset finds_path = (paths-within, left_count, right_count, same_entries)
