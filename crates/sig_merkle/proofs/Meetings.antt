-- How two texts meet that are hashed beside each other: those of leaves, and those of nodes.
use Rattle.std.proofs.Common.{◌≡◌, ℕ, inl, inr, List, [], ◌∷◌, ◌++◌, length, sym, ◌∙◌, ap}
use Rattle.std.proofs.Math.Seq.{take-append_seam, drop-append_seam}
use Rattle.std.proofs.lemmas.List.{append-nil}
use Rattle.sig_merkle.specs.declared.meeting.Meeting.{Meeting}
use Rattle.sig_merkle.specs.declared.meeting.Meeting.TheVariants.{Hashed, Collided}
use Rattle.sig_merkle.specs.HashedText.{AreHashedTexts}
use Rattle.sig_merkle.specs.Meeting.{TextsMeet, LeavesMeet, NodesMeet}

leaf_text : (entry text : List ℕ) → text ≡ 0 ∷ entry ++ [] → text ≡ 0 ∷ entry
leaf_text entry text is = is ∙ ap (λ tail. 0 ∷ tail) (append-nil entry)

-- the texts of leaves

pub are_leaves : (one other text other_text : List ℕ) → text ≡ 0 ∷ one ++ [] → other_text ≡ 0 ∷ other ++ []
    → AreHashedTexts text other_text
are_leaves one other text other_text is other_is =
    inl ((one, leaf_text one text is), (other, leaf_text other other_text other_is))

pub leaves_meet : (one other text other_text : List ℕ) (m : Meeting) → text ≡ 0 ∷ one ++ []
    → other_text ≡ 0 ∷ other ++ [] → TextsMeet text other_text m → LeavesMeet one other m
leaves_meet one other text other_text (Hashed a b) is other_is met =
    let same = leaf_text one text is in
    let other_same = leaf_text other other_text other_is in (
      rw same at met.0,
      rw other_same at met.1,
      λ equal. (let texts : 0 ∷ one ≡ 0 ∷ other = sym same ∙ met.2 equal ∙ other_same in cc),
    )
leaves_meet one other text other_text (Collided found) is other_is met = met

-- the texts of nodes

pub are_nodes : (left right other_left other_right text other_text : List ℕ) → length left ≡ 32 → length right ≡ 32
    → length other_left ≡ 32 → length other_right ≡ 32 → text ≡ 1 ∷ left ++ right
    → other_text ≡ 1 ∷ other_left ++ other_right → AreHashedTexts text other_text
are_nodes left right other_left other_right text other_text l r ol or is other_is =
    inr ((left, right, l, r, is), (other_left, other_right, ol, or, other_is))

same_children : (left right other_left other_right : List ℕ) → length left ≡ length other_left
    → 1 ∷ left ++ right ≡ 1 ∷ other_left ++ other_right → (left ≡ other_left) × (right ≡ other_right)
same_children left right other_left other_right fits same =
    let joined : left ++ right ≡ other_left ++ other_right = cc in (
      sym (take-append_seam left right) ∙ rw (fits, joined) (take-append_seam other_left other_right),
      sym (drop-append_seam left right) ∙ rw (fits, joined) (drop-append_seam other_left other_right),
    )

pub nodes_meet : (left right other_left other_right text other_text : List ℕ) (m : Meeting)
    → length left ≡ length other_left → text ≡ 1 ∷ left ++ right → other_text ≡ 1 ∷ other_left ++ other_right
    → TextsMeet text other_text m → NodesMeet left right other_left other_right m
nodes_meet left right other_left other_right text other_text (Hashed a b) fits is other_is met = (
  rw is at met.0,
  rw other_is at met.1,
  λ equal. same_children left right other_left other_right fits (sym is ∙ met.2 equal ∙ other_is),
)
nodes_meet left right other_left other_right text other_text (Collided found) fits is other_is met = met
