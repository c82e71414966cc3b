-- What two texts show that are hashed beside each other, up to two roots: the roots are equal only if the texts are,
-- or two texts that were hashed on the way are a collision.
use Rattle.std.specs.Prelude.{◌≡◌, ℕ, Bool, List, length, take, slice_get, Some}
use Rattle.sig_base.specs.Collision.{IsCollision}
use Rattle.sig_base.specs.Sha256.{sha256}
use Rattle.sig_merkle.specs.declared.meeting.Meeting.{Meeting}
use Rattle.sig_merkle.specs.declared.meeting.Meeting.TheVariants.{Hashed, Collided}
use Rattle.sig_merkle.specs.Consistency.{roots_of}
use Rattle.sig_merkle.specs.HashedText.{AreHashedTexts}
use Rattle.sig_merkle.specs.Path.{path_root}
use Rattle.sig_merkle.specs.Root.{leaf_of, node_of, root}

-- a collision of two texts that a tree hashes
abbrev pub IsFound : List ℕ → List ℕ → Type 0
IsFound one other = IsCollision one other × AreHashedTexts one other

-- the meeting of two texts
abbrev pub TextsMeet : List ℕ → List ℕ → Meeting → Type 0
TextsMeet one other (Hashed a b) = (sha256 one ≡ a) × (sha256 other ≡ b) × (a ≡ b → one ≡ other)
TextsMeet one other (Collided found) = IsFound found.left found.right

-- the meeting of two leaves
abbrev pub LeavesMeet : List ℕ → List ℕ → Meeting → Type 0
LeavesMeet one other (Hashed a b) = (leaf_of one ≡ a) × (leaf_of other ≡ b) × (a ≡ b → one ≡ other)
LeavesMeet one other (Collided found) = IsFound found.left found.right

-- the meeting of two nodes, by the hashes of their children
abbrev pub NodesMeet : List ℕ → List ℕ → List ℕ → List ℕ → Meeting → Type 0
NodesMeet left right other_left other_right (Hashed a b) =
    (node_of left right ≡ a) × (node_of other_left other_right ≡ b)
    × (a ≡ b → (left ≡ other_left) × (right ≡ other_right))
NodesMeet left right other_left other_right (Collided found) = IsFound found.left found.right

-- the meeting of an entry with its path, and a list of entries: the entry is that at the index
abbrev pub EntryMeets : ℕ → List ℕ → List (List ℕ) → List (List ℕ) → Meeting → Type 0
EntryMeets index entry hashes entries (Hashed a b) =
    (path_root index (leaf_of entry) (length entries) hashes ≡ Some a) × (root entries ≡ b)
    × (a ≡ b → slice_get entries index ≡ Some entry)
EntryMeets index entry hashes entries (Collided found) = IsFound found.left found.right

-- the meeting of two entries with their paths
abbrev pub PathsMeet : ℕ → ℕ → List ℕ → List (List ℕ) → List ℕ → List (List ℕ) → Meeting → Type 0
PathsMeet index size entry hashes other other_hashes (Hashed a b) =
    (path_root index (leaf_of entry) size hashes ≡ Some a) × (path_root index (leaf_of other) size other_hashes ≡ Some b)
    × (a ≡ b → entry ≡ other)
PathsMeet index size entry hashes other other_hashes (Collided found) = IsFound found.left found.right

-- the meeting of a consistency proof and a list of entries, by the new root: the old root is that of the first entries
abbrev pub GrowthMeets : ℕ → Bool → List ℕ → List (List ℕ) → List (List ℕ) → Meeting → Type 0
GrowthMeets old_size known old hashes entries (Hashed a b) =
    (led_old : List ℕ) × (roots_of old_size (length entries) known old hashes ≡ Some (led_old, a))
    × (root entries ≡ b) × (a ≡ b → led_old ≡ root (take old_size entries))
GrowthMeets old_size known old hashes entries (Collided found) = IsFound found.left found.right
