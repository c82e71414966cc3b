-- What a tree hashes, other than the empty list (RFC 6962 section 2.1).
use Rattle.std.specs.Prelude.{◌≡◌, ◌⊎◌, ℕ, List, [], ◌∷◌, ◌++◌, length}
use Rattle.sig_base.specs.Collision.{IsCollision}

-- the bytes that the hash of a leaf is over: 0x00 and the entry
abbrev pub IsLeafText : List ℕ → Type 0
IsLeafText text = (entry : List ℕ) × (text ≡ 0 ∷ entry)

-- the bytes that the hash of a node is over: 0x01 and the hashes of its children, of 32 bytes each
abbrev pub IsNodeText : List ℕ → Type 0
IsNodeText text =
    (left : List ℕ) × (right : List ℕ) × (length left ≡ 32) × (length right ≡ 32) × (text ≡ 1 ∷ left ++ right)

-- both are hashed for a leaf, or both for a node
abbrev pub AreHashedTexts : List ℕ → List ℕ → Type 0
AreHashedTexts one other = (IsLeafText one × IsLeafText other) ⊎ (IsNodeText one × IsNodeText other)

-- SHA-256 is broken: two different texts that a tree hashes have the same hash
pub record IsBroken : Type 0 where
  pub one : List ℕ
  pub other : List ℕ
  pub collide : IsCollision one other
  pub texts : AreHashedTexts one other

-- each is of 32 bytes, as the hashes of SHA-256 are
unfoldable pub AreHashes : List (List ℕ) → Type 0
AreHashes [] = Unit {0}
AreHashes (hash ∷ rest) = (length hash ≡ 32) × AreHashes rest
