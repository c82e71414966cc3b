-- The second lines that several commands have (RFC 6962 section 2.1).
use Rattle.std.specs.Prelude.{◌≡◌, ℕ, List, ◌++◌, codes}
use Rattle.hex.specs.Hex.{encode_lower}
use Rattle.sig_base.specs.Collision.{IsCollision}
use Rattle.sig_merkle.specs.HashedText.{AreHashedTexts}

abbrev pub other_line : List ℕ
other_line = codes "other list\n"

-- both byte strings in lower-case hexadecimal
abbrev pub collision_line : List ℕ → List ℕ → List ℕ
collision_line left right =
    codes "collision " ++ (encode_lower left ++ (codes " " ++ (encode_lower right ++ codes "\n")))

-- the line shows two different byte strings of equal SHA-256, which a tree hashes: both for a leaf, or both for a node
pub record ShowsCollision (line : List ℕ) : Type 0 where
  pub left : List ℕ
  pub right : List ℕ
  pub collides : IsCollision left right
  pub hashed : AreHashedTexts left right
  pub shown : line ≡ collision_line left right
