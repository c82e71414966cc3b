-- Why bytes do not begin with an element, in the words of X.690: each cause apart from how it is found. A text has at
-- most one of the three, and none if it begins with an element.
use Rattle.std.specs.Prelude.{◌≡◌, ◌≢◌, ℕ, ◌%◌, ◌<◌, ◌≤◌, List, ◌∷◌, ◌++◌, length}
use Rattle.sig_der.specs.Element.{IsElement}

-- The low five bits of the first octet are all ones, which begins a tag of several octets (section 8.1.2.4).
pub record HasLongTag (text : List ℕ) : Type 0 where
  pub tag : ℕ
  pub rest : List ℕ
  pub parts : text ≡ tag ∷ rest
  pub long : tag % 32 ≡ 31

-- The octets do not begin with a length in the definite form, of at most four octets after the first and no more than
-- needed (sections 8.1.3 and 10.1), whatever follows them.
pub data IsBadLength : List ℕ → Type 0 where
  -- the indefinite form, section 8.1.3.6
  indefinite : {text : List ℕ} (rest : List ℕ) → text ≡ 128 ∷ rest → IsBadLength text
  -- the first octet announces five octets and more, section 8.1.3.5
  five_octets : {text : List ℕ} (first : ℕ) (rest : List ℕ) → text ≡ first ∷ rest → 133 ≤ first → IsBadLength text
  -- one octet follows the first, and the short form has room for its number, section 8.1.3.4
  fits_short_form : {text : List ℕ} (number : ℕ) (rest : List ℕ) → text ≡ 129 ∷ number ∷ rest → number < 128
      → IsBadLength text
  -- several octets follow the first, and the most significant of them is 0, so that fewer have room
  leading_zero : {text : List ℕ} (first : ℕ) (rest : List ℕ) → text ≡ first ∷ 0 ∷ rest → 130 ≤ first → first ≤ 132
      → IsBadLength text

-- The tag has one octet, and no length follows it.
pub record HasBadLength (text : List ℕ) : Type 0 where
  pub tag : ℕ
  pub rest : List ℕ
  pub parts : text ≡ tag ∷ rest
  pub short : tag % 32 ≢ 31
  pub bad : IsBadLength rest

-- The text is an element without its last octets, at least one of them.
pub record IsCutElement (text : List ℕ) : Type 0 where
  pub whole : List ℕ
  pub tag : ℕ
  pub content : List ℕ
  pub missing : List ℕ
  pub is : IsElement whole tag content
  pub parts : whole ≡ text ++ missing
  pub some : 0 < length missing
