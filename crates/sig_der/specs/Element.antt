-- *Element*: X.690 sections 8.1.2 (the identifier octet), 8.1.3 with 10.1 (the length in the definite form, with the
-- fewest octets) and 8.1.4 (the contents octets). The relation builds the text; the reader cuts it.
use Rattle.std.specs.Prelude.{◌≡◌, ◌≢◌, ℕ, ◌/◌, ◌%◌, ◌^◌, ◌<◌, List, [], ◌∷◌, ◌++◌, length, nat_lt, if◌then◌else◌}

-- One identifier octet: its low five bits are not all ones, which would begin a tag of several octets.
pub record IsTag (tag : ℕ) : Type 0 where
  pub byte : tag < 256
  pub short : tag % 32 ≢ 31

-- A length below 128 is one octet. Else the first octet is 128 and the least number of octets that hold it, which
-- follow with the most significant first.
abbrev pub spelled_length : ℕ → List ℕ
spelled_length n =
    if nat_lt n 128 then n ∷ []
    else if nat_lt n 256 then 129 ∷ n ∷ []
    else if nat_lt n 65536 then 130 ∷ (n / 256) ∷ (n % 256) ∷ []
    else if nat_lt n 16777216 then 131 ∷ (n / 65536) ∷ (n / 256 % 256) ∷ (n % 256) ∷ []
    else 132 ∷ (n / 16777216) ∷ (n / 65536 % 256) ∷ (n / 256 % 256) ∷ (n % 256) ∷ []

-- The tag, the length of the content, the content.
abbrev pub element : ℕ → List ℕ → List ℕ
element tag content = tag ∷ spelled_length (length content) ++ content

-- *Element*: the text is the element of this tag and this content, whose length has at most four octets.
pub record IsElement (text : List ℕ) (tag : ℕ) (content : List ℕ) : Type 0 where
  pub tagged : IsTag tag
  pub short : length content < 2 ^ 32
  pub spelled : text ≡ element tag content

-- The text is an element and what follows it.
pub record StandsFirst (whole : List ℕ) (tag : ℕ) (content rest text : List ℕ) : Type 0 where
  pub is : IsElement whole tag content
  pub parts : text ≡ whole ++ rest

-- Bytes follow the element at the front.
pub record IsFollowed (text : List ℕ) : Type 0 where
  pub whole : List ℕ
  pub tag : ℕ
  pub content : List ℕ
  pub rest : List ℕ
  pub first : StandsFirst whole tag content rest text
  pub more : 0 < length rest

-- The text is an element of another tag.
pub record IsOfAnother (tag : ℕ) (text : List ℕ) : Type 0 where
  pub other : ℕ
  pub content : List ℕ
  pub is : IsElement text other content
  pub differs : other ≢ tag
