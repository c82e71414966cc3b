-- A length in the definite form with the fewest octets: X.690 sections 8.1.3.3 to 8.1.3.5 and 10.1.
use Rattle.std.specs.Prelude.{◌≡◌, ◌⊎◌, ℕ, ◌+◌, ◌-◌, ◌*◌, ◌^◌, ◌<◌, ◌≤◌, List, [], ◌∷◌, length}
use Rattle.std.specs.List.{AllByRecursion}

-- the number that the octets encode, the most significant first
abbrev pub octets_number : List ℕ → ℕ
octets_number [] = 0
octets_number (octet ∷ octets) = octet * 256 ^ length octets + octets_number octets

-- The short form (section 8.1.3.4): one octet whose bit 8 is 0 and whose other bits are the number.
pub record IsShortForm (n : ℕ) (text : List ℕ) : Type 0 where
  pub bits : n < 128
  pub spelled : text ≡ n ∷ []

-- The long form (section 8.1.3.5): an octet whose bit 8 is 1 and whose other bits count the octets after it, which are
-- the number. The fewest octets (section 10.1): neither the short form nor one octet fewer holds the number.
pub record IsLongForm (n : ℕ) (text : List ℕ) : Type 0 where
  pub octets : List ℕ
  pub each : AllByRecursion (λ octet. octet < 256) octets
  pub number : octets_number octets ≡ n
  pub long : 128 ≤ n
  pub fewest : 256 ^ (length octets - 1) ≤ n
  pub spelled : text ≡ (128 + length octets) ∷ octets

abbrev pub IsLength : ℕ → List ℕ → Type 0
IsLength n text = IsShortForm n text ⊎ IsLongForm n text
