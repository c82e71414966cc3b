-- The contents octets of an object identifier by its dotted numbers: X.690 section 8.19.
use Rattle.std.specs.Prelude.{ℕ, zero, suc, ◌+◌, ◌*◌, ◌/◌, ◌%◌, List, [], ◌∷◌, ◌++◌, nat_lt, if◌then◌else◌}

-- Groups of seven bits, the most significant first, as few as hold the number: its digits to the base 128. The first
-- number bounds the groups, and the number itself is a sufficient bound.
abbrev pub groups_within : ℕ → ℕ → List ℕ
groups_within zero n = n ∷ []
groups_within (suc most) n = if nat_lt n 128 then n ∷ [] else groups_within most (n / 128) ++ (n % 128) ∷ []

-- bit 8 of each octet except the last is 1 (section 8.19.2)
abbrev pub continued : List ℕ → List ℕ
continued [] = []
continued (group ∷ []) = group ∷ []
continued (group ∷ next ∷ groups) = (128 + group) ∷ continued (next ∷ groups)

-- the octets of one subidentifier, in the fewest (section 8.19.2)
abbrev pub subidentifier : ℕ → List ℕ
subidentifier n = continued (groups_within n n)

abbrev pub subidentifiers : List ℕ → List ℕ
subidentifiers [] = []
subidentifiers (arc ∷ arcs) = subidentifier arc ++ subidentifiers arcs

-- The first two arcs are one subidentifier, 40 times the first plus the second (section 8.19.4). There are at least two
-- arcs.
abbrev pub object_identifier : List ℕ → List ℕ
object_identifier [] = []
object_identifier (first ∷ []) = []
object_identifier (first ∷ second ∷ arcs) = subidentifiers ((40 * first + second) ∷ arcs)
