-- Reading an element from the front of a text, by computation: the plain program that the readers are equal to.
-- That it reads exactly the texts of *Element* is `element_at_takes` and `element_at_again` of proofs/Elements.
use Rattle.std.specs.Prelude.{◌≡◌, ℕ, ◌+◌, ◌-◌, ◌*◌, ◌%◌, List, [], ◌∷◌, length, take, drop, Bool, true, false, Result}
use Rattle.std.specs.Prelude.{Ok, Err, nat_lt, ◌==◌, if◌then◌else◌, ◌&&◌}
use Rattle.std.specs.Result.{result_map_both}
use Rattle.sig_base.specs.ResultSteps.{◌>>=◌}
use Rattle.sig_base.specs.declared.fault.DerError.{DerError}
use Rattle.sig_base.specs.declared.fault.DerError.TheVariants.{Truncated, LongTag, Length, Trailing, WrongTag}

-- An element that was read: its tag, its whole text, its content.
pub record Piece : Type 0 where
  pub tag : ℕ
  pub whole : List ℕ
  pub content : List ℕ

-- The result of a call, seen by the view, is what reading gives. No memory is taken, so there is no other result.
abbrev pub Gives : {X Y : Type 0} → (X → Y) → Result X DerError → Result Y DerError → Type 0
Gives view result read = read ≡ result_map_both view (λ e. e) result

-- A length in one to four octets after the first, and what follows it. A length that fewer octets hold is rejected at
-- the octet that shows it.
unfoldable pub one_byte : List ℕ → Result (ℕ × List ℕ) DerError
one_byte [] = Err Truncated
one_byte (a ∷ rest) = if nat_lt a 128 then Err Length else Ok (a, rest)

unfoldable pub two_bytes : List ℕ → Result (ℕ × List ℕ) DerError
two_bytes [] = Err Truncated
two_bytes (a ∷ []) = if a == 0 then Err Length else Err Truncated
two_bytes (a ∷ b ∷ rest) = if a == 0 then Err Length else Ok (a * 256 + b, rest)

unfoldable pub three_bytes : List ℕ → Result (ℕ × List ℕ) DerError
three_bytes [] = Err Truncated
three_bytes (a ∷ []) = if a == 0 then Err Length else Err Truncated
three_bytes (a ∷ b ∷ []) = if a == 0 then Err Length else Err Truncated
three_bytes (a ∷ b ∷ c ∷ rest) = if a == 0 then Err Length else Ok (a * 65536 + b * 256 + c, rest)

unfoldable pub four_bytes : List ℕ → Result (ℕ × List ℕ) DerError
four_bytes [] = Err Truncated
four_bytes (a ∷ []) = if a == 0 then Err Length else Err Truncated
four_bytes (a ∷ b ∷ []) = if a == 0 then Err Length else Err Truncated
four_bytes (a ∷ b ∷ c ∷ []) = if a == 0 then Err Length else Err Truncated
four_bytes (a ∷ b ∷ c ∷ d ∷ rest) = if a == 0 then Err Length else Ok (a * 16777216 + b * 65536 + c * 256 + d, rest)

-- The length of the content, and what follows it.
unfoldable pub length_at : List ℕ → Result (ℕ × List ℕ) DerError
length_at [] = Err Truncated
length_at (first ∷ rest) =
    if nat_lt first 128 then Ok (first, rest)
    else if first == 129 then one_byte rest
    else if first == 130 then two_bytes rest
    else if first == 131 then three_bytes rest
    else if first == 132 then four_bytes rest
    else Err Length

-- The front element, and what follows it.
unfoldable pub element_at : List ℕ → Result (Piece × List ℕ) DerError
element_at [] = Err Truncated
element_at (tag ∷ rest) =
    if tag % 32 == 31 then Err LongTag
    else length_at rest >>= λ n.
    if nat_lt (length n.1) n.0 then Err Truncated
    else Ok (
      record {
        tag = tag;
        whole = take (length (tag ∷ rest) - length (drop n.0 n.1)) (tag ∷ rest);
        content = take n.0 n.1;
      },
      drop n.0 n.1,
    )

-- The text is one element of this tag.
unfoldable pub all_at : ℕ → List ℕ → Result Piece DerError
all_at tag bytes = element_at bytes >>= λ x.
    if length x.1 == 0 then (if x.0.tag == tag then Ok x.0 else Err WrongTag) else Err Trailing

-- Why a text does not begin with an element: the first that shows of a long tag, a length that is indefinite, too long
-- or not in the fewest octets, and missing bytes.
abbrev pub is_zero_first : List ℕ → Bool
is_zero_first [] = false
is_zero_first (a ∷ rest) = a == 0

abbrev pub is_small_first : List ℕ → Bool
is_small_first [] = false
is_small_first (a ∷ rest) = nat_lt a 128

abbrev pub has_bad_length : List ℕ → Bool
has_bad_length [] = false
has_bad_length (first ∷ rest) =
    if nat_lt first 128 then false
    else if first == 129 then is_small_first rest
    else if nat_lt 129 first && nat_lt first 133 then is_zero_first rest
    else true

abbrev pub fault_of : List ℕ → DerError
fault_of [] = Truncated
fault_of (tag ∷ rest) = if tag % 32 == 31 then LongTag else if has_bad_length rest then Length else Truncated
