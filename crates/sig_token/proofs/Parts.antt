-- The parts between points: a text is put together of them, and none of them has a point.
use Rattle.std.proofs.Common.{◌≡◌, ◌≢◌, ℕ, zero, suc, ◌<◌, Bool, Bor, true, false, List, [], ◌∷◌, ◌++◌, length}
use Rattle.std.proofs.Common.{get_or, Option, Some, None, MatchOption, refl, sym, ap, subst, ◌∙◌, arith, lit<}
use Rattle.std.proofs.lemmas.Bool.{ne_eqb}
use Rattle.std.proofs.lemmas.List.Splits.{join_with_byte-slice_split, length-slice_split, slice_split-cons_no, slice_split-cons_yes}
use Rattle.std.proofs.lemmas.List.Splits.{slice_split_at, slice_split_none}
use Rattle.std.proofs.lemmas.Str.Pattern.{IsSplitOnceResult, split_parts}
use Rattle.std.specs.List.{AllByRecursion, join_with_byte, onto_first, slice_split}
use Rattle.sig_token.specs.Compact.{HasPayload, LacksPoints, is_point, payload_of, second_of_three}

-- ---- one cut

lacks : (part : List ℕ) → ((i : ℕ) → i < length part → get_or part i 0 ≢ 46) → LacksPoints part
lacks [] never k d inside = absurd (omega (arith, inside))
lacks (b ∷ part) never zero d inside = ne_eqb b 46 (never 0 arith_here) where
  arith_here : 0 < length (b ∷ part)
  arith_here = omega arith
lacks (b ∷ part) never (suc k) d inside =
    lacks part (λ i within. never (suc i) (omega arith)) k d (omega arith)

pub cut_parts : (text : List ℕ) (r : Option (Bor (List ℕ) × Bor (List ℕ))) → IsSplitOnceResult 46 text r
    → MatchOption r (slice_split is_point text ≡ text ∷ [])
    (λ parts. slice_split is_point text ≡ parts.0.now ∷ slice_split is_point parts.1.now)
cut_parts text None is = slice_split_none is_point text (lacks text (split_parts 46 text None is (lit< tt)))
cut_parts text (Some x) is =
    let h = split_parts 46 text (Some x) is (lit< tt) in
    ap (slice_split is_point) h.0 ∙ slice_split_at is_point x.0.now 46 x.1.now (lacks x.0.now h.1) refl

-- ---- three parts

-- a byte that is not a point goes to the front of a part without points
onto : (b : ℕ) (part : List ℕ) → is_point b ≡ false → LacksPoints part → LacksPoints (b ∷ part)
onto b part plain has zero d inside = plain
onto b part plain has (suc k) d inside = has k d (omega arith)

onto_parts : (b : ℕ) (parts : List (List ℕ)) → is_point b ≡ false → AllByRecursion LacksPoints parts
    → AllByRecursion LacksPoints (onto_first b parts)
onto_parts b [] plain all = (onto b [] plain (λ k d inside. absurd (omega (arith, inside))), tt)
onto_parts b (part ∷ parts) plain all = (onto b part plain all.0, all.1)

-- no part has a point, where no later part has
no_points_from : (b : ℕ) (text : List ℕ) (at_point : Bool) → is_point b ≡ at_point
    → AllByRecursion LacksPoints (slice_split is_point text)
    → AllByRecursion LacksPoints (slice_split is_point (b ∷ text))
no_points_from b text true is later =
    subst (AllByRecursion LacksPoints) (sym (slice_split-cons_yes is_point b text is))
    ((λ k d inside. absurd (omega (arith, inside))), later)
no_points_from b text false is later =
    subst (AllByRecursion LacksPoints) (sym (slice_split-cons_no is_point b text is))
    (onto_parts b (slice_split is_point text) is later)

no_points : (text : List ℕ) → AllByRecursion LacksPoints (slice_split is_point text)
no_points [] = ((λ k d inside. absurd (omega (arith, inside))), tt)
no_points (b ∷ text) = no_points_from b text (is_point b) refl (no_points text)

-- the parts where there are three
abbrev Three : List (List ℕ) → List ℕ → Type 0
Three parts payload =
    (header : List ℕ) × (signature : List ℕ) × (parts ≡ header ∷ payload ∷ signature ∷ [])

three : (parts : List (List ℕ)) (payload : List ℕ) → second_of_three parts ≡ Some payload → Three parts payload
three [] payload e = absurd cc
three (a ∷ []) payload e = absurd cc
three (a ∷ b ∷ []) payload e = absurd cc
three (a ∷ b ∷ c ∷ []) payload e = (a, c, (let same : b ≡ payload = cc in rw same refl))
three (a ∷ b ∷ c ∷ d ∷ others) payload e = absurd cc

pub payload_found : (text payload : List ℕ) → payload_of text ≡ Some payload → HasPayload text payload
unfolding payload_of
payload_found text payload e =
    let parts = three (slice_split is_point text) payload e in
    let all = subst (AllByRecursion LacksPoints) parts.2 (no_points text) in (
      parts.0,
      parts.1,
      record {
        whole = sym (join_with_byte-slice_split 46 text) ∙ ap (join_with_byte 46) parts.2;
        header_is_part = all.0;
        payload_is_part = all.1.0;
        signature_is_part = all.1.1.0;
      },
    )

pub payload_only : (text payload : List ℕ) → HasPayload text payload → payload_of text ≡ Some payload
unfolding payload_of
payload_only text payload has =
    let c = has.2 in
    let header = has.0 in
    let signature = has.1 in
    ap (λ whole. second_of_three (slice_split is_point whole)) c.whole
    ∙ ap second_of_three
    (slice_split_at is_point header 46 (payload ++ 46 ∷ signature) c.header_is_part refl
    ∙ ap (λ parts. header ∷ parts) (slice_split_at is_point payload 46 signature c.payload_is_part refl
    ∙ ap (λ parts. payload ∷ parts) (slice_split_none is_point signature c.signature_is_part)))

-- ---- more parts

fourth : (header payload third : List ℕ) (others : List (List ℕ)) → 0 < length others
    → second_of_three (header ∷ payload ∷ third ∷ others) ≡ None
fourth header payload third [] some = absurd (omega (arith, some))
fourth header payload third (other ∷ others) some = refl

pub too_many : (text header after payload rest third last : List ℕ)
    → slice_split is_point text ≡ header ∷ slice_split is_point after
    → slice_split is_point after ≡ payload ∷ slice_split is_point rest
    → slice_split is_point rest ≡ third ∷ slice_split is_point last → payload_of text ≡ None
unfolding payload_of
too_many text header after payload rest third last one two three =
    let some : 0 < length (slice_split is_point last) = omega (arith, length-slice_split is_point last) in
    rw (one, two, three) (fourth header payload third (slice_split is_point last) some)
