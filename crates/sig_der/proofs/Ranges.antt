-- A part of a text that lies between two parts, and the place of an element within a text.
use Rattle.std.proofs.Common.{◌≡◌, ℕ, ◌+◌, ◌-◌, ◌≤◌, List, [], ◌∷◌, ◌++◌, length, take, drop, refl, sym, ap}
use Rattle.std.proofs.Common.{◌∙◌, append_assoc, arith}
use Rattle.std.specs.Prelude.{slice_range}
use Rattle.std.proofs.lemmas.List.{take_at, take_all, drop_at, take-append-drop, length-append, length-take-le}
use Rattle.std.proofs.lemmas.List.{length-drop}
use Rattle.std.proofs.lemmas.List.Folds.{drop_split}
use Rattle.sig_der.specs.Element.{StandsFirst, spelled_length}
use Rattle.sig_der.specs.Reading.{Piece}
use Rattle.sig_der.specs.Places.{piece_at}

pub slice_of : (a b c text : List ℕ) (i j : ℕ) → text ≡ a ++ (b ++ c) → i ≡ length a → j ≡ length a + length b
    → slice_range text i j ≡ b
slice_of a b c text i j is from to =
    let len : length b ≡ j - i = omega arith in
    rw (is, drop_at a (b ++ c) i (sym from)) (take_at b c (j - i) len)

-- a text is what stands before a part, the part, and what stands after it
pub around : (bytes : List ℕ) (at end : ℕ) → at ≤ end
    → bytes ≡ take at bytes ++ (slice_range bytes at end ++ drop end bytes)
around bytes at end le =
    sym (take-append-drop at bytes) ∙ ap (λ (w : List ℕ). take at bytes ++ w) (drop_split bytes at end le)

pub length-part : (bytes : List ℕ) (at end : ℕ) → at ≤ end → end ≤ length bytes
    → length (slice_range bytes at end) ≡ end - at
length-part bytes at end from to = length-take-le (end - at) (drop at bytes) (omega (arith, length-drop at bytes))

pub part_whole : (bytes : List ℕ) (n : ℕ) → n ≡ length bytes → slice_range bytes 0 n ≡ bytes
part_whole bytes n is = take_all (n - 0) bytes (omega (arith, is))

abbrev found_front : ℕ → List ℕ → List ℕ → List ℕ → Piece × List ℕ
found_front tag whole content rest = (record { tag = tag; whole = whole; content = content }, rest)

same_front : (tag : ℕ) (whole1 whole2 content1 content2 rest1 rest2 : List ℕ) → whole1 ≡ whole2 → content1 ≡ content2
    → rest1 ≡ rest2
    → found_front tag whole1 content1 rest1 ≡ found_front tag whole2 content2 rest2
same_front tag whole1 whole2 content1 content2 rest1 rest2 a b c = cc

-- the element at the front of a part stands in the text where the lengths say
pub placed_is : (bytes : List ℕ) (at end : ℕ) → at ≤ end → end ≤ length bytes → (tag : ℕ) (whole content rest : List ℕ)
    → StandsFirst whole tag content rest (slice_range bytes at end)
    → found_front tag whole content rest
    ≡ (
      piece_at bytes (record {
        tag = tag;
        start = at;
        content = end - length rest - length content;
        end = end - length rest;
      }),
      slice_range bytes (end - length rest) end,
    )
placed_is bytes at end from to tag whole content rest first =
    let before = take at bytes in
    let after = drop end bytes in
    let head = tag ∷ spelled_length (length content) in
    let len_before : length before ≡ at = length-take-le at bytes (omega arith) in
    let len_part : length (slice_range bytes at end) ≡ end - at = length-part bytes at end from to in
    let len_sum : length (slice_range bytes at end) ≡ length whole + length rest =
    ap (λ (w : List ℕ). length w) first.parts ∙ length-append whole rest in
    let spelled : whole ≡ head ++ content = first.is.spelled in
    let len_whole : length whole ≡ length head + length content =
    ap (λ (w : List ℕ). length w) spelled ∙ length-append head content in
    let whole_is : bytes ≡ before ++ (whole ++ (rest ++ after)) =
    around bytes at end from ∙ ap (λ (w : List ℕ). before ++ (w ++ after)) first.parts
    ∙ ap (λ (w : List ℕ). before ++ w) (append_assoc whole rest after) in
    let content_is : bytes ≡ before ++ head ++ (content ++ (rest ++ after)) =
    whole_is ∙ ap (λ (w : List ℕ). before ++ (w ++ (rest ++ after))) spelled
    ∙ ap (λ (w : List ℕ). before ++ w) (append_assoc head content (rest ++ after))
    ∙ sym (append_assoc before head (content ++ (rest ++ after))) in
    let rest_is : bytes ≡ before ++ whole ++ (rest ++ after) =
    whole_is ∙ sym (append_assoc before whole (rest ++ after)) in
    let len_head : length (before ++ head) ≡ length before + length head = length-append before head in
    let len_front : length (before ++ whole) ≡ length before + length whole = length-append before whole in
    same_front tag whole _ content _ rest _
    (sym (slice_of before whole (rest ++ after) bytes at (end - length rest) whole_is (omega arith) (omega arith)))
    (sym (slice_of (before ++ head) content (rest ++ after) bytes (end - length rest - length content)
    (end - length rest) content_is (omega arith) (omega arith)))
    (sym (slice_of (before ++ whole) rest after bytes (end - length rest) end rest_is (omega arith) (omega arith)))

-- ---- whether anything is left

pub part-none : (bytes : List ℕ) (at end : ℕ) → end ≤ at → slice_range bytes at end ≡ []
part-none bytes at end le = let none : end - at ≡ 0 = omega arith in rw none refl
