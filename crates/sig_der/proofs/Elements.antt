-- What is read is an *Element*, and an *Element* is read, whatever follows it.
use Rattle.std.proofs.Common.{◌≡◌, ℕ, ◌-◌, ◌%◌, ◌<◌, ◌≤◌, ltb, eqb, List, [], ◌∷◌, ◌++◌, length, take, drop, Result}
use Rattle.std.proofs.Common.{Ok, refl, sym, ap, subst, ◌∙◌, append_assoc, arith}
use Rattle.std.proofs.lemmas.Bool.{le-ltb, ltb-false, eqb-false, ne_eqb, cond-false}
use Rattle.std.proofs.lemmas.List.{take_at, drop_at, take-append-drop, length-append, length-drop, length-take-le}
use Rattle.sig_base.specs.declared.fault.DerError.{DerError}
use Rattle.sig_base.specs.declared.fault.DerError.TheVariants.{LongTag, Truncated}
use Rattle.sig_base.proofs.ResultSteps.{bind_ok, bind_of_ok, guard_ok, ok_is}
use Rattle.sig_der.specs.Element.{IsElement, StandsFirst, element, spelled_length}
use Rattle.sig_der.specs.Reading.{Piece, length_at, element_at}
use Rattle.sig_der.proofs.Bytes.{IsBytes, IsBytes-tail}
use Rattle.sig_der.proofs.Lengths.{length_at_takes, length_at_again, length_at_shorter}

-- the text is the element and what follows it
abbrev pub Takes : List ℕ → Piece × List ℕ → Type 0
Takes bytes y = StandsFirst y.0.whole y.0.tag y.0.content y.1 bytes

-- the piece that is cut from a text whose front is an element
cut_is : (tag : ℕ) (content rest bytes : List ℕ) (n : ℕ) → n ≡ length rest → bytes ≡ element tag content ++ rest
    → take (length bytes - n) bytes ≡ element tag content
cut_is tag content rest bytes n len is =
    rw is (take_at (element tag content) rest (length (element tag content ++ rest) - n)
    (omega (arith, len, length-append (element tag content) rest)))

pub element_at_takes : (bytes : List ℕ) → IsBytes bytes → (y : Piece × List ℕ) → element_at bytes ≡ Ok y
    → Takes bytes y
unfolding element_at
element_at_takes [] fits y e = absurd cc
element_at_takes (tag ∷ rest) fits y e =
    let g = guard_ok (eqb (tag % 32) 31) LongTag _ y e in
    let b = bind_ok (length_at rest) _ y g.1 in
    let n = b.0.0 in
    let after = b.0.1 in
    let h = guard_ok (ltb (length after) n) Truncated _ y b.2 in
    let room : n ≤ length after = ltb-false (length after) n h.0 in
    let t = length_at_takes rest (IsBytes-tail tag rest fits) b.0 b.1 in
    let len : length (take n after) ≡ n = length-take-le n after room in
    let parts : tag ∷ rest ≡ element tag (take n after) ++ drop n after =
    ap (λ (w : List ℕ). tag ∷ w) (t.parts ∙ ap (λ (w : List ℕ). spelled_length n ++ w) (sym (take-append-drop n after))
    ∙ sym (append_assoc (spelled_length n) (take n after) (drop n after))
    ∙ ap (λ (m : ℕ). spelled_length m ++ take n after ++ drop n after) (sym len)) in
    let whole = cut_is tag (take n after) (drop n after) (tag ∷ rest) (length (drop n after)) refl parts in
    subst (λ (w : Piece × List ℕ). Takes (tag ∷ rest) w) (ok_is _ y h.1) (record {
      is = record {
        tagged = record { byte = fits 0; short = eqb-false (tag % 32) 31 g.0 };
        short = omega (arith, len, t.short);
        spelled = whole;
      };
      parts = parts ∙ ap (λ (w : List ℕ). w ++ drop n after) (sym whole);
    })

-- the answer for an element and what follows it
abbrev read_front : ℕ → List ℕ → List ℕ → List ℕ → Result (Piece × List ℕ) DerError
read_front tag whole content rest = Ok (record { tag = tag; whole = whole; content = content }, rest)

pub element_at_again : (text : List ℕ) (tag : ℕ) (content rest bytes : List ℕ) → IsElement text tag content
    → bytes ≡ text ++ rest
    → element_at bytes ≡ Ok (record { tag = tag; whole = text; content = content }, rest)
unfolding element_at
element_at_again text tag content rest bytes is parts =
    let n = length content in
    let spelled : bytes ≡ tag ∷ (spelled_length n ++ (content ++ rest)) =
    parts ∙ ap (λ (w : List ℕ). w ++ rest) is.spelled
    ∙ ap (λ (w : List ℕ). tag ∷ w) (append_assoc (spelled_length n) content rest) in
    let cut = cut_is tag content rest bytes (length rest) refl (parts ∙ ap (λ (w : List ℕ). w ++ rest) is.spelled) in
    let len : length (tag ∷ (spelled_length n ++ (content ++ rest))) ≡ length bytes =
    ap (λ (w : List ℕ). length w) (sym spelled) in
    rw spelled (
    cond-false (eqb (tag % 32) 31) _ _ (ne_eqb _ _ is.tagged.short)
    ∙ bind_of_ok (length_at (spelled_length n ++ (content ++ rest))) _ (n, content ++ rest)
    (length_at_again n (content ++ rest) is.short)
    ∙ cond-false (ltb (length (content ++ rest)) n) _ _ (le-ltb _ _ (omega (arith, length-append content rest)))
    ∙ rw (drop_at content rest n refl, take_at content rest n refl) (
    ap (λ (w : List ℕ). read_front tag w content rest)
    (subst (λ (w : List ℕ). take (length w - length rest) w ≡ text) spelled (cut ∙ sym is.spelled)))
    )

-- an element takes a byte at least
pub element_at_shorter : (bytes : List ℕ) (y : Piece × List ℕ) → element_at bytes ≡ Ok y → length y.1 < length bytes
unfolding element_at
element_at_shorter [] y e = absurd cc
element_at_shorter (tag ∷ rest) y e =
    let g = guard_ok (eqb (tag % 32) 31) LongTag _ y e in
    let b = bind_ok (length_at rest) _ y g.1 in
    let h = guard_ok (ltb (length b.0.1) b.0.0) Truncated _ y b.2 in
    let less = length_at_shorter rest b.0 b.1 in
    subst (λ (w : Piece × List ℕ). length w.1 < length (tag ∷ rest)) (ok_is _ y h.1)
    (omega (arith, length-drop b.0.0 b.0.1))
