-- Readers that go on: what they take is an *Element*, and an *Element* at the front is taken.
use Rattle.std.proofs.Common.{◌≡◌, ℕ, ◌<◌, true, false, eqb, List, [], ◌++◌, length, Option, Some, None, Result, Ok}
use Rattle.std.proofs.Common.{Err, refl, sym, ap, subst, ◌∙◌, inl, inr}
use Rattle.std.proofs.lemmas.Bool.{cases_Bool, eq-eqb, eqb-true, cond-true, cond-false}
use Rattle.std.proofs.lemmas.List.{nil_from_length, append-nil}
use Rattle.sig_base.specs.declared.fault.DerError.{DerError}
use Rattle.sig_base.proofs.OptionSteps.{some, some_is, bind_is, bind_of_some, when_is}
use Rattle.sig_der.specs.Element.{IsElement, StandsFirst}
use Rattle.sig_der.specs.Reading.{Piece, element_at}
use Rattle.sig_der.specs.FrontReaders.{answered, take_any, take_tag, take_whole, take_optional, begins_with}
use Rattle.sig_der.proofs.Bytes.{IsBytes}
use Rattle.sig_der.proofs.Elements.{Takes, element_at_takes, element_at_again, element_at_shorter}

-- ---- an element of any tag

pub take_any_ok : (bytes : List ℕ) (y z : Piece × List ℕ) → element_at bytes ≡ Ok y → y ≡ z → take_any bytes ≡ Some z
unfolding take_any
take_any_ok bytes y z e same =
    ap (λ (r : Result (Piece × List ℕ) DerError). answered r) e ∙ ap (λ (w : Piece × List ℕ). some w) same

pub take_any_err : (bytes : List ℕ) (e : DerError) → element_at bytes ≡ Err e → take_any bytes ≡ None
unfolding take_any
take_any_err bytes e is = ap (λ (r : Result (Piece × List ℕ) DerError). answered r) is

answered_is : (r : Result (Piece × List ℕ) DerError) (y : Piece × List ℕ) → answered r ≡ Some y → r ≡ Ok y
answered_is (Ok x) y e = let same : x ≡ y = cc in rw same refl
answered_is (Err d) y e = absurd cc

pub take_any_takes : (bytes : List ℕ) → IsBytes bytes → (y : Piece × List ℕ) → take_any bytes ≡ Some y → Takes bytes y
unfolding take_any
take_any_takes bytes fits y e = element_at_takes bytes fits y (answered_is (element_at bytes) y e)

pub take_any_again : (text : List ℕ) (tag : ℕ) (content rest bytes : List ℕ) → IsElement text tag content
    → bytes ≡ text ++ rest
    → take_any bytes ≡ Some (record { tag = tag; whole = text; content = content }, rest)
take_any_again text tag content rest bytes is parts =
    take_any_ok bytes _ _ (element_at_again text tag content rest bytes is parts) refl

-- ---- an element of one tag

pub take_tag_takes : (tag : ℕ) (bytes : List ℕ) → IsBytes bytes → (y : Piece × List ℕ) → take_tag tag bytes ≡ Some y
    → StandsFirst y.0.whole tag y.0.content y.1 bytes × (y.0.tag ≡ tag)
unfolding take_tag
take_tag_takes tag bytes fits y e =
    let b = bind_is (take_any bytes) _ y e in
    let w = when_is (eqb b.0.0.tag tag) (Some b.0) y b.2 in
    let same : b.0 ≡ y = some_is b.0 y w.1 in
    let t = take_any_takes bytes fits y (b.1 ∙ w.1) in
    let tagged : y.0.tag ≡ tag = subst (λ (x : Piece × List ℕ). x.0.tag ≡ tag) same (eqb-true b.0.0.tag tag w.0) in
    (subst (λ (n : ℕ). StandsFirst y.0.whole n y.0.content y.1 bytes) tagged t, tagged)

pub take_tag_again : (text : List ℕ) (tag : ℕ) (content rest bytes : List ℕ) → IsElement text tag content
    → bytes ≡ text ++ rest
    → take_tag tag bytes ≡ Some (record { tag = tag; whole = text; content = content }, rest)
unfolding take_tag
take_tag_again text tag content rest bytes is parts =
    bind_of_some (take_any bytes) _ _ (take_any_again text tag content rest bytes is parts)
    ∙ cond-true (eqb tag tag) _ _ (eq-eqb tag tag refl)

-- ---- an element takes a byte at least

pub take_any_shrinks : (bytes : List ℕ) (y : Piece × List ℕ) → take_any bytes ≡ Some y → length y.1 < length bytes
unfolding take_any
take_any_shrinks bytes y e = element_at_shorter bytes y (answered_is (element_at bytes) y e)

pub take_tag_shrinks : (tag : ℕ) (bytes : List ℕ) (y : Piece × List ℕ) → take_tag tag bytes ≡ Some y
    → length y.1 < length bytes
unfolding take_tag
take_tag_shrinks tag bytes y e =
    let b = bind_is (take_any bytes) _ y e in
    take_any_shrinks bytes y (b.1 ∙ (when_is (eqb b.0.0.tag tag) (Some b.0) y b.2).1)

-- ---- the whole text

pub take_whole_takes : (tag : ℕ) (bytes : List ℕ) → IsBytes bytes → (p : Piece) → take_whole tag bytes ≡ Some p
    → IsElement bytes tag p.content × (p.tag ≡ tag) × (p.whole ≡ bytes)
unfolding take_whole
take_whole_takes tag bytes fits p e =
    let b = bind_is (take_tag tag bytes) _ p e in
    let w = when_is (eqb (length b.0.1) 0) (Some b.0.0) p b.2 in
    let same : b.0.0 ≡ p = some_is b.0.0 p w.1 in
    let t = take_tag_takes tag bytes fits b.0 b.1 in
    let none : b.0.1 ≡ [] = nil_from_length b.0.1 (eqb-true (length b.0.1) 0 w.0) in
    let all : b.0.0.whole ≡ bytes =
    sym (t.0.parts ∙ ap (λ (w : List ℕ). b.0.0.whole ++ w) none ∙ append-nil b.0.0.whole) in
    subst (λ (q : Piece). IsElement bytes tag q.content × (q.tag ≡ tag) × (q.whole ≡ bytes)) same
    (subst (λ (w : List ℕ). IsElement w tag b.0.0.content) all t.0.is, t.1, all)

pub take_whole_again : (text : List ℕ) (tag : ℕ) (content : List ℕ) → IsElement text tag content
    → take_whole tag text ≡ Some (record { tag = tag; whole = text; content = content })
unfolding take_whole
take_whole_again text tag content is =
    bind_of_some (take_tag tag text) _ _ (take_tag_again text tag content [] text is (sym (append-nil text)))

-- ---- an optional element

begins : (text : List ℕ) (tag : ℕ) (content rest bytes : List ℕ) → IsElement text tag content → bytes ≡ text ++ rest
    → begins_with tag bytes ≡ true
begins text tag content rest bytes is parts =
    rw (parts, is.spelled) (eq-eqb tag tag refl)

pub take_optional_here : (text : List ℕ) (tag : ℕ) (content rest bytes : List ℕ) → IsElement text tag content
    → bytes ≡ text ++ rest
    → take_optional tag bytes ≡ Some (Some (record { tag = tag; whole = text; content = content }), rest)
unfolding take_optional
take_optional_here text tag content rest bytes is parts =
    cond-true (begins_with tag bytes) _ _ (begins text tag content rest bytes is parts)
    ∙ bind_of_some (take_tag tag bytes) _ _ (take_tag_again text tag content rest bytes is parts)

pub take_optional_absent : (tag : ℕ) (bytes : List ℕ) → begins_with tag bytes ≡ false
    → take_optional tag bytes ≡ Some (None, bytes)
unfolding take_optional
take_optional_absent tag bytes e = cond-false (begins_with tag bytes) _ _ e

-- what an optional element is in a text: nothing, or the element
abbrev pub IsOptional : ℕ → List ℕ → Option Piece → Type 0
IsOptional tag text None = text ≡ []
IsOptional tag text (Some p) = IsElement text tag p.content × (p.tag ≡ tag) × (p.whole ≡ text)

-- what was taken is an optional element, and where nothing was taken the text goes on with another tag or ends
pub record TakesOptional (tag : ℕ) (bytes : List ℕ) (y : Option Piece × List ℕ) : Type 0 where
  pub text : List ℕ
  pub is : IsOptional tag text y.0
  pub parts : bytes ≡ text ++ y.1
  pub absent : y.0 ≡ None → begins_with tag bytes ≡ false

pub take_optional_takes : (tag : ℕ) (bytes : List ℕ) → IsBytes bytes → (y : Option Piece × List ℕ)
    → take_optional tag bytes ≡ Some y → TakesOptional tag bytes y
unfolding take_optional
take_optional_takes tag bytes fits y e =
    elim (cases_Bool (begins_with tag bytes)) [
      | inl here ↦
          let b = bind_is (take_tag tag bytes) _ y (sym (cond-true (begins_with tag bytes) _ _ here) ∙ e) in
          let t = take_tag_takes tag bytes fits b.0 b.1 in
          subst (λ (w : Option Piece × List ℕ). TakesOptional tag bytes w) (some_is _ y b.2) (record {
            text = b.0.0.whole;
            is = (t.0.is, t.1, refl);
            parts = t.0.parts;
            absent = λ none. absurd cc;
          })
      | inr other ↦
          subst (λ (w : Option Piece × List ℕ). TakesOptional tag bytes w)
          (some_is _ y (sym (cond-false (begins_with tag bytes) _ _ other) ∙ e)) (record {
            text = [];
            is = refl;
            parts = refl;
            absent = λ none. other;
          })
    ]
