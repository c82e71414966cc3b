-- A text that is one element of a tag: what is read, and why it is not.
use Rattle.std.proofs.Common.{◌≡◌, ◌≢◌, ℕ, ◌%◌, true, cond, eqb, List, [], ◌∷◌, ◌++◌, length, Result, Ok, Err, refl}
use Rattle.std.proofs.Common.{sym, ap, subst, ◌∙◌, arith, inl, inr}
use Rattle.std.proofs.lemmas.Bool.{cases_Bool, eq-eqb, eqb-true, eqb-false, ne_eqb, cond-true, cond-false}
use Rattle.std.proofs.lemmas.List.{nil_from_length, append-nil}
use Rattle.sig_base.specs.ResultSteps.{◌>>=◌}
use Rattle.sig_base.specs.declared.fault.DerError.{DerError}
use Rattle.sig_base.specs.declared.fault.DerError.TheVariants.{Truncated, LongTag, Length, Trailing, WrongTag}
use Rattle.sig_base.proofs.ResultSteps.{bind_ok, bind_of_ok, when_ok, ok_is}
use Rattle.sig_der.specs.Element.{IsElement, IsFollowed, IsOfAnother}
use Rattle.sig_der.specs.Reading.{Piece, element_at, all_at, has_bad_length, fault_of}
use Rattle.sig_der.proofs.Bytes.{IsBytes}
use Rattle.sig_der.proofs.Elements.{element_at_takes, element_at_again}
use Rattle.sig_der.proofs.Faults.{element_at_fault}

-- ---- what is read

-- an element with nothing after it is the text
whole_is : (whole rest bytes : List ℕ) → bytes ≡ whole ++ rest → eqb (length rest) 0 ≡ true → whole ≡ bytes
whole_is whole rest bytes parts none =
    sym (parts ∙ ap (λ (w : List ℕ). whole ++ w) (nil_from_length rest (eqb-true (length rest) 0 none))
    ∙ append-nil whole)

pub all_at_takes : (tag : ℕ) (bytes : List ℕ) → IsBytes bytes → (p : Piece) → all_at tag bytes ≡ Ok p
    → IsElement bytes tag p.content × (p.whole ≡ bytes) × (p.tag ≡ tag)
unfolding all_at
all_at_takes tag bytes fits p e =
    let b = bind_ok (element_at bytes) _ p e in
    let w = when_ok (eqb (length b.0.1) 0) Trailing _ p b.2 in
    let v = when_ok (eqb b.0.0.tag tag) WrongTag (Ok b.0.0) p w.1 in
    let t = element_at_takes bytes fits b.0 b.1 in
    let all = whole_is b.0.0.whole b.0.1 bytes t.parts w.0 in
    let tagged = eqb-true b.0.0.tag tag v.0 in
    subst (λ (q : Piece). IsElement bytes tag q.content × (q.whole ≡ bytes) × (q.tag ≡ tag)) (ok_is b.0.0 p v.1) (
      subst (λ (n : ℕ). IsElement bytes n b.0.0.content) tagged
          (subst (λ (w : List ℕ). IsElement w b.0.0.tag b.0.0.content) all t.is),
      all,
      tagged,
    )

-- the one element that the text is, before its tag is looked at
tag_tested : (tag : ℕ) (whole : List ℕ) (other : ℕ) (content : List ℕ) → IsElement whole other content
    → all_at tag whole ≡ cond (eqb other tag) (Ok (record { tag = other; whole = whole; content = content }))
    (Err WrongTag)
unfolding all_at
tag_tested tag whole other content is =
    bind_of_ok (element_at whole) _ _ (element_at_again whole other content [] whole is (sym (append-nil whole)))

pub all_at_again : (tag : ℕ) (whole content : List ℕ) → IsElement whole tag content
    → all_at tag whole ≡ Ok (record { tag = tag; whole = whole; content = content })
all_at_again tag whole content is =
    tag_tested tag whole tag content is ∙ cond-true (eqb tag tag) _ _ (eq-eqb tag tag refl)

-- ---- bytes follow

-- only three faults are an element's own
fault_is_own : (d : DerError) → Truncated ≢ d → LongTag ≢ d → Length ≢ d → (bytes : List ℕ) → fault_of bytes ≢ d
fault_is_own d not_cut not_long not_bad [] = not_cut
fault_is_own d not_cut not_long not_bad (tag ∷ rest) =
    elim (cases_Bool (eqb (tag % 32) 31)) [
      | inl long ↦ rw long not_long
      | inr short ↦ rw short (elim (cases_Bool (has_bad_length rest)) [
        | inl bad ↦ rw bad not_bad
        | inr good ↦ rw good not_cut
      ])
    ]

trailing_from : (tag : ℕ) (bytes : List ℕ) → IsBytes bytes → (r : Result (Piece × List ℕ) DerError)
    → element_at bytes ≡ r
    → (r >>= λ x. cond (eqb (length x.1) 0) (cond (eqb x.0.tag tag) (Ok x.0) (Err WrongTag)) (Err Trailing))
    ≡ Err Trailing → IsFollowed bytes
trailing_from tag bytes fits (Err d) is e =
    absurd (let same : d ≡ Trailing = cc in
    fault_is_own Trailing (λ no. cc) (λ no. cc) (λ no. cc) bytes (sym (element_at_fault bytes d is) ∙ same))
trailing_from tag bytes fits (Ok x) is e =
    let t = element_at_takes bytes fits x is in
    elim (cases_Bool (eqb (length x.1) 0)) [
      | inl none ↦ absurd (elim (cases_Bool (eqb x.0.tag tag)) [
        | inl same ↦
            let wrong =
            sym (cond-true (eqb (length x.1) 0) _ (Err Trailing) none
            ∙ cond-true (eqb x.0.tag tag) (Ok x.0) (Err WrongTag) same) ∙ e in cc
        | inr other ↦
            let wrong =
            sym (cond-true (eqb (length x.1) 0) _ (Err Trailing) none
            ∙ cond-false (eqb x.0.tag tag) (Ok x.0) (Err WrongTag) other) ∙ e in cc
      ])
      | inr more ↦
          let some : length x.1 ≢ 0 = eqb-false (length x.1) 0 more in
          record { whole = x.0.whole; tag = x.0.tag; content = x.0.content; rest = x.1; first = t; more = omega arith }
    ]

pub all_at_trailing : (tag : ℕ) (bytes : List ℕ) → IsBytes bytes → all_at tag bytes ≡ Err Trailing → IsFollowed bytes
unfolding all_at
all_at_trailing tag bytes fits e = trailing_from tag bytes fits (element_at bytes) refl e

pub trailing_at : (tag : ℕ) (bytes : List ℕ) → IsFollowed bytes → all_at tag bytes ≡ Err Trailing
unfolding all_at
trailing_at tag bytes f =
    let some : length f.rest ≢ 0 = omega (arith, f.more) in
    bind_of_ok (element_at bytes) _ _ (element_at_again f.whole f.tag f.content f.rest bytes f.first.is f.first.parts)
    ∙ cond-false (eqb (length f.rest) 0) _ _ (ne_eqb (length f.rest) 0 some)

-- ---- another tag

wrong_from : (tag : ℕ) (bytes : List ℕ) → IsBytes bytes → (r : Result (Piece × List ℕ) DerError) → element_at bytes ≡ r
    → (r >>= λ x. cond (eqb (length x.1) 0) (cond (eqb x.0.tag tag) (Ok x.0) (Err WrongTag)) (Err Trailing))
    ≡ Err WrongTag → IsOfAnother tag bytes
wrong_from tag bytes fits (Err d) is e =
    absurd (let same : d ≡ WrongTag = cc in
    fault_is_own WrongTag (λ no. cc) (λ no. cc) (λ no. cc) bytes (sym (element_at_fault bytes d is) ∙ same))
wrong_from tag bytes fits (Ok x) is e =
    let t = element_at_takes bytes fits x is in
    elim (cases_Bool (eqb (length x.1) 0)) [
      | inr more ↦
          absurd (let wrong = sym (cond-false (eqb (length x.1) 0) (cond (eqb x.0.tag tag) (Ok x.0) (Err WrongTag))
          (Err Trailing) more) ∙ e in cc)
      | inl none ↦
          let all = whole_is x.0.whole x.1 bytes t.parts none in
          elim (cases_Bool (eqb x.0.tag tag)) [
            | inl same ↦
                absurd (let wrong = sym (cond-true (eqb (length x.1) 0) _ (Err Trailing) none
                ∙ cond-true (eqb x.0.tag tag) (Ok x.0) (Err WrongTag) same) ∙ e in cc)
            | inr other ↦ record {
              other = x.0.tag;
              content = x.0.content;
              is = subst (λ (w : List ℕ). IsElement w x.0.tag x.0.content) all t.is;
              differs = eqb-false x.0.tag tag other;
            }
          ]
    ]

pub all_at_wrong_tag : (tag : ℕ) (bytes : List ℕ) → IsBytes bytes → all_at tag bytes ≡ Err WrongTag
    → IsOfAnother tag bytes
unfolding all_at
all_at_wrong_tag tag bytes fits e = wrong_from tag bytes fits (element_at bytes) refl e

pub wrong_tag_at : (tag : ℕ) (bytes : List ℕ) → IsOfAnother tag bytes → all_at tag bytes ≡ Err WrongTag
wrong_tag_at tag bytes a =
    tag_tested tag bytes a.other a.content a.is ∙ cond-false (eqb a.other tag) _ _ (ne_eqb a.other tag a.differs)
