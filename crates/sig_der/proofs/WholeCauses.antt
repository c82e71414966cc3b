-- Why a text is not one whole element: each fault has its cause, and each cause its fault.
use Rattle.std.proofs.Common.{◌≡◌, ◌≢◌, ◌∙◌, ℕ, cond, eqb, List, length, Result, Ok, Err, inl, inr, sym, ap}
use Rattle.std.proofs.lemmas.Bool.{cases_Bool, cond-true, cond-false}
use Rattle.sig_base.specs.ResultSteps.{◌>>=◌}
use Rattle.sig_base.specs.declared.fault.DerError.{DerError}
use Rattle.sig_base.specs.declared.fault.DerError.TheVariants.{Length, LongTag, Truncated, Trailing, WrongTag}
use Rattle.sig_base.proofs.ResultSteps.{err_is}
use Rattle.sig_der.specs.Faults.{HasBadLength, HasLongTag, IsCutElement}
use Rattle.sig_der.specs.Reading.{Piece, element_at, all_at}
use Rattle.sig_der.proofs.Bytes.{IsBytes}
use Rattle.sig_der.proofs.Causes.{bind_of_err, refused_front, long_tag_is, long_tag_at, bad_length_is, bad_length_at}
use Rattle.sig_der.proofs.Causes.{cut_is, cut_at}

-- a fault of the element is one of the whole, and the two others are not the element's
own : (tag : ℕ) (bytes : List ℕ) (d : DerError) → d ≢ Trailing → d ≢ WrongTag → all_at tag bytes ≡ Err d
    → element_at bytes ≡ Err d
unfolding all_at
own tag bytes d not_trailing not_wrong is = by (element_at bytes) is
  where
    by : (r : Result (Piece × List ℕ) DerError)
        → (r >>= λ x. cond (eqb (length x.1) 0) (cond (eqb x.0.tag tag) (Ok x.0) (Err WrongTag)) (Err Trailing)) ≡ Err d
        → r ≡ Err d
    by (Err e) f = ap (λ (w : DerError). refused_front w) (err_is {A = Piece} e d f)
    by (Ok x) f = absurd (elim (cases_Bool (eqb (length x.1) 0)) [
      | inl none ↦ elim (cases_Bool (eqb x.0.tag tag)) [
        | inl same ↦
            let no = sym (cond-true (eqb (length x.1) 0) _ (Err Trailing) none
            ∙ cond-true (eqb x.0.tag tag) (Ok x.0) (Err WrongTag) same) ∙ f in cc
        | inr other ↦ not_wrong (sym (err_is {A = Piece} WrongTag d
            (sym (cond-true (eqb (length x.1) 0) _ (Err Trailing) none
            ∙ cond-false (eqb x.0.tag tag) (Ok x.0) (Err WrongTag) other) ∙ f)))
      ]
      | inr more ↦ not_trailing (sym (err_is {A = Piece} Trailing d
          (sym (cond-false (eqb (length x.1) 0) _ (Err Trailing) more) ∙ f)))
    ])

whole_of : (tag : ℕ) (bytes : List ℕ) (d : DerError) → element_at bytes ≡ Err d → all_at tag bytes ≡ Err d
unfolding all_at
whole_of tag bytes d is = bind_of_err (element_at bytes) _ d is

pub all_long_tag : (tag : ℕ) (bytes : List ℕ) → all_at tag bytes ≡ Err LongTag → HasLongTag bytes
all_long_tag tag bytes is = long_tag_is bytes (own tag bytes LongTag (λ no. cc) (λ no. cc) is)

pub all_bad_length : (tag : ℕ) (bytes : List ℕ) → all_at tag bytes ≡ Err Length → HasBadLength bytes
all_bad_length tag bytes is = bad_length_is bytes (own tag bytes Length (λ no. cc) (λ no. cc) is)

pub all_cut : (tag : ℕ) (bytes : List ℕ) → IsBytes bytes → all_at tag bytes ≡ Err Truncated → IsCutElement bytes
all_cut tag bytes fits is = cut_is bytes fits (own tag bytes Truncated (λ no. cc) (λ no. cc) is)

pub long_tag_all : (tag : ℕ) (bytes : List ℕ) → HasLongTag bytes → all_at tag bytes ≡ Err LongTag
long_tag_all tag bytes h = whole_of tag bytes LongTag (long_tag_at bytes h)

pub bad_length_all : (tag : ℕ) (bytes : List ℕ) → HasBadLength bytes → all_at tag bytes ≡ Err Length
bad_length_all tag bytes h = whole_of tag bytes Length (bad_length_at bytes h)

pub cut_all : (tag : ℕ) (bytes : List ℕ) → IsBytes bytes → IsCutElement bytes → all_at tag bytes ≡ Err Truncated
cut_all tag bytes fits h = whole_of tag bytes Truncated (cut_at bytes fits h)
