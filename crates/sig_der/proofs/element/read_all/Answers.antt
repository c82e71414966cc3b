use Rattle.std.proofs.Common.{◌≡◌, ℕ, List, Result, Ok, Err, subst, arith}
use Rattle.std.specs.Prelude.{IfOk}
use Rattle.sig_base.specs.declared.fault.DerError.{DerError}
use Rattle.sig_base.specs.declared.fault.DerError.TheVariants.{Truncated, LongTag, Length}
use Rattle.sig_base.specs.declared.fault.DerError.TheVariants.{Trailing, WrongTag}
use Rattle.sig_der.specs.declared.element.Element.{Element}
use Rattle.sig_der.specs.Element.{IsElement}
use Rattle.sig_der.specs.Reading.{Gives, all_at}
use Rattle.sig_der.specs.BorrowedElements.{piece_of}
use Rattle.sig_der.proofs.Bytes.{IsBytes}
use Rattle.sig_der.proofs.Steps.{gives_err, err_given}
use Rattle.sig_der.proofs.Wholes.{all_at_takes, all_at_again, all_at_trailing, trailing_at, all_at_wrong_tag}
use Rattle.sig_der.proofs.Wholes.{wrong_tag_at}
use Rattle.sig_der.proofs.WholeCauses.{all_long_tag, all_bad_length, all_cut, long_tag_all, bad_length_all, cut_all}
use Rattle.sig_der.proofs.element.read_all.Goals as goal

found : (tag : ℕ) (bytes : List ℕ) → IsBytes bytes → (r : Result Element DerError)
    → Gives piece_of r (all_at tag bytes)
    → IfOk r (λ e. IsElement bytes tag e.content.now × (e.whole.now ≡ bytes) × (e.tag ≡ tag))
found tag bytes fits (Ok e) is = all_at_takes tag bytes fits (piece_of e) is
found tag bytes fits (Err e) is = tt

pub returns-clause-found : goal.returns-clause-found
returns-clause-found c =
    found c.args.tag c.args.bytes.now (λ i. omega (arith, c.type_inv.bytes i)) c.cut_all.result c.cut_all.ensures

pub returns-clause-only : goal.returns-clause-only
returns-clause-only c = λ content is.
    subst (λ r. Gives piece_of c.cut_all.result r)
    (all_at_again c.args.tag c.args.bytes.now content is) c.cut_all.ensures

pub returns-clause-trailing : goal.returns-clause-trailing
returns-clause-trailing c = (
  λ e. all_at_trailing c.args.tag c.args.bytes.now (λ i. omega (arith, c.type_inv.bytes i))
      (gives_err piece_of c.cut_all.result _ Trailing c.cut_all.ensures e),
  λ f. err_given piece_of c.cut_all.result _ Trailing c.cut_all.ensures (trailing_at c.args.tag c.args.bytes.now f),
)

pub returns-clause-wrong_tag : goal.returns-clause-wrong_tag
returns-clause-wrong_tag c = (
  λ e. all_at_wrong_tag c.args.tag c.args.bytes.now (λ i. omega (arith, c.type_inv.bytes i))
      (gives_err piece_of c.cut_all.result _ WrongTag c.cut_all.ensures e),
  λ a. err_given piece_of c.cut_all.result _ WrongTag c.cut_all.ensures (wrong_tag_at c.args.tag c.args.bytes.now a),
)

pub returns-clause-long_tag : goal.returns-clause-long_tag
returns-clause-long_tag c = (
  λ e. all_long_tag c.args.tag c.args.bytes.now (gives_err piece_of c.cut_all.result _ LongTag c.cut_all.ensures e),
  λ h. err_given piece_of c.cut_all.result _ LongTag c.cut_all.ensures (long_tag_all c.args.tag c.args.bytes.now h),
)

pub returns-clause-bad_length : goal.returns-clause-bad_length
returns-clause-bad_length c = (
  λ e. all_bad_length c.args.tag c.args.bytes.now (gives_err piece_of c.cut_all.result _ Length c.cut_all.ensures e),
  λ h. err_given piece_of c.cut_all.result _ Length c.cut_all.ensures (bad_length_all c.args.tag c.args.bytes.now h),
)

pub returns-clause-truncated : goal.returns-clause-truncated
returns-clause-truncated c = (
  λ e. all_cut c.args.tag c.args.bytes.now (λ i. omega (arith, c.type_inv.bytes i))
      (gives_err piece_of c.cut_all.result _ Truncated c.cut_all.ensures e),
  λ h. err_given piece_of c.cut_all.result _ Truncated c.cut_all.ensures
      (cut_all c.args.tag c.args.bytes.now (λ i. omega (arith, c.type_inv.bytes i)) h),
)
