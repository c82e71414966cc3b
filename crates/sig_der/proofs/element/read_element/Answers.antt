use Rattle.std.proofs.Common.{◌≡◌, ℕ, List, Result, Ok, Err, subst, arith}
use Rattle.std.specs.Prelude.{IfOk, IfErr}
use Rattle.std.specs.Borrow.{Bor}
use Rattle.sig_base.specs.declared.fault.DerError.{DerError}
use Rattle.sig_der.specs.declared.element.Element.{Element}
use Rattle.sig_base.specs.declared.fault.DerError.TheVariants.{Truncated, LongTag, Length}
use Rattle.sig_der.specs.Element.{StandsFirst}
use Rattle.sig_der.specs.Reading.{Gives, element_at, fault_of}
use Rattle.sig_der.specs.BorrowedElements.{front_of}
use Rattle.sig_der.proofs.Bytes.{IsBytes}
use Rattle.sig_der.proofs.Elements.{element_at_takes, element_at_again}
use Rattle.sig_der.proofs.Faults.{element_at_fault}
use Rattle.sig_der.proofs.Causes.{long_tag_is, long_tag_at, bad_length_is, bad_length_at, cut_is, cut_at}
use Rattle.sig_der.proofs.Steps.{gives_err, err_given}
use Rattle.sig_der.proofs.element.read_element.Goals as goal

found : (bytes : List ℕ) → IsBytes bytes → (r : Result (Element × Bor (List ℕ)) DerError)
    → Gives front_of r (element_at bytes)
    → IfOk r (λ x. StandsFirst x.0.whole.now x.0.tag x.0.content.now x.1.now bytes)
found bytes fits (Ok x) is = element_at_takes bytes fits (front_of x) is
found bytes fits (Err e) is = tt

fault : (bytes : List ℕ) (r : Result (Element × Bor (List ℕ)) DerError) → Gives front_of r (element_at bytes)
    → IfErr r (λ e. e ≡ fault_of bytes)
fault bytes (Ok x) is = tt
fault bytes (Err e) is = element_at_fault bytes e is

pub returns-clause-found : goal.returns-clause-found
returns-clause-found c = found c.args.bytes.now (λ i. omega (arith, c.type_inv.bytes i)) c.cut.result c.cut.ensures

pub returns-clause-only : goal.returns-clause-only
returns-clause-only c = λ whole content rest tag first.
    subst (λ r. Gives front_of c.cut.result r)
    (element_at_again whole tag content rest c.args.bytes.now first.is first.parts) c.cut.ensures

pub returns-clause-fault : goal.returns-clause-fault
returns-clause-fault c = fault c.args.bytes.now c.cut.result c.cut.ensures

pub returns-clause-long_tag : goal.returns-clause-long_tag
returns-clause-long_tag c = (
  λ e. long_tag_is c.args.bytes.now (gives_err front_of c.cut.result _ LongTag c.cut.ensures e),
  λ h. err_given front_of c.cut.result _ LongTag c.cut.ensures (long_tag_at c.args.bytes.now h),
)

pub returns-clause-bad_length : goal.returns-clause-bad_length
returns-clause-bad_length c = (
  λ e. bad_length_is c.args.bytes.now (gives_err front_of c.cut.result _ Length c.cut.ensures e),
  λ h. err_given front_of c.cut.result _ Length c.cut.ensures (bad_length_at c.args.bytes.now h),
)

pub returns-clause-truncated : goal.returns-clause-truncated
returns-clause-truncated c = (
  λ e. cut_is c.args.bytes.now (λ i. omega (arith, c.type_inv.bytes i))
      (gives_err front_of c.cut.result _ Truncated c.cut.ensures e),
  λ h. err_given front_of c.cut.result _ Truncated c.cut.ensures
      (cut_at c.args.bytes.now (λ i. omega (arith, c.type_inv.bytes i)) h),
)
