use Rattle.std.proofs.Common.{rules, sym, subst, ◌∙◌}
use Rattle.sig_base.proofs.OptionSteps.{some_is}
use Rattle.sig_der.specs.DerTime.{IsTimeOf}
use Rattle.sig_certificate.specs.Cutting.{Parts}
use Rattle.sig_certificate.proofs.reading.dated_parts.Goals as goal

pub returns-in_err-not_before-clause-only : goal.returns-in_err-not_before-clause-only
returns-in_err-not_before-clause-only c = λ p a b is. absurd (
    let same = some_is _ p (sym c.in_ok-places.ensures.cut ∙ is.cut) in
    let no =
    c.in_err-not_before.ensures.only a
    (subst (λ (w : Parts). IsTimeOf w.binding.first.tag w.binding.first.content a) (sym same) is.begins) in
    cc)

pub returns-in_err-not_after-clause-only : goal.returns-in_err-not_after-clause-only
returns-in_err-not_after-clause-only c = λ p a b is. absurd (
    let same = some_is _ p (sym c.in_ok-places.ensures.cut ∙ is.cut) in
    let no =
    c.in_err-not_after.ensures.only b
    (subst (λ (w : Parts). IsTimeOf w.binding.second.tag w.binding.second.content b) (sym same) is.ends) in
    cc)

pub returns-clause-only : goal.returns-clause-only
returns-clause-only c = λ p a b is.
    let same = some_is _ p (sym c.in_ok-places.ensures.cut ∙ is.cut) in
    let first =
    some_is _ a (c.in_ok-not_before.ensures.only a
    (subst (λ (w : Parts). IsTimeOf w.binding.first.tag w.binding.first.content a) (sym same) is.begins)) in
    let second =
    some_is _ b (c.in_ok-not_after.ensures.only b
    (subst (λ (w : Parts). IsTimeOf w.binding.second.tag w.binding.second.content b) (sym same) is.ends)) in
    (same, rw (← first) (search rules), rw (← second) (search rules))
