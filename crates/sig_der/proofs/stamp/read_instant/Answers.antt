use Rattle.std.proofs.Common.{sym, FitsSigned, w64, arith}
use Rattle.std.proofs.lemmas.Int.{ints, to_z-of_z}
use Rattle.sig_der.proofs.StampTexts.{instant_found, instant_only, instant_none}
use Rattle.sig_der.proofs.stamp.read_instant.Goals as goal

pub returns-in-None-clause-only : goal.returns-in-None-clause-only
returns-in-None-clause-only c = λ s is. absurd (instant_none c.args.text.now (sym c.in-None.ensures.exact) s is)

pub returns-in-Some-clause-found : goal.returns-in-Some-clause-found
returns-in-Some-clause-found c =
    let fits : FitsSigned w64 c.in-Some.offset = omega (arith, ints, c.in-Some.ensures.day) in
    let value = simp to_z-of_z at c.second_before.ensures.value in
    instant_found c.args.text.now (c.in-Some.moment, c.in-Some.offset)
    (sym c.in-Some.ensures.exact) c.second_before.result (c.second_before.ensures.real, value)

pub returns-in-Some-clause-only : goal.returns-in-Some-clause-only
returns-in-Some-clause-only c =
    let fits : FitsSigned w64 c.in-Some.offset = omega (arith, ints, c.in-Some.ensures.day) in
    let value = simp to_z-of_z at c.second_before.ensures.value in
    instant_only c.args.text.now (c.in-Some.moment, c.in-Some.offset)
    (sym c.in-Some.ensures.exact) c.second_before.result (c.second_before.ensures.real, value)
