use Rattle.std.proofs.Common.{sym}
use Rattle.sig_der.proofs.TimeTexts.{utc_reader, second_found, second_only, second_none}
use Rattle.sig_der.proofs.time.utc_second.Goals as goal

pub returns-in-None-clause-only : goal.returns-in-None-clause-only
returns-in-None-clause-only c =
    λ s is. absurd (second_none _ _ (utc_reader c.args.text.now) (sym c.in-None.ensures.exact) s is)

pub returns-in-Some-clause-found : goal.returns-in-Some-clause-found
returns-in-Some-clause-found c =
    second_found _ _ (utc_reader c.args.text.now) _ (sym c.in-Some.ensures.exact) c.second_at.result
    (c.second_at.ensures.real, c.second_at.ensures.value)

pub returns-in-Some-clause-only : goal.returns-in-Some-clause-only
returns-in-Some-clause-only c =
    second_only _ _ (utc_reader c.args.text.now) _ (sym c.in-Some.ensures.exact) c.second_at.result
    (c.second_at.ensures.real, c.second_at.ensures.value)
