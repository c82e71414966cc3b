-- A second of the years 1 to 9999 has a text.
use Rattle.std.proofs.Common.{Some, ap, arith, sym, ◌≤ℤ◌, ◌∙◌}
use Rattle.std.proofs.lemmas.Int.{ints}
use Rattle.sig_shown.specs.UtcText.{first_second, last_second}
use Rattle.sig_shown.proofs.UtcTexts.{text_within}
use Rattle.sig_shown.proofs.utc.utc_text.Goals as goal

pub returns-clause-text : goal.returns-clause-text
returns-clause-text c =
    let low : first_second ≤ℤ c.args.second.now = omega (arith, ints, c.if-second-lt-FIRST_SECOND.false) in
    let high : c.args.second.now ≤ℤ last_second = omega (arith, ints, c.if-second-gt-LAST_SECOND.false) in
    ap Some c.in_ok-written.ensures.text ∙ sym (text_within c.args.second.now low high)
