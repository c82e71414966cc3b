-- A word that is such a number is parsed as it, and written as it.
use Rattle.std.proofs.Common.{◌≡◌, ◌<◌, ◌^◌, ◌∙◌, rules, arith, ap, sym}
use Rattle.std.proofs.lemmas.Fmt.{parse-decimal}
use Rattle.std.proofs.lemmas.Slice.Eq.{bytes_eq-Decides}
use Rattle.std.specs.Fmt.{decimal}
use Rattle.sig_program.proofs.invocation.count_in.Goals as goal

pub returns-in_default : goal.returns-in_default
returns-in_default c = λ count is.
    (let most = is.1.most in let fits : count < 2 ^ 64 = omega (arith, most) in
    absurd (cc (parse-decimal 64 count _ _ fits fits is.0 c.parse.ensures.value.0, c.in_default.is)))

pub returns-then-count-eq0 : goal.returns-then-count-eq0
returns-then-count-eq0 c = λ count is.
    (let most = is.1.most in let some = is.1.some in let fits : count < 2 ^ 64 = omega (arith, most) in
    let same : c.in-Ok.count ≡ count =
    cc (parse-decimal 64 count _ _ fits fits is.0 c.parse.ensures.value.0, c.in-Ok.is) in
    absurd (omega (arith, same, some, c.if-count-eq0.true)))

pub returns-then-count-gt-MOST_ENTRIES : goal.returns-then-count-gt-MOST_ENTRIES
returns-then-count-gt-MOST_ENTRIES c = λ count is.
    (let most = is.1.most in let fits : count < 2 ^ 64 = omega (arith, most) in
    let same : c.in-Ok.count ≡ count =
    cc (parse-decimal 64 count _ _ fits fits is.0 c.parse.ensures.value.0, c.in-Ok.is) in
    absurd (omega (arith, same, most, c.if-count-gt-MOST_ENTRIES.true)))

pub returns-then-ne : goal.returns-then-ne
returns-then-ne c = λ count is.
    (let most = is.1.most in let fits : count < 2 ^ 64 = omega (arith, most) in
    let same : c.in-Ok.count ≡ count =
    cc (parse-decimal 64 count _ _ fits fits is.0 c.parse.ensures.value.0, c.in-Ok.is) in
    let text : c.format.result.now ≡ c.args.word.now = c.format.ensures.text ∙ ap decimal same ∙ sym is.0 in
    absurd (first_of (search (rules, text), cc (text, c.if-ne.ensures), cc (text, c.ne.ensures, c.if-ne.true), grind (arith, text, c.ne.ensures, c.if-ne.true, bytes_eq-Decides))))
