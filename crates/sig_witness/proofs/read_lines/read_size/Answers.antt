-- A line that is such a number is parsed as it, and written as it.
use Rattle.std.proofs.Common.{◌≡◌, ◌∙◌, rules, arith, ap, sym, refl}
use Rattle.std.proofs.lemmas.Fmt.{parse-decimal}
use Rattle.std.proofs.lemmas.Slice.Eq.{bytes_eq-Decides}
use Rattle.std.specs.Fmt.{decimal}
use Rattle.sig_witness.proofs.read_lines.read_size.Goals as goal

pub returns-in_default-clause-err : goal.returns-in_default-clause-err
returns-in_default-clause-err c =
    (refl, λ size small is. absurd (cc (parse-decimal 64 size _ _ small small is c.parse.ensures.value.0, c.in_default.is)))

pub returns-then-ne-clause-err : goal.returns-then-ne-clause-err
returns-then-ne-clause-err c = (
  refl,
  λ size small is.
      (let same : c.in-Ok.size ≡ size =
      cc (parse-decimal 64 size _ _ small small is c.parse.ensures.value.0, c.in-Ok.is) in
      let text : c.format.result.now ≡ c.args.line.now = c.format.ensures.text ∙ ap decimal same ∙ sym is in
      absurd (first_of (
        search (rules, text),
        cc (text, c.if-ne.ensures),
        cc (text, c.ne.ensures, c.if-ne.true),
        grind (arith, text, c.ne.ensures, c.if-ne.true, bytes_eq-Decides),
      ))),
)
