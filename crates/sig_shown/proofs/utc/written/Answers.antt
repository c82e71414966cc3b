-- The text is that of the second.
use Rattle.std.proofs.Common.{◌≡◌, ◌∷◌, ◌++◌, [], ap, sym, subst, ◌∙◌}
use Rattle.std.proofs.Common.{None, false}
use Rattle.jiff_fmt.specs.Text.{datetime_text}
use Rattle.sig_der.specs.Stamp.{IsInstantOf}
use Rattle.sig_shown.specs.UtcText.{text_after}
use Rattle.sig_shown.proofs.UtcTexts.{instant, printed, text_since}
use Rattle.sig_shown.proofs.utc.written.Goals as goal

printed_is : (c : goal.After-from) → c.from.result ≡ text_after c.since_first.result
printed_is c =
    let a = c.moment_after-moment.ensures in
    let options : datetime_text c.new.result.lowercase c.new.result.separator c.new.result.precision c.moment_after-moment.result
    ≡ datetime_text false 84 None c.moment_after-moment.result
    = ap (λ o. datetime_text o.0 o.1 o.2 c.moment_after-moment.result) c.new.ensures in
    c.from.ensures ∙ c.in_ok-format.ensures.ok
    ∙ ap (λ text. text ++ 90 ∷ []) (c.as_str-text.ensures.value ∙ c.datetime_text-text.ensures ∙ options)
    ∙ printed c.moment_after-moment.result c.since_first.result a.day a.clock a.whole

pub returns-clause-text : goal.returns-clause-text
returns-clause-text c =
    printed_is c ∙ sym (text_since c.args.second.now c.since_first.result c.since_first.ensures.value)

pub returns-clause-instant : goal.returns-clause-instant
returns-clause-instant c =
    let a = c.moment_after-moment.ensures in
    subst (λ text. IsInstantOf text c.args.second.now) (sym (printed_is c))
    (instant c.moment_after-moment.result c.args.second.now c.since_first.result c.since_first.ensures.value a.day a.clock)
