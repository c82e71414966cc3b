-- The log of lines, or the first condition that fails.
use Rattle.std.proofs.Common.{◌≡◌, ◌++◌, ◌∷◌, [], sym, ap, ◌∙◌, refl, inl, inr, rules, Err}
use Rattle.sig_witness.proofs.ReadLines.{log-of, lines-head_stop}
use Rattle.sig_witness.proofs.read_lines.read_log.Goals as goal

pub returns-in_default-clause-err : goal.returns-in_default-clause-err
returns-in_default-clause-err c = inr (inl (λ above. c.in_default.not-Less (c.order.ensures ∙ above), refl))

pub returns-in_err-head-clause-err : goal.returns-in_err-head-clause-err
returns-in_err-head-clause-err c =
    let is : c.from_residual-in_err-head.result ≡ Err c.in_err-head.field-0.0 = search rules in
    rw is (lines-head_stop c.args.before.now c.args.lines.now c.in_ok-key.key c.in_err-head.field-0.0
    (sym c.order.ensures ∙ c.in-Less.is) c.in_ok-key.ensures.ok c.in_err-head.ensures.err)

pub returns-clause-ok : goal.returns-clause-ok
returns-clause-ok c =
    let chain : c.push.new.self ≡ c.in_ok-head.head ∷ [] =
    c.in_ok-push.ensures.ok ∙ ap (λ l. l ++ c.in_ok-head.head ∷ []) c.new-chain.ensures in
    rw chain (log-of c.args.before.now c.args.lines.now c.in_ok-key.key c.in_ok-head.head
    (sym c.order.ensures ∙ c.in-Less.is) c.in_ok-key.ensures.ok c.in_ok-head.ensures.ok)
