use Rattle.std.proofs.Common.{ℕ, List, length, sym, ap, ◌∙◌}
use Rattle.std.specs.Prelude.{string_bytes}
use Rattle.std.proofs.lemmas.Bool.{eqb-true, eqb-false}
use Rattle.std.proofs.lemmas.List.{nil_from_length}
use Rattle.sig_certificate.proofs.PemLaws.{turn, ends, take_min, drop_min}
use Rattle.sig_certificate.proofs.pem.push_lines.Goals as goal

pub returns : goal.returns
returns c =
    let rest = c.loop-rest.rest.now in
    ends (string_bytes c.loop-rest.pem) rest _
    (nil_from_length rest (eqb-true (length rest) 0 (sym c.is_empty.ensures ∙ c.loop-rest-test.false)))
    c.loop-rest.invariant

pub loop-rest-preserved : goal.loop-rest-preserved
loop-rest-preserved c =
    let rest = c.loop-rest.rest.now in
    let more = eqb-false (length rest) 0 (sym c.is_empty.ensures ∙ c.loop-rest-test.true) in
    turn (string_bytes c.loop-rest.pem)
    (string_bytes c.push_line.new.pem) c.split_at.result.0.now c.split_at.result.1.now rest _
    (λ none. more (ap (λ (w : List ℕ). length w) none)) c.in_ok-push_line.ensures
    (c.split_at.ensures.front ∙ take_min 48 rest c.min.result c.min.ensures)
    (c.split_at.ensures.back ∙ drop_min 48 rest c.min.result c.min.ensures) c.loop-rest.invariant
