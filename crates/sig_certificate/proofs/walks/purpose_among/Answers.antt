use Rattle.std.proofs.Common.{List, ℕ, Option, length, sym, ap, ◌∙◌}
use Rattle.std.specs.Str.{bytes_eq}
use Rattle.std.proofs.lemmas.Bool.{eqb-true, eqb-false}
use Rattle.std.proofs.lemmas.List.{nil_from_length}
use Rattle.sig_der.proofs.ElementLists.{many_at_stops}
use Rattle.sig_certificate.specs.Values.{oid_at}
use Rattle.sig_certificate.proofs.WalkLaws.{oid_at_shrinks, any_more, any_goes_on, any_ends}
use Rattle.sig_certificate.proofs.walks.purpose_among.Goals as goal

pub returns-in-None : goal.returns-in-None
returns-in-None c =
    let rest = c.loop-purpose.rest.now in
    let more = eqb-false (length rest) 0 (sym c.is_empty.ensures ∙ c.loop-purpose-test.true) in
    sym c.loop-purpose.invariant
    ∙ ap (λ (o : Option (List (List ℕ))). any_more (λ p. bytes_eq p c.args.purpose.now) c.loop-purpose.found o)
    (many_at_stops oid_at rest (λ none. more (ap (λ (w : List ℕ). length w) none)) c.in-None.ensures)

pub loop-purpose-preserved : goal.loop-purpose-preserved
loop-purpose-preserved c =
    rw (c.either-found.ensures, c.eq.ensures)
    (any_goes_on oid_at oid_at_shrinks
    (λ (p : List ℕ). bytes_eq p c.args.purpose.now) c.loop-purpose.found c.loop-purpose.rest.now _
    c.in-Some.ensures
    ∙ c.loop-purpose.invariant)

pub loop-purpose-smaller : goal.loop-purpose-smaller
loop-purpose-smaller c = oid_at_shrinks c.loop-purpose.rest.now _ c.in-Some.ensures

pub returns : goal.returns
returns c =
    let rest = c.loop-purpose.rest.now in
    sym c.loop-purpose.invariant
    ∙ any_ends oid_at (λ (p : List ℕ). bytes_eq p c.args.purpose.now) c.loop-purpose.found rest
    (nil_from_length rest (eqb-true (length rest) 0 (sym c.is_empty.ensures ∙ c.loop-purpose-test.false)))
