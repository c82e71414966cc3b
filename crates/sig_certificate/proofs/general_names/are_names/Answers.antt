use Rattle.std.proofs.Common.{ℕ, List, Option, length, sym, ap, ◌∙◌}
use Rattle.std.specs.Prelude.{is_some}
use Rattle.std.proofs.lemmas.Bool.{eqb-true, eqb-false}
use Rattle.std.proofs.lemmas.List.{nil_from_length}
use Rattle.sig_der.specs.FrontReaders.{many_at}
use Rattle.sig_der.proofs.ElementLists.{many_at_none, many_at_stops}
use Rattle.sig_certificate.specs.Names.{Name, name_at}
use Rattle.sig_certificate.proofs.WalkLaws.{name_at_shrinks, is_list_more}
use Rattle.sig_certificate.proofs.general_names.are_names.Goals as goal

pub returns-in-None : goal.returns-in-None
returns-in-None c =
    let rest = c.loop-rest.rest.now in
    let more = eqb-false (length rest) 0 (sym c.is_empty.ensures ∙ c.loop-rest-test.true) in
    sym c.loop-rest.invariant
    ∙ ap (λ (o : Option (List Name)). is_some o)
    (many_at_stops name_at rest (λ none. more (ap (λ (w : List ℕ). length w) none)) c.in-None.ensures)

pub loop-rest-preserved : goal.loop-rest-preserved
loop-rest-preserved c =
    is_list_more name_at name_at_shrinks c.loop-rest.rest.now _ c.in-Some.ensures ∙ c.loop-rest.invariant

pub loop-rest-smaller : goal.loop-rest-smaller
loop-rest-smaller c = name_at_shrinks c.loop-rest.rest.now _ c.in-Some.ensures

pub returns : goal.returns
returns c =
    let rest = c.loop-rest.rest.now in
    let none = nil_from_length rest (eqb-true (length rest) 0 (sym c.is_empty.ensures ∙ c.loop-rest-test.false)) in
    sym c.loop-rest.invariant
    ∙ ap (λ (w : List ℕ). is_some (many_at name_at w)) none
    ∙ ap (λ (o : Option (List Name)). is_some o) (many_at_none name_at)
