-- The parts of a name, one after another.
use Rattle.std.proofs.Common.{◌≡◌, ◌≢◌, ◌==◌, ℕ, true, false, List, [], ◌∷◌, ◌++◌, length, Some, sym, ap, ◌∙◌, arith}
use Rattle.std.proofs.lemmas.Bool.{eqb-true}
use Rattle.std.proofs.lemmas.List.{map-append, nil_from_length}
use Rattle.sig_base.proofs.OptionSteps.{bind_is, some_is}
use Rattle.sig_der.proofs.ElementLists.{Shrinks, goes_on, with_front}
use Rattle.sig_der.proofs.Takings.{take_tag_shrinks}
use Rattle.sig_der.specs.Tag.{SET}
use Rattle.sig_der.specs.FrontReaders.{many_at, take_tag}
use Rattle.sig_name.specs.Name.{Part, attribute_in, part_at}
use Rattle.sig_name.specs.Seen.{all_seen, seen}
use Rattle.sig_name.specs.declared.name.NamePart.{NamePart}

pub part_at_shrinks : Shrinks part_at
unfolding part_at
part_at_shrinks bytes y e =
    let set = bind_is (take_tag SET bytes) _ y e in
    let attribute = bind_is (attribute_in set.0.0.content) (λ attribute. Some (attribute, set.0.1)) y set.2 in
    let same : (attribute.0, set.0.1) ≡ y = some_is (attribute.0, set.0.1) y attribute.2 in
    omega (arith, take_tag_shrinks SET bytes set.0 set.1, ap (λ (x : Part × List ℕ). length x.1) same)

-- the parts so far, and then those of the rest, are all
abbrev pub AreSoFar : List NamePart → List ℕ → List ℕ → Type 0
AreSoFar found rest bytes = with_front (all_seen found) (many_at part_at rest) ≡ many_at part_at bytes

pub some_left : {A : Type 0} → (rest : List A) → false ≡ (length rest == 0) → rest ≢ []
some_left [] e = absurd cc
some_left (b ∷ rest) e = λ none. cc

pub none_left : (rest : List ℕ) → true ≡ (length rest == 0) → rest ≡ []
none_left rest e = nil_from_length rest (eqb-true (length rest) 0 (sym e))

-- one more part
pub one_more : (found new : List NamePart) (part : NamePart) (rest after bytes : List ℕ) → AreSoFar found rest bytes
    → new ≡ found ++ part ∷ [] → part_at rest ≡ Some (seen part, after) → AreSoFar new after bytes
one_more found new part rest after bytes so_far pushed is =
    ap (λ (parts : List Part). with_front parts (many_at part_at after)) (ap all_seen pushed ∙ map-append seen found (part ∷ []))
    ∙ goes_on part_at part_at_shrinks (all_seen found) rest (seen part, after) is ∙ so_far
