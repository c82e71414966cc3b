-- Members whose names ascend by their units: the next one goes in at the end.
use Rattle.std.proofs.Common.{◌≡◌, ◌⊎◌, ℕ, List, [], ◌∷◌, ◌++◌, inl, inr, map, length, refl, sym, ap, subst, ◌∙◌}
use Rattle.std.proofs.Common.{Bool, true, false, ◌==◌, ◌||◌, drop, arith}
use Rattle.std.proofs.lemmas.Cmp.{nat_list_cmp_total}
use Rattle.std.proofs.lemmas.List.{map-append}
use Rattle.std.specs.BTreeMap.{insert_entry}
use Rattle.std.specs.Cmp.Lexicographic.{slice_cmp}
use Rattle.std.specs.List.{AllByRecursion}
use Rattle.std.specs.Map.{values_of}
use Rattle.std.specs.Ordering.{is_lt, nat_cmp, ordering_reverse}
use Rattle.std.specs.declared.cmp.Ordering.{Ordering}
use Rattle.std.specs.declared.cmp.Ordering.TheVariants.{Less, Equal, Greater}
use Rattle.serde_json.specs.Data.{Data, Members, member}
use Rattle.sig_json.specs.View.{Words, members_view}
use Rattle.sig_json.specs.declared.tree.Tree.{Tree}
use Rattle.sig_json.proofs.Lists.{none_left}
use Rattle.sig_json_text.specs.Canonical.{utf16_units}
use Rattle.sig_json_text.specs.Writes.{ByUnits, Pair, by_units, pair_of}
use Rattle.sig_json_text.specs.declared.named_member.Member.{Member}

abbrev pub cmp : List ℕ → List ℕ → Ordering
cmp = slice_cmp nat_cmp

-- each with the units of its name
abbrev pub spelled : List Pair → ByUnits
spelled = map (λ p. (utf16_units p.0, p))

-- No name comes after these units.
abbrev pub AreUpTo : List ℕ → List Pair → Type 0
AreUpTo units = AllByRecursion (λ p. (cmp (utf16_units p.0) units ≡ Less) ⊎ (utf16_units p.0 ≡ units))

above : (one other : List ℕ) → cmp other one ≡ Less → cmp one other ≡ Greater
above one other less = nat_list_cmp_total.antisymm one other ∙ ap ordering_reverse less

still_below : (q : Pair) (last units : List ℕ) → cmp last units ≡ Less
    → (cmp (utf16_units q.0) last ≡ Less) ⊎ (utf16_units q.0 ≡ last) → cmp (utf16_units q.0) units ≡ Less
still_below q last units less (inl below) = nat_list_cmp_total.trans (utf16_units q.0) last units below less
still_below q last units less (inr same) = subst (λ (u : List ℕ). cmp u units ≡ Less) (sym same) less

-- the units of a name are above those of all names so far
abbrev pub ComesLast : List ℕ → List Pair → List ℕ → Type 0
ComesLast last ps units = (ps ≡ []) ⊎ (cmp last units ≡ Less)

pub goes_last : (ps : List Pair) (p : Pair) (last : List ℕ) → AreUpTo last ps → cmp last (utf16_units p.0) ≡ Less
    → insert_entry cmp (spelled ps) (utf16_units p.0) p ≡ spelled (ps ++ p ∷ [])
goes_last [] p last are less = refl
goes_last (q ∷ ps) p last are less =
    rw (above (utf16_units p.0) (utf16_units q.0) (still_below q last (utf16_units p.0) less are.0))
    (ap (λ (rest : ByUnits). (utf16_units q.0, q) ∷ rest) (goes_last ps p last are.1 less))

pub still_up_to : (ps : List Pair) (p : Pair) (last : List ℕ) → AreUpTo last ps → cmp last (utf16_units p.0) ≡ Less
    → AreUpTo (utf16_units p.0) (ps ++ p ∷ [])
still_up_to [] p last are less = (inr refl, tt)
still_up_to (q ∷ ps) p last are less =
    (inl (still_below q last (utf16_units p.0) less are.0), still_up_to ps p last are.1 less)

goes_in : (ps : List Pair) (p : Pair) (last : List ℕ) → AreUpTo last ps → ComesLast last ps (utf16_units p.0)
    → (insert_entry cmp (spelled ps) (utf16_units p.0) p ≡ spelled (ps ++ p ∷ []))
    × AreUpTo (utf16_units p.0) (ps ++ p ∷ [])
goes_in ps p last are (inl none) = rw none (refl, (inr refl, tt))
goes_in ps p last are (inr less) = (goes_last ps p last are less, still_up_to ps p last are less)

comes_last_from : (count : ℕ) (ms : List Member) (last units : List ℕ) → count ≡ length ms
    → (count == 0 || is_lt (cmp last units)) ≡ true → ComesLast last (map pair_of ms) units
comes_last_from count [] last units n says = inl refl
comes_last_from count (m ∷ ms) last units n says =
    let some : (count == 0) ≡ false = grind (arith, n) in
    inr (lower (cmp last units) (subst (λ (none : Bool). (none || is_lt (cmp last units)) ≡ true) some says))
  where
    lower : (o : Ordering) → (false || is_lt o) ≡ true → o ≡ Less
    lower Less e = refl
    lower Equal e = absurd cc
    lower Greater e = absurd cc

-- one member more, as the code goes on
pub one_more_member :
    (sorted grown : List Member) (m : Member) (name : List ℕ) (d : Data) (ms : Members) (last units : List ℕ) (count : ℕ)
    → grown ≡ sorted ++ m ∷ [] → units ≡ utf16_units name → pair_of m ≡ (name, d)
    → AreUpTo last (map pair_of sorted) → count ≡ length sorted → (count == 0 || is_lt (cmp last units)) ≡ true
    → (by_units (member name d ms) (spelled (map pair_of sorted)) ≡ by_units ms (spelled (map pair_of grown)))
    × AreUpTo units (map pair_of grown)
one_more_member sorted grown m name d ms last units count is spells pair are n says =
    let comes : ComesLast last (map pair_of sorted) (utf16_units name) =
    comes_last_from count sorted last (utf16_units name) n
    (subst (λ (u : List ℕ). (count == 0 || is_lt (cmp last u)) ≡ true) spells says) in
    let more : map pair_of grown ≡ map pair_of sorted ++ (name, d) ∷ [] =
    ap (map pair_of) is ∙ map-append pair_of sorted (m ∷ []) ∙ ap (λ (q : Pair). map pair_of sorted ++ q ∷ []) pair in
    let in_place = goes_in (map pair_of sorted) (name, d) last are comes in (
      ap (by_units ms) (in_place.0 ∙ ap spelled (sym more)),
      subst (λ (u : List ℕ). AreUpTo u (map pair_of grown)) (sym spells)
          (subst (AreUpTo (utf16_units name)) (sym more) in_place.1),
    )

values_of-spelled : (ps : List Pair) → values_of (spelled ps) ≡ ps
values_of-spelled [] = refl
values_of-spelled (p ∷ ps) = ap (λ (rest : List Pair). p ∷ rest) (values_of-spelled ps)

-- none is left
pub all_spelled : (all left : List (Words × Tree)) (i : ℕ) (sorted : List Member) → i ≡ length left
    → by_units (members_view all) [] ≡ by_units (members_view (drop i left)) (spelled (map pair_of sorted))
    → map pair_of sorted ≡ values_of (by_units (members_view all) [])
all_spelled all left i sorted end so_far =
    sym (ap values_of
    (so_far ∙ ap (λ ms. by_units (members_view ms) (spelled (map pair_of sorted))) (none_left left i end))
    ∙ values_of-spelled (map pair_of sorted))
