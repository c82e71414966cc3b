-- A member that is added to those that were read before it.
use Rattle.std.proofs.Common.{◌≡◌, ℕ, zero, suc, ◌-◌, ◌<◌, true, List, [], ◌∷◌, ◌++◌, length, get_or, Ok, Err}
use Rattle.std.proofs.Common.{refl, inl, inr, sym, ap, subst, ◌∙◌, arith}
use Rattle.std.proofs.lemmas.Bool.{cases_lt}
use Rattle.std.proofs.lemmas.Cmp.{nat_list_cmp_total}
use Rattle.std.proofs.lemmas.List.{get_or_default, length-append}
use Rattle.std.specs.Cow.{cow_str_bytes}
use Rattle.std.specs.Cmp.Lexicographic.{slice_cmp}
use Rattle.std.specs.List.{insert}
use Rattle.std.specs.Ordering.{nat_cmp, is_lt}
use Rattle.std.specs.declared.cmp.Ordering.TheVariants.{Less, Equal}
use Rattle.serde_json.specs.Data.{no_members, put}
use Rattle.sig_json.proofs.OrderedMembers.{ascend_by_place, ascending_stay, gathered_more, in_order-put, put_between}
use Rattle.sig_json.proofs.OrderedMembers.{less_from_is_lt}
use Rattle.sig_json.specs.Gathered.{Entry, gathered, InOrder, AreInOrderIfFew, IsPlaceOf, few}
use Rattle.sig_json.specs.View.{Words, view, members_view}
use Rattle.sig_json.specs.declared.tree.Tree.{Tree}

-- ---- a place after the last

pub behind_none : (name : List ℕ) (es : List Entry) → length es ≡ 0 → IsPlaceOf name es (Err (length es))
behind_none name es none =
    (omega arith, ((λ i d from within. absurd (omega arith)), (λ i d from within. absurd (omega arith))))

pub behind_last : (name : List ℕ) (es : List Entry) (count : ℕ) (last : Entry) → InOrder es → count ≡ length es
    → (count ≡ 0 → ⊥) → last ≡ get_or es (count - 1) last
    → true ≡ is_lt (slice_cmp nat_cmp (cow_str_bytes last.0) name) → IsPlaceOf name es (Err (length es))
behind_last name es count last up all some is below = (
  omega arith,
  ((λ i d from within. lesser i d (omega arith)), (λ i d from within. absurd (omega arith))),
) where
  last_below : (d : Entry) → 0 < count → slice_cmp nat_cmp (cow_str_bytes (get_or es (count - 1) d).0) name ≡ Less
  last_below d any =
      subst (λ e. slice_cmp nat_cmp (cow_str_bytes e.0) name ≡ Less)
      (is ∙ get_or_default es (count - 1) last d (omega arith)) (less_from_is_lt _ below)

  lesser : (i : ℕ) (d : Entry) → i < count → slice_cmp nat_cmp (cow_str_bytes (get_or es i d).0) name ≡ Less
  lesser i d within =
      elim (cases_lt i (count - 1)) [
        | inl before ↦ nat_list_cmp_total.trans _ _ name (ascend_by_place es i (count - 1) d up before (omega arith))
            (last_below d (omega arith))
        | inr here ↦ let same : i ≡ count - 1 = omega arith in rw same (last_below d (omega arith))
      ]

pub ruleset behind = (behind_none, behind_last)

-- the place of the last, or the one after it, by a comparison with the last
pub first_of_none : (name : List ℕ) (es : List Entry) → length es ≡ 0 → IsPlaceOf name es (Err 0)
first_of_none name es none =
    (omega arith, ((λ i d from within. absurd (omega arith)), (λ i d from within. absurd (omega arith))))

pub above_last : (name : List ℕ) (es : List Entry) (count : ℕ) (last : Entry) → InOrder es → count ≡ length es
    → (count ≡ 0 → ⊥) → last ≡ get_or es (count - 1) last
    → slice_cmp nat_cmp (cow_str_bytes last.0) name ≡ Less → IsPlaceOf name es (Err count)
above_last name es count last up all some is below =
    rw all (behind_last name es (length es) last up refl (λ none. some (all ∙ none)) (subst (λ n. last ≡ get_or es (n - 1) last) all is) (sym (ap is_lt below)))

pub same_as_last : (name : List ℕ) (es : List Entry) (count : ℕ) (last : Entry) → count ≡ length es
    → (count ≡ 0 → ⊥) → last ≡ get_or es (count - 1) last
    → slice_cmp nat_cmp (cow_str_bytes last.0) name ≡ Equal → IsPlaceOf name es (Ok (count - 1))
same_as_last name es count last all some is tie = (
  omega arith,
  λ d. subst (λ e. slice_cmp nat_cmp (cow_str_bytes e.0) name ≡ Equal)
      (is ∙ get_or_default es (count - 1) last d (omega arith)) tie,
)

pub ruleset from_last = (first_of_none, above_last, same_as_last)

-- ---- one member more

pub inserted_behind : (es : List Entry) (place : ℕ) (e : Entry) → place ≡ length es
    → es ++ e ∷ [] ≡ insert es place e
inserted_behind [] zero e end = refl
inserted_behind [] (suc place) e end = absurd (omega arith)
inserted_behind (first ∷ es) zero e end = absurd (omega arith)
inserted_behind (first ∷ es) (suc place) e end = ap (λ more. first ∷ more) (inserted_behind es place e (omega arith))

pub few_more : (es others : List Entry) (name : Words) (value : Tree) → AreInOrderIfFew es → length es < few
    → members_view others ≡ put (cow_str_bytes name) (view value) (members_view es)
    → gathered others ≡ put (cow_str_bytes name) (view value) (gathered es)
few_more es others name value up below is =
    let before = up (omega arith) in
    sym (ascending_stay others (in_order-put es others _ _ before is)) ∙ is
    ∙ ap (put (cow_str_bytes name) (view value)) (ascending_stay es before)

pub few_stay : (es others : List Entry) (name : Words) (value : Tree) → AreInOrderIfFew es → length es < few
    → members_view others ≡ put (cow_str_bytes name) (view value) (members_view es) → AreInOrderIfFew others
few_stay es others name value up below is = λ any. in_order-put es others _ _ (up (omega arith)) is

-- one that was put after them
pub behind_stay : (es others : List Entry) (name : Words) (value : Tree) → AreInOrderIfFew es
    → (length es < few → InOrder es → IsPlaceOf (cow_str_bytes name) es (Err (length es)))
    → others ≡ es ++ (name, value) ∷ [] → AreInOrderIfFew others
behind_stay es others name value up goes is any =
    let fewer : length es < few = omega (arith, ap length is, length-append es ((name, value) ∷ [])) in
    let before = up (omega arith) in
    in_order-put es others (cow_str_bytes name) (view value) before
    (ap members_view (is ∙ inserted_behind es (length es) (name, value) refl)
    ∙ put_between name es (length es) value (goes fewer before))

pub many_more : (es others : List Entry) (name : Words) (value : Tree) → others ≡ es ++ (name, value) ∷ []
    → gathered others ≡ put (cow_str_bytes name) (view value) (gathered es)
many_more es others name value is = ap gathered is ∙ gathered_more es (name, value) no_members

pub ruleset added = (few_more, few_stay, behind_stay, many_more)
