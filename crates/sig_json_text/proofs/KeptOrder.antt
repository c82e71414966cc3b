-- The members of each object come in order in its canonical text, at every depth, where the names of each object of
-- the tree ascend.
use Rattle.std.proofs.Common.{◌≡◌, ℕ, List, [], ◌∷◌, ◌++◌, Some, option_map, sym, subst, ap, ◌∙◌}
use Rattle.std.proofs.lemmas.Iterator.Adapters.{option_map_id}
use Rattle.sig_base.proofs.OptionSteps.{bind_is, some_is}
use Rattle.serde_json.specs.Data.{Data, null, boolean, number, string, array, object, Items, no_items, item}
use Rattle.serde_json.specs.Data.{Members, no_members, member}
use Rattle.sig_json.proofs.NamedTrees.{names_differ}
use Rattle.sig_json.specs.NamedTree.{IsNamedTree, AreNamed, HasNamedValues}
use Rattle.sig_json_text.proofs.MemberOrder.{object_exact}
use Rattle.sig_json_text.specs.Canonical.{Sorted, canon, canon_items, in_brackets}
use Rattle.sig_json_text.specs.Order.{KeepsOrder, InTurn, ValuesKeepOrder, member_texts}

mutual
  pub keeps_order : (d : Data) (text : List ℕ) → IsNamedTree d → canon d ≡ Some text → KeepsOrder d text
  keeps_order null text named is = tt
  keeps_order (boolean b) text named is = tt
  keeps_order (number n) text named is = tt
  keeps_order (string s) text named is = tt
  keeps_order (array ds) text named is =
      let parts = bind_is (canon_items ds) _ text is in
      (parts.0, in_turn ds parts.0 named parts.1, some_is text (in_brackets parts.0) (sym parts.2))
  keeps_order (object ms) text named is =
      let order = (object_exact ms (names_differ ms named.0) text).0 is in
      (order, values_keep_order ms order.1.texts named.1 order.1.are)

  in_turn : (ds : Items) (texts : List (List ℕ)) → AreNamed ds → canon_items ds ≡ Some texts → InTurn ds texts
  in_turn no_items [] named are = tt
  in_turn no_items (text ∷ texts) named are = absurd cc
  in_turn (item d ds) texts named are =
      let first = bind_is (canon d) _ texts are in
      let rest = bind_is (canon_items ds) _ texts first.2 in
      subst (InTurn (item d ds)) (some_is (first.0 ∷ rest.0) texts rest.2)
      (first.1, keeps_order d first.0 named.0 first.1, in_turn ds rest.0 named.1 rest.1)

  values_keep_order : (ms : Members) (texts : Sorted) → HasNamedValues ms → member_texts ms ≡ Some texts
      → ValuesKeepOrder ms
  values_keep_order no_members texts named are = tt
  values_keep_order (member name d ms) texts named are =
      let first = bind_is (canon d) _ texts are in
      let rest = bind_is (member_texts ms) _ texts first.2 in
      ((first.0, first.1, keeps_order d first.0 named.0 first.1), values_keep_order ms rest.0 named.1 rest.1)

-- what is written on an empty text
pub written_in_order : (d : Data) (before after text : List ℕ) → IsNamedTree d → before ≡ []
    → option_map (λ text. before ++ text) (canon d) ≡ Some after → text ≡ after → KeepsOrder d text
written_in_order d before after text named none written is =
    let same : canon d ≡ Some after = sym (option_map_id (canon d)) ∙ rw none at written in
    keeps_order d text named (same ∙ ap Some (sym is))
