-- `same_tree` decides whether trees are equal, where the one has no float. The laws of `==` at documents cite this.
use Rattle.std.proofs.Common.{◌≡◌, ◌↔◌, ◌&&◌, true, false, true≢false, IsTrue, refl, sym, subst, ap, ap₂, ◌∙◌}
use Rattle.std.proofs.lemmas.Bool.{and_parts, and_from, or_parts}
use Rattle.std.proofs.lemmas.Bool.Decides.{Decides-eqb, Decides-int_eq, same_from_decides}
use Rattle.std.proofs.lemmas.Slice.Eq.{bytes_eq-Decides}
use Rattle.std.specs.Bool.{Decides}
use Rattle.std.specs.Cmp.{IsEquivalence, booleans_Decides}
use Rattle.std.specs.Str.{bytes_eq}
use Rattle.serde_json.specs.Data.{Num, unsigned, negative, float, Data, null, boolean, number, string, array, object}
use Rattle.serde_json.specs.Data.{Items, no_items, item, Members, no_members, member}
use Rattle.serde_json.specs.Find.{is_float}
use Rattle.serde_json.specs.Written.{has_float, items_have_float, members_have_float}
use Rattle.sig_json.specs.SameTree.{same_number, same_tree, same_items, same_members}
use Rattle.sig_json.specs.Tree.{document_tree}
use Rattle.sig_json.specs.declared.document.Document.{Document}

-- ---- the same, so equal

same_number_is : (m n : Num) → same_number m n ≡ true → m ≡ n
same_number_is (unsigned m) (unsigned n) same = ap unsigned ((Decides-eqb m n).0 same)
same_number_is (negative x) (negative y) same = ap negative ((Decides-int_eq x y).0 same)
same_number_is m n same = absurd (true≢false (sym same))

mutual
  same_tree_is : (d e : Data) → same_tree d e ≡ true → d ≡ e
  same_tree_is null null same = refl
  same_tree_is (boolean a) (boolean b) same = ap boolean ((booleans_Decides a b).0 same)
  same_tree_is (number m) (number n) same = ap number (same_number_is m n same)
  same_tree_is (string s) (string t) same = ap string ((bytes_eq-Decides s t).0 same)
  same_tree_is (array ds) (array es) same = ap array (same_items_is ds es same)
  same_tree_is (object ms) (object ns) same = ap object (same_members_is ms ns same)
  same_tree_is d e same = absurd (true≢false (sym same))

  same_items_is : (ds es : Items) → same_items ds es ≡ true → ds ≡ es
  same_items_is no_items no_items same = refl
  same_items_is (item d ds) (item e es) same =
      let parts = and_parts (same_tree d e) (same_items ds es) same in
      ap₂ item (same_tree_is d e parts.0) (same_items_is ds es parts.1)
  same_items_is ds es same = absurd (true≢false (sym same))

  same_members_is : (ms ns : Members) → same_members ms ns ≡ true → ms ≡ ns
  same_members_is no_members no_members same = refl
  same_members_is (member k d ms) (member l e ns) same =
      let parts = and_parts (bytes_eq k l) (same_tree d e && same_members ms ns) same in
      let values = and_parts (same_tree d e) (same_members ms ns) parts.1 in
      ap (λ name. member name d ms) ((bytes_eq-Decides k l).0 parts.0)
      ∙ ap₂ (member l) (same_tree_is d e values.0) (same_members_is ms ns values.1)
  same_members_is ms ns same = absurd (true≢false (sym same))

-- ---- a tree without floats is the same as itself

same_number_itself : (n : Num) → is_float n ≡ false → same_number n n ≡ true
same_number_itself (unsigned n) whole = (Decides-eqb n n).1 refl
same_number_itself (negative z) whole = (Decides-int_eq z z).1 refl
same_number_itself (float x) whole = absurd (true≢false whole)

mutual
  same_tree_itself : (d : Data) → has_float d ≡ false → same_tree d d ≡ true
  same_tree_itself null whole = refl
  same_tree_itself (boolean b) whole = (booleans_Decides b b).1 refl
  same_tree_itself (number n) whole = same_number_itself n whole
  same_tree_itself (string s) whole = (bytes_eq-Decides s s).1 refl
  same_tree_itself (array ds) whole = same_items_itself ds whole
  same_tree_itself (object ms) whole = same_members_itself ms whole

  same_items_itself : (ds : Items) → items_have_float ds ≡ false → same_items ds ds ≡ true
  same_items_itself no_items whole = refl
  same_items_itself (item d ds) whole =
      let parts = or_parts (has_float d) (items_have_float ds) whole in
      and_from (same_tree d d) (same_items ds ds) (same_tree_itself d parts.0) (same_items_itself ds parts.1)

  same_members_itself : (ms : Members) → members_have_float ms ≡ false → same_members ms ms ≡ true
  same_members_itself no_members whole = refl
  same_members_itself (member k d ms) whole =
      let parts = or_parts (has_float d) (members_have_float ms) whole in
      and_from (bytes_eq k k) (same_tree d d && same_members ms ms) ((bytes_eq-Decides k k).1 refl)
      (and_from (same_tree d d) (same_members ms ms) (same_tree_itself d parts.0) (same_members_itself ms parts.1))

pub same_tree_exact : (one other : Data) → has_float one ≡ false → IsTrue (same_tree one other) ↔ (one ≡ other)
same_tree_exact one other whole =
    (same_tree_is one other, (λ same. subst (λ tree. same_tree one tree ≡ true) same (same_tree_itself one whole)))

-- ---- documents

pub documents_equiv : IsEquivalence (λ (one other : Document). same_tree (document_tree one) (document_tree other))
documents_equiv =
    record {
      refl = λ one. same_tree_itself (document_tree one) one.without_float;
      symm = λ one other. same_from_decides _ _ (tells one other) (turned other one);
      congr = λ one other third same. ap (λ tree. same_tree tree (document_tree third)) ((tells one other).0 same);
    } where
      tells : (one other : Document)
          → Decides (same_tree (document_tree one) (document_tree other)) (document_tree one ≡ document_tree other)
      tells one other = same_tree_exact (document_tree one) (document_tree other) one.without_float

      turned : (one other : Document)
          → Decides (same_tree (document_tree one) (document_tree other)) (document_tree other ≡ document_tree one)
      turned one other = ((λ same. sym ((tells one other).0 same)), (λ same. (tells one other).1 (sym same)))
