-- An object's texts go into a map in the order of their names, so each goes after those before it.
use Rattle.std.proofs.Common.{◌≡◌, ℕ, List, [], ◌∷◌, ◌++◌, map, Option, Some, None, refl}
use Rattle.std.proofs.Common.{sym, ap, subst, ◌∙◌, append_assoc, append-nil}
use Rattle.std.specs.Cow.{cow_str_bytes}
use Rattle.std.specs.Ordering.{nat_cmp}
use Rattle.std.specs.Cmp.Lexicographic.{slice_cmp}
use Rattle.std.specs.List.Sorted.{IsStrictlySortedBy}
use Rattle.std.specs.Map.{keys_of}
use Rattle.std.specs.Option.{option_and_then}
use Rattle.serde_json.specs.Data.{Data}
use Rattle.serde_json.specs.Find.{as_str}
use Rattle.sig_json.specs.View.{Words, view, members_view}
use Rattle.sig_json.specs.declared.tree.Tree.{Tree}
use Rattle.sig_base.specs.ByText.{text_put, KeysAscend}
use Rattle.sig_base.proofs.Texts.{text_put-next}
use Rattle.sig_json.specs.Gathered.{Entry, InOrder}
use Rattle.sig_json.specs.Kinds.{text_of, texts_by_name}
use Rattle.sig_json.specs.Members.{members_list}

abbrev Texts : Type 0
Texts = List (List ℕ × List ℕ)

-- the texts so far, and those of the members that are left
abbrev pub with_texts : Texts → List (List ℕ × Data) → Option Texts
with_texts texts left = option_and_then (λ rest. Some (texts ++ rest)) (texts_by_name left)

-- the names of what is left
abbrev pub named : List Entry → Texts
named left = map (λ m. (cow_str_bytes m.0, [])) left

pub with_texts-none : (left : List (List ℕ × Data)) → texts_by_name left ≡ with_texts [] left
with_texts-none left = nothing_before (texts_by_name left) where
  nothing_before : (found : Option Texts) → found ≡ option_and_then (λ rest. Some ([] ++ rest)) found
  nothing_before None = refl
  nothing_before (Some texts) = refl

pub with_texts-all : (texts : Texts) → with_texts texts [] ≡ Some texts
with_texts-all texts = ap Some (append-nil texts)

one_more : (texts : Texts) (e : List ℕ × List ℕ) (found : Option Texts)
    → option_and_then (λ rest. Some (texts ++ rest)) (option_and_then (λ others. Some (e ∷ others)) found)
    ≡ option_and_then (λ rest. Some ((texts ++ e ∷ []) ++ rest)) found
one_more texts e None = refl
one_more texts e (Some rest) = ap Some (sym (append_assoc texts (e ∷ []) rest))

same_keys : (texts : Texts) (name one other : List ℕ) (rest : Texts)
    → keys_of (texts ++ (name, one) ∷ rest) ≡ keys_of (texts ++ (name, other) ∷ rest)
same_keys [] name one other rest = refl
same_keys (t ∷ texts) name one other rest = ap (λ ks. t.0 ∷ ks) (same_keys texts name one other rest)

named-keys : (es : List Entry) → keys_of (members_list (members_view es)) ≡ keys_of (named es)
named-keys [] = refl
named-keys (e ∷ es) = ap (λ ks. cow_str_bytes e.0 ∷ ks) (named-keys es)

pub ascend-named : (es : List Entry) → InOrder es → KeysAscend (named es)
ascend-named es up = subst (IsStrictlySortedBy (slice_cmp nat_cmp)) (named-keys es) up

-- the members so far are texts of ascending names, and those that are left decide
pub record SoFar (all left : List Entry) (texts : Texts) : Type 0 where
  pub meant : texts_by_name (members_list (members_view all)) ≡ with_texts texts (members_list (members_view left))
  pub order : KeysAscend (texts ++ named left)

pub start_of : (all left : List Entry) (texts : Texts) → InOrder all → left ≡ all → texts ≡ []
    → SoFar all left texts
start_of all left texts up whole none =
    rw (whole, none) (record {
      meant = with_texts-none (members_list (members_view all));
      order = ascend-named all up;
    })

pub step_of :
    (all left after : List Entry) (name : Words) (value : Tree) (texts more : Texts)
    (text : List ℕ)
    → SoFar all left texts → left ≡ (name, value) ∷ after → Some text ≡ as_str (view value)
    → more ≡ text_put (cow_str_bytes name) text texts → SoFar all after more
unfolding text_of
step_of all left after name value texts more text so_far next is put =
    let up : KeysAscend (texts ++ (cow_str_bytes name, []) ∷ named after) =
    subst (λ l. KeysAscend (texts ++ named l)) next so_far.order in
    let here : KeysAscend (texts ++ (cow_str_bytes name, text) ∷ named after) =
    subst (IsStrictlySortedBy (slice_cmp nat_cmp)) (same_keys texts (cow_str_bytes name) [] text (named after))
    up in
    let pushed : more ≡ texts ++ (cow_str_bytes name, text) ∷ [] =
    put ∙ text_put-next texts (cow_str_bytes name, text) (named after) here in
    record {
      meant =
          so_far.meant ∙ rw (next, sym is, pushed)
          (one_more texts (cow_str_bytes name, text) (texts_by_name (members_list (members_view after))));
      order = rw (pushed, append_assoc texts ((cow_str_bytes name, text) ∷ []) (named after)) here;
    }

pub refused_of : (all left after : List Entry) (name : Words) (value : Tree) (texts : Texts)
    → SoFar all left texts → left ≡ (name, value) ∷ after → None ≡ as_str (view value)
    → texts_by_name (members_list (members_view all)) ≡ None
unfolding text_of
refused_of all left after name value texts so_far next is = so_far.meant ∙ rw (next, sym is) refl

pub end_of : (all left : List Entry) (texts : Texts) → SoFar all left texts → left ≡ []
    → texts_by_name (members_list (members_view all)) ≡ Some texts
end_of all left texts so_far none = so_far.meant ∙ rw none (with_texts-all texts)

pub ruleset text_maps = (start_of, step_of, refused_of, end_of)
