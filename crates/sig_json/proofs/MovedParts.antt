-- Lists and objects that are moved part by part, from the end of a vector that was reversed.
use Rattle.std.proofs.Common.{◌≡◌, ◌≤◌, ℕ, List, [], ◌∷◌, ◌++◌, map, reverse}
use Rattle.std.proofs.Common.{refl, sym, ap, ◌∙◌, subst, append_assoc, append-nil, arith}
use Rattle.std.proofs.lemmas.List.{map-append, reverse-append, reverse-reverse}
use Rattle.serde_json.specs.Data.{Data, Members, no_members, member, depth, items_depth, members_depth}
use Rattle.serde_json.specs.View.{items_of}
use Rattle.sig_json.proofs.Copies.{members_from_seen}
use Rattle.sig_json.specs.Gathered.{Entry, seen}
use Rattle.sig_json.specs.View.{view, items_view, members_view}
use Rattle.sig_json.specs.declared.tree.Tree.{Tree}

-- what was moved, and what is left in reverse, is all
abbrev pub Moved : {A B : Type 0} → (A → B) → List A → List A → List A → Type 0
Moved f all done left = map f done ++ map f (reverse left) ≡ map f all

module _ {A B : Type 0} (f : A → B) (all done : List A) where
  start : (left : List A) → done ≡ [] → left ≡ reverse all → Moved f all done left
  start left none turned = rw (none, turned) (ap (map f) (reverse-reverse all))

  end : (left : List A) → Moved f all done left → left ≡ [] → map f done ≡ map f all
  end left so_far none =
      sym (append-nil (map f done)) ∙ ap (λ xs. map f done ++ map f (reverse xs)) (sym none) ∙ so_far

  module _ (left rest : List A) (one : A) (so_far : Moved f all done left) (popped : left ≡ rest ++ one ∷ []) where
    parts : map f done ++ f one ∷ map f (reverse rest) ≡ map f all
    parts =
        ap (λ xs. map f done ++ map f xs) (sym (reverse-append rest (one ∷ [])) ∙ ap reverse (sym popped)) ∙ so_far

    step : (more : List A) (moved : A) → more ≡ done ++ moved ∷ [] → f moved ≡ f one → Moved f all more rest
    step more moved pushed same =
        ap (λ xs. map f xs ++ map f (reverse rest)) pushed
        ∙ ap (λ xs. xs ++ map f (reverse rest)) (map-append f done (moved ∷ []))
        ∙ append_assoc (map f done) (f moved ∷ []) (map f (reverse rest))
        ∙ ap (λ y. map f done ++ y ∷ map f (reverse rest)) same ∙ parts

-- ---- lists

pub items_start : (all done left : List Tree) → done ≡ [] → left ≡ reverse all → Moved view all done left
items_start = start view

pub items_step : (all done left rest more : List Tree) (one moved : Tree) → Moved view all done left
    → left ≡ rest ++ one ∷ [] → more ≡ done ++ moved ∷ [] → view moved ≡ view one → Moved view all more rest
items_step all done left rest more one moved so_far popped = step view all done left rest one so_far popped more moved

pub items_end : (all done left : List Tree) → Moved view all done left → left ≡ [] → items_view done ≡ items_view all
items_end all done left so_far none = ap items_of (end view all done left so_far none)

in_items : (before : List Data) (d : Data) (after : List Data) → depth d ≤ items_depth (items_of (before ++ d ∷ after))
in_items [] d after = omega arith
in_items (x ∷ xs) d after = omega (arith, in_items xs d after)

pub items_within : (all done left rest : List Tree) (one : Tree) → Moved view all done left → left ≡ rest ++ one ∷ []
    → depth (view one) ≤ items_depth (items_view all)
items_within all done left rest one so_far popped =
    subst (λ ds. depth (view one) ≤ items_depth (items_of ds)) (parts view all done left rest one so_far popped)
    (in_items (map view done) (view one) (map view (reverse rest)))

pub ruleset moved_items = (items_start, items_step, items_end, items_within)

-- ---- objects

pub members_start : (all done left : List Entry) → done ≡ [] → left ≡ reverse all → Moved seen all done left
members_start = start seen

pub members_step : (all done left rest more : List Entry) (one moved : Entry) → Moved seen all done left
    → left ≡ rest ++ one ∷ [] → more ≡ done ++ moved ∷ [] → seen moved ≡ seen one → Moved seen all more rest
members_step all done left rest more one moved so_far popped =
    step seen all done left rest one so_far popped more moved

pub members_end : (all done left : List Entry) → Moved seen all done left → left ≡ []
    → members_view done ≡ members_view all
members_end all done left so_far none = members_from_seen done all (end seen all done left so_far none)

abbrev seen_members : List (List ℕ × Data) → Members
seen_members [] = no_members
seen_members (m ∷ ms) = member m.0 m.1 (seen_members ms)

members_seen : (es : List Entry) → members_view es ≡ seen_members (map seen es)
members_seen [] = refl
members_seen (e ∷ es) = ap (member (seen e).0 (seen e).1) (members_seen es)

in_members : (before : List (List ℕ × Data)) (m : List ℕ × Data) (after : List (List ℕ × Data))
    → depth m.1 ≤ members_depth (seen_members (before ++ m ∷ after))
in_members [] m after = omega arith
in_members (x ∷ xs) m after = omega (arith, in_members xs m after)

pub members_within : (all done left rest : List Entry) (one : Entry) → Moved seen all done left
    → left ≡ rest ++ one ∷ [] → depth (view one.1) ≤ members_depth (members_view all)
members_within all done left rest one so_far popped =
    rw (members_seen all)
    (subst (λ ms. depth (view one.1) ≤ members_depth (seen_members ms))
    (parts seen all done left rest one so_far popped) (in_members (map seen done) (seen one) (map seen (reverse rest))))

pub ruleset moved_members = (members_start, members_step, members_end, members_within)
