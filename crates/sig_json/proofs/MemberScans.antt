-- A member that is looked for by its name from the first member on.
use Rattle.std.proofs.Common.{◌≡◌, ℕ, ◌+◌, ◌<◌, List, length, drop, get_or, Option, Some, None, true, false}
use Rattle.std.proofs.Common.{refl, sym, ap, ◌∙◌}
use Rattle.std.proofs.lemmas.Cmp.{nat_list_cmp_total, tied_itself}
use Rattle.std.proofs.lemmas.Slice.Eq.{bytes_eq-Decides}
use Rattle.std.specs.Cow.{cow_str_bytes}
use Rattle.std.specs.Cmp.Lexicographic.{slice_cmp}
use Rattle.std.specs.Ordering.{nat_cmp, match_ordering}
use Rattle.std.specs.Str.{bytes_eq}
use Rattle.std.specs.declared.cmp.Ordering.TheVariants.{Less, Equal, Greater}
use Rattle.serde_json.specs.Data.{Data, Members, member}
use Rattle.serde_json.specs.Find.{get_member}
use Rattle.sig_json.proofs.Lists.{members_from, none_left}
use Rattle.sig_json.proofs.OrderedMembers.{same_from_tie}
use Rattle.sig_json.specs.Gathered.{Entry}
use Rattle.sig_json.specs.View.{view, members_view}

own_name : (name other : List ℕ) (d : Data) (ms : Members) → true ≡ bytes_eq other name
    → get_member name (member other d ms) ≡ Some d
own_name name other d ms same =
    let one : other ≡ name = (bytes_eq-Decides other name).0 (sym same) in
    rw (one, tied_itself nat_list_cmp_total name) refl

other_name : (name other : List ℕ) (d : Data) (ms : Members) → false ≡ bytes_eq other name
    → get_member name (member other d ms) ≡ get_member name ms
other_name name other d ms differ =
    elim (slice_cmp nat_cmp name other) as
    (λ o. slice_cmp nat_cmp name other ≡ o
    → match_ordering o (get_member name ms) (Some d) (get_member name ms) ≡ get_member name ms) [
      | Less ↦ λ is. refl
      | Equal ↦ λ is. let same = (bytes_eq-Decides other name).1 (sym (same_from_tie name other is)) in absurd cc
      | Greater ↦ λ is. refl
    ] refl

pub scanned_here : (found : Option Data) (name : List ℕ) (es : List Entry) (i : ℕ) (e : Entry) → i < length es
    → e ≡ get_or es i e → true ≡ bytes_eq (cow_str_bytes e.0) name
    → found ≡ get_member name (members_view (drop i es)) → Some (view e.1) ≡ found
scanned_here found name es i e h is same so_far =
    sym (so_far ∙ ap (get_member name) (members_from es i e h is) ∙ own_name name (cow_str_bytes e.0) _ _ same)

pub scanned_more : (found : Option Data) (name : List ℕ) (es : List Entry) (i : ℕ) (e : Entry) → i < length es
    → e ≡ get_or es i e → false ≡ bytes_eq (cow_str_bytes e.0) name
    → found ≡ get_member name (members_view (drop i es)) → found ≡ get_member name (members_view (drop (i + 1) es))
scanned_more found name es i e h is differ so_far =
    so_far ∙ ap (get_member name) (members_from es i e h is) ∙ other_name name (cow_str_bytes e.0) _ _ differ

pub scanned_all : (found : Option Data) (name : List ℕ) (es : List Entry) (i : ℕ) → i ≡ length es
    → found ≡ get_member name (members_view (drop i es)) → None ≡ found
scanned_all found name es i end so_far =
    sym (so_far ∙ ap (λ left. get_member name (members_view left)) (none_left es i end))

pub ruleset scanned = (scanned_here, scanned_more, scanned_all)
