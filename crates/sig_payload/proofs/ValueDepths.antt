-- How deep values nest: an element and a member nest less deep than what they are in.
use Rattle.std.proofs.Common.{◌≡◌, ◌≤◌, ◌<◌, ℕ, zero, suc, List, [], ◌∷◌, Some, refl, arith}
use Rattle.std.specs.Prelude.{max}
use Rattle.sig_json.specs.Data.{Data, Items, no_items, item, Members, no_members, member, depth, items_depth}
use Rattle.sig_json.specs.Data.{members_depth, null, boolean, number, string, array, object}
use Rattle.sig_json.specs.Find.{at, get_item}
use Rattle.sig_json.specs.Members.{members_list, members_of}

abbrev Named : Type 0
Named = List ℕ × Data

abbrev pub deepest : List Named → ℕ
deepest [] = 0
deepest (m ∷ ms) = max (depth m.1) (deepest ms)

deepest_list : (ms : Members) → deepest (members_list ms) ≡ members_depth ms
deepest_list no_members = refl
deepest_list (member k d ms) = rw (deepest_list ms) refl

-- the members of an object
pub members_below : (d : Data) (ms : List Named) → Some ms ≡ members_of d → deepest ms < depth d
members_below null ms is = absurd cc
members_below (boolean b) ms is = absurd cc
members_below (number n) ms is = absurd cc
members_below (string s) ms is = absurd cc
members_below (array ds) ms is = absurd cc
members_below (object members) ms is =
    let same : ms ≡ members_list members = cc in
    let deep = deepest_list members in
    rw (same, deep) (omega arith)

-- the first of the members that are left, and the others
pub first_below : (ms rest : List Named) (m : Named) → ms ≡ m ∷ rest → depth m.1 ≤ deepest ms
first_below ms rest m is = rw is (omega arith)

pub others_below : (ms rest : List Named) (m : Named) → ms ≡ m ∷ rest → deepest rest ≤ deepest ms
others_below ms rest m is = rw is (omega arith)

-- an element of a list
item_below : (place : ℕ) (ds : Items) (d : Data) → Some d ≡ get_item place ds → depth d ≤ items_depth ds
item_below place no_items d is = absurd cc
item_below zero (item e ds) d is = let same : d ≡ e = cc in rw same (omega arith)
item_below (suc place) (item e ds) d is = let below = item_below place ds d is in omega arith

pub element_below : (place : ℕ) (list d : Data) → Some d ≡ at place list → depth d < depth list
element_below place null d is = absurd cc
element_below place (boolean b) d is = absurd cc
element_below place (number n) d is = absurd cc
element_below place (string s) d is = absurd cc
element_below place (array ds) d is = let below = item_below place ds d is in omega arith
element_below place (object ms) d is = absurd cc

pub ruleset nesting = (members_below, first_below, others_below, element_below)
