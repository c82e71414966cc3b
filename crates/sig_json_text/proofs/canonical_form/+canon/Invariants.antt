use Rattle.std.proofs.Common.{◌≡◌, ◌+◌, ◌*◌, drop, map, string_bytes}
use Rattle.std.specs.Prelude.{codes}
use Rattle.serde_json.specs.Data.{depth, items_depth, members_depth}
use Rattle.sig_json.specs.View.{view, items_view, members_view}
use Rattle.sig_json_text.specs.Canonical.{canon_items}
use Rattle.sig_json_text.specs.Writes.{pair_of, texts_in_turn}
use Rattle.sig_json_text.proofs.MemberTexts.{deepest, whole, with_left}
use Rattle.sig_json_text.proofs.canonical_form.+canon.Given as goal

-- the parts of a value are below it
abbrev pub decreases-write_value : goal.decreases-write_value
decreases-write_value l = 4 * depth (view l.value.now)

abbrev pub decreases-write_list : goal.decreases-write_list
decreases-write_list l = 4 * items_depth (items_view l.items.now.items) + 1

abbrev pub decreases-write_object : goal.decreases-write_object
decreases-write_object l = 4 * members_depth (members_view l.members.now.items) + 3

abbrev pub decreases-write_members : goal.decreases-write_members
decreases-write_members l = 4 * deepest (map pair_of l.members.now.items) + 2

abbrev pub decreases-write_member : goal.decreases-write_member
decreases-write_member l = 4 * depth (view l.member.now.value.now) + 1

-- what is written and the parts that are left make the list
abbrev pub invariant-write_list-items : goal.invariant-write_list-items
invariant-write_list-items l =
    whole (string_bytes l.fn.out) (codes "[") (codes "]") (canon_items (items_view l.fn.items.items))
    ≡ with_left (string_bytes l.out) (codes "]") l.place (canon_items (items_view (drop l.place l.fn.items.items)))

-- what is written and the parts that are left make the object
abbrev pub invariant-write_members-members : goal.invariant-write_members-members
invariant-write_members-members l =
    whole (string_bytes l.fn.out) (codes "{") (codes "}") (texts_in_turn (map pair_of l.fn.members.items))
    ≡ with_left (string_bytes l.out) (codes "}") l.place
    (texts_in_turn (map pair_of (drop l.place l.fn.members.items)))
