use Rattle.std.proofs.Common.{◌+◌, ◌*◌}
use Rattle.serde_json.specs.Data.{depth, items_depth, members_depth}
use Rattle.sig_json_text.proofs.CompactTexts.{ListWritten, ObjectWritten}
use Rattle.sig_json.specs.View.{view, items_view, members_view}
use Rattle.sig_json_text.proofs.compact_form.+write.Given as goal

-- the parts of a value are below it
abbrev pub decreases-write_value : goal.decreases-write_value
decreases-write_value l = 2 * depth (view l.value.now)

abbrev pub decreases-write_items : goal.decreases-write_items
decreases-write_items l = 2 * items_depth (items_view l.items.now.items) + 1

abbrev pub decreases-write_members : goal.decreases-write_members
decreases-write_members l = 2 * members_depth (members_view l.members.now.items) + 1

abbrev pub invariant-write_items-items : goal.invariant-write_items-items
invariant-write_items-items l = ListWritten l.fn.out l.fn.items.items l.item-index l.out

abbrev pub invariant-write_members-members : goal.invariant-write_members-members
invariant-write_members-members l = ObjectWritten l.fn.out l.fn.members.items l.member-index l.out
