use Rattle.std.proofs.Common.{◌≡◌, map, take}
use Rattle.sig_json.specs.Gathered.{seen}
use Rattle.sig_json.specs.View.{view}
use Rattle.sig_json.proofs.copy.+copy.Given as goal

-- the copies so far are of the parts so far
abbrev pub invariant-copy_items-loop-item : goal.invariant-copy_items-loop-item
invariant-copy_items-loop-item l = map view l.copies.items ≡ map view (take l.item-index l.item-items)

abbrev pub invariant-copy_members-loop-member : goal.invariant-copy_members-loop-member
invariant-copy_members-loop-member l = map seen l.copies.items ≡ map seen (take l.member-index l.member-items)
