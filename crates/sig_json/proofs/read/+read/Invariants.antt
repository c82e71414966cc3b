use Rattle.std.proofs.Common.{◌+◌, ◌*◌, length}
use Rattle.sig_json.proofs.Tokens.{ListSoFar, ObjectSoFar}
use Rattle.sig_json.specs.Gathered.{AreInOrderIfFew}
use Rattle.sig_json.proofs.read.+read.Given as goal

-- a value is read one level further down than what holds it, and each turn takes a token
abbrev pub decreases-read_value : goal.decreases-read_value
decreases-read_value l = 2 * l.depth

abbrev pub decreases-read_items : goal.decreases-read_items
decreases-read_items l = 2 * l.depth + 1

abbrev pub decreases-read_all_members : goal.decreases-read_all_members
decreases-read_all_members l = 2 * l.depth + 1

abbrev pub invariant-read_items-items : goal.invariant-read_items-items
invariant-read_items-items l = ListSoFar l.depth l.initial.reader l.reader l.found.items

abbrev pub decreases-read_items-items : goal.decreases-read_items-items
decreases-read_items-items l = length l.reader

abbrev pub invariant-read_all_members-members : goal.invariant-read_all_members-members
invariant-read_all_members-members l =
    ObjectSoFar l.depth l.initial.reader l.reader l.found.items × AreInOrderIfFew l.found.items

abbrev pub decreases-read_all_members-members : goal.decreases-read_all_members-members
decreases-read_all_members-members l = length l.reader
