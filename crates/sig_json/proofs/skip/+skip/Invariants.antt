use Rattle.std.proofs.Common.{◌+◌, ◌*◌, [], length}
use Rattle.sig_json.proofs.KeptMembers.{KeptSoFar}
use Rattle.sig_json.proofs.SkippedValues.{ItemsPassed}
use Rattle.sig_json.proofs.skip.+skip.Given as goal

-- a value is passed over one level further down than what holds it, and each turn takes a token
abbrev pub decreases-skip_value : goal.decreases-skip_value
decreases-skip_value l = 3 * l.depth + 1

abbrev pub decreases-skip_after : goal.decreases-skip_after
decreases-skip_after l = 3 * l.depth

abbrev pub decreases-skip_items : goal.decreases-skip_items
decreases-skip_items l = 3 * l.depth + 2

abbrev pub decreases-skip_members : goal.decreases-skip_members
decreases-skip_members l = 3 * l.depth + 2

abbrev pub invariant-skip_items-items : goal.invariant-skip_items-items
invariant-skip_items-items l = ItemsPassed l.float l.depth l.initial.reader l.reader

abbrev pub decreases-skip_items-items : goal.decreases-skip_items-items
decreases-skip_items-items l = length l.reader

abbrev pub invariant-skip_members-members : goal.invariant-skip_members-members
invariant-skip_members-members l = KeptSoFar [] l.depth l.initial.reader l.reader [] l.notes

abbrev pub decreases-skip_members-members : goal.decreases-skip_members-members
decreases-skip_members-members l = length l.reader
