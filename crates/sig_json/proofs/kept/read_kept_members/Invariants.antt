use Rattle.std.proofs.Common.{length}
use Rattle.sig_json.proofs.KeptMembers.{KeptSoFar}
use Rattle.sig_json.specs.Only.{names_of}
use Rattle.sig_json.proofs.kept.read_kept_members.Given as goal

abbrev pub invariant-members : goal.invariant-members
invariant-members l = KeptSoFar (names_of l.names) l.depth l.initial.reader l.reader l.found.items l.notes

abbrev pub decreases-members : goal.decreases-members
decreases-members l = length l.reader
