use Rattle.std.proofs.Common.{drop}
use Rattle.sig_json.proofs.TextMaps.{SoFar}
use Rattle.sig_json.proofs.kind.texts_of_members.Given as goal

-- the texts so far and the members that are left are the object
abbrev pub invariant-members : goal.invariant-members
invariant-members l = SoFar l.fn.members.items (drop l.member-index l.member-items) l.texts
