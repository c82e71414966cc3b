use Rattle.std.proofs.Common.{◌≡◌}
use Rattle.sig_json.specs.Tree.{tree}
use Rattle.sig_json.specs.Walk.{members_left}
use Rattle.sig_manifest.specs.Policies.{policies_beside, policies_of}
use Rattle.sig_manifest.proofs.policies.policies_of.Given as goal

-- the policies so far, and the members that are left
abbrev pub invariant-members : goal.invariant-members
invariant-members l = policies_of (tree l.json) ≡ policies_beside l.policies (members_left l.name-iterator)
