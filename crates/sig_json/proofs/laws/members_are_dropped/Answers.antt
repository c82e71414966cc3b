use Rattle.sig_json.proofs.NamedMembers.{get-dropped, get-others, without-same}
use Rattle.sig_json.proofs.laws.members_are_dropped.Goals as goal

pub returns : goal.returns
returns c = record { listed = get-dropped; others = get-others; whole = without-same }
