use Rattle.sig_json.proofs.NamedMembers.{get-only, get-none, only-same}
use Rattle.sig_json.proofs.laws.members_are_kept.Goals as goal

pub returns : goal.returns
returns c = record { listed = get-only; others = get-none; whole = only-same }
