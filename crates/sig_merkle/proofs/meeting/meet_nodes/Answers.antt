use Rattle.std.proofs.Common.{◌≡◌, length, arith}
use Rattle.sig_merkle.proofs.Meetings.{nodes_meet}
use Rattle.sig_merkle.proofs.meeting.meet_nodes.Goals as goal

pub returns : goal.returns
returns c =
    let fits : length c.args.one.left ≡ length c.args.other.left = omega arith in
    nodes_meet _ _ _ _ _ _ _ fits c.in_ok-node_text.ensures c.in_ok-node_text-2.ensures c.hash_both.ensures
