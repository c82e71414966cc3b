use Rattle.std.proofs.Common.{arith, rules}
use Rattle.sig_json.proofs.MemberScans.{scanned_more}
use Rattle.sig_json.proofs.order.first_of_name.Goals as goal

pub members-preserved : goal.members-preserved
members-preserved c =
    let l = c.members in
    scanned_more _ c.args.name.now c.args.members.now l.member-index c.member-item.result (omega arith) c.member-item.is
    (search rules) l.invariant
