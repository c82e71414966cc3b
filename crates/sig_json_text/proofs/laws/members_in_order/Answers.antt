use Rattle.sig_json_text.proofs.MemberOrder.{members_ascend, members_exact, object_exact}
use Rattle.sig_json_text.proofs.laws.members_in_order.Goals as goal

pub returns : goal.returns
returns c = record { ascend = members_ascend; exact = members_exact; object = object_exact }
