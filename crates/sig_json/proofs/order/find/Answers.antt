use Rattle.sig_json.proofs.OrderedMembers.{found_nowhere}
use Rattle.sig_json.proofs.order.find.Goals as goal

pub returns-in-Err : goal.returns-in-Err
returns-in-Err c = found_nowhere _ _ _ c.in-Err.ensures
