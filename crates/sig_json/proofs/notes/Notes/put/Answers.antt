use Rattle.sig_json.proofs.NotedMembers.{put_noted}
use Rattle.sig_json.proofs.notes.Notes.put.Goals as goal

pub returns : goal.returns
returns c =
    put_noted c.add_member.result _ _ c.borrow.result _ _ c.borrow.ensures.same c.add_member.ensures.added
    c.add_member.ensures.in_order
