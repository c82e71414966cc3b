use Rattle.sig_json.specs.Tree.{tree}
use Rattle.sig_json.specs.Walk.{members_left}
use Rattle.sig_payload.proofs.Extras.{empty-first}
use Rattle.sig_payload.proofs.annotations.is_empty.Goals as goal

pub returns-in-Some-next : goal.returns-in-Some-next
returns-in-Some-next c =
    empty-first (tree c.args.extra) (members_left c.in-Some.members) _ _ c.in-Some.ensures.value
    c.in-Some-next.ensures.steps
