-- The reply from what became of the updates, and the state after them.
use Rattle.std.proofs.Common.{◌≡◌, List, IfOk, subst}
use Rattle.sig_witness_command.proofs.Replies.{made-reply}
use Rattle.sig_witness_command.specs.Reply.{witnessed}
use Rattle.sig_witness_command.specs.Walk.{IsWalk, takes}
use Rattle.sig_witness_command.specs.declared.outcome.Outcome.{Outcome}
use Rattle.sig_witness_command.specs.declared.request.UpdateText.{UpdateText}
use Rattle.sig_witness_command.proofs.reply.reply_from.Goals as goal

pub returns : goal.returns
returns c =
    made-reply c.args.request.now c.args.witness.now c.update_each.new.witness c.in_ok-outcomes.outcomes
    c.in_ok-state.state c.witnessed.result
    (subst (λ (ts : List UpdateText). IsWalk (takes c.args.request.now.accepted) c.args.witness.now ts
    c.in_ok-outcomes.outcomes c.update_each.new.witness) c.as_slice.ensures c.in_ok-outcomes.ensures)
    c.in_ok-state.ensures.text
    (subst (λ (os : List Outcome). IfOk c.witnessed.result (λ reply. reply ≡ witnessed os c.in_ok-state.state))
    c.as_slice-2.ensures c.witnessed.ensures)
