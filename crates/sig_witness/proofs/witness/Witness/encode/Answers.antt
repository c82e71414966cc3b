-- The entries in turn, and what their text is read as.
use Rattle.std.proofs.Common.{◌≡◌, ◌∙◌, [], string_bytes}
use Rattle.std.specs.List.{AllByRecursion}
use Rattle.sig_base.specs.ByText.{KeysAscend}
use Rattle.sig_witness.proofs.StateWrites.{writing-kept, writing-more, writing-done, writing-values, state-back}
use Rattle.sig_witness.specs.KeptLogs.{IsKeptLog}
use Rattle.sig_witness.proofs.witness.Witness.encode.Goals as goal

pub push_lines-requires : goal.push_lines-requires
push_lines-requires c =
    let kept : AllByRecursion IsKeptLog c.args.self.now = rw c.self.view_is at c.self.invariant in
    writing-kept c.args.self.now c.logs.origin-iterator c.next.new.self (c.in-Some.origin.now, c.in-Some.log.now)
    (string_bytes c.logs.text) c.logs.invariant c.in-Some.ensures.steps kept

pub logs-preserved : goal.logs-preserved
logs-preserved c =
    writing-more c.args.self.now c.logs.origin-iterator c.next.new.self (c.in-Some.origin.now, c.in-Some.log.now)
    (string_bytes c.logs.text) (string_bytes c.push_lines.new.text) c.logs.invariant c.in-Some.ensures.steps
    c.in_ok-push_lines.ensures.text c.in_ok-push_lines.ensures.key c.in_ok-push_lines.ensures.head

pub returns-clause-back : goal.returns-clause-back
returns-clause-back c =
    let kept : AllByRecursion IsKeptLog c.args.self.now = rw c.self.view_is at c.self.invariant in
    let up : KeysAscend c.args.self.now = rw c.self.view_is at c.iter-origin-items.ensures.ordered in
    let none : c.logs.origin-iterator ≡ [] = c.in-None.ensures.steps.0 in
    state-back c.args.self.now c.from.result up kept
    (writing-values c.args.self.now c.logs.origin-iterator (string_bytes c.logs.text) c.logs.invariant none)
    (c.from.ensures ∙ writing-done c.args.self.now c.logs.origin-iterator (string_bytes c.logs.text) c.logs.invariant none)
