-- The tree's new entries are the old ones with the log put.
use Rattle.std.proofs.Common.{ap, ◌∙◌}
use Rattle.sig_base.specs.ByText.{text_entries, text_put}
use Rattle.sig_base.proofs.Texts.{ascend-entries, text_put-entries}
use Rattle.sig_witness.proofs.logs.Logs.insert.Goals as goal

pub returns-clause-ok : goal.returns-clause-ok
returns-clause-ok c =
    ap text_entries c.in_ok-insert.ensures.entries
    ∙ text_put-entries c.self.inside.logs.entries c.in_ok-origin.origin c.args.log
    ∙ ap (λ text. text_put text c.args.log (text_entries c.self.inside.logs.entries)) c.in_ok-origin.ensures.ok
    ∙ ap (text_put c.args.origin.now c.args.log) c.self.view_is

pub invariant_of-self-2 : goal.invariant_of-self-2
invariant_of-self-2 c = ascend-entries c.insert.new.self.entries c.insert.ensures.ordered
