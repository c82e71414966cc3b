-- The tree's new entries are the old ones with the value put.
use Rattle.std.proofs.Common.{ap, ◌∙◌}
use Rattle.sig_base.specs.ByText.{text_entries, text_put}
use Rattle.sig_base.proofs.Texts.{ascend-entries, text_put-entries}
use Rattle.sig_base.proofs.by_text.ByText.insert.Goals as goal

pub returns-clause-ok : goal.returns-clause-ok
returns-clause-ok g c =
    ap text_entries c.in_ok-insert.ensures.entries
    ∙ text_put-entries c.self.inside.entries.entries c.in_ok-key.key c.args.value
    ∙ ap (λ text. text_put text c.args.value (text_entries c.self.inside.entries.entries)) c.in_ok-key.ensures.ok
    ∙ ap (text_put c.args.key.now c.args.value) c.self.view_is

pub invariant_of-self-2 : goal.invariant_of-self-2
invariant_of-self-2 g c = ascend-entries c.insert.new.self.entries c.insert.ensures.ordered
