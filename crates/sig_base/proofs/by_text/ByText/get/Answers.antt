-- The tree's answer is that of its entries.
use Rattle.std.proofs.Common.{ap, ◌∙◌}
use Rattle.sig_base.specs.ByText.{text_lookup}
use Rattle.sig_base.proofs.Texts.{text_lookup-entries}
use Rattle.sig_base.proofs.by_text.ByText.get.Goals as goal

pub returns-clause-value : goal.returns-clause-value
returns-clause-value g c =
    c.get.ensures.value ∙ text_lookup-entries c.args.key.now c.self.inside.entries.entries
    ∙ ap (text_lookup c.args.key.now) c.self.view_is
