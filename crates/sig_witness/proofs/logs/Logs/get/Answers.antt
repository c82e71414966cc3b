-- The tree's answer is that of its entries.
use Rattle.std.proofs.Common.{ap, ◌∙◌}
use Rattle.sig_base.specs.ByText.{text_lookup}
use Rattle.sig_base.proofs.Texts.{text_lookup-entries}
use Rattle.sig_witness.proofs.logs.Logs.get.Goals as goal

pub returns : goal.returns
returns c =
    c.get.ensures.value ∙ text_lookup-entries c.args.origin.now c.self.inside.logs.entries
    ∙ ap (text_lookup c.args.origin.now) c.self.view_is
