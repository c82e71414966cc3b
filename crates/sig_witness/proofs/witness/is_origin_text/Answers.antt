-- The two tests of an origin.
use Rattle.std.proofs.Common.{sym, ◌∙◌}
use Rattle.sig_witness.proofs.Origins.{origin-decided}
use Rattle.sig_witness.proofs.witness.is_origin_text.Goals as goal

pub returns : goal.returns
returns c =
    origin-decided c.args.origin.now c.has_newline.result (sym c.is_empty.ensures ∙ c.if-is_empty.false)
    c.has_newline.ensures
