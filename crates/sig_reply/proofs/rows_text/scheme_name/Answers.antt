-- A scheme's name is a text.
use Rattle.sig_reply.proofs.SchemeTexts.{scheme-text}
use Rattle.sig_reply.proofs.rows_text.scheme_name.Goals as goal

pub unreachable-requires : goal.unreachable-requires
unreachable-requires c =
    c.in_default.ensures.cases.0
    (scheme-text c.args.scheme.now c.as_slice.result.now c.requires c.as_slice.ensures)
