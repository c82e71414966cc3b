-- Both ends are drawn back to where the text ends.
use Rattle.std.proofs.Common.{arith}
use Rattle.sig_certificate.proofs.Spans.{clipped_part}
use Rattle.sig_certificate.proofs.span.clipped.Goals as goal

pub returns : goal.returns
returns c =
    clipped_part c.args.bytes.now c.args.span.start c.args.span.end _ _ (omega arith) (omega arith) (omega arith)
    (omega arith)
