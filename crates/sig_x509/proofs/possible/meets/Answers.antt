use Rattle.std.proofs.Common.{sym, arith, ◌∙◌}
use Rattle.sig_x509.proofs.Bits.{below_is}
use Rattle.sig_x509.specs.Possible.{meets_at}
use Rattle.sig_x509.proofs.possible.meets.Goals as goal

pub returns-then-meets_at : goal.returns-then-meets_at
returns-then-meets_at c =
    sym (below_is 7 (meets_at c.args.next.now c.args.trusted c.args.up.now) c.levels.others (omega arith)
    (sym c.meets_at.ensures ∙ c.if-meets_at.true))
