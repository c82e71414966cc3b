use Rattle.std.proofs.Common.{arith}
use Rattle.sig_merkle.proofs.PathLaws.{path_len-left, path_len-right, path_len-within}
use Rattle.sig_merkle.proofs.recursion.+proof_len.Goals as goal

pub returns-then-index-half-clause-bound : goal.returns-then-index-half-clause-bound
returns-then-index-half-clause-bound t c =
    let one_more = path_len-left c.args.index c.args.size _ c.split_point-half.ensures c.if-index-half.true in
    omega (arith, one_more, path_len-within c.args.index c.args.size (omega arith))

pub returns-else-index-half-clause-bound : goal.returns-else-index-half-clause-bound
returns-else-index-half-clause-bound t c =
    let one_more = path_len-right c.args.index c.args.size _ c.split_point-half.ensures c.if-index-half.false in
    omega (arith, one_more, path_len-within c.args.index c.args.size (omega arith))
