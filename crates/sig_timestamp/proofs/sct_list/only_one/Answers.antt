-- What the first vector says of the list.
use Rattle.sig_timestamp.proofs.SingleVectors.{only_none, only_first, only_more}
use Rattle.sig_timestamp.proofs.sct_list.only_one.Goals as goal

pub returns-in-None : goal.returns-in-None
returns-in-None c = only_none c.args.list.now c.if-not-are_vectors.ensures c.in-None.ensures

pub returns-then-is_empty : goal.returns-then-is_empty
returns-then-is_empty c = only_first c.args.list.now _ c.in-Some.ensures c.if-is_empty.ensures

pub returns-else-is_empty : goal.returns-else-is_empty
returns-else-is_empty c =
    only_more c.args.list.now _ c.if-not-are_vectors.ensures c.in-Some.ensures c.if-is_empty.ensures
