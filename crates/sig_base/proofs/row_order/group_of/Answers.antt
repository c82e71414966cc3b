-- Both searches run over a list in the order of groups, so the part between them is the group.
use Rattle.std.proofs.Common.{rules}
use Rattle.std.specs.Ordering.{is_lt, is_le}
use Rattle.std.proofs.lemmas.Fn.{always_returns_same}
use Rattle.sig_base.specs.RowOrder.{group_at}
use Rattle.sig_base.proofs.CertKeys.{parted_lt, parted_le, start_le, group_range}
use Rattle.sig_base.proofs.row_order.group_of.Goals as goal

pub slice_bounds-result-count : goal.slice_bounds-result-count
slice_bounds-result-count c =
    start_le c.args.rows.now c.args.other.now c.args.order.now _ _ c.partition_point-first.ensures.bound
    (c.partition_point-first.ensures.partitioned (λ index. is_lt (group_at c.args.rows.now index c.args.other.now))
    (always_returns_same _ _ _ (λ a r f' k. search rules))
    (parted_lt c.args.rows.now c.args.other.now c.args.order.now c.requires))
    (c.partition_point-end.ensures.partitioned (λ index. is_le (group_at c.args.rows.now index c.args.other.now))
    (always_returns_same _ _ _ (λ a r f' k. search rules))
    (parted_le c.args.rows.now c.args.other.now c.args.order.now c.requires))

pub slice_bounds-result-start : goal.slice_bounds-result-start
slice_bounds-result-start c = slice_bounds-result-count c

pub returns : goal.returns
returns c =
    group_range c.args.rows.now c.args.other.now c.args.order.now _ _ c.partition_point-first.ensures.bound
    c.partition_point-end.ensures.bound
    (c.partition_point-first.ensures.partitioned (λ index. is_lt (group_at c.args.rows.now index c.args.other.now))
    (always_returns_same _ _ _ (λ a r f' k. search rules))
    (parted_lt c.args.rows.now c.args.other.now c.args.order.now c.requires))
    (c.partition_point-end.ensures.partitioned (λ index. is_le (group_at c.args.rows.now index c.args.other.now))
    (always_returns_same _ _ _ (λ a r f' k. search rules))
    (parted_le c.args.rows.now c.args.other.now c.args.order.now c.requires))
