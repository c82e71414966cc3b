-- A byte more is alike, or the two texts end or differ here.
use Rattle.std.proofs.Common.{◌≡◌, ℕ, ◌∙◌, sym, subst, arith}
use Rattle.sig_base.specs.Rank.{alike}
use Rattle.sig_base.proofs.Ranks.{alike_until, one_more_alike}
use Rattle.sig_base.proofs.rank.alike.Goals as goal

pub returns-then-not-is_same_at : goal.returns-then-not-is_same_at
returns-then-not-is_same_at c =
    sym (alike_until c.bytes.index c.args.most c.args.one.now c.args.other.now c.bytes.invariant
    (omega (arith, c.bytes-test.true, c.bytes.auto.index-end)) (sym c.is_same_at.ensures ∙ c.if-not-is_same_at.true))

pub bytes-preserved : goal.bytes-preserved
bytes-preserved c =
    subst (λ (n : ℕ). alike n c.args.one.now c.args.other.now ≡ n) (omega arith)
    (one_more_alike c.bytes.index c.args.one.now c.args.other.now c.bytes.invariant
    (sym c.is_same_at.ensures ∙ c.if-not-is_same_at.false))
