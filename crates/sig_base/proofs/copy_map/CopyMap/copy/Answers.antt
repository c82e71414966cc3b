-- The next entry goes after those that were copied.
use Rattle.std.proofs.Common.{ap, ◌++◌, ◌∙◌}
use Rattle.sig_base.proofs.Texts.{text_put-walked}
use Rattle.sig_base.proofs.copy_map.CopyMap.copy.Goals as goal

pub entry-preserved : goal.entry-preserved
entry-preserved g c =
    ap (λ m. m ++ c.next.new.self) c.in_ok-insert.ensures.ok
    ∙ text_put-walked c.entry.copied c.entry.key-iterator c.next.new.self c.args.self.now
    (c.in-Some.key.now, g.V.Owned.owned c.in-Some.value)
    c.iter-key-items.ensures.ordered c.entry.invariant c.in-Some.ensures.steps
