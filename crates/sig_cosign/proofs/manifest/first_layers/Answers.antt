-- One more layer: of a new digest, or of one that the map has.
use Rattle.std.proofs.Common.{rules, drop, sym, ◌∙◌, ◌+◌, subst}
use Rattle.sig_cosign.proofs.FirstLayers.{AreFirsts, Held, held_at, new_at}
use Rattle.sig_cosign.proofs.manifest.first_layers.Goals as goal
use Rattle.sig_cosign.proofs.manifest.first_layers.Goals.{then-is_none+in_ok-insert, else-is_none}

pub layers-preserved : goal.layers-preserved
layers-preserved c =
    elim c.if-is_none.branch [
      | then-is_none+in_ok-insert w ↦
          new_at c.args.layers.now c.layers.layer-index c.layer-item.result c.layers.firsts c.layers-test.true
          c.layer-item.is c.layers.invariant _ (search rules) c.get.result c.get.ensures.value (search rules)
          _ (search rules) _ (search rules) _ (w.firsts-is ∙ w.in_ok-insert.ensures.ok)
      | else-is_none w ↦
          subst (λ (f : Held). AreFirsts c.args.layers.now f (drop (c.layers.layer-index + 1) c.args.layers.now))
          (sym w.firsts-is)
          (held_at c.args.layers.now c.layers.layer-index c.layer-item.result c.layers.firsts c.layers-test.true
          c.layer-item.is c.layers.invariant _ (search rules) c.get.result c.get.ensures.value (search rules))
    ]
