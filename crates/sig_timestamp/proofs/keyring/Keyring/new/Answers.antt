-- The ring of the keys so far, and of one more.
use Rattle.std.proofs.Common.{ℕ, List, ap, ◌∙◌}
use Rattle.sig_timestamp.specs.RingKey.{RingKey, point_at}
use Rattle.sig_timestamp.proofs.KeyringLaws.{key_of_none, key_of_more}
use Rattle.sig_timestamp.proofs.keyring.Keyring.new.Goals as goal

pub loop-spki-init : goal.loop-spki-init
loop-spki-init c = λ id.
    ap (λ (ring : List (List ℕ × RingKey)). point_at ring id) c.new.ensures.empty ∙ key_of_none id

pub loop-spki-preserved : goal.loop-spki-preserved
loop-spki-preserved c = λ id.
    key_of_more c.args.keys.now c.as_slice-spki-items.result.now c.loop-spki.spki-index c.as_slice.result.now
    c.spki-item.result id c.loop-spki.ring c.add.new.self c.as_slice-spki-items.ensures c.loop-spki-test.true
    c.spki-item.is c.as_slice.ensures (c.in_ok-add.ensures.ok id) (c.loop-spki.invariant id)
