-- The tree's answer is that of its entries.
use Rattle.std.proofs.Common.{ℕ, List, ap, ◌∙◌}
use Rattle.sig_timestamp.specs.RingKey.{RingKey, point_at}
use Rattle.sig_timestamp.proofs.KeyringLaws.{borrowed_is}
use Rattle.sig_timestamp.proofs.keyring.Keyring.key.Goals as goal

pub returns : goal.returns
returns c =
    borrowed_is c.args.id.now c.self.inside.keys.entries c.get.result c.get.ensures.value
    ∙ ap (λ (ring : List (List ℕ × RingKey)). point_at ring c.args.id.now) c.self.view_is
