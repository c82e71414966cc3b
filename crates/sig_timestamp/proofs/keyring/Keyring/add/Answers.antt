-- The tree's look-ups after the key was put in.
use Rattle.std.proofs.Common.{ℕ, List, ap, ◌∙◌}
use Rattle.std.specs.Option.{option_or}
use Rattle.sig_timestamp.specs.RingKey.{RingKey, point_at}
use Rattle.sig_timestamp.specs.Keyring.{point_if}
use Rattle.sig_timestamp.proofs.KeyringLaws.{added}
use Rattle.sig_timestamp.proofs.keyring.Keyring.add.Goals as goal

pub returns-in_ok-insert-in-Ok-clause-ok : goal.returns-in_ok-insert-in-Ok-clause-ok
returns-in_ok-insert-in-Ok-clause-ok c = λ id.
    added id c.args.spki.now c.key.inside.id c.in-Ok.key c.self.inside.keys.entries c.insert.new.self.entries
    c.in-Ok.ensures.exact
    (ap (λ (k : RingKey). k.id) c.key.view_is ∙ c.in-Ok.ensures.id) (c.in_ok-insert-in-Ok.ensures.updates.0 id)
    ∙ ap (λ (ring : List (List ℕ × RingKey)). option_or (point_if id c.args.spki.now) (point_at ring id))
    c.self.view_is
