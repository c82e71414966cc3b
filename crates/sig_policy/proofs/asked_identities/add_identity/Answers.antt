-- The identities of the issuer are put back with one more.
use Rattle.std.proofs.Common.{ap, ◌∙◌}
use Rattle.sig_policy.proofs.AskedNames.{one_identity_more, put}
use Rattle.sig_policy.specs.AskedTexts.{one_named, one_passes}
use Rattle.sig_policy.proofs.asked_identities.add_identity.Goals as goal

pub returns : goal.returns
returns c = λ test.
    let i = c.args.issuer.now in
    let others = c.take_names-names.new.identities.entries in
    let more = c.add_text.new.texts in
    one_identity_more (test i c.args.identity.now) (one_named test c.args.identities.now.entries)
    (one_passes (test i) c.take_names-names.result.keys) (one_passes (test i) more.keys) (one_named test others)
    (one_named test c.insert.new.self.entries) (c.take_names-names.ensures.taken test)
    (c.in_ok-add_text.ensures (test i))
    (ap (one_named test) c.in_ok-insert.ensures.entries
    ∙ put test c.args.issuer more others c.take_names-names.ensures.gone)
