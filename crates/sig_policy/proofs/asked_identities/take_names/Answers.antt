use Rattle.std.proofs.Common.{◌||◌, Option, sym, ap, ◌∙◌}
use Rattle.std.specs.Map.{remove_entry}
use Rattle.sig_policy.proofs.AskedNames.{Names, at, one_found, taken}
use Rattle.sig_policy.specs.AskedTexts.{Named, one_named, one_passes}
use Rattle.sig_policy.proofs.asked_identities.take_names.Goals as goal

pub returns-in-Some-clause-taken : goal.returns-in-Some-clause-taken
returns-in-Some-clause-taken c = λ test.
    let i = c.args.issuer.now in
    let es = c.args.identities.now.entries in
    taken test i es
    ∙ ap (λ (o : Option Names). one_found (test i) o || one_named test (remove_entry (at i) es))
    (sym c.in-Some.ensures.value)
    ∙ ap (λ (others : Named). one_passes (test i) c.in-Some.names.keys || one_named test others)
    (sym c.in-Some.ensures.entries)
