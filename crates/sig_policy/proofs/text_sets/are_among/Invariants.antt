use Rattle.std.proofs.Common.{◌≡◌, ◌&&◌, map, not}
use Rattle.std.specs.Prelude.{option_map}
use Rattle.sig_policy.specs.AskedTexts.{one_passes}
use Rattle.sig_policy.specs.Identities.{is_among_identities}
use Rattle.sig_policy.proofs.text_sets.are_among.Given as goal

-- one of all is not among them if and only if one of those that are left is not
abbrev pub invariant-loop-identity : goal.invariant-loop-identity
invariant-loop-identity l =
    one_passes (λ q. not (l.issued && is_among_identities q (option_map (λ v. map (λ t. t.now) v.items) l.names.texts)))
    l.identity-iterator
    ≡ one_passes (λ q. not (l.issued
    && is_among_identities q (option_map (λ v. map (λ t. t.now) v.items) l.names.texts))) l.fn.asked.keys
