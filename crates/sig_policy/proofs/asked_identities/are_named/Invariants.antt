use Rattle.std.proofs.Common.{◌≡◌, ◌&&◌, map, not}
use Rattle.std.specs.Prelude.{option_map}
use Rattle.sig_policy.specs.AskedTexts.{one_named}
use Rattle.sig_policy.specs.Identities.{is_among_identities}
use Rattle.sig_policy.specs.Single.{is_asked_text}
use Rattle.sig_policy.proofs.asked_identities.are_named.Given as goal

-- one of all is not said if and only if one of those that are left is not
abbrev pub invariant-loop-asked_issuer : goal.invariant-loop-asked_issuer
invariant-loop-asked_issuer l =
    one_named (λ i q. not (is_asked_text i (option_map (λ t. t.now) l.issuer)
    && is_among_identities q (option_map (λ v. map (λ t. t.now) v.items) l.names.texts))) l.asked_issuer-iterator
    ≡ one_named (λ i q. not (is_asked_text i (option_map (λ t. t.now) l.issuer)
    && is_among_identities q (option_map (λ v. map (λ t. t.now) v.items) l.names.texts))) l.fn.asked.entries
