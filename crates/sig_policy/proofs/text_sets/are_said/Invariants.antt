use Rattle.std.proofs.Common.{◌≡◌, not}
use Rattle.std.specs.Prelude.{option_map}
use Rattle.sig_policy.specs.AskedTexts.{one_passes}
use Rattle.sig_policy.specs.Single.{is_asked_text}
use Rattle.sig_policy.proofs.text_sets.are_said.Given as goal

-- one of all is not said if and only if one of those that are left is not
abbrev pub invariant-loop-text : goal.invariant-loop-text
invariant-loop-text l =
    one_passes (λ q. not (is_asked_text q (option_map (λ t. t.now) l.said))) l.text-iterator
    ≡ one_passes (λ q. not (is_asked_text q (option_map (λ t. t.now) l.said))) l.fn.asked.keys
