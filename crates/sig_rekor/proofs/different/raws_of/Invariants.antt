use Rattle.std.proofs.Common.{◌≡◌, map, take}
use Rattle.sig_rekor.proofs.different.raws_of.Given as goal

-- the raw bytes of the signatures so far
abbrev pub invariant-loop-signature : goal.invariant-loop-signature
invariant-loop-signature l =
    map (λ raw. raw.now) l.raws.items ≡ map (λ s. s.raw) (take l.signature-index l.signatures)
