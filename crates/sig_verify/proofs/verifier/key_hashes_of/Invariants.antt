use Rattle.std.proofs.Common.{◌≡◌, take}
use Rattle.sig_verify.specs.Verifier.{key_hashes_of}
use Rattle.sig_verify.proofs.verifier.key_hashes_of.Given as goal

-- those of the trust anchors so far
abbrev pub invariant-anchors : goal.invariant-anchors
invariant-anchors l = l.hashes ≡ key_hashes_of (take l.anchor-index l.anchors)
