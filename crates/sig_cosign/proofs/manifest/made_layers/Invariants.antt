use Rattle.std.proofs.Common.{drop, map, option_map}
use Rattle.sig_cosign.proofs.ManifestLayers.{AreBuiltUpTo}
use Rattle.sig_cosign.specs.Layer.{seen_layer}
use Rattle.sig_cosign.specs.Trust.{trust_in}
use Rattle.sig_cosign.proofs.manifest.made_layers.Given as goal

-- what is made so far is what is meant of the descriptors so far
abbrev pub invariant-descriptors : goal.invariant-descriptors
invariant-descriptors g l =
    AreBuiltUpTo (trust_in (g.C.SignatureChecker.spki_accepts l.fn.checker) (g.C.SignatureChecker.cert_accepts l.fn.checker)
    (option_map (λ k. k.now) l.fn.keys) (option_map (λ p. p.now) l.fn.pool) l.fn.now) l.fn.source l.fn.layers
    l.fn.descriptors (drop l.descriptor-index l.fn.descriptors) (map seen_layer l.made)
