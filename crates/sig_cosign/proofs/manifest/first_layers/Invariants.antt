use Rattle.std.proofs.Common.{drop}
use Rattle.sig_cosign.proofs.FirstLayers.{AreFirsts}
use Rattle.sig_cosign.proofs.manifest.first_layers.Given as goal

-- the first layer of a digest is in the map, or among those that are left
abbrev pub invariant-layers : goal.invariant-layers
invariant-layers l = AreFirsts l.fn.layers l.firsts (drop l.layer-index l.layers)
