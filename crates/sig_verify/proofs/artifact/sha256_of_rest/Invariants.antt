use Rattle.std.proofs.Common.{◌-◌, ◌≤◌}
use Rattle.sig_verify.specs.Artifact.{IsHashed}
use Rattle.sig_verify.proofs.artifact.sha256_of_rest.Given as goal

-- the hasher holds the bytes that the source gave so far
abbrev pub invariant-turns : goal.invariant-turns
invariant-turns g l = record {
  hashed : IsHashed (g.S.Source.left l.fn.source) (g.S.Source.left l.source) l.hasher l.taken;
  later : g.S.Source.faults l.fn.source ≤ g.S.Source.faults l.source;
  few : l.taken ≤ 1099511627777;
}

abbrev pub decreases-turns : goal.decreases-turns
decreases-turns g l = 1099511627777 - l.taken
