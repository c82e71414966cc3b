use Rattle.std.proofs.Common.{◌≡◌, ◌++◌, map, take}
use Rattle.sig_x509.specs.Candidates.{all_seen, if_may_issue}
use Rattle.sig_x509.proofs.candidates.push_intermediates.Given as goal

-- those so far are added
abbrev pub invariant-intermediates : goal.invariant-intermediates
invariant-intermediates l = all_seen l.listed.items ≡ all_seen l.initial.listed.items ++ map (if_may_issue l.time) (take l.intermediate-index l.intermediates)
