use Rattle.std.proofs.Common.{◌≡◌, ◌++◌, map, take, Some}
use Rattle.sig_x509.specs.Candidates.{all_seen, if_may_issue}
use Rattle.sig_x509.proofs.candidates.push_further.Given as goal

-- those so far are added
abbrev pub invariant-further : goal.invariant-further
invariant-further l = all_seen l.listed.items ≡ all_seen l.initial.listed.items ++ map (λ c. if_may_issue l.time (Some c)) (take l.intermediate-index l.further)
