use Rattle.sig_x509.specs.Candidates.{IsIndexOf, all_seen}
use Rattle.sig_x509.proofs.subjects.index_subjects.Given as goal

-- the index over those so far
abbrev pub invariant-candidates : goal.invariant-candidates
invariant-candidates l = IsIndexOf (all_seen l.listed) l.place l.last l.earlier.items
