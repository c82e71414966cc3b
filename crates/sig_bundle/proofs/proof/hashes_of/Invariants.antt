use Rattle.std.proofs.Common.{◌≡◌}
use Rattle.sig_base.proofs.IndexedElements.{with_left}
use Rattle.sig_bundle.specs.Proof.{path_hash_at, path_hashes_from}
use Rattle.sig_bundle.proofs.proof.hashes_of.Given as goal

-- the hashes so far and the byte strings that are left are what is meant
abbrev pub invariant-hashes : goal.invariant-hashes
invariant-hashes l = path_hashes_from 0 l.fn.entries ≡ with_left path_hash_at l.hashes l.place l.fn.entries
