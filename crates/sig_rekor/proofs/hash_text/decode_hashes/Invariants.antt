use Rattle.std.proofs.Common.{◌≡◌}
use Rattle.sig_base.proofs.IndexedElements.{with_left}
use Rattle.sig_rekor.specs.HashText.{hash_at, hashes_from}
use Rattle.sig_rekor.proofs.hash_text.decode_hashes.Given as goal

-- the hashes so far and the texts that are left are what is meant
abbrev pub invariant-hashes : goal.invariant-hashes
invariant-hashes l = hashes_from 0 l.fn.texts ≡ with_left hash_at l.hashes l.index l.fn.texts
