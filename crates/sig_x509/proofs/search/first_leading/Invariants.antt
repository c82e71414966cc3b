use Rattle.std.proofs.Common.{◌≡◌, ℕ, ◌+◌, ◌<◌, ◌≤◌, false}
use Rattle.sig_x509.specs.Candidates.{all_seen, is_leading}
use Rattle.sig_x509.proofs.search.first_leading.Given as goal

-- none so far
abbrev pub invariant-intermediates : goal.invariant-intermediates
invariant-intermediates g l =
    ((k : ℕ) → k < l.index
    → is_leading (g.C.SignatureChecker.cert_accepts l.checker) l.leaf (all_seen l.intermediates) l.row k ≡ false)
    × (l.steps ≤ l.initial.steps + l.index)
