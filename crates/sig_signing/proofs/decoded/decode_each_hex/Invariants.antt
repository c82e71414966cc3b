use Rattle.std.proofs.Common.{◌≡◌}
use Rattle.sig_base.proofs.IndexedElements.{with_left}
use Rattle.sig_base.specs.ResultSteps.{each_from}
use Rattle.sig_signing.specs.Decoded.{hex_at}
use Rattle.sig_signing.proofs.decoded.decode_each_hex.Given as goal

-- the bytes so far and the texts that are left are what is meant
abbrev pub invariant-texts : goal.invariant-texts
invariant-texts l = each_from hex_at 0 l.fn.texts ≡ with_left hex_at l.found l.text-index l.fn.texts
