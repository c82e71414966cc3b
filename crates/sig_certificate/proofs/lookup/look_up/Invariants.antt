use Rattle.std.proofs.Common.{take, map}
use Rattle.sig_certificate.specs.Lookups.{with_oid, Finds}
use Rattle.sig_certificate.specs.Places.{extension_of}
use Rattle.sig_certificate.proofs.lookup.look_up.Given as goal

abbrev pub invariant-loop-places : goal.invariant-loop-places
invariant-loop-places l =
    Finds (with_oid l.oid (map (extension_of l.bytes) (take l.places-index l.extensions))) l.found
