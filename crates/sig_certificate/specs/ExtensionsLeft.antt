-- What contracts see of a walk over the extensions of a certificate.
use Rattle.std.specs.Prelude.{List, map}
use Rattle.sig_certificate.specs.Certificate.{Extension}
use Rattle.sig_certificate.specs.Places.{extension_of}
use Rattle.sig_certificate.specs.declared.extension_walk.Extensions.{Extensions}

abbrev pub extensions_left : Extensions → List Extension
extensions_left e = map (extension_of e.bytes.now) e.left.now
