-- For private clauses: what is seen of values of the code.
use Rattle.sig_payload.specs.Signing.{seen_signing}
use Rattle.sig_cosign.specs.OciLayer.{Parts}
use Rattle.sig_cosign.specs.declared.oci_layer.Parts.{Parts as Held}

abbrev pub seen_parts : Held → Parts
seen_parts p = record { signing = seen_signing p.signing; signature = p.signature; bundle = p.bundle }
