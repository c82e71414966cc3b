-- Lists of signatures: what a signature without parts is.
use Rattle.std.specs.Prelude.{List, [], ◌∷◌, Option, Some, None, unwrap_or}
use Rattle.sig_dsse.specs.declared.envelope.DsseSignature.{DsseSignature}

-- the signature of which both parts are empty
abbrev pub no_parts : DsseSignature
no_parts = record { sig = []; keyid = [] }

-- a signature that is not held where it has no parts
abbrev pub whole : Option DsseSignature → DsseSignature
whole held = unwrap_or held no_parts

-- the signature of a list of one
abbrev pub only_signature : List DsseSignature → Option DsseSignature
only_signature [] = None
only_signature (signature ∷ []) = Some signature
only_signature (signature ∷ other ∷ others) = None
