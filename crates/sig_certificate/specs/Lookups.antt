-- *Extension values*, the first half: the extensions of an object identifier, and what contracts see of a borrowed
-- extension.
use Rattle.std.specs.Prelude.{◌≡◌, ℕ, ◌≤◌, List, [], ◌∷◌, length, map, filter, Bool, true, not, ◌&&◌}
use Rattle.std.specs.Str.{bytes_eq}
use Rattle.std.specs.List.{list_any}
use Rattle.sig_certificate.specs.declared.lookup.ExtensionRef.{ExtensionRef}
use Rattle.sig_certificate.specs.declared.lookup.Lookup.{Lookup}
use Rattle.sig_certificate.specs.declared.lookup.Lookup.TheVariants.{Absent, One, Several}
use Rattle.sig_certificate.specs.Certificate.{Extension}

abbrev pub borrowed_extension : ExtensionRef → Extension
borrowed_extension r = record { oid = r.oid.now; critical = r.critical; value = r.value.now; whole = r.whole.now }

-- the extensions with this object identifier, in order; identifiers are compared byte for byte
abbrev pub with_oid : List ℕ → List Extension → List Extension
with_oid oid es = filter (λ e. bytes_eq e.oid oid) es

-- the object identifiers, in order
abbrev pub oids : List Extension → List (List ℕ)
oids es = map (λ e. e.oid) es

-- no encoding comes twice
abbrev pub are_distinct : List (List ℕ) → Bool
are_distinct [] = true
are_distinct (x ∷ xs) = not (list_any (bytes_eq x) xs) && are_distinct xs

-- no duplicate extension, RFC 5280 section 4.2
abbrev pub are_single : List Extension → Bool
are_single es = are_distinct (oids es)

-- no extension of the object identifier, the only one, or two or more
abbrev pub Finds : List Extension → Lookup → Type 0
Finds es Absent = es ≡ []
Finds es (One r) = es ≡ borrowed_extension r ∷ []
Finds es Several = 2 ≤ length es
