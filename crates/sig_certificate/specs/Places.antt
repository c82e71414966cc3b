-- The ranges of a certificate's parts in its DER, and the parts that they are.
use Rattle.std.specs.Prelude.{◌≡◌, ℕ, ◌<◌, ◌≤◌, ℤ, List, Bool, slice_range, map}
use Rattle.std.specs.List.{AllPairs}
use Rattle.sig_der.specs.declared.place.Place.{Place}
use Rattle.sig_der.specs.Reading.{Piece}
use Rattle.sig_der.specs.declared.reader.Reader.{Reader}
use Rattle.sig_der.specs.Places.{piece_at}
use Rattle.sig_der.specs.Readers.{left}
use Rattle.sig_certificate.specs.declared.span.Span.{Span}
use Rattle.sig_certificate.specs.declared.parts.Preamble.{Preamble as PreamblePlaces}
use Rattle.sig_certificate.specs.declared.parts.Binding.{Binding as BindingPlaces}
use Rattle.sig_certificate.specs.declared.parts.Outer.{Outer as OuterPlaces}
use Rattle.sig_certificate.specs.declared.parts.Places.{Places}
use Rattle.sig_certificate.specs.declared.extensions.ExtensionPlaces.{ExtensionPlaces}
use Rattle.sig_certificate.specs.Certificate.{Extension, Cert}
use Rattle.sig_certificate.specs.Cutting.{Preamble, Binding, Outer, Parts, certificate_from_parts}

-- a reader after another, over the same buffer to the same end
pub record GoesTo (r next : Reader) : Type 0 where
  pub buffer : next.bytes.now ≡ r.bytes.now
  pub after : r.at ≤ next.at
  pub ends : next.end ≡ r.end

abbrev pub part : List ℕ → Span → List ℕ
part bytes s = slice_range bytes s.start s.end

-- the span lies below the offset
pub record IsSpan (end : ℕ) (s : Span) : Type 0 where
  pub ordered : s.start ≤ s.end
  pub below : s.end ≤ end

-- the element lies below the offset
pub record IsPlace (end : ℕ) (p : Place) : Type 0 where
  pub headed : p.start ≤ p.content
  pub filled : p.content ≤ p.end
  pub below : p.end ≤ end

-- ---- extensions

abbrev pub extension_of : List ℕ → ExtensionPlaces → Extension
extension_of bytes e =
    record { oid = part bytes e.oid; critical = e.critical; value = part bytes e.value; whole = part bytes e.whole }

-- the extension that was read, and the bytes that are left after it
abbrev pub extension_read : List ℕ → ExtensionPlaces × Reader → Extension × List ℕ
extension_read bytes x = (extension_of bytes x.0, left x.1)

pub record AreSpans (end : ℕ) (e : ExtensionPlaces) : Type 0 where
  pub oid : IsSpan end e.oid
  pub value : IsSpan end e.value
  pub whole : IsSpan end e.whole

-- each extension begins before those after it
abbrev pub Ascend : List ExtensionPlaces → Type 0
Ascend es = AllPairs (λ d e. d.whole.start < e.whole.start) es

-- a value that was read, and the bytes that are left after it
abbrev pub value_read : {A : Type 0} → A × Reader → A × List ℕ
value_read x = (x.0, left x.1)

-- ---- the parts

abbrev pub placed_preamble : List ℕ → PreamblePlaces → Preamble
placed_preamble bytes h = record { version = h.version; algorithm = part bytes h.algorithm; issuer = part bytes h.issuer }

abbrev pub preamble_read : List ℕ → PreamblePlaces × Reader → Preamble × List ℕ
preamble_read bytes x = (placed_preamble bytes x.0, left x.1)

pub record IsPreambleWithin (end : ℕ) (h : PreamblePlaces) : Type 0 where
  pub algorithm : IsSpan end h.algorithm
  pub issuer : IsSpan end h.issuer

-- the two elements of a validity, and the bytes that are left after it
abbrev pub validity_read : List ℕ → (Place × Place) × Reader → (Piece × Piece) × List ℕ
validity_read bytes x = ((piece_at bytes x.0.0, piece_at bytes x.0.1), left x.1)

abbrev pub IsValidityRead : Reader → (Place × Place) × Reader → Type 0
IsValidityRead r x = IsPlace r.end x.0.0 × IsPlace r.end x.0.1 × GoesTo r x.1

abbrev pub placed_binding : List ℕ → BindingPlaces → Binding
placed_binding bytes b =
    record {
      first = piece_at bytes b.not_before;
      second = piece_at bytes b.not_after;
      subject = part bytes b.subject;
      spki = part bytes b.spki;
    }

abbrev pub binding_read : List ℕ → BindingPlaces × Reader → Binding × List ℕ
binding_read bytes x = (placed_binding bytes x.0, left x.1)

pub record IsBindingWithin (end : ℕ) (b : BindingPlaces) : Type 0 where
  pub not_before : IsPlace end b.not_before
  pub not_after : IsPlace end b.not_after
  pub subject : IsSpan end b.subject
  pub spki : IsSpan end b.spki

abbrev pub placed_outer : List ℕ → OuterPlaces → Outer
placed_outer bytes o =
    record { tbs = piece_at bytes o.tbs; algorithm = part bytes o.algorithm; signature = part bytes o.signature }

pub record IsOuterWithin (at end : ℕ) (o : OuterPlaces) : Type 0 where
  pub from : at ≤ o.tbs.start
  pub headed : o.tbs.start ≤ o.tbs.content
  pub filled : o.tbs.content ≤ o.tbs.end
  pub to : o.tbs.end ≤ end
  pub algorithm : IsSpan end o.algorithm
  pub signature : IsSpan end o.signature

abbrev pub listed_of : List ℕ → Bool × Span → Bool × List ℕ
listed_of bytes l = (l.0, part bytes l.1)

abbrev pub IsListedWithin : ℕ → Bool × Span → Type 0
IsListedWithin end l = IsSpan end l.1

-- ---- the whole

abbrev pub parts_of : List ℕ → Places → Parts
parts_of bytes p =
    record {
      outer = placed_outer bytes p.outer;
      front = part bytes p.front;
      preamble = placed_preamble bytes p.preamble;
      binding = placed_binding bytes p.binding;
      listed = p.listed;
      list = part bytes p.list;
    }

-- every part lies below the offset
pub record ArePlaces (end : ℕ) (p : Places) : Type 0 where
  pub outer : IsOuterWithin 0 end p.outer
  pub front : IsSpan end p.front
  pub preamble : IsPreambleWithin end p.preamble
  pub binding : IsBindingWithin end p.binding
  pub list : IsSpan end p.list

-- the certificate of these ranges of its parts and of its extensions
abbrev pub placed_certificate : List ℕ → Places → ℤ → ℤ → List ExtensionPlaces → Cert
placed_certificate bytes p not_before not_after es =
    certificate_from_parts bytes (parts_of bytes p) not_before not_after (map (extension_of bytes) es)
