-- What a certificate holds: its DER, and the ranges of its parts and of its extensions in it.
use Rattle.std.specs.Prelude.{◌≡◌, ℕ, ℤ, List, length, map, Option, Some, None}
use Rattle.std.specs.List.{All}
use Rattle.sig_certificate.specs.declared.parts.Places.{Places}
use Rattle.sig_certificate.specs.declared.reading.Dated.{Dated}
use Rattle.sig_certificate.specs.declared.listed.Listed.{Listed}
use Rattle.sig_certificate.specs.Certificate.{IsCertificate}
use Rattle.sig_certificate.specs.Cutting.{Parts}
use Rattle.sig_certificate.specs.Lookups.{are_single}
use Rattle.sig_certificate.specs.Places.{parts_of, extension_of, ArePlaces, AreSpans, placed_certificate}

-- whether there is no duplicate extension is recorded
abbrev pub IsRecorded : List ℕ → Listed → Type 0
IsRecorded bytes l = l.single ≡ are_single (map (extension_of bytes) l.places.items)

pub record HoldsCertificate (bytes : List ℕ) (p : Places) (not_before not_after : ℤ) (l : Listed) : Type 0 where
  pub within : ArePlaces (length bytes) p
  pub each_within : All (AreSpans (length bytes)) l.places.items
  pub is : IsCertificate bytes (placed_certificate bytes p not_before not_after l.places.items)
  pub recorded : IsRecorded bytes l

-- the result is these parts and these times
abbrev pub IsDatedAs : List ℕ → Parts → ℤ → ℤ → Option Dated → Type 0
IsDatedAs bytes p not_before not_after None = ⊥
IsDatedAs bytes p not_before not_after (Some d) =
    (parts_of bytes d.places ≡ p) × (d.not_before ≡ not_before) × (d.not_after ≡ not_after)
