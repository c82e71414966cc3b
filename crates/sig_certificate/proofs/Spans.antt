-- A part as far as the text goes.
use Rattle.std.proofs.Common.{◌≡◌, ℕ, ◌-◌, ◌<◌, ◌≤◌, List, [], length, take, drop, refl, sym, ap, ◌∙◌, inl, inr, arith}
use Rattle.std.proofs.Common.{Some, get_or, map, option_map}
use Rattle.std.specs.Prelude.{slice_range, slice_get}
use Rattle.std.proofs.lemmas.Bool.{cases_lt}
use Rattle.std.proofs.lemmas.List.{take_all, drop_all, length-drop}
use Rattle.std.proofs.lemmas.Option.{slice_get-map, slice_get_read}
use Rattle.sig_der.proofs.Ranges.{part-none}
use Rattle.sig_certificate.specs.Certificate.{Extension}
use Rattle.sig_certificate.specs.Lookups.{borrowed_extension}
use Rattle.sig_certificate.specs.Places.{extension_of}
use Rattle.sig_certificate.specs.declared.extensions.ExtensionPlaces.{ExtensionPlaces}
use Rattle.sig_certificate.specs.declared.lookup.ExtensionRef.{ExtensionRef}

-- the part from a place after the end of the text is none
past_end : (bytes : List ℕ) (start end : ℕ) → length bytes ≤ start → slice_range bytes start end ≡ []
past_end bytes start end le =
    ap (λ (w : List ℕ). take (end - start) w) (drop_all start bytes le) ∙ take_all (end - start) [] (omega arith)

-- the ends are drawn back to where the text ends
pub clipped_part : (bytes : List ℕ) (start end from to : ℕ) → (end ≤ length bytes → to ≡ end)
    → (length bytes < end → to ≡ length bytes)
    → (start ≤ to → from ≡ start) → (to < start → from ≡ to) → slice_range bytes from to ≡ slice_range bytes start end
clipped_part bytes start end from to inside outside ordered turned =
    elim (cases_lt (length bytes) end) [
      | inl out ↦ elim (cases_lt to start) [
        | inl after ↦
            let all : to ≡ length bytes = outside out in
            part-none bytes from to (omega (arith, turned after))
            ∙ sym (past_end bytes start end (omega (arith, all)))
        | inr before ↦
            let all : to ≡ length bytes = outside out in
            let same : from ≡ start = ordered before in
            let left = length-drop start bytes in
            ap (λ (n : ℕ). slice_range bytes n to) same
            ∙ take_all (to - start) (drop start bytes) (omega (arith, left, all))
            ∙ sym (take_all (end - start) (drop start bytes) (omega (arith, left, out)))
      ]
      | inr fits ↦ elim (cases_lt to start) [
        | inl after ↦
            let all : to ≡ end = inside fits in
            part-none bytes from to (omega (arith, turned after))
            ∙ sym (part-none bytes start end (omega (arith, all)))
        | inr before ↦
            let all : to ≡ end = inside fits in
            let same : from ≡ start = ordered before in
            rw (same, all) refl
      ]
    ]

-- the extension at an index, borrowed
pub lent_at : (bytes : List ℕ) (all : List ExtensionPlaces) (i : ℕ) (places : ExtensionPlaces) (lent : ExtensionRef)
    → i < length all
    → places ≡ get_or all i places → borrowed_extension lent ≡ extension_of bytes places
    → Some (borrowed_extension lent) ≡ slice_get (map (extension_of bytes) all) i
lent_at bytes all i places lent below at is =
    ap (λ (e : Extension). Some e) is
    ∙ sym (slice_get-map (extension_of bytes) all i
    ∙ ap (option_map (extension_of bytes)) (slice_get_read all (length all) i places refl below at))
