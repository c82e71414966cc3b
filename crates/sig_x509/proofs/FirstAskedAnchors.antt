-- The first trust anchor that signed a certificate is the first of those that the checker is asked about.
use Rattle.std.proofs.Common.{◌≡◌, ◌⊎◌, ltb, ℕ, ◌<◌, Bool, true, false, ◌&&◌, not, cond, List}
use Rattle.std.proofs.Common.{length, get_or, Option, Some, None, slice_get, refl, sym, ap, ◌∙◌, inl, inr}
use Rattle.std.proofs.Common.{arith}
use Rattle.std.specs.Prelude.{bytes_eq, position}
use Rattle.std.specs.List.{find, position_or_len}
use Rattle.std.proofs.lemmas.Bool.{cases_order, not-true, ltb-true, ltb-false}
use Rattle.std.proofs.lemmas.List.Elements.{All-get_or}
use Rattle.std.proofs.lemmas.List.Folds.{find_at}
use Rattle.std.proofs.lemmas.List.Quantifiers.{position-Some}
use Rattle.std.proofs.lemmas.List.Sums.{prefix_len_passes}
use Rattle.std.proofs.lemmas.Option.{slice_get_within, slice_get_past, slice_get-get_or, get_or_from_slice_get}
use Rattle.sig_certificate.specs.Certificate.{Cert}
use Rattle.sig_x509.specs.AskedAnchors.{IsSameSigner, IsFirstOfItsKey, AreAsked, has_signed, is_signed_at}
use Rattle.sig_x509.specs.Issuance.{Accepts, is_signed_by}
use Rattle.sig_x509.proofs.Elements.{position_at, position_nowhere}

module _ (accepts : Accepts) (c : Cert) (anchors : List Cert) (asked : List ℕ) (are : AreAsked anchors asked) where
  abbrev signed : Cert → Bool
  signed x = is_signed_by accepts c x

  abbrev signed_at : ℕ → Bool
  signed_at index = is_signed_at accepts c anchors index

  -- the checker says the same of two anchors that have one subject and one SPKI
  same_word : (x y : Cert) → IsSameSigner x y → signed x ≡ signed y
  same_word x y same =
      ap (λ (s : List ℕ). bytes_eq c.issuer s && accepts x.spki c.algorithm c.tbs c.signature) same.subject
      ∙ ap (λ (k : List ℕ). bytes_eq c.issuer y.subject && accepts k c.algorithm c.tbs c.signature) same.spki

  -- where no anchor that is asked and is before the bound signed c, none before the bound did
  none_before : (bound : ℕ)
      → ((k d : ℕ) → k < length asked → get_or asked k d < bound → signed_at (get_or asked k d) ≡ false)
      → (index : ℕ) (x : Cert) → index < bound → slice_get anchors index ≡ Some x → signed x ≡ false
  none_before bound none index x lt there =
      let is = are.covers index x there in
      let place = is.is_asked in
      let fails = none place.0 is.first place.1 (rw place.2 (omega (arith, is.before, lt))) in
      sym (same_word is.anchor x is.same)
      ∙ sym (ap (λ (o : Option Cert). has_signed accepts c o) is.there)
      ∙ ap signed_at (sym place.2)
      ∙ fails

  abbrev found : ℕ
  found = position_or_len signed_at asked

  -- the first anchor that signed c is the first of those that are asked
  pub first_asked : find signed_at asked ≡ position signed anchors
  first_asked = find_at signed_at asked ∙ by_cases (ltb found (length asked)) refl
    where
      earlier_fail : (k d : ℕ) → k < found → signed_at (get_or asked k d) ≡ false
      earlier_fail k d lt =
          not-true (signed_at (get_or asked k d)) (prefix_len_passes (λ (i : ℕ). not (signed_at i)) asked k d lt)

      by_cases : (b : Bool) → ltb found (length asked) ≡ b → slice_get asked found ≡ position signed anchors
      by_cases false e =
          let past = ltb-false found (length asked) e in
          slice_get_past asked found past
          ∙ sym (position_nowhere signed anchors (λ k x there. none_before (length anchors)
          (λ place d within before. earlier_fail place d (omega (arith, within, past))) k x
          (slice_get_within anchors k x there) there))
      by_cases true e =
          let within = ltb-true found (length asked) e in
          let first : ℕ = get_or asked found 0 in
          let is = position-Some signed_at asked found 0 (ap (λ (b : Bool). cond b (Some found) None) e) in
          let anchor = All-get_or (IsFirstOfItsKey anchors) asked found 0 within are.firsts in
          slice_get-get_or asked found 0 within
          ∙ sym (position_at signed anchors first anchor.anchor anchor.there
          (sym (ap (λ (o : Option Cert). has_signed accepts c o) anchor.there) ∙ is.1)
          (λ k x lt there. none_before first (λ place d at before. earlier_fail place d (earlier place d at before)) k x lt
          there))
        where
          earlier : (place d : ℕ) → place < length asked → get_or asked place d < get_or asked found 0 → place < found
          earlier place d at before = by_order (cases_order place found)
            where
              any_default : get_or asked place 0 ≡ get_or asked place d
              any_default =
                  get_or_from_slice_get asked place (get_or asked place d) 0 (slice_get-get_or asked place d at)

              by_order : (place ≡ found) ⊎ ((place < found) ⊎ (found < place)) → place < found
              by_order (inl same) =
                  let here = ap (λ (i : ℕ). get_or asked i 0) same in absurd (omega (arith, any_default, here, before))
              by_order (inr (inl less)) = less
              by_order (inr (inr more)) =
                  let above = are.ascends found place 0 more at in absurd (omega (arith, any_default, above, before))
