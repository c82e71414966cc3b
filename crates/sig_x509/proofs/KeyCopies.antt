-- Copies of SPKIs side by side: what is added at the end leaves those before it as they are, and a copy compares as its trust
-- anchor does.
use Rattle.std.proofs.Common.{◌≡◌, ℕ, ◌-◌, ◌≤◌, List, [], ◌∷◌, ◌++◌, length, take, drop, get_or, Option}
use Rattle.std.proofs.Common.{Some, refl, sym, ap, ◌∙◌, arith, slice_get}
use Rattle.std.specs.List.{slice_range}
use Rattle.std.specs.Option.{option_cmp, option_map}
use Rattle.std.specs.Ordering.{nat_cmp, ordering_then}
use Rattle.std.proofs.lemmas.List.{drop_at, drop-append-le, length-append, length-drop, take-append-le}
use Rattle.std.proofs.lemmas.Option.{get_or_from_slice_get, slice_get-map}
use Rattle.std.proofs.lemmas.Slice.{between_to_end}
use Rattle.sig_base.specs.Rank.{rank_from}
use Rattle.sig_certificate.specs.Certificate.{Cert}
use Rattle.sig_x509.specs.KeyOrder.{AreCopies, HoldsKeys, IsCopy, IsWanted, compared_at, indices_of, key_order, signer_of}
use Rattle.sig_x509.specs.KeyOrder.{signer_order, spki_in, subject_in, wanted_signer}
use Rattle.sig_x509.specs.declared.key_order.KeyOrder.{KeyOrder}
use Rattle.sig_x509.specs.declared.key_order.KeyPlace.{KeyPlace}
use Rattle.sig_x509.specs.declared.key_order.Wanted.{Wanted}
use Rattle.sig_x509.proofs.Elements.{all_at, contains_at}
use Rattle.sig_x509.proofs.KeyOrders.{first_of}

same_range : (buffer more : List ℕ) (start end : ℕ) → start ≤ end → end ≤ length buffer
    → slice_range (buffer ++ more) start end ≡ slice_range buffer start end
same_range buffer more start end le within =
    let rest = length-drop start buffer in
    ap (λ (w : List ℕ). take (end - start) w) (drop-append-le start buffer more (omega (arith, le, within)))
    ∙ take-append-le (end - start) (drop start buffer) more (omega (arith, rest, le, within))

added_range : (buffer more : List ℕ) → slice_range (buffer ++ more) (length buffer) (length (buffer ++ more)) ≡ more
added_range buffer more =
    between_to_end (buffer ++ more) (length buffer) (length (buffer ++ more)) (omega arith)
    ∙ drop_at buffer more (length buffer) refl

module _ (from : ℕ) (anchors : List Cert) (buffer more : List ℕ) where
  kept : (p : KeyPlace) → IsCopy from anchors buffer p → IsCopy from anchors (buffer ++ more) p
  kept p is =
      let size = length-append buffer more in
      record {
        ordered = is.ordered;
        within = omega (arith, is.within, size);
        same = same_range buffer more p.start p.end is.ordered is.within ∙ is.same;
        ranked = is.ranked;
      }

  -- a copy more
  pub one_more_copy : (ps : List KeyPlace) (p : KeyPlace) → p.start ≡ length buffer → p.end ≡ length (buffer ++ more)
      → more ≡ spki_in (slice_get anchors p.index) → p.rank ≡ rank_from from more → AreCopies from anchors buffer ps
      → AreCopies from anchors (buffer ++ more) (ps ++ p ∷ [])
  one_more_copy [] p start end is ranked all =
      let size = length-append buffer more in (
        record {
          ordered = omega (arith, start, end, size);
          within = omega (arith, end);
          same = ap (λ (n : ℕ). slice_range (buffer ++ more) n p.end) start
              ∙ ap (λ (n : ℕ). slice_range (buffer ++ more) (length buffer) n) end ∙ added_range buffer more ∙ is;
          ranked = ranked ∙ ap (rank_from from) is;
        },
        tt,
      )
  one_more_copy (q ∷ ps) p start end is ranked all = (kept q all.0, one_more_copy ps p start end is ranked all.1)

-- the index at a place
module _ (keys : KeyOrder) (place : ℕ) (p : KeyPlace) (there : slice_get keys.places.items place ≡ Some p) where
  index_found : slice_get (indices_of keys) place ≡ Some p.index
  index_found =
      slice_get-map (λ (q : KeyPlace). q.index) keys.places.items place
      ∙ ap (λ (o : Option KeyPlace). option_map (λ (q : KeyPlace). q.index) o) there

  pub index_there : p.index ≡ get_or (indices_of keys) place 0
  index_there = sym (get_or_from_slice_get (indices_of keys) place p.index 0 index_found)

  module _ (anchors : List Cert) (holds : HoldsKeys anchors keys) where
    pub copy_there : IsCopy keys.from anchors keys.buffer.items p
    copy_there = all_at (IsCopy keys.from anchors keys.buffer.items) keys.places.items holds.copies place p there

    -- Rank and copy compare as the trust anchor does.
    pub copy_compares : (wanted : Wanted) → IsWanted keys.from wanted
        → ordering_then (nat_cmp p.rank wanted.rank) (key_order
        (subject_in (slice_get anchors p.index), slice_range keys.buffer.items p.start p.end) (wanted_signer wanted))
        ≡ compared_at keys.from anchors (wanted_signer wanted) (get_or (indices_of keys) place 0)
    unfolding signer_order
    copy_compares wanted is =
        let first = first_of keys.from anchors (indices_of keys) holds.order [] [] p.index
        (contains_at (indices_of keys) place p.index index_found) in
        let s = wanted_signer wanted in
        ap (λ (r : ℕ). ordering_then (nat_cmp r wanted.rank) (key_order
        (subject_in (slice_get anchors p.index), slice_range keys.buffer.items p.start p.end) s)) copy_there.ranked
        ∙ ap (λ (r : ℕ). ordering_then (nat_cmp (rank_from keys.from (spki_in (slice_get anchors p.index))) r) (key_order
        (subject_in (slice_get anchors p.index), slice_range keys.buffer.items p.start p.end) s)) is
        ∙ ap (λ (w : List ℕ). ordering_then
        (nat_cmp (rank_from keys.from (spki_in (slice_get anchors p.index))) (rank_from keys.from s.1))
        (key_order (subject_in (slice_get anchors p.index), w) s)) copy_there.same
        ∙ ap (λ (o : Option Cert). signer_order keys.from (subject_in o, spki_in o) s) first.there
        ∙ sym (ap (λ (o : Option Cert). option_cmp (signer_order keys.from) (option_map signer_of o) (Some s)) first.there)
        ∙ ap (λ (i : ℕ). compared_at keys.from anchors s i) index_there
