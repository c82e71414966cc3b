-- The lists of those who may have signed, one by one.
use Rattle.std.proofs.Common.{◌≡◌, ℕ, ◌+◌, ◌<◌, ℤ, Bool, false, List, [], ◌∷◌, ◌++◌, map, take, get_or, length, Some, slice_get}
use Rattle.std.proofs.Common.{sym, ap, ◌∙◌}
use Rattle.std.proofs.lemmas.List.{map-append, take_more}
use Rattle.std.proofs.lemmas.Option.{slice_get-get_or}
use Rattle.sig_certificate.specs.Certificate.{Cert}
use Rattle.sig_x509.proofs.PossibleRows.{down_column, up_column}
use Rattle.sig_x509.specs.Possible.{below, column, count, down_at, further_signed, further_signer}
use Rattle.sig_x509.specs.Possible.{next_of, node_of, seen_signed, seen_signer, up_at, up_of}
use Rattle.sig_x509.specs.declared.possible.Signed.{Signed}
use Rattle.sig_x509.specs.declared.possible.Signer.{Signer}

-- one more after a list
grown : {X Y Z : Type 0} (seen : X → Y) (f : Z → Y) (zs : List Z) (k : ℕ) (z : Z) (items more : List X) (x : X)
    → map seen items ≡ map f (take k zs) → more ≡ items ++ x ∷ [] → seen x ≡ f z → k < length zs → z ≡ get_or zs k z
    → map seen more ≡ map f (take (k + 1) zs)
grown seen f zs k z items more x so_far pushed is lt there =
    ap (map seen) pushed ∙ map-append seen items (x ∷ []) ∙ ap (λ (ys : List _). ys ++ seen x ∷ []) so_far
    ∙ ap (λ (y : _). map f (take k zs) ++ y ∷ []) (is ∙ ap f there)
    ∙ sym (ap (map f) (take_more zs k z lt) ∙ map-append f (take k zs) (get_or zs k z ∷ []))

there_at : (further : List Cert) (place : ℕ) (z : Cert) → place < length further → z ≡ get_or further place z
    → slice_get further place ≡ Some z
there_at further place z lt is = slice_get-get_or further place z lt ∙ ap (λ (y : Cert). Some y) (sym is)

module _ (anchors further : List Cert) (c : Cert) (t s : ℤ) (same : s ≡ t) (rows : List (List Bool)) (place : ℕ)
    (z : Cert) (lt : place < length further) (is : z ≡ get_or further place z) where
  pub signed_more : rows ≡ map (down_at (map (node_of anchors further c t) further)) (below 7)
      → (items more : List Signed) (x : Signed) → x.certificate.now ≡ z → x.next ≡ column rows place
      → more ≡ items ++ x ∷ [] → map seen_signed items ≡ map (further_signed further c s) (take place further)
      → map seen_signed more ≡ map (further_signed further c s) (take (place + 1) further)
  signed_more are items more x at next pushed so_far =
      grown seen_signed (further_signed further c s) further place z items more x so_far pushed
      (ap (λ (d : Cert). record { certificate = d; next = x.next }) at
      ∙ ap (λ (row : List Bool). record { certificate = z; next = row })
      (next ∙ ap (λ (rs : List (List Bool)). column rs place) are
      ∙ down_column anchors further c t place z (there_at further place z lt is)
      ∙ ap (λ (u : ℤ). map (next_of further c u z) (below count)) (sym same)))
      lt is

  pub signer_more : rows ≡ map (up_at (map (node_of anchors further c t) further)) (below 7)
      → (items more : List Signer) (x : Signer) → x.certificate.now ≡ z → x.up ≡ column rows place
      → more ≡ items ++ x ∷ [] → map seen_signer items ≡ map (further_signer anchors further s) (take place further)
      → map seen_signer more ≡ map (further_signer anchors further s) (take (place + 1) further)
  signer_more are items more x at up pushed so_far =
      grown seen_signer (further_signer anchors further s) further place z items more x so_far pushed
      (ap (λ (d : Cert). record { certificate = d; trusted = false; up = x.up }) at
      ∙ ap (λ (row : List Bool). record { certificate = z; trusted = false; up = row })
      (up ∙ ap (λ (rs : List (List Bool)). column rs place) are
      ∙ up_column anchors further c t place z (there_at further place z lt is)
      ∙ ap (λ (u : ℤ). map (up_of anchors further u z) (below count)) (sym same)))
      lt is
