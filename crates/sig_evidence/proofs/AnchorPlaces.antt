-- The indices of trust anchors of a name, one after another.
use Rattle.std.proofs.Common.{◌≡◌, ℕ, ◌+◌, ◌<◌, List, [], ◌∷◌, ◌++◌, length, take, get_or, sym, ap, ◌∙◌, arith}
use Rattle.std.proofs.Common.{append_assoc, length-take-le}
use Rattle.std.proofs.lemmas.List.{append-nil, take_more}
use Rattle.sig_certificate.specs.Certificate.{Cert}
use Rattle.sig_evidence.specs.Issuer.{place_if, places_from}

places_from-append : (place : ℕ) (name : List ℕ) (anchors : List Cert) (anchor : Cert)
    → places_from place name (anchors ++ anchor ∷ [])
    ≡ places_from place name anchors ++ place_if (place + length anchors) name anchor
unfolding places_from
places_from-append place name [] anchor =
    let here : place ≡ place + 0 = omega arith in
    append-nil _ ∙ ap (λ n. place_if n name anchor) here
places_from-append place name (first ∷ anchors) anchor =
    let next : place + 1 + length anchors ≡ place + length (first ∷ anchors) = omega arith in
    ap (λ rest. place_if place name first ++ rest) (places_from-append (place + 1) name anchors anchor)
    ∙ sym (append_assoc (place_if place name first) (places_from (place + 1) name anchors) _)
    ∙ ap (λ n. (place_if place name first ++ places_from (place + 1) name anchors) ++ place_if n name anchor) next

-- one turn of the loop
pub places_more : (name : List ℕ) (anchors : List Cert) (i : ℕ) (anchor : Cert) (before after : List ℕ)
    → i < length anchors → anchor ≡ get_or anchors i anchor → before ≡ places_from 0 name (take i anchors)
    → after ≡ before ++ place_if i name anchor → after ≡ places_from 0 name (take (i + 1) anchors)
places_more name anchors i anchor before after below is so_far pushed =
    let step : take (i + 1) anchors ≡ take i anchors ++ anchor ∷ [] =
    take_more anchors i anchor below ∙ ap (λ y. take i anchors ++ y ∷ []) (sym is) in
    let long : 0 + length (take i anchors) ≡ i = omega (arith, length-take-le i anchors (omega arith)) in
    pushed ∙ ap (λ places. places ++ place_if i name anchor) so_far
    ∙ ap (λ n. places_from 0 name (take i anchors) ++ place_if n name anchor) (sym long)
    ∙ sym (places_from-append 0 name (take i anchors) anchor) ∙ ap (places_from 0 name) (sym step)
