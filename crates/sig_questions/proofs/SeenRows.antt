-- The rows of what was borrowed are those of the certificates.
use Rattle.std.proofs.Common.{◌≡◌, ℕ, ℤ, Bool, true, false, cond, List, [], ◌∷◌, ◌++◌, map, Option, Some, None, refl, sym, ap, subst}
use Rattle.std.proofs.Common.{◌∙◌}
use Rattle.std.specs.Prelude.{if◌then◌else◌}
use Rattle.std.specs.Borrow.{Bor}
use Rattle.std.specs.List.{filter, flat_map}
use Rattle.std.proofs.lemmas.Grind.{flat_map-append}
use Rattle.std.proofs.lemmas.List.{map-append}
use Rattle.sig_base.specs.declared.checker.AcceptedRow.{AcceptedRow}
use Rattle.sig_certificate.specs.Certificate.{Cert}
use Rattle.sig_checked_bundle.specs.Checked.{Checked}
use Rattle.sig_dsse.specs.declared.artifact_digest.ArtifactDigest.{ArtifactDigest}
use Rattle.sig_verify.specs.CertificateLinks.{Trust}
use Rattle.sig_x509.specs.Pool.{present}
use Rattle.sig_x509.specs.Possible.{SignedOne, SignedUnder, SignerOne, all_signers, anchor_signer, further_signed}
use Rattle.sig_x509.specs.Possible.{may_sign, seen_under, the_leaf, under_all}
use Rattle.sig_x509.specs.declared.possible.PossiblePaths.{PossiblePaths}
use Rattle.sig_x509.specs.declared.possible.PossibleSigners.{PossibleSigners}
use Rattle.sig_questions.specs.Asked.{signature_row}
use Rattle.sig_questions.specs.Listed.{AreListed, AreListedAs, Listing, trust_in}
use Rattle.sig_questions.specs.Lists.{Side, certificate_questions, content_questions, entry_questions, pair_questions}
use Rattle.sig_questions.specs.Lists.{pairs_with, questions_after, sct_questions, sct_questions_under}
use Rattle.sig_questions.specs.Lists.{signature_questions, signed_side, signer_side, signers}
use Rattle.sig_questions.specs.Written.{point_questions, rows_after, rows_of_paths, rows_of_points, rows_of_signed}
use Rattle.sig_questions.specs.declared.trust.TrustParts.{TrustParts}

-- ---- lists

mapped : {X Y Z : Type 0} (f : Y → List Z) (g : X → Y) (xs : List X)
    → flat_map f (map g xs) ≡ flat_map (λ x. f (g x)) xs
mapped f g [] = refl
mapped f g (x ∷ xs) = ap (λ (zs : List _). f (g x) ++ zs) (mapped f g xs)

alike : {X Z : Type 0} (f g : X → List Z) (xs : List X) → ((x : X) → f x ≡ g x) → flat_map f xs ≡ flat_map g xs
alike f g [] same = refl
alike f g (x ∷ xs) same =
    ap (λ (zs : List _). zs ++ flat_map f xs) (same x) ∙ ap (λ (zs : List _). g x ++ zs) (alike f g xs same)

-- what two lists have in common
common : {X Y V Z : Type 0} (f : V → List Z) (g : X → V) (h : Y → V) (xs : List X) (ys : List Y) → map g xs ≡ map h ys
    → flat_map (λ x. f (g x)) xs ≡ flat_map (λ y. f (h y)) ys
common f g h xs ys same = sym (mapped f g xs) ∙ ap (flat_map f) same ∙ mapped f h ys

-- those that do not pass have nothing
kept : {X Y Z : Type 0} (f : Y → List Z) (g : X → Y) (p : X → Bool) (xs : List X)
    → flat_map f (map g (filter p xs)) ≡ flat_map (λ x. if p x then f (g x) else []) xs
kept f g p [] = refl
kept f g p (x ∷ xs) =
    by (p x) ∙ ap (λ (zs : List _). (if p x then f (g x) else []) ++ zs) (kept f g p xs)
  where
    by : (b : Bool) → flat_map f (map g (cond b (x ∷ filter p xs) (filter p xs)))
        ≡ cond b (f (g x)) [] ++ flat_map f (map g (filter p xs))
    by true = refl
    by false = refl

map_twice : {X Y Z : Type 0} (f : X → Y) (g : Y → Z) (xs : List X) → map g (map f xs) ≡ map (λ x. g (f x)) xs
map_twice f g [] = refl
map_twice f g (x ∷ xs) = ap (λ (ys : List _). g (f x) ∷ ys) (map_twice f g xs)

module _ (trust : Trust) (c : Checked) where
  abbrev t : ℤ
  t = c.certificate.not_before

  sides_are : all_signers trust.anchors c.further t ≡ map (signer_side trust c) (signers trust c)
  sides_are =
      sym (map-append (signer_side trust c) (map (λ x. (true, x)) trust.anchors) (map (λ x. (false, x)) c.further)
      ∙ ap (λ (xs : List SignerOne). xs ++ map (signer_side trust c) (map (λ x. (false, x)) c.further))
      (map_twice (λ x. (true, x)) (signer_side trust c) trust.anchors)
      ∙ ap (λ (xs : List SignerOne). map anchor_signer trust.anchors ++ xs)
      (map_twice (λ x. (false, x)) (signer_side trust c) c.further))

  -- under all sides
  abbrev Under : SignedOne → List AcceptedRow
  Under y = flat_map (λ side. signature_questions y (signer_side trust c side)) (signers trust c)

  under_pairs : (y : Option Cert) → flat_map (pair_questions trust c) (pairs_with trust c y) ≡ Under (signed_side c y)
  under_pairs y = mapped (pair_questions trust c) (λ (side : Side). (y, side)) (signers trust c)

  all_pairs : (ys : List (Option Cert)) → flat_map (pair_questions trust c) (flat_map (pairs_with trust c) ys)
      ≡ flat_map (λ y. Under (signed_side c y)) ys
  all_pairs [] = refl
  all_pairs (y ∷ ys) =
      flat_map-append (pair_questions trust c) (pairs_with trust c y) (flat_map (pairs_with trust c) ys)
      ∙ ap (λ (rows : List AcceptedRow). rows ++ flat_map (pair_questions trust c) (flat_map (pairs_with trust c) ys))
      (under_pairs y)
      ∙ ap (λ (rows : List AcceptedRow). Under (signed_side c y) ++ rows) (all_pairs ys)

  -- ---- under those who may have signed

  abbrev certificate_rows : SignedUnder → List AcceptedRow
  certificate_rows u = flat_map (λ x. signature_row u.certificate x ∷ []) u.signers

  abbrev point_rows : (List ℕ → Option (List ℕ)) → SignedUnder → List AcceptedRow
  point_rows points u = flat_map (point_questions points u.certificate) u.signers

  abbrev all_under : SignedOne → SignedUnder
  all_under y = under_all trust.anchors c.further t y

  -- leaving out those who may not have signed leaves out no row
  under_rows : (y : SignedOne) → certificate_rows (all_under y) ≡ Under y
  under_rows y =
      kept (λ x. signature_row y.certificate x ∷ []) (λ (x : SignerOne). x.certificate) (may_sign y)
      (all_signers trust.anchors c.further t)
      ∙ ap (flat_map (signature_questions y)) sides_are
      ∙ mapped (signature_questions y) (signer_side trust c) (signers trust c)

  under_points : (points : List ℕ → Option (List ℕ)) (y : SignedOne) → point_rows points (all_under y)
      ≡ flat_map (λ side. sct_questions_under points y (signer_side trust c side)) (signers trust c)
  under_points points y =
      kept (point_questions points y.certificate) (λ (x : SignerOne). x.certificate) (may_sign y)
      (all_signers trust.anchors c.further t)
      ∙ ap (flat_map (sct_questions_under points y)) sides_are
      ∙ mapped (sct_questions_under points y) (signer_side trust c) (signers trust c)

  seen_rows : (p : PossibleSigners) → rows_of_signed p ≡ certificate_rows (seen_under p)
  seen_rows p =
      sym (mapped (λ x. signature_row p.certificate.now x ∷ []) (λ (x : Bor Cert). x.now) p.signers.items)

  seen_points : (points : List ℕ → Option (List ℕ)) (p : PossibleSigners)
      → rows_of_points points p ≡ point_rows points (seen_under p)
  seen_points points p =
      sym (mapped (point_questions points p.certificate.now) (λ (x : Bor Cert). x.now) p.signers.items)

  module _ (p : PossiblePaths) (leaf : seen_under p.leaf ≡ all_under (the_leaf c.certificate t))
      (further : map seen_under p.further.items
      ≡ map (λ z. all_under (further_signed c.further c.certificate t z)) c.further) where
    pub signed_are : rows_of_paths p ≡ certificate_questions trust c
    signed_are =
        ap (λ (rows : List AcceptedRow). rows ++ flat_map rows_of_signed p.further.items)
        (seen_rows p.leaf ∙ ap certificate_rows leaf ∙ under_rows (the_leaf c.certificate t))
        ∙ ap (λ (rows : List AcceptedRow). Under (signed_side c None) ++ rows)
        (alike rows_of_signed (λ q. certificate_rows (seen_under q)) p.further.items seen_rows
        ∙ common certificate_rows seen_under (λ z. all_under (further_signed c.further c.certificate t z)) p.further.items
        c.further further
        ∙ alike (λ z. certificate_rows (all_under (further_signed c.further c.certificate t z)))
        (λ z. Under (signed_side c (Some z))) c.further
        (λ z. under_rows (further_signed c.further c.certificate t z))
        ∙ sym (mapped (λ y. Under (signed_side c y)) (λ (z : Cert). Some z) c.further))
        ∙ sym (all_pairs (None ∷ present c.further))

    pub points_are : rows_of_points trust.points p.leaf ≡ sct_questions trust c
    points_are =
        seen_points trust.points p.leaf ∙ ap (point_rows trust.points) leaf
        ∙ under_points trust.points (the_leaf c.certificate t)

pub listed_all : (parts : TrustParts) (d : ArtifactDigest) (c : Checked) (p : PossiblePaths) (leaf : Cert)
    (further : List Cert) (time : ℤ) (most : _) (result : Listing) → leaf ≡ c.certificate → further ≡ c.further
    → time ≡ leaf.not_before → seen_under p.leaf ≡ under_all parts.anchors further time (the_leaf leaf time)
    → map seen_under p.further.items
    ≡ map (λ z. under_all parts.anchors further time (further_signed further leaf time z)) further
    → AreListedAs (rows_of_paths p) (rows_of_paths p ++ rows_after p parts d c) most result
    → AreListed d (trust_in parts) parts.log_keys c most result
listed_all parts d c p leaf further time most result of_leaf of_further of_time is_leaf are_further listed =
    let trust : Trust = trust_in parts in
    let same : time ≡ c.certificate.not_before = of_time ∙ ap (λ (x : Cert). x.not_before) of_leaf in
    let one = is_leaf ∙ ap (λ (x : Cert). under_all parts.anchors further time (the_leaf x time)) of_leaf
    ∙ ap (λ (xs : List Cert). under_all parts.anchors xs time (the_leaf c.certificate time)) of_further
    ∙ ap (λ (t : ℤ). under_all parts.anchors c.further t (the_leaf c.certificate t)) same in
    let two = are_further
    ∙ ap (λ (xs : List Cert). map (λ z. under_all parts.anchors xs time (further_signed xs leaf time z)) xs) of_further
    ∙ ap (λ (x : Cert). map (λ z. under_all parts.anchors c.further time (further_signed c.further x time z)) c.further)
    of_leaf
    ∙ ap (λ (t : ℤ). map (λ z. under_all parts.anchors c.further t (further_signed c.further c.certificate t z))
    c.further) same in
    let signed = signed_are trust c p one two in
    let after : rows_after p parts d c ≡ questions_after d trust parts.log_keys c =
    ap (λ (rows : List AcceptedRow). rows ++ (content_questions d c ++ entry_questions parts.log_keys c.entry))
    (points_are trust c p one two) in
    subst (λ (rows : List AcceptedRow). AreListedAs rows (rows ++ questions_after d trust parts.log_keys c) most result)
    signed
    (subst (λ (rows : List AcceptedRow). AreListedAs (rows_of_paths p) (rows_of_paths p ++ rows) most result) after listed)
