-- The rows of the table say which intermediates lead to a trust anchor.
use Rattle.std.proofs.Common.{◌≡◌, ℕ, zero, suc, ◌+◌, ◌<◌, ℤ, Bool, true, false, ◌&&◌, ◌||◌, cond, List}
use Rattle.std.proofs.Common.{[], ◌∷◌, ◌++◌, map, length, get_or, Option, Some, None, slice_get, refl, sym, ap}
use Rattle.std.proofs.Common.{◌∙◌, arith}
use Rattle.std.specs.Prelude.{option_map}
use Rattle.std.specs.List.{AllZip, list_any}
use Rattle.std.proofs.lemmas.Bool.{and_parts, and_from}
use Rattle.std.proofs.lemmas.Option.{slice_get-map, get_or_from_slice_get}
use Rattle.sig_certificate.specs.Certificate.{Cert}
use Rattle.sig_certificate.specs.Profile.{constraints}
use Rattle.sig_x509.specs.Candidates.{AreSigners, candidates_of, if_may_issue, is_signer}
use Rattle.sig_x509.specs.Issuance.{Accepts, is_signed_by}
use Rattle.sig_x509.specs.PathSearch.{allows, is_rooted, leads, may_issue, most_between, of_read}
use Rattle.sig_x509.specs.Pool.{Pool, intermediate_in}
use Rattle.sig_x509.specs.Rows.{IsLinkOf, leads_next, link_leads, rows}
use Rattle.sig_x509.specs.declared.links.Link.{Link}
use Rattle.sig_x509.proofs.Elements.{any_from, any_is, at_contained, contains_at}

-- ---- the candidates by their indices

pub same_bool : (a b : Bool) → (a ≡ true → b ≡ true) → (b ≡ true → a ≡ true) → a ≡ b
same_bool true b to from = sym (to refl)
same_bool false true to from = from refl
same_bool false false to from = refl

pub left_at : {X : Type 0} (xs ys : List X) (k : ℕ) → k < length xs → slice_get (xs ++ ys) k ≡ slice_get xs k
left_at [] ys k lt = absurd (omega (arith, lt))
left_at (x ∷ xs) ys zero lt = refl
left_at (x ∷ xs) ys (suc k) lt = left_at xs ys k (omega (arith, lt))

pub right_at : {X : Type 0} (xs ys : List X) (k : ℕ) → slice_get (xs ++ ys) (length xs + k) ≡ slice_get ys k
right_at [] ys k =
    let same : 0 + k ≡ k = omega arith in ap (λ (i : ℕ). slice_get ys i) same
right_at (x ∷ xs) ys k =
    let same : length (x ∷ xs) + k ≡ suc (length xs + k) = omega arith in
    ap (λ (i : ℕ). slice_get (x ∷ (xs ++ ys)) i) same ∙ right_at xs ys k

module _ (accepts : Accepts) (pool : Pool) (t : ℤ) (listed : List (Option Cert)) (are : listed ≡ candidates_of pool t)
  where
    abbrev signs : Cert → Option (Option Cert) → Bool
    signs x o = of_read (is_signed_by accepts x) (intermediate_in o)

    -- what leads may issue
    pub leading_may : (n m : ℕ) (y : Cert) → leads accepts pool t n m y ≡ true → may_issue t y ≡ true
    unfolding leads
    leading_may zero m y is = absurd cc
    leading_may (suc n) m y is = let a = and_parts _ _ is in (and_parts _ _ a.0).0

    -- ---- one row by the next

    module _ (left others : ℕ) (row : List Bool)
        (row_is : row ≡ map (of_read (leads accepts pool t left (suc others))) pool.intermediates) where
      abbrev goes_on : Cert → Cert → Bool
      goes_on x y = is_signed_by accepts x y && leads accepts pool t left (suc others) y

      abbrev on : Cert → Bool
      on x = is_rooted accepts pool x || list_any (of_read (goes_on x)) pool.intermediates

      row_at : (i : ℕ) (o : Option Cert) → slice_get pool.intermediates i ≡ Some o
          → get_or row i false ≡ of_read (leads accepts pool t left (suc others)) o
      row_at i o there =
          ap (λ (bs : List Bool). get_or bs i false) row_is
          ∙ get_or_from_slice_get (map (of_read (leads accepts pool t left (suc others))) pool.intermediates) i
          (of_read (leads accepts pool t left (suc others)) o) false
          (slice_get-map (of_read (leads accepts pool t left (suc others))) pool.intermediates i
          ∙ ap (λ (p : Option (Option Cert)). option_map (of_read (leads accepts pool t left (suc others))) p) there)

      usable_is : (i : ℕ) (p : Option (Option Cert)) → slice_get pool.intermediates i ≡ p
          → slice_get listed i ≡ option_map (if_may_issue t) p
      usable_is i p there =
          ap (λ (xs : List (Option Cert)). slice_get xs i) are ∙ slice_get-map (if_may_issue t) pool.intermediates i
          ∙ ap (λ (q : Option (Option Cert)). option_map (if_may_issue t) q) there

      abbrev through : Cert → Bool
      through x = list_any (of_read (goes_on x)) pool.intermediates

      signer_leads : (x : Cert) (k : ℕ) → is_signer accepts x listed k ≡ true → leads_next row k ≡ true
          → through x ≡ true
      signer_leads x k signed set =
          by_there (slice_get pool.intermediates k) refl
          (sym (ap (signs x) (usable_is k (slice_get pool.intermediates k) refl)) ∙ signed)
        where
          by_usable : (y : Cert) (b : Bool) → may_issue t y ≡ b → signs x (Some (cond b (Some y) None)) ≡ true
              → is_signed_by accepts x y ≡ true
          by_usable y true e is = is
          by_usable y false e is = absurd cc

          by_there : (p : Option (Option Cert)) → slice_get pool.intermediates k ≡ p
              → signs x (option_map (if_may_issue t) p) ≡ true → through x ≡ true
          by_there None e is = absurd cc
          by_there (Some None) e is = absurd cc
          by_there (Some (Some y)) e is =
              any_is (of_read (goes_on x)) pool.intermediates k (Some y) e
              (and_from _ _ (by_usable y (may_issue t y) refl is) (sym (row_at k (Some y) e) ∙ set))

      leads_signer : (x : Cert) → through x ≡ true
          → (k : ℕ) × (is_signer accepts x listed k ≡ true) × (leads_next row k ≡ true)
      leads_signer x is =
          let found = any_from (of_read (goes_on x)) pool.intermediates is in by found.0 found.1 found.2 found.3
        where
          by : (i : ℕ) (o : Option Cert) → slice_get pool.intermediates i ≡ Some o → of_read (goes_on x) o ≡ true
              → (k : ℕ) × (is_signer accepts x listed k ≡ true) × (leads_next row k ≡ true)
          by i None e goes = absurd cc
          by i (Some y) e goes =
              let both = and_parts _ _ goes in
              let there : slice_get listed i ≡ Some (Some y) =
              usable_is i (Some (Some y)) e
              ∙ ap (λ (b : Bool). Some (cond b (Some y) None)) (leading_may left (suc others) y both.1) in
              (i, ap (signs x) there ∙ both.0, row_at i (Some y) e ∙ both.1)

      signers_lead : (x : Cert) (signers : List ℕ) → AreSigners accepts x listed signers
          → list_any (leads_next row) signers ≡ through x
      signers_lead x signers they =
          same_bool (list_any (leads_next row) signers) (through x)
          (λ any. let found = any_from (leads_next row) signers any in
          signer_leads x found.1 (they.each found.1 (contains_at signers found.0 found.1 found.2)) found.3)
          (λ leads_on. let found = leads_signer x leads_on in
          let has = they.all found.0 found.1 in
          any_is (leads_next row) signers has.0 found.0 (at_contained signers found.0 has) found.2)

      none_leads : (link : Link) → link.rooted ≡ false → link.signers.items ≡ [] → link_leads others row link ≡ false
      none_leads link unrooted none =
          ap (λ (ks : List ℕ). allows link.path_len others && (link.rooted || list_any (leads_next row) ks)) none
          ∙ ap (λ (b : Bool). allows link.path_len others && (b || false)) unrooted
          ∙ never (allows link.path_len others)
        where
          never : (b : Bool) → (b && false) ≡ false
          never true = refl
          never false = refl

      link_is : (o : Option Cert) (link : Link) → IsLinkOf accepts pool listed (if_may_issue t o) link
          → link_leads others row link ≡ of_read (leads accepts pool t (suc left) others) o
      unfolding leads
      link_is None link is = none_leads link is.0 is.1
      link_is (Some x) link is = by (may_issue t x) refl is
        where
          by : (b : Bool) → may_issue t x ≡ b → IsLinkOf accepts pool listed (cond b (Some x) None) link
              → link_leads others row link
              ≡ ((may_issue t x && allows (most_between (constraints x)) others) && on x)
          by false e is =
              none_leads link is.0 is.1
              ∙ sym (ap (λ (b : Bool). (b && allows (most_between (constraints x)) others) && on x) e)
          by true e is =
              ap (λ (o : Option ℕ). allows o others && (link.rooted || list_any (leads_next row) link.signers.items)) is.0
              ∙ ap (λ (b : Bool). allows (most_between (constraints x)) others
              && (b || list_any (leads_next row) link.signers.items)) is.1
              ∙ ap (λ (b : Bool). allows (most_between (constraints x)) others && (is_rooted accepts pool x || b))
              (signers_lead x link.signers.items is.2)
              ∙ sym (ap (λ (b : Bool). (b && allows (most_between (constraints x)) others) && on x) e)

    -- ---- all rows

    zip_maps : {X Y Z W : Type 0} (R : Y → W → Type 0) (g : X → Y) (f : W → Z) (h : X → Z) (os : List X) (ls : List W)
        → AllZip R (map g os) ls → ((o : X) (l : W) → R (g o) l → f l ≡ h o) → map f ls ≡ map h os
    zip_maps R g f h [] [] all same = refl
    zip_maps R g f h [] (l ∷ ls) all same = absurd all
    zip_maps R g f h (o ∷ os) [] all same = absurd all
    zip_maps R g f h (o ∷ os) (l ∷ ls) all same =
        ap (λ (z : _). z ∷ map f ls) (same o l all.0) ∙ ap (λ (zs : List _). h o ∷ zs) (zip_maps R g f h os ls all.1 same)

    nothing_leads : (others : ℕ) (o : Option Cert) → false ≡ of_read (leads accepts pool t zero others) o
    unfolding leads
    nothing_leads others None = refl
    nothing_leads others (Some x) = refl

    pub rows_lead : (links : List Link) → AllZip (IsLinkOf accepts pool listed) (candidates_of pool t) links
        → (left others : ℕ) → rows links left others ≡ map (of_read (leads accepts pool t left others)) pool.intermediates
    unfolding rows
    rows_lead links they zero others =
        zip_maps (IsLinkOf accepts pool listed) (if_may_issue t) (λ link. false)
        (of_read (leads accepts pool t zero others)) pool.intermediates links they (λ o l is. nothing_leads others o)
    rows_lead links they (suc left) others =
        zip_maps (IsLinkOf accepts pool listed) (if_may_issue t)
        (link_leads others (rows links left (suc others)))
        (of_read (leads accepts pool t (suc left) others)) pool.intermediates links they
        (link_is left others (rows links left (suc others)) (rows_lead links they left (suc others)))
