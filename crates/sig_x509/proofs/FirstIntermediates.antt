-- The first intermediate that leads, by the table, is the first in a path.
use Rattle.std.proofs.Common.{◌≡◌, ◌⊎◌, ℕ, zero, ◌+◌, ◌<◌, ◌≤◌, ℤ, Bool, true, false, ◌&&◌, cond, List, [], ◌∷◌, ◌++◌}
use Rattle.std.proofs.Common.{map, length, get_or, Option, Some, None, Err, slice_get, inl, inr, refl, sym, ap}
use Rattle.std.proofs.Common.{subst, ◌∙◌, arith, ◌*◌}
use Rattle.std.specs.Prelude.{option_map, position}
use Rattle.std.specs.List.{AllZip}
use Rattle.std.proofs.lemmas.Bool.{and_from, both_ways, cases_order}
use Rattle.std.proofs.lemmas.List.{length-map, map-append}
use Rattle.std.specs.Borrow.{Bor}
use Rattle.std.proofs.lemmas.Option.{slice_get-map, slice_get_within, slice_get-get_or, get_or_from_slice_get}
use Rattle.sig_base.proofs.IntOrders.{le_is}
use Rattle.sig_base.specs.OptionSteps.{or_else}
use Rattle.sig_base.specs.declared.fault.PoolError.TheVariants.{Malformed, VerificationFailed}
use Rattle.sig_certificate.specs.Certificate.{Cert}
use Rattle.sig_certificate.specs.Trust.{may_sign_code}
use Rattle.sig_x509.specs.Candidates.{IsFirstPlace, candidates_of, if_may_issue, is_leading, is_signer}
use Rattle.sig_x509.specs.Candidates.{all_seen}
use Rattle.sig_x509.specs.Rows.{AreLinksOf, IsLinkOf, rows}
use Rattle.sig_x509.specs.declared.links.Link.{Link}
use Rattle.sig_x509.specs.Issuance.{Accepts, IsSignedByNone, is_issued, is_profiled, is_signed_by, signs_code_at}
use Rattle.sig_x509.specs.Issued.{IsSignedBy}
use Rattle.sig_x509.specs.Path.{AreSignedUp, HasPath, longest_path}
use Rattle.sig_x509.specs.PathSearch.{first_issuer, found_issuer, intermediate_of, leads, leads_from, may_issue}
use Rattle.sig_x509.specs.PathSearch.{most_questions, of_read, path_issuer}
use Rattle.sig_x509.specs.Pool.{Pool, intermediate_in, present}
use Rattle.sig_x509.specs.declared.issuer.Issuer.{Issuer}
use Rattle.sig_x509.specs.declared.issuer.Issuer.TheVariants.{Anchor, Intermediate}
use Rattle.sig_x509.proofs.Elements.{at_position, before_position, no_position}
use Rattle.sig_x509.proofs.IssuedLaws.{profile_from}
use Rattle.sig_x509.proofs.PathAnswers.{none_is_failed}
use Rattle.sig_x509.proofs.PathConditions.{signed_is}
use Rattle.sig_x509.proofs.Counts.{all_rows}
use Rattle.sig_x509.proofs.RowLaws.{leading_may, rows_lead}
use Rattle.sig_x509.proofs.SeenCandidates.{seen_count}

-- ---- the first of a list, by an index

pub first_place : {X : Type 0} (p : X → Bool) (xs : List X) (passes : ℕ → Bool) (n : ℕ) → length xs ≡ n
    → ((k : ℕ) (x : X) → slice_get xs k ≡ Some x → passes k ≡ p x) → (o : Option ℕ) → IsFirstPlace passes n o
    → o ≡ position p xs
first_place {X = X} p xs passes n size same None none = by (position p xs) refl
  where
    by : (o : Option ℕ) → position p xs ≡ o → None ≡ position p xs
    by None e = sym e
    by (Some i) e =
        let found = at_position p xs i e in
        absurd (both_ways (passes i) (none i (omega (arith, size, slice_get_within xs i found.0 found.1)))
        (same i found.0 found.1 ∙ found.2))
first_place {X = X} p xs passes n size same (Some i) (lt, is, earlier) = by (position p xs) refl
  where
    at : (k : ℕ) → k < n → (x : X) → slice_get xs k ≡ Some (get_or xs k x)
    at k below x = slice_get-get_or xs k x (omega (arith, below, size))

    by : (o : Option ℕ) → position p xs ≡ o → Some i ≡ position p xs
    by None e = absurd (nowhere xs refl)
      where
        nowhere : (ys : List X) → xs ≡ ys → ⊥
        nowhere [] none = omega (arith, lt, size, ap (λ (zs : List X). length zs) none)
        nowhere (y ∷ ys) some =
            both_ways (p (get_or xs i y)) (no_position p xs e i (get_or xs i y) (at i lt y))
            (sym (same i (get_or xs i y) (at i lt y)) ∙ is)
    by (Some j) e = by_order (cases_order i j)
      where
        found : (x : X) × (slice_get xs j ≡ Some x) × (p x ≡ true)
        found = at_position p xs j e

        by_order : (i ≡ j) ⊎ ((i < j) ⊎ (j < i)) → Some i ≡ position p xs
        by_order (inl one) = ap (λ (k : ℕ). Some k) one ∙ sym e
        by_order (inr (inl less)) =
            absurd (both_ways (p (get_or xs i found.0))
            (before_position p xs j e i (get_or xs i found.0) less (at i lt found.0))
            (sym (same i (get_or xs i found.0) (at i lt found.0)) ∙ is))
        by_order (inr (inr more)) =
            absurd (both_ways (passes j) (earlier j more) (same j found.0 found.1 ∙ found.2))

-- ---- the candidates

module _ (accepts : Accepts) (pool : Pool) (t : ℤ) (listed : List (Option Cert)) (are : listed ≡ candidates_of pool t)
  where
    pub leading_is : (c : Cert) (row : List Bool) (n : ℕ) (o : Option ℕ) → signs_code_at c t ≡ true
        → row ≡ map (of_read (leads accepts pool t longest_path zero)) pool.intermediates
        → length pool.intermediates ≡ n
        → IsFirstPlace (is_leading accepts c listed row) n o
        → o ≡ position (leads_from accepts pool c t) pool.intermediates
    leading_is c row n o signs row_is size first =
        first_place (leads_from accepts pool c t) pool.intermediates (is_leading accepts c listed row) n size
        at o first
      where
        row_at : (k : ℕ) (p : Option Cert) → slice_get pool.intermediates k ≡ Some p
            → get_or row k false ≡ of_read (leads accepts pool t longest_path zero) p
        row_at k p there =
            ap (λ (bs : List Bool). get_or bs k false) row_is
            ∙ get_or_from_slice_get (map (of_read (leads accepts pool t longest_path zero)) pool.intermediates) k
            (of_read (leads accepts pool t longest_path zero) p) false
            (slice_get-map (of_read (leads accepts pool t longest_path zero)) pool.intermediates k
            ∙ ap (λ (q : Option (Option Cert)). option_map (of_read (leads accepts pool t longest_path zero)) q) there)

        signer_at : (k : ℕ) (p : Option Cert) → slice_get pool.intermediates k ≡ Some p
            → is_signer accepts c listed k ≡ of_read (is_signed_by accepts c) (if_may_issue t p)
        signer_at k p there =
            ap (λ (os : List (Option Cert)). is_signer accepts c os k) are
            ∙ ap (λ (q : Option (Option Cert)). of_read (is_signed_by accepts c) (intermediate_in q))
            (slice_get-map (if_may_issue t) pool.intermediates k
            ∙ ap (λ (q : Option (Option Cert)). option_map (if_may_issue t) q) there)

        never : (b : Bool) → (b && false) ≡ false
        never true = refl
        never false = refl

        both : (x : Cert) (l b : Bool) → leads accepts pool t longest_path zero x ≡ l → may_issue t x ≡ b
            → (leads accepts pool t longest_path zero x && of_read (is_signed_by accepts c) (cond b (Some x) None))
            ≡ (is_issued accepts c t x && leads accepts pool t longest_path zero x)
        both x false b e f =
            ap (λ (l : Bool). l && of_read (is_signed_by accepts c) (cond b (Some x) None)) e
            ∙ sym (ap (λ (l : Bool). is_issued accepts c t x && l) e ∙ never (is_issued accepts c t x))
        both x true false e f =
            absurd (both_ways (may_issue t x) f
            (leading_may accepts pool t listed are longest_path zero x e))
        both x true true e f =
            ap (λ (l : Bool). l && is_signed_by accepts c x) e
            ∙ sym (ap (λ (l : Bool). is_issued accepts c t x && l) e ∙ also (is_issued accepts c t x)
            ∙ ap (λ (s : Bool). s && is_signed_by accepts c x) signs)
          where
            also : (b : Bool) → (b && true) ≡ b
            also true = refl
            also false = refl

        at : (k : ℕ) (p : Option Cert) → slice_get pool.intermediates k ≡ Some p
            → is_leading accepts c listed row k ≡ leads_from accepts pool c t p
        at k None there =
            ap (λ (b : Bool). b && is_signer accepts c listed k) (row_at k None there)
        at k (Some x) there =
            ap (λ (b : Bool). b && is_signer accepts c listed k) (row_at k (Some x) there)
            ∙ ap (λ (b : Bool). leads accepts pool t longest_path zero x && b) (signer_at k (Some x) there)
            ∙ both x (leads accepts pool t longest_path zero x) (may_issue t x) refl refl

-- ---- the result

module _ (accepts : Accepts) (pool : Pool) (c : Cert) (t : ℤ) (profiled : is_profiled c ≡ true) where
  pub unsigned : signs_code_at c t ≡ false → path_issuer accepts pool c t ≡ Err VerificationFailed
  unsigned no_code = none_is_failed accepts pool c t (profile_from c profiled) none
    where
      none : (issuer : Issuer) → ¬ HasPath accepts pool c t issuer
      none issuer has =
          let path = has.path in
          both_ways (signs_code_at c t) no_code
          (and_from _ _ (and_from _ _ (le_is c.not_before t path.begun) (le_is t c.not_after path.lasting))
          (ap may_sign_code path.purpose))

  pub unsigned_by_all : IsSignedByNone accepts c → path_issuer accepts pool c t ≡ Err VerificationFailed
  unsigned_by_all nobody =
      none_is_failed accepts pool c t (profile_from c profiled) (λ issuer has. by has.over has.anchor has.path.signed)
    where
      by_one : (x : Cert) → IsSignedBy accepts c x → ⊥
      by_one x signed = both_ways (is_signed_by accepts c x) (nobody x) (signed_is accepts c x signed)

      by : (over : List Cert) (anchor : Cert) → AreSignedUp accepts c over anchor → ⊥
      by [] anchor signed = by_one anchor signed
      by (x ∷ xs) anchor signed = by_one x signed.0

  pub found : (anchor intermediate : Option ℕ) → signs_code_at c t ≡ true
      → anchor ≡ position (is_signed_by accepts c) pool.anchors
      → (anchor ≡ None → intermediate ≡ position (leads_from accepts pool c t) pool.intermediates)
      → path_issuer accepts pool c t
      ≡ found_issuer (or_else (option_map (λ i. Anchor i) anchor) (option_map (λ i. Intermediate i) intermediate))
  found anchor intermediate signs first next =
      ap (λ (b : Bool). cond b (found_issuer (first_issuer accepts pool c t)) (Err Malformed)) profiled
      ∙ ap (λ (o : Option ℕ). found_issuer (or_else (option_map (λ i. Anchor i) o) (intermediate_of accepts pool c t)))
      (ap (λ (b : Bool). position (λ x. b && is_signed_by accepts c x) pool.anchors) signs ∙ sym first)
      ∙ by anchor refl
    where
      by : (o : Option ℕ) → anchor ≡ o
          → found_issuer (or_else (option_map (λ i. Anchor i) anchor) (intermediate_of accepts pool c t))
          ≡ found_issuer (or_else (option_map (λ i. Anchor i) anchor) (option_map (λ i. Intermediate i) intermediate))
      by (Some i) e =
          ap (λ (o : Option ℕ). found_issuer (or_else (option_map (λ i. Anchor i) o) (intermediate_of accepts pool c t))) e
          ∙ sym (ap (λ (o : Option ℕ). found_issuer (or_else (option_map (λ i. Anchor i) o)
          (option_map (λ i. Intermediate i) intermediate))) e)
      by None e =
          ap (λ (o : Option ℕ). found_issuer (or_else (option_map (λ i. Anchor i) anchor)
          (option_map (λ i. Intermediate i) o))) (sym (next e))

-- ---- the candidates of a pool, one list after another

map_present : (f : Option Cert → Option Cert) (cs : List Cert) → map f (present cs) ≡ map (λ c. f (Some c)) cs
map_present f [] = refl
map_present f (c ∷ cs) = ap (λ (os : List (Option Cert)). f (Some c) ∷ os) (map_present f cs)

pub listing_is : (given : List (Option Cert)) (further : List Cert) (t : ℤ) (s0 s1 s2 : List (Option (Bor Cert)))
    → s0 ≡ [] → all_seen s1 ≡ all_seen s0 ++ map (if_may_issue t) given
    → all_seen s2 ≡ all_seen s1 ++ map (λ c. if_may_issue t (Some c)) further
    → all_seen s2 ≡ map (if_may_issue t) (given ++ present further)
listing_is given further t s0 s1 s2 none one two =
    two
    ∙ ap (λ (os : List (Option Cert)). os ++ map (λ c. if_may_issue t (Some c)) further)
    (one ∙ ap (λ (os : List (Option (Bor Cert))). all_seen os ++ map (if_may_issue t) given) none)
    ∙ ap (λ (os : List (Option Cert)). map (if_may_issue t) given ++ os) (sym (map_present (if_may_issue t) further))
    ∙ sym (map-append (if_may_issue t) given (present further))

-- ---- what the table and the leaf's signatures give

pub candidate_count : (pool : Pool) (t : ℤ) (raw : List (Option (Bor Cert))) → all_seen raw ≡ candidates_of pool t
    → length raw ≡ length pool.intermediates
candidate_count pool t raw are =
    sym (seen_count raw) ∙ ap (λ (os : List (Option Cert)). length os) are
    ∙ length-map pool.intermediates (if_may_issue t)

pub intermediate_found : (accepts : Accepts) (pool : Pool) (c : Cert) (t : ℤ)
    (raw two three : List (Option (Bor Cert))) (links four : List Link) (row five : List Bool) (o : Option ℕ)
    → all_seen raw ≡ candidates_of pool t → two ≡ raw → three ≡ raw
    → AreLinksOf accepts pool (all_seen two) links → four ≡ links
    → row ≡ rows four 6 0 → five ≡ row → signs_code_at c t ≡ true
    → IsFirstPlace (is_leading accepts c (all_seen three) five) (length three) o
    → o ≡ position (leads_from accepts pool c t) pool.intermediates
intermediate_found accepts pool c t raw two three links four row five o are two_is three_is they four_is row_is five_is
    signs first =
    let links_are : AllZip (IsLinkOf accepts pool (all_seen raw)) (candidates_of pool t) links =
    subst (λ (os : List (Option Cert)). AllZip (IsLinkOf accepts pool (all_seen raw)) os links) are
    (subst (λ (os : List (Option (Bor Cert))). AreLinksOf accepts pool (all_seen os) links) two_is they) in
    let table = rows_lead accepts pool t (all_seen raw) are links links_are 6 0 in
    let size : length pool.intermediates ≡ length three =
    sym (ap (λ (os : List (Option (Bor Cert))). length os) three_is ∙ candidate_count pool t raw are) in
    leading_is accepts pool t (all_seen raw) are c five (length three) o signs
    (five_is ∙ row_is ∙ ap (λ (ls : List Link). rows ls 6 0) four_is ∙ table) size
    (subst (λ (os : List (Option (Bor Cert))). IsFirstPlace (is_leading accepts c (all_seen os) five) (length three) o)
    three_is first)

pub questions_are : (pool : Pool) (t : ℤ) (raw two three : List (Option (Bor Cert))) (start asked done : ℕ)
    → all_seen raw ≡ candidates_of pool t → two ≡ raw → three ≡ raw
    → asked ≤ start + length two * (length two + length pool.anchors) → done ≤ asked + length three
    → done + length pool.anchors ≤ start + most_questions pool
questions_are pool t raw two three start asked done are two_is three_is links leaf =
    let n : length two ≡ length pool.intermediates =
    ap (λ (os : List (Option (Bor Cert))). length os) two_is ∙ candidate_count pool t raw are in
    let m : length three ≡ length pool.intermediates =
    ap (λ (os : List (Option (Bor Cert))). length os) three_is ∙ candidate_count pool t raw are in
    all_rows (length pool.intermediates) (length pool.anchors) start asked done
    (subst (λ (k : ℕ). asked ≤ start + k * (k + length pool.anchors)) n links)
    (subst (λ (k : ℕ). done ≤ asked + k) m leaf)
