-- The walk over the candidates of one name, from the last down, finds all that signed.
use Rattle.std.proofs.Common.{◌≡◌, ◌⊎◌, ℕ, zero, suc, ◌+◌, ◌<◌, ◌≤◌, Bool, true, false, cond, List, [], ◌∷◌, ◌++◌}
use Rattle.std.proofs.Common.{length, Option, Some, None, slice_get, inl, inr, refl, sym, ap, subst, ◌∙◌, arith}
use Rattle.std.specs.Prelude.{Contains, bytes_eq, ◌&&◌}
use Rattle.std.proofs.lemmas.Bool.{both_ways, cases_order}
use Rattle.std.proofs.lemmas.List.Elements.{Contains-append_left, Contains-push}
use Rattle.std.proofs.lemmas.Option.{slice_get_within}
use Rattle.std.proofs.lemmas.Slice.Eq.{bytes_eq-Decides}
use Rattle.sig_certificate.specs.Certificate.{Cert}
use Rattle.sig_x509.specs.Candidates.{AreSigners, has_subject, is_signer, last_named}
use Rattle.sig_x509.specs.Issuance.{Accepts, IsSignedByNone, is_signed_by}
use Rattle.sig_x509.specs.PathSearch.{of_read}
use Rattle.sig_x509.specs.Pool.{intermediate_in}

-- ---- the last of a name

pub record IsLast (listed : List (Option Cert)) (count : ℕ) (name : List ℕ) (k : ℕ) : Type 0 where
  pub below : k < count
  pub named : has_subject name (slice_get listed k) ≡ true
  pub after : (j : ℕ) → k < j → j < count → has_subject name (slice_get listed j) ≡ false

pub last_is : (listed : List (Option Cert)) (count : ℕ) (name : List ℕ) (k : ℕ) → last_named listed count name ≡ Some k
    → IsLast listed count name k
last_is listed zero name k is = absurd cc
last_is listed (suc count) name k is =
    by (has_subject name (slice_get listed count)) refl is (λ e. last_is listed count name k e)
  where
    by : (b : Bool) → has_subject name (slice_get listed count) ≡ b
        → cond b (Some count) (last_named listed count name) ≡ Some k
        → (last_named listed count name ≡ Some k → IsLast listed count name k) → IsLast listed (suc count) name k
    by true here e before =
        let same : count ≡ k = cc in
        record {
          below = omega (arith, same);
          named = ap (λ (i : ℕ). has_subject name (slice_get listed i)) (sym same) ∙ here;
          after = λ j above under. absurd (omega (arith, same, above, under));
        }
    by false here e before =
        let is = before e in
        record {
          below = omega (arith, is.below);
          named = is.named;
          after = λ j above under. at j above under (cases_order j count);
        }
      where
        at : (j : ℕ) → k < j → j < suc count → (j ≡ count) ⊎ ((j < count) ⊎ (count < j))
            → has_subject name (slice_get listed j) ≡ false
        at j above under (inl same) = ap (λ (i : ℕ). has_subject name (slice_get listed i)) same ∙ here
        at j above under (inr (inl lt)) = (before e).after j above lt
        at j above under (inr (inr gt)) = absurd (omega (arith, under, gt))

pub none_is : (listed : List (Option Cert)) (count : ℕ) (name : List ℕ) → last_named listed count name ≡ None
    → (j : ℕ) → j < count → has_subject name (slice_get listed j) ≡ false
none_is listed zero name is j lt = absurd (omega (arith, lt))
none_is listed (suc count) name is j lt =
    by (has_subject name (slice_get listed count)) refl is (λ e. none_is listed count name e j) (cases_order j count)
  where
    by : (b : Bool) → has_subject name (slice_get listed count) ≡ b
        → cond b (Some count) (last_named listed count name) ≡ None
        → (last_named listed count name ≡ None → j < count → has_subject name (slice_get listed j) ≡ false)
        → (j ≡ count) ⊎ ((j < count) ⊎ (count < j)) → has_subject name (slice_get listed j) ≡ false
    by true here e before order = absurd cc
    by false here e before (inl same) = ap (λ (i : ℕ). has_subject name (slice_get listed i)) same ∙ here
    by false here e before (inr (inl less)) = before e less
    by false here e before (inr (inr more)) = absurd (omega (arith, lt, more))

-- ---- the walk

-- what a walk has left at most
abbrev pub steps_left : Option ℕ → ℕ
steps_left None = 0
steps_left (Some place) = suc place

pub walk_left : (listed : List (Option Cert)) (place : ℕ) (name : List ℕ) (next now : Option ℕ)
    → next ≡ last_named listed place name → now ≡ Some place → steps_left next < steps_left now
walk_left listed place name next now is here =
    rw here (by next is)
  where
    by : (o : Option ℕ) → o ≡ last_named listed place name → steps_left o < suc place
    by None e = omega arith
    by (Some k) e = let last = last_is listed place name k (sym e) in omega (arith, last.below)

module _ (accepts : Accepts) (c : Cert) (listed : List (Option Cert)) where
  -- one of another name did not sign
  other_name : (k : ℕ) → has_subject c.issuer (slice_get listed k) ≡ false → is_signer accepts c listed k ≡ false
  other_name k differs = by (slice_get listed k) differs
    where
      by : (o : Option (Option Cert)) → has_subject c.issuer o ≡ false
          → of_read (is_signed_by accepts c) (intermediate_in o) ≡ false
      by None differs = refl
      by (Some None) differs = refl
      by (Some (Some x)) differs =
          not_both (bytes_eq c.issuer x.subject) refl
        where
          not_both : (b : Bool) → bytes_eq c.issuer x.subject ≡ b → is_signed_by accepts c x ≡ false
          not_both false e = ap (λ (w : Bool). w && accepts x.spki c.algorithm c.tbs c.signature) e
          not_both true e =
              let same = (bytes_eq-Decides c.issuer x.subject).0 e in
              absurd (both_ways (bytes_eq x.subject c.issuer) differs
              ((bytes_eq-Decides x.subject c.issuer).1 (sym same)))

  -- those from the index `below` on are done, and `next` is the last of the name before them
  pub record IsWalking (next : Option ℕ) (signers : List ℕ) (start now : ℕ) : Type 0 where
    pub below : ℕ
    pub within : below ≤ length listed
    pub next_is : next ≡ last_named listed below c.issuer
    pub each : (k : ℕ) → Contains signers k → is_signer accepts c listed k ≡ true
    pub all : (k : ℕ) → below ≤ k → is_signer accepts c listed k ≡ true → Contains signers k
    pub counted : now + below ≤ start + length listed

  past : (k : ℕ) → length listed ≤ k → is_signer accepts c listed k ≡ true → ⊥
  past k over is = by (slice_get listed k) refl is
    where
      by : (o : Option (Option Cert)) → slice_get listed k ≡ o
          → of_read (is_signed_by accepts c) (intermediate_in o) ≡ true → ⊥
      by None e is = cc
      by (Some p) e is = omega (arith, over, slice_get_within listed k p e)

  pub walk_starts : (next : Option ℕ) (signers : List ℕ) (start : ℕ)
      → next ≡ last_named listed (length listed) c.issuer → signers ≡ []
      → IsWalking next signers start start
  walk_starts next signers start is none = record {
    below = length listed;
    within = omega arith;
    next_is = is;
    each = λ k has. absurd (omega (arith, has.1, ap (λ (xs : List ℕ). length xs) none));
    all = λ k over signed. absurd (past k over signed);
    counted = omega arith;
  }

  -- where nobody signed, the signers are none
  pub none_walked : IsSignedByNone accepts c → AreSigners accepts c listed []
  none_walked nobody = record {
    each = λ k has. absurd (omega (arith, has.1));
    all = λ k signed. absurd (by (slice_get listed k) signed);
  }
    where
      by : (o : Option (Option Cert)) → of_read (is_signed_by accepts c) (intermediate_in o) ≡ true → ⊥
      by None signed = cc
      by (Some None) signed = cc
      by (Some (Some x)) signed = both_ways (is_signed_by accepts c x) (nobody x) signed

  pub walk_within : (place : ℕ) (signers : List ℕ) (start now : ℕ) → IsWalking (Some place) signers start now
      → place < length listed
  walk_within place signers start now w =
      let last = last_is listed w.below c.issuer place (sym w.next_is) in omega (arith, last.below, w.within)

  pub walk_ends : (next : Option ℕ) (signers : List ℕ) (start now : ℕ) → next ≡ None → IsWalking next signers start now
      → AreSigners accepts c listed signers × (now ≤ start + length listed)
  walk_ends next signers start now none w = (
    record { each = w.each; all = λ k signed. by k signed (cases_order k w.below) },
    omega (arith, w.counted),
  )
    where
      by : (k : ℕ) → is_signer accepts c listed k ≡ true → (k ≡ w.below) ⊎ ((k < w.below) ⊎ (w.below < k))
          → Contains signers k
      by k signed (inl same) = w.all k (omega (arith, same)) signed
      by k signed (inr (inr more)) = w.all k (omega (arith, more)) signed
      by k signed (inr (inl less)) =
          absurd (both_ways (is_signer accepts c listed k)
          (other_name k (none_is listed w.below c.issuer (sym w.next_is ∙ none) k less)) signed)

  module _ (place : ℕ) (signers : List ℕ) (start now : ℕ) (w : IsWalking (Some place) signers start now) where
    abbrev Last : IsLast listed w.below c.issuer place
    Last = last_is listed w.below c.issuer place (sym w.next_is)

    -- the candidate there has the name
    pub there : (x : Cert) × (slice_get listed place ≡ Some (Some x)) × (x.subject ≡ c.issuer)
    there = by (slice_get listed place) refl Last.named
      where
        by : (o : Option (Option Cert)) → slice_get listed place ≡ o → has_subject c.issuer o ≡ true
            → (x : Cert) × (slice_get listed place ≡ Some (Some x)) × (x.subject ≡ c.issuer)
        by None e named = absurd cc
        by (Some None) e named = absurd cc
        by (Some (Some x)) e named = (x, e, (bytes_eq-Decides x.subject c.issuer).0 named)

    -- those between it and the ones that are done have other names
    between : (k : ℕ) → place < k → k < w.below → is_signer accepts c listed k ≡ true → ⊥
    between k over under signed =
        both_ways (is_signer accepts c listed k) (other_name k (Last.after k over under)) signed

    pub walk_takes : (next : Option ℕ) (more : List ℕ) (later : ℕ) → next ≡ last_named listed place c.issuer
        → more ≡ signers ++ place ∷ [] → is_signer accepts c listed place ≡ true → later ≤ now + 1
        → IsWalking next more start later
    walk_takes next more later is are signed step = record {
      below = place;
      within = omega (arith, Last.below, w.within);
      next_is = is;
      each = λ k has. each k (subst (λ (xs : List ℕ). Contains xs k) are has);
      all = λ k over did. rw are (all k did (cases_order k place) over);
      counted = omega (arith, w.counted, Last.below, step);
    }
      where
        each : (k : ℕ) → Contains (signers ++ place ∷ []) k → is_signer accepts c listed k ≡ true
        each k has = by (pushed signers place k has)
          where
            by : Contains signers k ⊎ (k ≡ place) → is_signer accepts c listed k ≡ true
            by (inl before) = w.each k before
            by (inr same) = ap (λ (i : ℕ). is_signer accepts c listed i) same ∙ signed

            pushed : (xs : List ℕ) (y k : ℕ) → Contains (xs ++ y ∷ []) k → Contains xs k ⊎ (k ≡ y)
            pushed [] y k (zero, lt, same) = inr (sym same)
            pushed [] y k (suc i, lt, same) = absurd (omega (arith, lt))
            pushed (x ∷ xs) y k (zero, lt, same) = inl (zero, omega arith, same)
            pushed (x ∷ xs) y k (suc i, lt, same) = onward (pushed xs y k (i, omega (arith, lt), same))
              where
                onward : Contains xs k ⊎ (k ≡ y) → Contains (x ∷ xs) k ⊎ (k ≡ y)
                onward (inl has) = inl (suc has.0, omega (arith, has.1), has.2)
                onward (inr same) = inr same

        all : (k : ℕ) → is_signer accepts c listed k ≡ true → (k ≡ place) ⊎ ((k < place) ⊎ (place < k))
            → place ≤ k → Contains (signers ++ place ∷ []) k
        all k did (inl same) over = rw same (Contains-push signers place)
        all k did (inr (inl less)) over = absurd (omega (arith, less, over))
        all k did (inr (inr more)) over = older k did more (cases_order k w.below)
          where
            older : (k : ℕ) → is_signer accepts c listed k ≡ true → place < k
                → (k ≡ w.below) ⊎ ((k < w.below) ⊎ (w.below < k)) → Contains (signers ++ place ∷ []) k
            older k did more (inl same) = Contains-append_left signers (place ∷ []) k (w.all k (omega (arith, same)) did)
            older k did more (inr (inr past)) =
                Contains-append_left signers (place ∷ []) k (w.all k (omega (arith, past)) did)
            older k did more (inr (inl under)) = absurd (between k more under did)

    pub walk_passes : (next : Option ℕ) (later : ℕ) → next ≡ last_named listed place c.issuer
        → is_signer accepts c listed place ≡ false → later ≤ now + 1
        → IsWalking next signers start later
    walk_passes next later is unsigned step = record {
      below = place;
      within = omega (arith, Last.below, w.within);
      next_is = is;
      each = w.each;
      all = λ k over did. all k did (cases_order k place) over;
      counted = omega (arith, w.counted, Last.below, step);
    }
      where
        all : (k : ℕ) → is_signer accepts c listed k ≡ true → (k ≡ place) ⊎ ((k < place) ⊎ (place < k))
            → place ≤ k → Contains signers k
        all k did (inl same) over =
            absurd (both_ways (is_signer accepts c listed place) unsigned
            (ap (λ (i : ℕ). is_signer accepts c listed i) (sym same) ∙ did))
        all k did (inr (inl less)) over = absurd (omega (arith, less, over))
        all k did (inr (inr more)) over = older k did more (cases_order k w.below)
          where
            older : (k : ℕ) → is_signer accepts c listed k ≡ true → place < k
                → (k ≡ w.below) ⊎ ((k < w.below) ⊎ (w.below < k)) → Contains signers k
            older k did more (inl same) = w.all k (omega (arith, same)) did
            older k did more (inr (inr past)) = w.all k (omega (arith, past)) did
            older k did more (inr (inl under)) = absurd (between k more under did)
