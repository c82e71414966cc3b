-- The index over one candidate more.
use Rattle.std.proofs.Common.{◌≡◌, ◌⊎◌, ℕ, suc, ◌+◌, ◌<◌, cond, List, [], ◌∷◌, ◌++◌}
use Rattle.std.proofs.Common.{length, Option, Some, None, slice_get, inl, inr, sym, ap, ◌∙◌, arith}
use Rattle.std.specs.Prelude.{bytes_eq}
use Rattle.std.specs.Borrow.{Bor}
use Rattle.std.specs.BTreeMap as tree
use Rattle.std.specs.Cmp.Lexicographic.{slice_cmp}
use Rattle.std.specs.Ordering.{nat_cmp}
use Rattle.std.proofs.lemmas.Bool.{cases_order}
use Rattle.std.proofs.lemmas.List.{length_push}
use Rattle.std.proofs.lemmas.Map.Text.{btree_map_updates_str}
use Rattle.sig_certificate.specs.Certificate.{Cert}
use Rattle.sig_x509.specs.Candidates.{IsIndexOf, has_subject, last_named, named_in}
use Rattle.sig_x509.proofs.RowLaws.{left_at, right_at}

some_same : {X : Type 0} (x y : X) → Some x ≡ Some y → x ≡ y
some_same x y e = cc

module _ (listed : List (Option Cert)) (n : ℕ) (last : tree.BTreeMap (Bor (List ℕ)) ℕ) (earlier : List (Option ℕ))
    (is : IsIndexOf listed n last earlier) (more : List (Option ℕ)) (old : Option ℕ) (are : more ≡ earlier ++ old ∷ [])
  where
    last_next : (name : List ℕ)
        → last_named listed (n + 1) name
        ≡ cond (has_subject name (slice_get listed n)) (Some n) (last_named listed n name)
    last_next name = let same : n + 1 ≡ suc n = omega arith in ap (λ (k : ℕ). last_named listed k name) same

    size : length more ≡ n + 1
    size = ap (λ (os : List (Option ℕ)). length os) are ∙ length_push earlier old ∙ ap (λ (k : ℕ). k + 1) is.size

    before_at : (k : ℕ) → k < n → slice_get more k ≡ slice_get earlier k
    before_at k lt =
        ap (λ (os : List (Option ℕ)). slice_get os k) are ∙ left_at earlier (old ∷ []) k (omega (arith, lt, is.size))

    last_at : slice_get more n ≡ Some old
    last_at =
        let same : n ≡ length earlier + 0 = omega (arith, is.size) in
        ap (λ (os : List (Option ℕ)). slice_get os n) are
        ∙ ap (λ (k : ℕ). slice_get (earlier ++ old ∷ []) k) same
        ∙ right_at earlier (old ∷ []) 0

    pub index_named : (x : Cert) → slice_get listed n ≡ Some (Some x) → (key : List ℕ) → key ≡ x.subject
        → (grown : tree.BTreeMap (Bor (List ℕ)) ℕ)
        → tree.UpdatesBy (λ a b. slice_cmp nat_cmp a.now b.now) (λ k. slice_cmp nat_cmp key k.now) last grown (Some n)
        → old ≡ named_in last key → IsIndexOf listed (n + 1) grown more
    index_named x there key subject grown put was = record {
      names = λ name.
          btree_map_updates_str key last grown (Some n) put name
          ∙ ap (λ (o : Option ℕ). cond (bytes_eq key name) (Some n) o) (is.names name)
          ∙ ap (λ (s : List ℕ). cond (bytes_eq s name) (Some n) (last_named listed n name)) subject
          ∙ sym (ap (λ (o : Option (Option Cert)). cond (has_subject name o) (Some n) (last_named listed n name)) there)
          ∙ sym (last_next name);
      size = size;
      before = λ k y lt got. before k y lt got (cases_order k n);
    }
      where
        before : (k : ℕ) (y : Cert) → k < n + 1 → slice_get listed k ≡ Some (Some y)
            → (k ≡ n) ⊎ ((k < n) ⊎ (n < k)) → slice_get more k ≡ Some (last_named listed k y.subject)
        before k y lt got (inl same) =
            let one : Some (Some x) ≡ Some (Some y) =
            sym there ∙ ap (λ (i : ℕ). slice_get listed i) (sym same) ∙ got in
            let xy : x ≡ y = some_same x y (some_same (Some x) (Some y) one) in
            ap (λ (i : ℕ). slice_get more i) same ∙ last_at
            ∙ ap (λ (o : Option ℕ). Some o) (was ∙ is.names key ∙ ap (last_named listed n) (subject
            ∙ ap (λ (c : Cert). c.subject) xy)
            ∙ ap (λ (i : ℕ). last_named listed i y.subject) (sym same))
        before k y lt got (inr (inl less)) = before_at k less ∙ is.before k y less got
        before k y lt got (inr (inr more)) = absurd (omega (arith, lt, more))

    pub index_absent : slice_get listed n ≡ Some None → IsIndexOf listed (n + 1) last more
    index_absent there = record {
      names = λ name.
          is.names name
          ∙ sym (ap (λ (o : Option (Option Cert)). cond (has_subject name o) (Some n) (last_named listed n name)) there)
          ∙ sym (last_next name);
      size = size;
      before = λ k y lt got. before k y lt got (cases_order k n);
    }
      where
        before : (k : ℕ) (y : Cert) → k < n + 1 → slice_get listed k ≡ Some (Some y)
            → (k ≡ n) ⊎ ((k < n) ⊎ (n < k)) → slice_get more k ≡ Some (last_named listed k y.subject)
        before k y lt got (inl same) =
            let wrong : Some None ≡ Some (Some y) = sym there ∙ ap (λ (i : ℕ). slice_get listed i) (sym same) ∙ got in
            absurd cc
        before k y lt got (inr (inl less)) = before_at k less ∙ is.before k y less got
        before k y lt got (inr (inr more)) = absurd (omega (arith, lt, more))
