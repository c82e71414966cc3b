-- Identities by their issuers: what is asked for with one issuer, and one identity more.
use Rattle.std.proofs.Common.{◌≡◌, ℕ, Bool, true, false, ◌||◌, ◌&&◌, cond, List, [], ◌∷◌, map, Option, Some, None}
use Rattle.std.proofs.Common.{refl, sym, ap, ◌∙◌, Ordering, Less, Equal, Greater}
use Rattle.std.proofs.Math.Bool.{or_assoc, or_comm}
use Rattle.std.proofs.lemmas.Cmp.{eq_by_cmp_equiv, nat_list_cmp_total, on_total}
use Rattle.std.proofs.lemmas.Map.{lookup-none}
use Rattle.std.proofs.lemmas.Map.Entries.{none_past_head}
use Rattle.std.proofs.lemmas.Map.Keys.{IsDistinct-from_sorted, IsDistinct-tail}
use Rattle.std.proofs.lemmas.Map.Text.{is_eq-slice_cmp}
use Rattle.std.proofs.lemmas.Slice.Eq.{bytes_eq-Decides}
use Rattle.std.specs.BTreeMap.{insert_entry, is_at}
use Rattle.std.specs.BTreeSet.{BTreeSet}
use Rattle.std.specs.Borrow.{Bor}
use Rattle.std.specs.Cmp.{IsTotalOrder}
use Rattle.std.specs.Cmp.Lexicographic.{slice_cmp}
use Rattle.std.specs.List.{IsDistinct, list_any}
use Rattle.std.specs.List.Sorted.{IsStrictlySortedBy}
use Rattle.std.specs.Map.{keys_of, lookup, remove_entry}
use Rattle.std.specs.Ordering.{eq_by_cmp, is_eq, match_ordering, nat_cmp}
use Rattle.std.specs.Str.{bytes_eq}
use Rattle.sig_base.proofs.SeenTexts.{list_any_seen}
use Rattle.sig_policy.proofs.AnyLaws.{any_none, any_same, exchange}
use Rattle.sig_policy.proofs.SetLaws.{or_swap, order}
use Rattle.sig_policy.specs.AskedTexts.{Named, one_named, one_passes}

abbrev pub Names : Type 0
Names = BTreeSet (Bor (List ℕ))

-- the entry of this issuer
abbrev pub at : List ℕ → Bor (List ℕ) → Bool
at issuer k = is_at (λ (x : Bor (List ℕ)). slice_cmp nat_cmp issuer x.now) k

-- one of the identities that were found passes
abbrev pub one_found : (List ℕ → Bool) → Option Names → Bool
one_found test None = false
one_found test (Some names) = one_passes test names.keys

-- ---- the identities of one issuer are taken out, and put back with one more

same_issuer : (issuer : List ℕ) (k : Bor (List ℕ)) → at issuer k ≡ true → issuer ≡ k.now
same_issuer issuer k e = (bytes_eq-Decides issuer k.now).0 (sym (is_eq-slice_cmp issuer k.now) ∙ e)

pub taken : (test : List ℕ → List ℕ → Bool) (issuer : List ℕ) (es : Named)
    → one_named test es ≡ (one_found (test issuer) (lookup (at issuer) es) || one_named test (remove_entry (at issuer) es))
taken test issuer [] = refl
taken test issuer (e ∷ es) = by (taken test issuer es) (at issuer e.0) refl
  where
    by : one_named test es
        ≡ (one_found (test issuer) (lookup (at issuer) es) || one_named test (remove_entry (at issuer) es))
        → (b : Bool) → at issuer e.0 ≡ b
        → (one_passes (test e.0.now) e.1.keys || one_named test es)
        ≡ (one_found (test issuer) (cond b (Some e.1) (lookup (at issuer) es))
        || one_named test (cond b es (e ∷ remove_entry (at issuer) es)))
    by rest true same =
        ap (λ (i : List ℕ). one_passes (test i) e.1.keys || one_named test es) (sym (same_issuer issuer e.0 same))
    by rest false apart =
        ap (λ (b : Bool). one_passes (test e.0.now) e.1.keys || b) rest
        ∙ or_swap (one_passes (test e.0.now) e.1.keys) (one_found (test issuer) (lookup (at issuer) es))
        (one_named test (remove_entry (at issuer) es))

-- no identity is asked for with the issuer yet
pub put : (test : List ℕ → List ℕ → Bool) (k : Bor (List ℕ)) (names : Names) (es : Named)
    → lookup (at k.now) es ≡ None
    → one_named test (insert_entry order es k names) ≡ (one_passes (test k.now) names.keys || one_named test es)
put test k names [] none = refl
put test k names (e ∷ es) none = by (put test k names es) (order k e.0) refl none
  where
    by : (lookup (at k.now) es ≡ None
        → one_named test (insert_entry order es k names) ≡ (one_passes (test k.now) names.keys || one_named test es))
        → (o : Ordering) → order k e.0 ≡ o → cond (is_eq o) (Some e.1) (lookup (at k.now) es) ≡ None
        → one_named test (match_ordering o ((k, names) ∷ e ∷ es) ((e.0, names) ∷ es) (e ∷ insert_entry order es k names))
        ≡ (one_passes (test k.now) names.keys || (one_passes (test e.0.now) e.1.keys || one_named test es))
    by rest Less is nothing = refl
    by rest Equal is nothing = absurd cc
    by rest Greater is nothing =
        ap (λ (b : Bool). one_passes (test e.0.now) e.1.keys || b) (rest nothing)
        ∙ or_swap (one_passes (test e.0.now) e.1.keys) (one_passes (test k.now) names.keys) (one_named test es)

-- before: `old`; the issuer's own identities, before and after one more: `few` and `more`; the others: `others`
pub one_identity_more : (x old few more others after : Bool) → old ≡ (few || others) → more ≡ (x || few)
    → after ≡ (more || others) → after ≡ (x || old)
one_identity_more x old few more others after before grown is =
    is ∙ ap (λ (b : Bool). b || others) grown ∙ or_assoc x few others ∙ ap (λ (b : Bool). x || b) (sym before)

-- ---- a certificate's issuer is looked up

order_total : IsTotalOrder order
order_total = on_total (λ (k : Bor (List ℕ)). k.now) nat_list_cmp_total

module _ (issuer : Bor (List ℕ)) (test : List ℕ → Bool) where
  abbrev by_issuer : List ℕ → List ℕ → Bool
  by_issuer i q = bytes_eq issuer.now i && test q

  found_in : (es : Named) → IsDistinct (eq_by_cmp order) (keys_of es)
      → one_named by_issuer es ≡ one_found test (lookup (at issuer.now) es)
  found_in [] apart = refl
  found_in (e ∷ es) apart =
      by (found_in es (IsDistinct-tail (eq_by_cmp order) e.0 (keys_of es) apart)) (at issuer.now e.0) refl
    where
      others : at issuer.now e.0 ≡ true → lookup (at issuer.now) es ≡ None
      others same =
          lookup-none (at issuer.now) es (none_past_head (eq_by_cmp_equiv order_total) issuer e es apart same)

      told : bytes_eq issuer.now e.0.now ≡ at issuer.now e.0
      told = sym (is_eq-slice_cmp issuer.now e.0.now)

      by : one_named by_issuer es ≡ one_found test (lookup (at issuer.now) es)
          → (b : Bool) → at issuer.now e.0 ≡ b
          → (one_passes (by_issuer e.0.now) e.1.keys || one_named by_issuer es)
          ≡ one_found test (cond b (Some e.1) (lookup (at issuer.now) es))
      by rest true same =
          ap (λ (b : Bool). b || one_named by_issuer es)
          (any_same (λ (k : Bor (List ℕ)). by_issuer e.0.now k.now) (λ (k : Bor (List ℕ)). test k.now)
          (λ k. ap (λ (b : Bool). b && test k.now) (told ∙ same)) e.1.keys)
          ∙ ap (λ (b : Bool). one_passes test e.1.keys || b) (rest ∙ ap (one_found test) (others same))
          ∙ or_comm (one_passes test e.1.keys) false
      by rest false other =
          ap (λ (b : Bool). b || one_named by_issuer es)
          (any_none (λ (k : Bor (List ℕ)). by_issuer e.0.now k.now)
          (λ k. ap (λ (b : Bool). b && test k.now) (told ∙ other)) e.1.keys) ∙ rest

  pub found_at : (es : Named) → IsStrictlySortedBy order (keys_of es)
      → one_named by_issuer es ≡ one_found test (lookup (at issuer.now) es)
  found_at es sorted = found_in es (IsDistinct-from_sorted order (keys_of es) sorted)

-- ---- the names of a certificate are looked up

pub names_said : (texts keys : List (Bor (List ℕ)))
    → list_any (λ t. one_passes (λ q. bytes_eq t.now q) keys) texts
    ≡ one_passes (λ q. list_any (λ t. bytes_eq t q) (map (λ t. t.now) texts)) keys
names_said texts keys =
    exchange (λ (t k : Bor (List ℕ)). bytes_eq t.now k.now) texts keys
    ∙ any_same (λ (k : Bor (List ℕ)). list_any (λ (t : Bor (List ℕ)). bytes_eq t.now k.now) texts)
    (λ (k : Bor (List ℕ)). list_any (λ (t : List ℕ). bytes_eq t k.now) (map (λ t. t.now) texts))
    (λ k. sym (list_any_seen (λ (t : List ℕ). bytes_eq t k.now) (λ (t : Bor (List ℕ)). t.now) texts)) keys

pub nobody : (test : List ℕ → List ℕ → Bool) → ((issuer identity : List ℕ) → test issuer identity ≡ false)
    → (es : Named) → one_named test es ≡ false
nobody test none es =
    any_none (λ (e : Bor (List ℕ) × Names). one_passes (test e.0.now) e.1.keys)
    (λ e. any_none (λ (k : Bor (List ℕ)). test e.0.now k.now) (λ k. none e.0.now k.now) e.1.keys) es
