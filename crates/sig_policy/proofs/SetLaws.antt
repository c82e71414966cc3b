-- A set of texts: what it has after one more, and what the order of its keys finds.
use Rattle.std.proofs.Common.{◌≡◌, ℕ, ◌+◌, ◌<◌, Bool, ◌||◌, List, [], ◌∷◌, length, take, get_or}
use Rattle.std.proofs.Common.{refl, sym, ap, ◌∙◌}
use Rattle.std.proofs.Math.Bool.{or_assoc, or_comm, or_self_left}
use Rattle.std.specs.Borrow.{Bor}
use Rattle.std.specs.Str.{bytes_eq}
use Rattle.std.specs.List.{list_any}
use Rattle.std.proofs.Common.{Ordering, Less, Equal, Greater}
use Rattle.std.specs.Ordering.{nat_cmp, is_eq, match_ordering}
use Rattle.std.specs.Cmp.Lexicographic.{slice_cmp}
use Rattle.std.specs.BTreeMap.{is_at}
use Rattle.std.specs.BTreeSet.{insert_key}
use Rattle.std.proofs.lemmas.List.Folds.{list_any_more}
use Rattle.std.proofs.lemmas.Map.Text.{is_eq-slice_cmp}
use Rattle.std.proofs.lemmas.Slice.Eq.{bytes_eq-Decides}
use Rattle.sig_base.proofs.Decisions.{bytes_eq_flip}
use Rattle.sig_policy.specs.AskedTexts.{one_passes}
use Rattle.sig_policy.specs.IdentitySet.{has_text}

pub or_swap : (a b c : Bool) → (a || (b || c)) ≡ (b || (a || c))
or_swap a b c = sym (or_assoc a b c) ∙ ap (λ d. d || c) (or_comm a b) ∙ or_assoc b a c

-- ---- a look-up

pub found_by_order : (q : List ℕ) (ks : List (Bor (List ℕ)))
    → list_any (is_at (λ k. slice_cmp nat_cmp q k.now)) ks ≡ has_text ks q
found_by_order q [] = refl
found_by_order q (k ∷ ks) =
    ap (λ (b : Bool). b || list_any (is_at (λ k. slice_cmp nat_cmp q k.now)) ks)
    (is_eq-slice_cmp q k.now ∙ bytes_eq_flip q k.now)
    ∙ ap (λ (b : Bool). bytes_eq k.now q || b) (found_by_order q ks)

-- the same by the text that is looked up
pub found_said : (q : List ℕ) (ks : List (Bor (List ℕ)))
    → list_any (is_at (λ k. slice_cmp nat_cmp q k.now)) ks ≡ one_passes (λ k. bytes_eq q k) ks
found_said q [] = refl
found_said q (k ∷ ks) =
    ap (λ (b : Bool). b || list_any (is_at (λ k. slice_cmp nat_cmp q k.now)) ks) (is_eq-slice_cmp q k.now)
    ∙ ap (λ (b : Bool). bytes_eq q k.now || b) (found_said q ks)

-- ---- one text more

abbrev pub order : Bor (List ℕ) → Bor (List ℕ) → Ordering
order x y = slice_cmp nat_cmp x.now y.now

-- a test of one of the texts
pub one_more : (test : List ℕ → Bool) (k : Bor (List ℕ)) (ks : List (Bor (List ℕ)))
    → one_passes test (insert_key order ks k) ≡ (test k.now || one_passes test ks)
one_more test k [] = refl
one_more test k (x ∷ xs) = by_order (one_more test k xs) (slice_cmp nat_cmp k.now x.now) refl
  where
    by_order : one_passes test (insert_key order xs k) ≡ (test k.now || one_passes test xs)
        → (o : Ordering) → slice_cmp nat_cmp k.now x.now ≡ o
        → one_passes test (match_ordering o (k ∷ x ∷ xs) (x ∷ xs) (x ∷ insert_key order xs k))
        ≡ (test k.now || (test x.now || one_passes test xs))
    by_order rest Less e = refl
    by_order rest Equal e =
        let same : k.now ≡ x.now =
        (bytes_eq-Decides k.now x.now).0 (sym (is_eq-slice_cmp k.now x.now) ∙ ap is_eq e) in
        rw same (sym (or_self_left (test x.now) (one_passes test xs)))
    by_order rest Greater e =
        ap (λ (b : Bool). test x.now || b) rest ∙ or_swap (test x.now) (test k.now) (one_passes test xs)

-- one turn of the loop over the texts
pub set_more : (texts : List (Bor (List ℕ))) (i : ℕ) (d : Bor (List ℕ)) (before after : List (Bor (List ℕ)))
    (q : List ℕ) → i < length texts → after ≡ insert_key order before (get_or texts i d)
    → has_text before q ≡ has_text (take i texts) q → has_text after q ≡ has_text (take (i + 1) texts) q
set_more texts i d before after q below grown so_far =
    ap (λ (ks : List (Bor (List ℕ))). has_text ks q) grown
    ∙ one_more (λ t. bytes_eq t q) (get_or texts i d) before
    ∙ ap (λ (b : Bool). bytes_eq (get_or texts i d).now q || b) so_far
    ∙ or_comm (bytes_eq (get_or texts i d).now q) (has_text (take i texts) q)
    ∙ sym (list_any_more (λ (x : Bor (List ℕ)). bytes_eq x.now q) texts i d below)
