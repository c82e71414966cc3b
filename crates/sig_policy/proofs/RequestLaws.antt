-- A list of policies: whether all hold, by the list of their refusals.
use Rattle.std.proofs.Common.{◌≡◌, ◌≢◌, ℕ, suc, Bool, true, false, ◌&&◌, cond, List, [], ◌∷◌, ◌++◌, length, ◌+◌, ◌<◌}
use Rattle.std.proofs.Common.{take}
use Rattle.std.proofs.Common.{get_or, Option, Some, None, refl, sym, ap, subst, ◌∙◌, arith}
use Rattle.std.specs.List.{cons_option, list_all}
use Rattle.std.proofs.lemmas.List.{append-nil, take_more}
use Rattle.std.proofs.lemmas.List.Elements.{filter_map-append}
use Rattle.sig_policy.specs.Refusals.{Refusal, IsRefusal, AreRefusals, IsRefusalOf, refusals_of}
use Rattle.sig_policy.specs.Requests.{refused, refusals}
use Rattle.sig_policy.specs.declared.failure.PolicyError.{PolicyError}

-- ---- errors that say refusals

pub are_push : (rs : List Refusal) (es : List PolicyError) (r : Refusal) (e : PolicyError)
    → AreRefusals (refusals_of rs) es → IsRefusal r e → AreRefusals (refusals_of (rs ++ r ∷ [])) (es ++ e ∷ [])
are_push [] es r e are is = (e, ([], (ap (λ (w : List PolicyError). w ++ e ∷ []) are, (is, refl))))
are_push (s ∷ rs) es r e are is =
    let rest = are.1.0 in
    let same = ap (λ (w : List PolicyError). w ++ e ∷ []) are.1.1.0 in
    (are.0, (rest ++ e ∷ [], (same, (are.1.1.1.0, are_push rs rest r e are.1.1.1.1 is))))

pub are_as_many : (rs : List Refusal) (es : List PolicyError) → AreRefusals (refusals_of rs) es → length es ≡ length rs
are_as_many [] es are = ap (λ (w : List PolicyError). length w) are
are_as_many (r ∷ rs) es are =
    ap (λ (w : List PolicyError). length w) are.1.1.0 ∙ ap suc (are_as_many rs are.1.0 are.1.1.1.1)

-- ---- whether all hold

module _ {P : Type 0} (holds : P → Bool) (refusal : P → Refusal) where
  none_refused : (ps : List P) → length (refusals holds refusal ps) ≡ 0 → list_all holds ps ≡ true
  none_refused [] none = refl
  none_refused (p ∷ ps) none = by_test (holds p) (λ e. none_refused ps e) none
    where
      by_test : (b : Bool) → (length (refusals holds refusal ps) ≡ 0 → list_all holds ps ≡ true)
          → length (cons_option (cond b None (Some (refusal p))) (refusals holds refusal ps)) ≡ 0
          → (b && list_all holds ps) ≡ true
      by_test true so e = so e
      by_test false so e = absurd (omega arith)

  some_refused : (ps : List P) → length (refusals holds refusal ps) ≢ 0 → list_all holds ps ≡ false
  some_refused [] some_left = absurd (some_left refl)
  some_refused (p ∷ ps) some_left = by_test (holds p) (λ e. some_refused ps e) some_left
    where
      by_test : (b : Bool) → (length (refusals holds refusal ps) ≢ 0 → list_all holds ps ≡ false)
          → length (cons_option (cond b None (Some (refusal p))) (refusals holds refusal ps)) ≢ 0
          → (b && list_all holds ps) ≡ false
      by_test true so e = so e
      by_test false so e = refl

  pub all_hold : (ps : List P) (es : List PolicyError) → AreRefusals (refusals_of (refusals holds refusal ps)) es
      → length es ≡ 0
      → list_all holds ps ≡ true
  all_hold ps es are none = none_refused ps (sym (are_as_many (refusals holds refusal ps) es are) ∙ none)

  pub not_all_hold : (ps : List P) (es : List PolicyError) → AreRefusals (refusals_of (refusals holds refusal ps)) es
      → length es ≢ 0
      → list_all holds ps ≡ false
  not_all_hold ps es are some_left =
      some_refused ps (λ e. some_left (are_as_many (refusals holds refusal ps) es are ∙ e))

  -- ---- one more policy

  refusals_more : (ps : List P) (i : ℕ) (p : P) → i < length ps → p ≡ get_or ps i p
      → refusals holds refusal (take (i + 1) ps) ≡ refusals holds refusal (take i ps)
      ++ refusals holds refusal (p ∷ [])
  refusals_more ps i p below is =
      ap (λ (w : List P). refusals holds refusal w)
      (take_more ps i p below ∙ ap (λ (q : P). take i ps ++ q ∷ []) (sym is))
      ∙ filter_map-append (refused holds refusal) (take i ps) (p ∷ [])

  pub are_more : (ps : List P) (i : ℕ) (p : P) (o : Option PolicyError) (before after : List PolicyError)
      → i < length ps
      → p ≡ get_or ps i p → IsRefusalOf (refused holds refusal p) o → after ≡ before ++ cons_option o []
      → AreRefusals (refusals_of (refusals holds refusal (take i ps))) before
      → AreRefusals (refusals_of (refusals holds refusal (take (i + 1) ps))) after
  are_more ps i p o before after below is said grown are =
      subst (λ (w : List Refusal). AreRefusals (refusals_of w) after) (sym (refusals_more ps i p below is))
      (subst (λ (w : List PolicyError). AreRefusals
      (refusals_of (refusals holds refusal (take i ps) ++ refusals holds refusal (p ∷ []))) w)
      (sym grown) (by_answer (refused holds refusal p) o said))
    where
      by_answer : (r : Option Refusal) (o : Option PolicyError) → IsRefusalOf r o
          → AreRefusals (refusals_of (refusals holds refusal (take i ps) ++ cons_option r []))
          (before ++ cons_option o [])
      by_answer None None h =
          subst (λ (w : List PolicyError). AreRefusals (refusals_of (refusals holds refusal (take i ps) ++ [])) w)
          (sym (append-nil before))
          (subst (λ (w : List Refusal). AreRefusals (refusals_of w) before)
          (sym (append-nil (refusals holds refusal (take i ps)))) are)
      by_answer (Some r) (Some e) h = are_push (refusals holds refusal (take i ps)) before r e are h
      by_answer None (Some e) h = absurd h
      by_answer (Some r) None h = absurd h
