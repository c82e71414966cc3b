-- Which constraints no layer satisfies, in words.
use Rattle.std.proofs.Common.{◌≡◌, ℕ, zero, suc, ◌+◌, ◌<◌, Bool, true, false, cond, List, [], ◌∷◌, length, Option, Some, None}
use Rattle.std.proofs.Common.{Result, Ok, Err, refl, sym, ap, subst, ◌∙◌, arith, ◌⊎◌, ◌||◌, inl, inr}
use Rattle.std.specs.Prelude.{All, Any, Contains, slice_get, IfErr}
use Rattle.std.specs.List.{AllByRecursion, list_any}
use Rattle.std.specs.List.Sorted.{IsStrictlySortedBy, IsStrictlyIncreasing}
use Rattle.std.specs.Ordering.{nat_cmp}
use Rattle.std.specs.Cmp.{nat_cmp_is}
use Rattle.std.specs.declared.cmp.Ordering.TheVariants.{Less}
use Rattle.std.proofs.lemmas.Bool.{true≢false}
use Rattle.std.proofs.lemmas.List.Elements.{All-cons, All-head, All-tail}
use Rattle.std.proofs.lemmas.List.Folds.{Any-from_list_any, list_any-from_Any, list_any_none}
use Rattle.std.proofs.lemmas.Map.Keys.{IsStrictlyIncreasing-from_sorted}
use Rattle.sig_base.specs.Answers.{Answers, ComesWhere}
use Rattle.sig_cosign.specs.Layer.{Layer, seen_layer}
use Rattle.sig_constraint.specs.Satisfied.{failing_from, is_satisfied, unsatisfied, satisfaction, AreSatisfied, AreUnsatisfied, IsUnsatisfiedAt, IfUnsatisfied}
use Rattle.sig_cosign.specs.declared.signature_layer.SignatureLayer.{SignatureLayer}
use Rattle.sig_constraint.specs.declared.verify.SigstoreVerifyConstraintsError.{SigstoreVerifyConstraintsError}
use Rattle.sig_constraint.specs.declared.verify.SigstoreVerifyConstraintsError.TheVariants.{Unsatisfied, OutOfMemory}

-- ---- elements

later : (x m : ℕ) (xs : List ℕ) → Contains xs m → Contains (x ∷ xs) m
later x m xs (k, below, is) = (suc k, omega (arith, below), is)

here_or_later : (x m : ℕ) (xs : List ℕ) → Contains (x ∷ xs) m → (x ≡ m) ⊎ Contains xs m
here_or_later x m xs (zero, below, is) = inl is
here_or_later x m xs (suc k, below, is) = inr (k, omega (arith, below), is)

some_is : {C : Type 0} (x c : C) → Some x ≡ Some c → x ≡ c
some_is x c e = cc

-- ---- the indices

module _ {C : Type 0} (test : C → Bool) where
  -- there is one at the index, and the test is false
  abbrev FailsAt : List C → ℕ → Type 0
  FailsAt cs k = (c : C) × ((slice_get cs k ≡ Some c) × (test c ≡ false))

  is_among : (n k : ℕ) (cs : List C) → FailsAt cs k → Contains (failing_from test n cs) (n + k)
  is_among n k [] (c, (there, fails)) = absurd cc
  is_among n zero (x ∷ cs) (c, (there, fails)) =
      by (test x) (subst (λ (y : C). test y ≡ false) (sym (some_is x c there)) fails)
    where
      by : (b : Bool) → b ≡ false
          → Contains (cond b (failing_from test (n + 1) cs) (n ∷ failing_from test (n + 1) cs)) (n + zero)
      by true e = absurd (true≢false e)
      by false e = (zero, omega arith, omega arith)
  is_among n (suc k) (x ∷ cs) (c, (there, fails)) =
      by (test x)
      (subst (λ (m : ℕ). Contains (failing_from test (n + 1) cs) m) (omega arith)
      (is_among (n + 1) k cs (c, (there, fails))))
    where
      by : (b : Bool) → Contains (failing_from test (n + 1) cs) (n + suc k)
          → Contains (cond b (failing_from test (n + 1) cs) (n ∷ failing_from test (n + 1) cs)) (n + suc k)
      by true h = h
      by false h = later n (n + suc k) (failing_from test (n + 1) cs) h

  abbrev FailsAfter : ℕ → ℕ → List C → Type 0
  FailsAfter n m cs = (k : ℕ) × ((m ≡ n + k) × FailsAt cs k)

  fails_later : (n m : ℕ) (x : C) (cs : List C) → FailsAfter (n + 1) m cs → FailsAfter n m (x ∷ cs)
  fails_later n m x cs (k, (at, (c, (there, fails)))) = (suc k, (omega (arith, at), (c, (there, fails))))

  -- and only these are
  fails_at : (n m : ℕ) (cs : List C) → Contains (failing_from test n cs) m → FailsAfter n m cs
  fails_at n m [] (k, below, is) = absurd (omega (arith, below))
  fails_at n m (x ∷ cs) h = by (test x) refl (λ more. fails_later n m x cs (fails_at (n + 1) m cs more)) h where
    by : (b : Bool) → test x ≡ b
        → (Contains (failing_from test (n + 1) cs) m → FailsAfter n m (x ∷ cs))
        → Contains (cond b (failing_from test (n + 1) cs) (n ∷ failing_from test (n + 1) cs)) m
        → FailsAfter n m (x ∷ cs)
    by true e next h = next h
    by false e next h =
        elim (here_or_later n m (failing_from test (n + 1) cs) h) [
          | inl is ↦ (zero, (omega (arith, is), (x, (refl, e))))
          | inr h ↦ next h
        ]

  above : (m n : ℕ) (cs : List C) → m < n → AllByRecursion (λ y. nat_cmp m y ≡ Less) (failing_from test n cs)
  above m n [] below = tt
  above m n (x ∷ cs) below = by (test x) (above m (n + 1) cs (omega (arith, below))) where
    by : (b : Bool) → AllByRecursion (λ y. nat_cmp m y ≡ Less) (failing_from test (n + 1) cs)
        → AllByRecursion (λ y. nat_cmp m y ≡ Less)
        (cond b (failing_from test (n + 1) cs) (n ∷ failing_from test (n + 1) cs))
    by true h = h
    by false h = (sym (nat_cmp_is m n Less below), h)

  ascend : (n : ℕ) (cs : List C) → IsStrictlySortedBy nat_cmp (failing_from test n cs)
  unfolding IsStrictlySortedBy
  ascend n [] = tt
  ascend n (x ∷ cs) = by (test x) (ascend (n + 1) cs) where
    by : (b : Bool) → IsStrictlySortedBy nat_cmp (failing_from test (n + 1) cs)
        → IsStrictlySortedBy nat_cmp (cond b (failing_from test (n + 1) cs) (n ∷ failing_from test (n + 1) cs))
    by true h = h
    by false h = (above n (n + 1) cs (omega arith), h)

  all_pass : (n : ℕ) (cs : List C) → failing_from test n cs ≡ [] → All (λ c. test c ≡ true) cs
  all_pass n [] none = λ k d below. absurd (omega (arith, below))
  all_pass n (x ∷ cs) none = by (test x) refl (λ rest. all_pass (n + 1) cs rest) none where
    by : (b : Bool) → test x ≡ b
        → (failing_from test (n + 1) cs ≡ [] → All (λ c. test c ≡ true) cs)
        → cond b (failing_from test (n + 1) cs) (n ∷ failing_from test (n + 1) cs) ≡ []
        → All (λ c. test c ≡ true) (x ∷ cs)
    by true e next none = All-cons (λ c. test c ≡ true) x cs e (next none)
    by false e next none = absurd cc

  none_fail : (n : ℕ) (cs : List C) → All (λ c. test c ≡ true) cs → failing_from test n cs ≡ []
  none_fail n [] all = refl
  none_fail n (x ∷ cs) all =
      by (test x) (All-head (λ c. test c ≡ true) x cs all)
      (none_fail (n + 1) cs (All-tail (λ c. test c ≡ true) x cs all))
    where
      by : (b : Bool) → b ≡ true → failing_from test (n + 1) cs ≡ []
          → cond b (failing_from test (n + 1) cs) (n ∷ failing_from test (n + 1) cs) ≡ []
      by true e none = none
      by false e none = absurd (true≢false (sym e))

-- ---- layers

module _ {X : Type 0} (test : X → Bool) where
  all_false : (xs : List X) → list_any test xs ≡ false → All (λ x. test x ≡ false) xs
  all_false [] none = λ k d below. absurd (omega (arith, below))
  all_false (x ∷ xs) none = by (test x) refl (λ rest. all_false xs rest) none where
    by : (b : Bool) → test x ≡ b → (list_any test xs ≡ false → All (λ y. test y ≡ false) xs)
        → (b || list_any test xs) ≡ false → All (λ y. test y ≡ false) (x ∷ xs)
    by true e next none = absurd (true≢false none)
    by false e next none = All-cons (λ y. test y ≡ false) x xs e (next none)

module _ {C : Type 0} (holds : C → Layer → Bool) (layers : List SignatureLayer) where
  are_satisfied : (cs : List C) → unsatisfied holds layers cs ≡ [] → AreSatisfied holds layers cs
  are_satisfied cs none =
      let all = all_pass (is_satisfied holds layers) 0 cs none in
      λ k d below. Any-from_list_any (λ l. holds _ (seen_layer l)) layers (all k d below)

  none_unsatisfied : (cs : List C) → AreSatisfied holds layers cs → unsatisfied holds layers cs ≡ []
  none_unsatisfied cs all =
      none_fail (is_satisfied holds layers) 0 cs
      (λ k d below. list_any-from_Any (λ l. holds _ (seen_layer l)) layers (all k d below))

  are_unsatisfied : (cs : List C) → AreUnsatisfied holds layers cs (unsatisfied holds layers cs)
  are_unsatisfied cs =
      (IsStrictlyIncreasing-from_sorted _ (ascend (is_satisfied holds layers) 0 cs), λ n. (only n, these n))
    where
      only : (n : ℕ) → Contains (unsatisfied holds layers cs) n → IsUnsatisfiedAt holds layers cs n
      only n h =
          let found = fails_at (is_satisfied holds layers) 0 n cs h in
          let at : n ≡ found.0 = found.1.0 ∙ omega arith in (
            found.1.1.0,
            (
              ap (λ (m : ℕ). slice_get cs m) at ∙ found.1.1.1.0,
              all_false (λ l. holds found.1.1.0 (seen_layer l)) layers found.1.1.1.1,
            ),
          )

      these : (n : ℕ) → IsUnsatisfiedAt holds layers cs n → Contains (unsatisfied holds layers cs) n
      these n (c, (there, all)) =
          subst (λ (m : ℕ). Contains (unsatisfied holds layers cs) m) (omega arith)
          (is_among (is_satisfied holds layers) 0 n cs
          (c, (there, list_any_none (λ l. holds c (seen_layer l)) layers all)))

  -- ---- the result

  abbrev Meant : Result (Unit {0}) SigstoreVerifyConstraintsError → List ℕ → Type 0
  Meant r ns = Answers OutOfMemory (λ done. done) r (satisfaction ns)

  pub satisfied_law : (cs : List C) (r : Result (Unit {0}) SigstoreVerifyConstraintsError)
      → Answers OutOfMemory (λ done. done) r (satisfaction (unsatisfied holds layers cs))
      → ComesWhere OutOfMemory r (Ok tt) (AreSatisfied holds layers cs)
  satisfied_law cs r meant = (λ is. are_satisfied cs (found r meant is), λ all. comes r meant (none_unsatisfied cs all))
    where
      found : (r : Result (Unit {0}) SigstoreVerifyConstraintsError)
          → Meant r (unsatisfied holds layers cs) → r ≡ Ok tt → unsatisfied holds layers cs ≡ []
      found (Ok done) meant is = empty (unsatisfied holds layers cs) meant where
        empty : (ns : List ℕ) → satisfaction ns ≡ Ok done → ns ≡ []
        empty [] e = refl
        empty (n ∷ ns) e = absurd cc
      found (Err e) meant is = absurd cc

      comes : (r : Result (Unit {0}) SigstoreVerifyConstraintsError)
          → Meant r (unsatisfied holds layers cs) → unsatisfied holds layers cs ≡ []
          → (r ≡ Err OutOfMemory) ⊎ (r ≡ Ok tt)
      comes (Ok done) meant none = inr refl
      comes (Err e) (inl memory) none = inl (ap (λ (w : SigstoreVerifyConstraintsError). Err w) memory)
      comes (Err e) (inr is) none =
          let ok : Ok tt ≡ Err e = sym (ap satisfaction none) ∙ is in absurd cc

  pub unsatisfied_law : (cs : List C) (r : Result (Unit {0}) SigstoreVerifyConstraintsError)
      → Answers OutOfMemory (λ done. done) r (satisfaction (unsatisfied holds layers cs))
      → IfErr r (IfUnsatisfied (AreUnsatisfied holds layers cs))
  unsatisfied_law cs (Ok done) meant = tt
  unsatisfied_law cs (Err OutOfMemory) meant = tt
  unsatisfied_law cs (Err (Unsatisfied ns)) (inl memory) = absurd cc
  unsatisfied_law cs (Err (Unsatisfied ns)) (inr is) =
      subst (λ (ms : List ℕ). AreUnsatisfied holds layers cs ms) (named (unsatisfied holds layers cs) is)
      (are_unsatisfied cs)
    where
      named : (ms : List ℕ) → satisfaction ms ≡ Err (Unsatisfied ns) → ms ≡ ns
      named [] e = absurd cc
      named (m ∷ ms) e = cc
