-- One more constraint.
use Rattle.std.proofs.Common.{◌≡◌, ℕ, suc, ◌+◌, ◌<◌, ◌≤◌, Bool, true, false, cond, List, [], ◌∷◌, ◌++◌, length, take, get_or}
use Rattle.std.proofs.Common.{Option, Some, None, is_some, refl, sym, ap, subst, ◌∙◌, arith}
use Rattle.std.proofs.lemmas.Bool.{false≢true, true≢false}
use Rattle.std.proofs.lemmas.List.{append-nil, take_more, length-take-le}
use Rattle.sig_cosign.specs.Layer.{Layer}
use Rattle.sig_constraint.specs.Satisfied.{failing_from}
use Rattle.sig_constraint.specs.Applied.{after, applied, unapplied_from, unless_given}

-- ---- tests that fail

module _ {C : Type 0} (test : C → Bool) where
  failing_last : (n : ℕ) (xs : List C) (c : C)
      → failing_from test n (xs ++ c ∷ []) ≡ failing_from test n xs ++ cond (test c) [] ((n + length xs) ∷ [])
  failing_last n [] c = by (test c) where
    by : (b : Bool) → cond b [] (n ∷ []) ≡ cond b [] ((n + 0) ∷ [])
    by true = refl
    by false = ap (λ (m : ℕ). m ∷ []) (omega arith)
  failing_last n (x ∷ xs) c = by (test x) (failing_last (n + 1) xs c ∙ same (test c)) where
    same : (b : Bool)
        → failing_from test (n + 1) xs ++ cond b [] ((n + 1 + length xs) ∷ [])
        ≡ failing_from test (n + 1) xs ++ cond b [] ((n + length (x ∷ xs)) ∷ [])
    same true = refl
    same false = ap (λ (m : ℕ). failing_from test (n + 1) xs ++ m ∷ []) (omega arith)

    by : (b : Bool)
        → failing_from test (n + 1) (xs ++ c ∷ [])
        ≡ failing_from test (n + 1) xs ++ cond (test c) [] ((n + length (x ∷ xs)) ∷ [])
        → cond b (failing_from test (n + 1) (xs ++ c ∷ [])) (n ∷ failing_from test (n + 1) (xs ++ c ∷ []))
        ≡ cond b (failing_from test (n + 1) xs) (n ∷ failing_from test (n + 1) xs)
        ++ cond (test c) [] ((n + length (x ∷ xs)) ∷ [])
    by true e = e
    by false e = ap (λ (ns : List ℕ). n ∷ ns) e

  pub failing_more : (cs : List C) (i : ℕ) (c : C) → i < length cs → c ≡ get_or cs i c
      → failing_from test 0 (take (i + 1) cs) ≡ failing_from test 0 (take i cs) ++ cond (test c) [] (i ∷ [])
  failing_more cs i c below is =
      ap (λ (w : List C). failing_from test 0 w)
      (take_more cs i c below ∙ ap (λ (x : C). take i cs ++ x ∷ []) (sym is))
      ∙ failing_last 0 (take i cs) c
      ∙ ap (λ (m : ℕ). failing_from test 0 (take i cs) ++ cond (test c) [] (m ∷ []))
      (omega (arith, length-take-le i cs (omega (arith, below))))

-- ---- constraints that are applied

module _ {C : Type 0} (gives : C → Layer → Option Layer) where
  applied_last : (l : Layer) (xs : List C) (c : C)
      → applied gives l (xs ++ c ∷ []) ≡ after (applied gives l xs) (gives c (applied gives l xs))
  applied_last l [] c = refl
  applied_last l (x ∷ xs) c = applied_last (after l (gives x l)) xs c

  unapplied_last : (n : ℕ) (l : Layer) (xs : List C) (c : C)
      → unapplied_from gives n l (xs ++ c ∷ [])
      ≡ unapplied_from gives n l xs ++ unless_given (n + length xs) (gives c (applied gives l xs)) []
  unapplied_last n l [] c = by (gives c l) where
    by : (o : Option Layer) → unless_given n o [] ≡ unless_given (n + 0) o []
    by None = ap (λ (m : ℕ). m ∷ []) (omega arith)
    by (Some m) = refl
  unapplied_last n l (x ∷ xs) c =
      by (gives x l) _ _ _
      (unapplied_last (n + 1) (after l (gives x l)) xs c ∙ same (gives c (applied gives (after l (gives x l)) xs)))
    where
      same : (o : Option Layer)
          → unapplied_from gives (n + 1) (after l (gives x l)) xs ++ unless_given (n + 1 + length xs) o []
          ≡ unapplied_from gives (n + 1) (after l (gives x l)) xs ++ unless_given (n + length (x ∷ xs)) o []
      same (Some m) = refl
      same None =
          ap (λ (m : ℕ). unapplied_from gives (n + 1) (after l (gives x l)) xs ++ m ∷ []) (omega arith)

      by : (o : Option Layer) (ns ms more : List ℕ) → ns ≡ ms ++ more
          → unless_given n o ns ≡ unless_given n o ms ++ more
      by (Some m) ns ms more e = e
      by None ns ms more e = ap (λ (ks : List ℕ). n ∷ ks) e

  pub applied_more : (l : Layer) (cs : List C) (i : ℕ) (c : C) → i < length cs → c ≡ get_or cs i c
      → applied gives l (take (i + 1) cs)
      ≡ after (applied gives l (take i cs)) (gives c (applied gives l (take i cs)))
  applied_more l cs i c below is =
      ap (λ (w : List C). applied gives l w)
      (take_more cs i c below ∙ ap (λ (x : C). take i cs ++ x ∷ []) (sym is))
      ∙ applied_last l (take i cs) c

  pub unapplied_more : (l : Layer) (cs : List C) (i : ℕ) (c : C) → i < length cs → c ≡ get_or cs i c
      → unapplied_from gives 0 l (take (i + 1) cs)
      ≡ unapplied_from gives 0 l (take i cs) ++ unless_given i (gives c (applied gives l (take i cs))) []
  unapplied_more l cs i c below is =
      ap (λ (w : List C). unapplied_from gives 0 l w)
      (take_more cs i c below ∙ ap (λ (x : C). take i cs ++ x ∷ []) (sym is))
      ∙ unapplied_last 0 l (take i cs) c
      ∙ ap (λ (m : ℕ). unapplied_from gives 0 l (take i cs)
      ++ unless_given m (gives c (applied gives l (take i cs))) [])
      (omega (arith, length-take-le i cs (omega (arith, below))))

module _ {C : Type 0} (test : C → Bool) where
  -- a turn that adds the index, and one that does not
  pub failing_turn : (cs : List C) (i : ℕ) (c : C) (before new : List ℕ) → i < length cs → c ≡ get_or cs i c
      → false ≡ test c → new ≡ before ++ i ∷ [] → before ≡ failing_from test 0 (take i cs)
      → new ≡ failing_from test 0 (take (i + 1) cs)
  failing_turn cs i c before new below is fails grown so_far =
      grown ∙ ap (λ (w : List ℕ). w ++ i ∷ []) so_far
      ∙ ap (λ (b : Bool). failing_from test 0 (take i cs) ++ cond b [] (i ∷ [])) fails
      ∙ sym (failing_more test cs i c below is)

  pub passing_turn : (cs : List C) (i : ℕ) (c : C) (before : List ℕ) → i < length cs → c ≡ get_or cs i c
      → true ≡ test c → before ≡ failing_from test 0 (take i cs)
      → before ≡ failing_from test 0 (take (i + 1) cs)
  passing_turn cs i c before below is passes so_far =
      so_far ∙ sym (append-nil (failing_from test 0 (take i cs)))
      ∙ ap (λ (b : Bool). failing_from test 0 (take i cs) ++ cond b [] (i ∷ [])) passes
      ∙ sym (failing_more test cs i c below is)

module _ {C : Type 0} (gives : C → Layer → Option Layer) where
  -- the layer after a turn
  pub applied_turn : (l : Layer) (cs : List C) (i : ℕ) (c : C) (before new : Layer) → i < length cs
      → c ≡ get_or cs i c
      → new ≡ after before (gives c before) → before ≡ applied gives l (take i cs)
      → new ≡ applied gives l (take (i + 1) cs)
  applied_turn l cs i c before new below is grown so_far =
      grown ∙ ap (λ (m : Layer). after m (gives c m)) so_far ∙ sym (applied_more gives l cs i c below is)

  -- a turn that adds the index, and one that does not
  pub refused_turn : (l : Layer) (cs : List C) (i : ℕ) (c : C) (at : Layer) (before new : List ℕ) → i < length cs
      → c ≡ get_or cs i c
      → false ≡ is_some (gives c at) → at ≡ applied gives l (take i cs) → new ≡ before ++ i ∷ []
      → before ≡ unapplied_from gives 0 l (take i cs)
      → new ≡ unapplied_from gives 0 l (take (i + 1) cs)
  refused_turn l cs i c at before new below is refused so_far grown named =
      grown ∙ ap (λ (w : List ℕ). w ++ i ∷ []) named
      ∙ by (gives c at) refused
      ∙ ap (λ (m : Layer). unapplied_from gives 0 l (take i cs) ++ unless_given i (gives c m) []) so_far
      ∙ sym (unapplied_more gives l cs i c below is)
    where
      by : (o : Option Layer) → false ≡ is_some o
          → unapplied_from gives 0 l (take i cs) ++ i ∷ []
          ≡ unapplied_from gives 0 l (take i cs) ++ unless_given i o []
      by None e = refl
      by (Some m) e = absurd (false≢true e)

  pub given_turn : (l : Layer) (cs : List C) (i : ℕ) (c : C) (at : Layer) (before : List ℕ) → i < length cs
      → c ≡ get_or cs i c
      → true ≡ is_some (gives c at) → at ≡ applied gives l (take i cs)
      → before ≡ unapplied_from gives 0 l (take i cs)
      → before ≡ unapplied_from gives 0 l (take (i + 1) cs)
  given_turn l cs i c at before below is given so_far named =
      named ∙ sym (append-nil (unapplied_from gives 0 l (take i cs)))
      ∙ by (gives c at) given
      ∙ ap (λ (m : Layer). unapplied_from gives 0 l (take i cs) ++ unless_given i (gives c m) []) so_far
      ∙ sym (unapplied_more gives l cs i c below is)
    where
      by : (o : Option Layer) → true ≡ is_some o
          → unapplied_from gives 0 l (take i cs) ++ []
          ≡ unapplied_from gives 0 l (take i cs) ++ unless_given i o []
      by None e = absurd (true≢false e)
      by (Some m) e = refl
