-- The first layer of each digest, in a map.
use Rattle.std.proofs.Common.{◌≡◌, ◌≢◌, ℕ, List, ◌∷◌, Bool, true, false, Option, Some, None, refl, sym, ap}
use Rattle.std.proofs.Common.{subst, ◌∙◌, option_map, if◌then◌else◌, suc, ◌+◌, ◌<◌, length, drop, get_or, is_some, arith}
use Rattle.std.proofs.Math.Seq.{drop-cons}
use Rattle.std.specs.Option.{option_copied}
use Rattle.std.proofs.lemmas.Slice.Eq.{bytes_eq-Decides}
use Rattle.std.specs.Prelude.{bytes_eq}
use Rattle.std.specs.Borrow.{Bor}
use Rattle.sig_base.proofs.TextEntries.{put_found, put_others}
use Rattle.sig_base.specs.ByText.{text_lookup, text_put}
use Rattle.sig_base.specs.OptionSteps.{or_else}
use Rattle.sig_cosign.specs.Manifest.{first_with}
use Rattle.sig_cosign.specs.Unsigned.{digest_of}
use Rattle.sig_cosign.specs.declared.source.ImageLayer.{ImageLayer}

abbrev pub Held : Type 0
Held = List (List ℕ × Bor ImageLayer)

abbrev pub held : List ℕ → Held → Option ImageLayer
held digest firsts = option_map (λ l. l.now) (text_lookup digest firsts)

-- the first layer of the digest: one that the map has, or one of those that are left
abbrev pub AreFirsts : List ImageLayer → Held → List ImageLayer → Type 0
AreFirsts all firsts left = (digest : List ℕ) → or_else (held digest firsts) (first_with digest left) ≡ first_with digest all

module _ (all left : List ImageLayer) (l : ImageLayer) (firsts : Held) (so_far : AreFirsts all firsts (l ∷ left)) where
  -- a layer of a digest that the map has
  pub held_turn : (found : Option (Bor ImageLayer)) → text_lookup (digest_of l.bytes) firsts ≡ found → found ≢ None
      → AreFirsts all firsts left
  held_turn found is there digest = by (bytes_eq digest (digest_of l.bytes)) refl
    where
      by : (b : Bool) → bytes_eq digest (digest_of l.bytes) ≡ b
          → or_else (held digest firsts) (first_with digest left) ≡ first_with digest all
      by true same = by_found found is there
        where
          by_found : (found : Option (Bor ImageLayer)) → text_lookup (digest_of l.bytes) firsts ≡ found → found ≢ None
              → or_else (held digest firsts) (first_with digest left) ≡ first_with digest all
          by_found None is there = absurd (there refl)
          by_found (Some x) is there =
              let equal : digest ≡ digest_of l.bytes = (bytes_eq-Decides digest (digest_of l.bytes)).0 same in
              let here : text_lookup digest firsts ≡ Some x =
              ap (λ (t : List ℕ). text_lookup t firsts) equal ∙ is in
              let before = so_far digest in
              rw (here) (subst (λ (o : Option (Bor ImageLayer)). or_else (option_map (λ b. b.now) o)
              (first_with digest (l ∷ left)) ≡ first_with digest all) here before)
      by false apart =
          subst (λ (b : Bool). or_else (held digest firsts) (if b then Some l else first_with digest left)
          ≡ first_with digest all) apart (so_far digest)

  -- a layer of a digest that it has not
  pub new_turn : (x : Bor ImageLayer) → x.now ≡ l → text_lookup (digest_of l.bytes) firsts ≡ None
      → AreFirsts all (text_put (digest_of l.bytes) x firsts) left
  new_turn x is none digest = by (bytes_eq digest (digest_of l.bytes)) refl
    where
      by : (b : Bool) → bytes_eq digest (digest_of l.bytes) ≡ b
          → or_else (held digest (text_put (digest_of l.bytes) x firsts)) (first_with digest left)
          ≡ first_with digest all
      by true same =
          let equal : digest ≡ digest_of l.bytes = (bytes_eq-Decides digest (digest_of l.bytes)).0 same in
          let here : text_lookup digest (text_put (digest_of l.bytes) x firsts) ≡ Some x =
          ap (λ (t : List ℕ). text_lookup t (text_put (digest_of l.bytes) x firsts)) equal
          ∙ put_found (digest_of l.bytes) x firsts in
          let absent : text_lookup digest firsts ≡ None = ap (λ (t : List ℕ). text_lookup t firsts) equal ∙ none in
          let before : Some l ≡ first_with digest all =
          subst (λ (b : Bool). (if b then Some l else first_with digest left) ≡ first_with digest all) same
          (subst (λ (o : Option (Bor ImageLayer)). or_else (option_map (λ b. b.now) o) (first_with digest (l ∷ left))
          ≡ first_with digest all) absent (so_far digest)) in
          ap (λ (o : Option (Bor ImageLayer)). or_else (option_map (λ b. b.now) o) (first_with digest left)) here
          ∙ ap (λ (y : ImageLayer). Some y) is ∙ before
      by false apart =
          let distinct : digest ≢ digest_of l.bytes = λ equal.
          (let yes = (bytes_eq-Decides digest (digest_of l.bytes)).1 equal in let wrong = sym yes ∙ apart in cc) in
          ap (λ (o : Option (Bor ImageLayer)). or_else (option_map (λ b. b.now) o) (first_with digest left))
          (put_others (digest_of l.bytes) digest x firsts distinct)
          ∙ subst (λ (b : Bool). or_else (held digest firsts) (if b then Some l else first_with digest left)
          ≡ first_with digest all) apart (so_far digest)

-- ---- by index

none_held : {A : Type 0} (r : Option (Bor A)) (o : Option A) → option_copied r ≡ o → is_some r ≡ false → o ≡ None
none_held None o is none = sym is
none_held (Some x) o is none = absurd cc

some_held : {A : Type 0} (r : Option (Bor A)) (o : Option A) → option_copied r ≡ o → is_some r ≡ true → o ≢ None
some_held None o is some none = absurd cc
some_held (Some x) o is some none = let wrong = is ∙ none in cc

module _ (all : List ImageLayer) (i : ℕ) (l : ImageLayer) (firsts : Held) (below : i < length all) (at : l ≡ get_or all i l)
    (so_far : AreFirsts all firsts (drop i all)) (k : List ℕ) (is_key : k ≡ digest_of l.bytes)
    (r : Option (Bor (Bor ImageLayer))) (got : option_copied r ≡ text_lookup k firsts) where
  split : drop i all ≡ l ∷ drop (i + 1) all
  split =
      let next : suc i ≡ i + 1 = omega arith in
      drop-cons all i l below ∙ ap (λ (x : ImageLayer). x ∷ drop (suc i) all) (sym at)
      ∙ ap (λ (n : ℕ). l ∷ drop n all) next

  ahead : AreFirsts all firsts (l ∷ drop (i + 1) all)
  ahead = subst (λ (ls : List ImageLayer). AreFirsts all firsts ls) split so_far

  looked_up : text_lookup k firsts ≡ text_lookup (digest_of l.bytes) firsts
  looked_up = ap (λ (t : List ℕ). text_lookup t firsts) is_key

  pub held_at : is_some r ≡ true → AreFirsts all firsts (drop (i + 1) all)
  held_at some =
      held_turn all (drop (i + 1) all) l firsts ahead (text_lookup (digest_of l.bytes) firsts) refl
      (some_held r _ (got ∙ looked_up) some)

  pub new_at : is_some r ≡ false → (key : List ℕ) → key ≡ digest_of l.bytes → (x : Bor ImageLayer) → x.now ≡ l
      → (new : Held) → new ≡ text_put key x firsts → AreFirsts all new (drop (i + 1) all)
  new_at none key is x of new put =
      subst (λ (f : Held). AreFirsts all f (drop (i + 1) all))
      (sym (put ∙ ap (λ (t : List ℕ). text_put t x firsts) is))
      (new_turn all (drop (i + 1) all) l firsts ahead x of (none_held r _ (got ∙ looked_up) none))
