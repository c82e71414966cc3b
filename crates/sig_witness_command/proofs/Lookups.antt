-- What is found of a text once a value is put, and where a line ends.
use Rattle.std.proofs.Common.{◌≡◌, ◌≢◌, ◌∙◌, ℕ, Bool, true, false, List, [], ◌∷◌, ◌++◌, Some, None, ap, refl, subst, sym, inl, inr, ◌⊎◌}
use Rattle.std.specs.Prelude.{bytes_eq, if◌then◌else◌}
use Rattle.std.specs.Cmp.Lexicographic.{slice_cmp, bytes_decides}
use Rattle.std.specs.List.{AllByRecursion}
use Rattle.std.specs.Ordering.{nat_cmp, match_ordering}
use Rattle.std.specs.declared.cmp.Ordering.{Ordering}
use Rattle.std.specs.declared.cmp.Ordering.TheVariants.{Less, Equal, Greater}
use Rattle.sig_base.specs.ByText.{text_lookup, text_put}
use Rattle.sig_witness.proofs.Entries.{compared, compared-same}
use Rattle.sig_witness_command.proofs.DistinctRows.{if-false, if-true}

pub same-text : (text : List ℕ) → bytes_eq text text ≡ true
same-text text = (bytes_decides text text).1 refl

bool-cases : (b : Bool) → (b ≡ true) ⊎ (b ≡ false)
bool-cases true = inl refl
bool-cases false = inr refl

module _ {V : Type 0} where
  -- the value that was put
  pub put-found : (text : List ℕ) (value : V) (es : List (List ℕ × V))
      → text_lookup text (text_put text value es) ≡ Some value
  put-found text value [] = if-true (bytes_eq text text) (Some value) None (same-text text)
  put-found text value ((k, v) ∷ es) = by (slice_cmp nat_cmp text k) refl (put-found text value es) where
    by : (o : Ordering) → slice_cmp nat_cmp text k ≡ o → text_lookup text (text_put text value es) ≡ Some value
        → text_lookup text (match_ordering o ((text, value) ∷ (k, v) ∷ es) ((k, value) ∷ es)
        ((k, v) ∷ text_put text value es)) ≡ Some value
    by Less is rest = if-true (bytes_eq text text) (Some value) (text_lookup text ((k, v) ∷ es)) (same-text text)
    by Equal is rest = if-true (bytes_eq text k) (Some value) (text_lookup text es) (compared text k Equal is)
    by Greater is rest =
        if-false (bytes_eq text k) (Some v) (text_lookup text (text_put text value es)) (compared text k Greater is) ∙ rest

  -- and of another text what was found before
  pub put-other : (other text : List ℕ) (value : V) (es : List (List ℕ × V)) → bytes_eq other text ≡ false
      → text_lookup other (text_put text value es) ≡ text_lookup other es
  put-other other text value [] apart = if-false (bytes_eq other text) (Some value) None apart
  put-other other text value ((k, v) ∷ es) apart =
      by (slice_cmp nat_cmp text k) refl (put-other other text value es apart) where
        by : (o : Ordering) → slice_cmp nat_cmp text k ≡ o
            → text_lookup other (text_put text value es) ≡ text_lookup other es
            → text_lookup other (match_ordering o ((text, value) ∷ (k, v) ∷ es) ((k, value) ∷ es)
            ((k, v) ∷ text_put text value es)) ≡ text_lookup other ((k, v) ∷ es)
        by Less is rest = if-false (bytes_eq other text) (Some value) (text_lookup other ((k, v) ∷ es)) apart
        by Equal is rest =
            let away : bytes_eq other k ≡ false =
            subst (λ (t : List ℕ). bytes_eq other t ≡ false) (compared-same text k is) apart in
            if-false (bytes_eq other k) (Some value) (text_lookup other es) away
            ∙ sym (if-false (bytes_eq other k) (Some v) (text_lookup other es) away)
        by Greater is rest = ap (λ found. if bytes_eq other k then Some v else found) rest

  -- so there are two cases
  pub put-cases : (other text : List ℕ) (value : V) (es : List (List ℕ × V))
      → ((other ≡ text) × (text_lookup other (text_put text value es) ≡ Some value))
      ⊎ ((other ≢ text) × (text_lookup other (text_put text value es) ≡ text_lookup other es))
  put-cases other text value es = elim (bool-cases (bytes_eq other text)) [
    | inl is ↦
        let same : other ≡ text = (bytes_decides other text).0 is in
        inl (same, ap (λ t. text_lookup t (text_put text value es)) same ∙ put-found text value es)
    | inr is ↦ inr (
      λ same. (let f : false ≡ true = sym is ∙ (bytes_decides other text).1 same in cc),
      put-other other text value es is,
    )
  ]

-- ---- the first separator ends a line

pub split-same : (separator : ℕ) (a b x y : List ℕ) → AllByRecursion (λ c. c ≢ separator) a
    → AllByRecursion (λ c. c ≢ separator) b → a ++ separator ∷ x ≡ b ++ separator ∷ y → (a ≡ b) × (x ≡ y)
split-same separator [] [] x y free other is = (refl, (let e = is in cc))
split-same separator [] (c ∷ b) x y free other is =
    absurd (other.0 (let e : separator ∷ x ≡ c ∷ (b ++ separator ∷ y) = is in cc))
split-same separator (c ∷ a) [] x y free other is =
    absurd (free.0 (let e : c ∷ (a ++ separator ∷ x) ≡ separator ∷ y = is in cc))
split-same separator (c ∷ a) (d ∷ b) x y free other is =
    let first : c ≡ d = (let e : c ∷ (a ++ separator ∷ x) ≡ d ∷ (b ++ separator ∷ y) = is in cc) in
    let later : a ++ separator ∷ x ≡ b ++ separator ∷ y =
    (let e : c ∷ (a ++ separator ∷ x) ≡ d ∷ (b ++ separator ∷ y) = is in cc) in
    let rest = split-same separator a b x y free.1 other.1 later in
    (rw (first, rest.0) refl, rest.1)
