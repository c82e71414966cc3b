-- Walks over lists of like parts that keep no list: whether the whole is one, and whether a part passes a test.
use Rattle.std.proofs.Common.{◌≡◌, ℕ, ◌<◌, Bool, ◌||◌, eqb, List, [], ◌∷◌, length, Option, Some, None}
use Rattle.std.proofs.Common.{refl, sym, ap, subst, ◌∙◌}
use Rattle.std.proofs.Math.Bool.{or_assoc, or-false}
use Rattle.std.specs.Prelude.{option_map, is_some}
use Rattle.std.specs.List.{list_any}
use Rattle.sig_base.specs.OptionSteps.{◌>>=◌}
use Rattle.sig_base.proofs.OptionSteps.{bind_is, unless_is, some, some_is}
use Rattle.sig_der.specs.FrontReaders.{take_any, take_tag, many_at}
use Rattle.sig_der.proofs.Takings.{take_any_shrinks, take_tag_shrinks}
use Rattle.sig_der.proofs.ElementLists.{Shrinks, many_at_none, many_at_more}
use Rattle.sig_certificate.specs.Names.{Name, general_name_of, name_at}
use Rattle.sig_certificate.specs.Values.{oid_at}
use Rattle.sig_der.specs.Tag.{OBJECT_IDENTIFIER}

-- ---- the readers take a byte at least

pub oid_at_shrinks : (bytes : List ℕ) (y : List ℕ × List ℕ) → oid_at bytes ≡ Some y → length y.1 < length bytes
unfolding oid_at
oid_at_shrinks bytes y e =
    let x = bind_is (take_tag OBJECT_IDENTIFIER bytes) _ y e in
    let g = unless_is (eqb (length x.0.0.content) 0) _ y x.2 in
    subst (λ (w : List ℕ × List ℕ). length w.1 < length bytes) (some_is _ y g.1)
    (take_tag_shrinks OBJECT_IDENTIFIER bytes x.0 x.1)

pub name_at_shrinks : (bytes : List ℕ) (y : Name × List ℕ) → name_at bytes ≡ Some y → length y.1 < length bytes
unfolding name_at
name_at_shrinks bytes y e =
    let x = bind_is (take_any bytes) _ y e in
    let n = bind_is (general_name_of x.0.0.tag x.0.0.content) _ y x.2 in
    subst (λ (w : Name × List ℕ). length w.1 < length bytes) (some_is _ y n.2) (take_any_shrinks bytes x.0 x.1)

-- ---- whether the whole is a list

pub is_list_more : {A : Type 0} (read : List ℕ → Option (A × List ℕ)) → Shrinks read
    → (bytes : List ℕ) (y : A × List ℕ) → read bytes ≡ Some y
    → is_some (many_at read y.1) ≡ is_some (many_at read bytes)
is_list_more {A = A} read shrinks bytes y is =
    after (many_at read y.1) ∙ ap (λ (o : Option (List A)). is_some o) (sym (many_at_more read shrinks bytes y is))
  where
    after : (o : Option (List A)) → is_some o ≡ is_some (o >>= λ xs. some (y.0 ∷ xs))
    after (Some xs) = refl
    after None = refl

-- ---- whether a part passes a test

-- the answer so far, and for what is left
abbrev pub any_more : {A : Type 0} → (A → Bool) → Bool → Option (List A) → Option Bool
any_more test so_far rest = option_map (λ xs. so_far || list_any test xs) rest

pub any_goes_on : {A : Type 0} (read : List ℕ → Option (A × List ℕ)) → Shrinks read
    → (test : A → Bool) (so_far : Bool) (bytes : List ℕ) (y : A × List ℕ) → read bytes ≡ Some y
    → any_more test (so_far || test y.0) (many_at read y.1) ≡ any_more test so_far (many_at read bytes)
any_goes_on {A = A} read shrinks test so_far bytes y is =
    after (many_at read y.1)
    ∙ ap (λ (o : Option (List A)). any_more test so_far o) (sym (many_at_more read shrinks bytes y is))
  where
    after : (o : Option (List A))
        → any_more test (so_far || test y.0) o ≡ any_more test so_far (o >>= λ xs. some (y.0 ∷ xs))
    after (Some xs) = ap (λ (b : Bool). some b) (or_assoc so_far (test y.0) (list_any test xs))
    after None = refl

pub any_ends : {A : Type 0} (read : List ℕ → Option (A × List ℕ)) (test : A → Bool) (so_far : Bool) (bytes : List ℕ)
    → bytes ≡ []
    → any_more test so_far (many_at read bytes) ≡ Some so_far
any_ends {A = A} read test so_far bytes none =
    ap (λ (w : List ℕ). any_more test so_far (many_at read w)) none
    ∙ ap (λ (o : Option (List A)). any_more test so_far o) (many_at_none read)
    ∙ ap (λ (b : Bool). some b) (or-false so_far)
