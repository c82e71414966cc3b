-- The canonical text of what a log signs.
use Rattle.std.proofs.Common.{◌≡◌, ◌⊎◌, inl, inr, ℕ, ℤ, pos, negsuc, ◌^◌, Bool, true, false, nat_lt}
use Rattle.std.proofs.Common.{List, [], ◌∷◌, ◌++◌, Some, None, Ok, Err, refl, ap, append_assoc, arith}
use Rattle.std.proofs.lemmas.Bool.{cases_lt, lt-ltb, ltb-true}
use Rattle.std.specs.Fmt.{signed_decimal}
use Rattle.std.specs.List.{join_by}
use Rattle.std.specs.Prelude.{codes, unsigned_abs}
use Rattle.std.specs.Str.{chars}
use Rattle.sig_base.specs.OptionSteps.{◌>>=◌}
use Rattle.sig_base.specs.declared.error.SigstoreError.TheVariants.{UnexpectedError}
use Rattle.sig_base.specs.declared.unexpected.UnexpectedKind.TheVariants.{PromiseInteger}
use Rattle.sig_json_text.specs.Canonical.{canon, canon_integer, canon_string, utf16_units, with_text}
use Rattle.sig_json.specs.Data.{Data, Num, string, number, object, no_members, member}
use Rattle.sig_json.specs.Find.{as_integer, of_integer}
use Rattle.sig_payload.specs.Bundles.{payload_text, payload_tree}
use Rattle.sig_payload.specs.Promised.{IsExact, IsExactPayload, promised_text}
use Rattle.sig_payload.specs.declared.bundle.Payload.{Payload}

-- the four members, in the byte order of their names
abbrev tree_of : List ℕ → Num → List ℕ → Num → Data
tree_of body time id index =
    object (member (codes "body") (string body) (member (codes "integratedTime") (number time)
    (member (codes "logID") (string id) (member (codes "logIndex") (number index) no_members))))

-- and their texts, in the order of the UTF-16 units of their names
abbrev text_of : List ℕ → List ℕ → List ℕ → List ℕ → List ℕ
text_of body time id index =
    codes "{\"body\":" ++ (body ++ (codes ",\"integratedTime\":" ++ (time ++ (codes ",\"logID\":" ++ (id
    ++ (codes ",\"logIndex\":" ++ (index ++ codes "}")))))))

-- the members one after another, each name with what is before and after it
glued : (opened comma colon closed a b c d body time id index : List ℕ)
    → opened ++ (join_by (λ text. text) comma
    ((a ++ (colon ++ body)) ∷ (b ++ (colon ++ time)) ∷ (c ++ (colon ++ id)) ∷ (d ++ (colon ++ index)) ∷ []) ++ closed)
    ≡ (opened ++ (a ++ colon)) ++ (body ++ ((comma ++ (b ++ colon)) ++ (time ++ ((comma ++ (c ++ colon)) ++ (id
    ++ ((comma ++ (d ++ colon)) ++ (index ++ closed)))))))
glued opened comma colon closed a b c d body time id index = simp append_assoc

canon-both : (body id time index : List ℕ) (t i : Num) → (as_integer t >>= canon_integer) ≡ Some time
    → (as_integer i >>= canon_integer) ≡ Some index
    → canon (tree_of body t id i) ≡ Some (text_of (canon_string body) time (canon_string id) index)
unfolding with_text utf16_units chars canon_string
canon-both body id time index t i p q =
    rw (p, q) (ap Some (glued (codes "{") (codes ",") (codes ":") (codes "}") (codes "\"body\"")
    (codes "\"integratedTime\"") (codes "\"logID\"") (codes "\"logIndex\"") (canon_string body) time
    (canon_string id) index))

canon-no_time : (body id : List ℕ) (t i : Num) → (as_integer t >>= canon_integer) ≡ None
    → canon (tree_of body t id i) ≡ None
canon-no_time body id t i p = rw p refl

canon-no_index : (body id time : List ℕ) (t i : Num) → (as_integer t >>= canon_integer) ≡ Some time
    → (as_integer i >>= canon_integer) ≡ None → canon (tree_of body t id i) ≡ None
canon-no_index body id time t i p q = rw (p, q) refl

-- ---- the integers

exact_integer : (z : ℤ) → IsExact z → (as_integer (of_integer z) >>= canon_integer) ≡ Some (signed_decimal z)
unfolding canon_integer
exact_integer (pos n) exact = rw (lt-ltb (unsigned_abs (pos n)) (2 ^ 53) exact) refl
exact_integer (negsuc n) exact = rw (lt-ltb (unsigned_abs (negsuc n)) (2 ^ 53) exact) refl

by_size : (z : ℤ) (b : Bool) → nat_lt (unsigned_abs z) (2 ^ 53) ≡ b → ¬ IsExact z → b ≡ false
by_size z true e wide = absurd (wide (ltb-true (unsigned_abs z) (2 ^ 53) e))
by_size z false e wide = refl

wide_integer : (z : ℤ) → ¬ IsExact z → (as_integer (of_integer z) >>= canon_integer) ≡ None
unfolding canon_integer
wide_integer (pos n) wide = rw (by_size (pos n) (nat_lt (unsigned_abs (pos n)) (2 ^ 53)) refl wide) refl
wide_integer (negsuc n) wide = rw (by_size (negsuc n) (nat_lt (unsigned_abs (negsuc n)) (2 ^ 53)) refl wide) refl

-- ---- the object

made : (p : Payload) → payload_tree p ≡ tree_of p.body (of_integer p.integrated_time) p.log_id (of_integer p.log_index)
unfolding payload_tree
made p = refl

pub exact-text : (p : Payload) → IsExactPayload p → payload_text p ≡ Ok (promised_text p)
exact-text p exact =
    rw (
      made p,
      canon-both p.body p.log_id _ _ _ _ (exact_integer p.integrated_time exact.0) (exact_integer p.log_index exact.1),
    ) refl

by_time : (p : Payload) (b : Bool) → nat_lt (unsigned_abs p.integrated_time) (2 ^ 53) ≡ b → ¬ IsExactPayload p
    → payload_text p ≡ Err (UnexpectedError PromiseInteger)
by_time p true t wide =
    let exact : IsExact p.integrated_time = ltb-true (unsigned_abs p.integrated_time) (2 ^ 53) t in
    rw (
      made p,
      canon-no_index p.body p.log_id _ _ _ (exact_integer p.integrated_time exact)
          (wide_integer p.log_index (λ small. wide (exact, small))),
    ) refl
by_time p false t wide =
    let far : ¬ IsExact p.integrated_time =
    λ small. let f = lt-ltb (unsigned_abs p.integrated_time) (2 ^ 53) small in cc in
    rw (made p, canon-no_time p.body p.log_id _ _ (wide_integer p.integrated_time far)) refl

pub wide-text : (p : Payload) → ¬ IsExactPayload p → payload_text p ≡ Err (UnexpectedError PromiseInteger)
wide-text p wide = by_time p (nat_lt (unsigned_abs p.integrated_time) (2 ^ 53)) refl wide

pub exact_or_wide : (p : Payload) → IsExactPayload p ⊎ ¬ IsExactPayload p
exact_or_wide p = elim (cases_lt (unsigned_abs p.integrated_time) (2 ^ 53)) [
  | inl time ↦ elim (cases_lt (unsigned_abs p.log_index) (2 ^ 53)) [
    | inl index ↦ inl (time, index)
    | inr index ↦ inr (λ h. omega (arith, h.1, index))
  ]
  | inr time ↦ inr (λ h. omega (arith, h.0, time))
]
