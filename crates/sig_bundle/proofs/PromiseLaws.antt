-- The canonical text of a promise's object.
use Rattle.std.proofs.Common.{◌≡◌, ◌⊎◌, inl, inr, ℕ, ℤ, pos, negsuc, ◌^◌, Bool, true, false, nat_lt}
use Rattle.std.proofs.Common.{List, [], ◌∷◌, ◌++◌, Some, None, Result, Ok, Err, IfOk, unwrap_or}
use Rattle.std.proofs.Common.{refl, sym, ap, ◌∙◌, append_assoc, arith}
use Rattle.std.proofs.lemmas.Bool.{cases_lt, lt-ltb, ltb-true}
use Rattle.std.specs.Fmt.{signed_decimal}
use Rattle.std.specs.List.{join_by}
use Rattle.std.specs.Prelude.{codes, unsigned_abs}
use Rattle.std.specs.Str.{chars}
use Rattle.hex.specs.Hex.{encode_lower}
use Rattle.sig_base.proofs.ResultSteps.{ok_is}
use Rattle.sig_base.specs.Answers.{Answers, ComesWhere}
use Rattle.sig_base.specs.Base64.{base64_text}
use Rattle.sig_base.specs.ByteLists.{AreBytes}
use Rattle.sig_base.specs.OptionSteps.{◌>>=◌}
use Rattle.sig_json_text.specs.Canonical.{canon, canon_integer, canon_string, canonical_of, utf16_units, with_text}
use Rattle.sig_json.specs.Data.{Data, Num, string, number, object, no_members, member}
use Rattle.sig_json.specs.Find.{as_integer, of_integer}
use Rattle.sig_json_text.specs.declared.error.CanonicalError.{CanonicalError}
use Rattle.sig_json_text.specs.declared.error.CanonicalError.TheVariants.{IntegerTooLarge, OutOfMemory}
use Rattle.sig_bundle.specs.Promise.{promise_tree_of, IsExact, IsExactEntry, promise_of_entry}
use Rattle.sig_bundle.specs.declared.material.TransparencyLogEntry.{TransparencyLogEntry}
use Rattle.sig_bundle.proofs.PlainTexts.{base64-plain, hex-plain}

-- the four members, in the byte order of their names
abbrev tree_of : List ℕ → Num → List ℕ → Num → Data
tree_of body time id index =
    object (member (codes "body") (string body) (member (codes "integratedTime") (number time)
    (member (codes "logID") (string id) (member (codes "logIndex") (number index) no_members))))

-- and their texts, in the order of the UTF-16 units of their names
abbrev text_of : List ℕ → List ℕ → List ℕ → List ℕ → List ℕ
text_of body time id index =
    codes "{\"body\":" ++ (body ++ (codes ",\"integratedTime\":" ++ (time ++ (codes ",\"logID\":" ++ (id
    ++ (codes ",\"logIndex\":" ++ (index ++ codes "}")))))))

-- the members one after another, each name with what is before and after it
glued : (opened comma colon closed a b c d body time id index : List ℕ)
    → opened ++ (join_by (λ text. text) comma
    ((a ++ (colon ++ body)) ∷ (b ++ (colon ++ time)) ∷ (c ++ (colon ++ id)) ∷ (d ++ (colon ++ index)) ∷ []) ++ closed)
    ≡ (opened ++ (a ++ colon)) ++ (body ++ ((comma ++ (b ++ colon)) ++ (time ++ ((comma ++ (c ++ colon)) ++ (id
    ++ ((comma ++ (d ++ colon)) ++ (index ++ closed)))))))
glued opened comma colon closed a b c d body time id index = simp append_assoc

canon-both : (body id time index : List ℕ) (t i : Num) → (as_integer t >>= canon_integer) ≡ Some time
    → (as_integer i >>= canon_integer) ≡ Some index
    → canon (tree_of body t id i) ≡ Some (text_of (canon_string body) time (canon_string id) index)
unfolding with_text utf16_units chars canon_string
canon-both body id time index t i p q =
    rw (p, q) (ap Some (glued (codes "{") (codes ",") (codes ":") (codes "}") (codes "\"body\"")
    (codes "\"integratedTime\"") (codes "\"logID\"") (codes "\"logIndex\"") (canon_string body) time
    (canon_string id) index))

canon-no_time : (body id : List ℕ) (t i : Num) → (as_integer t >>= canon_integer) ≡ None
    → canon (tree_of body t id i) ≡ None
canon-no_time body id t i p = rw p refl

canon-no_index : (body id time : List ℕ) (t i : Num) → (as_integer t >>= canon_integer) ≡ Some time
    → (as_integer i >>= canon_integer) ≡ None → canon (tree_of body t id i) ≡ None
canon-no_index body id time t i p q = rw (p, q) refl

-- ---- the integers

exact_integer : (z : ℤ) → IsExact z → (as_integer (of_integer z) >>= canon_integer) ≡ Some (signed_decimal z)
unfolding canon_integer
exact_integer (pos n) exact = rw (lt-ltb (unsigned_abs (pos n)) (2 ^ 53) exact) refl
exact_integer (negsuc n) exact = rw (lt-ltb (unsigned_abs (negsuc n)) (2 ^ 53) exact) refl

by_size : (z : ℤ) (b : Bool) → nat_lt (unsigned_abs z) (2 ^ 53) ≡ b → ¬ IsExact z → b ≡ false
by_size z true e wide = absurd (wide (ltb-true (unsigned_abs z) (2 ^ 53) e))
by_size z false e wide = refl

wide_integer : (z : ℤ) → ¬ IsExact z → (as_integer (of_integer z) >>= canon_integer) ≡ None
unfolding canon_integer
wide_integer (pos n) wide = rw (by_size (pos n) (nat_lt (unsigned_abs (pos n)) (2 ^ 53)) refl wide) refl
wide_integer (negsuc n) wide = rw (by_size (negsuc n) (nat_lt (unsigned_abs (negsuc n)) (2 ^ 53)) refl wide) refl

-- ---- the object, and the law

made : (e : TransparencyLogEntry) → promise_tree_of e ≡
    tree_of (base64_text e.canonicalized_body) (of_integer e.integrated_time) (encode_lower (unwrap_or e.log_id []))
    (of_integer e.log_index)
unfolding promise_tree_of
made e = refl

quoted : (body id time index : List ℕ)
    → text_of (34 ∷ (body ++ 34 ∷ [])) time (34 ∷ (id ++ 34 ∷ [])) index ≡
    codes "{\"body\":\"" ++ (body ++ (codes "\",\"integratedTime\":" ++ (time
    ++ (codes ",\"logID\":\"" ++ (id ++ (codes "\",\"logIndex\":" ++ (index ++ codes "}")))))))
quoted body id time index = simp append_assoc

pub exact-promise : (e : TransparencyLogEntry) → AreBytes e.canonicalized_body → AreBytes (unwrap_or e.log_id [])
    → IsExactEntry e → canonical_of (promise_tree_of e) ≡ Ok (promise_of_entry e)
exact-promise e body id exact =
    rw (
      made e,
      canon-both (base64_text e.canonicalized_body) (encode_lower (unwrap_or e.log_id [])) _ _ _ _
          (exact_integer e.integrated_time exact.0) (exact_integer e.log_index exact.1),
      base64-plain e.canonicalized_body body,
      hex-plain (unwrap_or e.log_id []) id,
    ) (ap Ok (quoted (base64_text e.canonicalized_body) (encode_lower (unwrap_or e.log_id []))
    (signed_decimal e.integrated_time) (signed_decimal e.log_index)))

by_time : (e : TransparencyLogEntry) (b : Bool) → nat_lt (unsigned_abs e.integrated_time) (2 ^ 53) ≡ b
    → ¬ IsExactEntry e → canonical_of (promise_tree_of e) ≡ Err IntegerTooLarge
by_time e true t wide =
    let exact : IsExact e.integrated_time = ltb-true (unsigned_abs e.integrated_time) (2 ^ 53) t in
    rw (
      made e,
      canon-no_index (base64_text e.canonicalized_body) (encode_lower (unwrap_or e.log_id [])) _ _ _
          (exact_integer e.integrated_time exact) (wide_integer e.log_index (λ small. wide (exact, small))),
    ) refl
by_time e false t wide =
    let far : ¬ IsExact e.integrated_time =
    λ small. let f = lt-ltb (unsigned_abs e.integrated_time) (2 ^ 53) small in cc in
    rw (
      made e,
      canon-no_time (base64_text e.canonicalized_body) (encode_lower (unwrap_or e.log_id [])) _ _
          (wide_integer e.integrated_time far),
    ) refl

pub wide-promise : (e : TransparencyLogEntry) → ¬ IsExactEntry e
    → canonical_of (promise_tree_of e) ≡ Err IntegerTooLarge
wide-promise e wide = by_time e (nat_lt (unsigned_abs e.integrated_time) (2 ^ 53)) refl wide

-- ---- a call's result

pub exact_or_wide : (e : TransparencyLogEntry) → IsExactEntry e ⊎ ¬ IsExactEntry e
exact_or_wide e = elim (cases_lt (unsigned_abs e.integrated_time) (2 ^ 53)) [
  | inl time ↦ elim (cases_lt (unsigned_abs e.log_index) (2 ^ 53)) [
    | inl index ↦ inl (time, index)
    | inr index ↦ inr (λ h. omega (arith, h.1, index))
  ]
  | inr time ↦ inr (λ h. omega (arith, h.0, time))
]

found_text : (e : TransparencyLogEntry) (text : List ℕ) → AreBytes e.canonicalized_body
    → AreBytes (unwrap_or e.log_id []) → canonical_of (promise_tree_of e) ≡ Ok text
    → IsExactEntry e ⊎ (¬ IsExactEntry e) → (text ≡ promise_of_entry e) × IsExactEntry e
found_text e text body id is (inl exact) =
    let law = exact-promise e body id exact in
    let same : text ≡ promise_of_entry e = ok_is text (promise_of_entry e) (sym is ∙ law) in (same, exact)
found_text e text body id is (inr wide) = absurd (let law = sym is ∙ wide-promise e wide in cc)

pub promise_text-found : (e : TransparencyLogEntry) (result : Result (List ℕ) CanonicalError)
    → AreBytes e.canonicalized_body → AreBytes (unwrap_or e.log_id [])
    → Answers OutOfMemory (λ text. text) result (canonical_of (promise_tree_of e))
    → IfOk result (λ text. (text ≡ promise_of_entry e) × IsExactEntry e)
promise_text-found e (Ok text) body id is = found_text e text body id is (exact_or_wide e)
promise_text-found e (Err d) body id is = tt

pub promise_text-wide : (e : TransparencyLogEntry) (result : Result (List ℕ) CanonicalError)
    → AreBytes e.canonicalized_body → AreBytes (unwrap_or e.log_id [])
    → Answers OutOfMemory (λ text. text) result (canonical_of (promise_tree_of e))
    → ComesWhere OutOfMemory result (Err IntegerTooLarge) (¬ IsExactEntry e)
promise_text-wide e (Ok text) body id is =
    (λ same. absurd cc, λ wide. absurd (let law = sym is ∙ wide-promise e wide in cc))
promise_text-wide e (Err d) body id (inl memory) =
    (λ same. absurd (let other : OutOfMemory ≡ IntegerTooLarge = cc in cc), λ wide. inl (ap Err memory))
promise_text-wide e (Err d) body id (inr is) = (
  λ same exact. let law = sym (exact-promise e body id exact) ∙ is in cc,
  λ wide. inr (sym is ∙ wide-promise e wide),
)
