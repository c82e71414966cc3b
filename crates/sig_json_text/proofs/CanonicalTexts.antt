-- Canonical texts, part by part, as the code writes them.
use Rattle.std.proofs.Common.{◌≡◌, ◌==◌, ◌||◌, ℕ, ◌<◌, ◌/◌, ◌%◌, Bool, true, false, cond, nat_lt, List, [], ◌∷◌, ◌++◌}
use Rattle.std.proofs.Common.{length, take, get_or, String, Global, string_bytes, inl, inr, subst, refl, sym, ap, ◌∙◌}
use Rattle.std.proofs.Math.Seq.{take-length}
use Rattle.std.proofs.lemmas.Bool.{eqb-true, or_cases}
use Rattle.std.proofs.lemmas.Grind.{flat_map-append}
use Rattle.std.proofs.lemmas.List.{append-nil, take_more, length_push}
use Rattle.std.specs.Char.Escape.{encode_utf16}
use Rattle.std.specs.Char.{digit_char}
use Rattle.std.specs.List.{join_by, flat_map}
use Rattle.std.specs.Prelude.{codes}
use Rattle.json.specs.Print.{escape_byte}
use Rattle.serde_json.specs.Data.{Data, string}
use Rattle.serde_json.specs.Written.{has_float, compact_text}
use Rattle.sig_json_text.specs.Canonical.{escape_of, canon_string}
use Rattle.sig_json_text.specs.Spells.{texts_of}

-- ---- a text in quotation marks

-- both spellings, by the answers of their tests
same_escape : (x : ℕ) (a b c d e f g : Bool) → (a ≡ true → nat_lt 0 x ≡ true)
    → cond a (92 ∷ x ∷ []) (cond b (codes "\\b")
    (cond c (codes "\\f") (cond d (codes "\\n")
    (cond e (codes "\\r") (cond f (codes "\\t")
    (cond g (codes "\\u00" ++ (digit_char (x / 16) ∷ digit_char (x % 16) ∷ [])) (x ∷ [])))))))
    ≡ (let letter = cond a x (cond b 98 (cond c 102 (cond d 110 (cond e 114 (cond f 116 0))))) in
    cond (nat_lt 0 letter) (92 ∷ letter ∷ [])
    (cond g (92 ∷ 117 ∷ 48 ∷ 48 ∷ digit_char (x / 16) ∷ digit_char (x % 16) ∷ []) (x ∷ [])))
same_escape x true b c d e f g h = let above : nat_lt 0 x ≡ true = h refl in rw above refl
same_escape x false true c d e f g h = refl
same_escape x false false true d e f g h = refl
same_escape x false false false true e f g h = refl
same_escape x false false false false true f g h = refl
same_escape x false false false false false true g h = refl
same_escape x false false false false false false true h = refl
same_escape x false false false false false false false h = refl

-- a quotation mark and a backslash are not 0
marks_above : (x : ℕ) → ((x == 34) || (x == 92)) ≡ true → nat_lt 0 x ≡ true
marks_above x e =
    elim (or_cases (x == 34) (x == 92) e) [
      | inl mark ↦ let same : x ≡ 34 = eqb-true x 34 mark in rw same refl
      | inr slash ↦ let same : x ≡ 92 = eqb-true x 92 slash in rw same refl
    ]

escape_of-escape_byte : (x : ℕ) → escape_of x ≡ escape_byte x
unfolding escape_byte
escape_of-escape_byte x =
    same_escape x ((x == 34) || (x == 92)) (x == 8) (x == 12) (x == 10) (x == 13) (x == 9) (nat_lt x 32)
    (marks_above x)

flat_map-escape_of : (text : List ℕ) → flat_map escape_of text ≡ flat_map escape_byte text
flat_map-escape_of [] = refl
flat_map-escape_of (x ∷ xs) = rw (escape_of-escape_byte x, flat_map-escape_of xs) refl

pub canon_string-compact : (text : List ℕ) (d : Data) (spelled : List ℕ) → d ≡ string text
    → (has_float d ≡ false → spelled ≡ compact_text d) → spelled ≡ canon_string text
unfolding canon_string
canon_string-compact text d spelled is h =
    let written : spelled ≡ compact_text (string text) =
    (let P : Data → Type 0 = λ t. has_float t ≡ false → spelled ≡ compact_text t in subst P is h) refl in
    written ∙ rw (flat_map-escape_of text) refl

pub ruleset quoted_texts = (canon_string-compact)

-- ---- texts of strings

pub join_by-texts_of : (separator : List ℕ) (texts : List (String Global))
    → join_by string_bytes separator texts ≡ join_by (λ text. text) separator (texts_of texts)
join_by-texts_of separator [] = refl
join_by-texts_of separator (t ∷ ts) = ap (λ rest. string_bytes t ++ rest) (rest_same ts) where
  rest_same : (rest : List (String Global))
      → flat_map (λ text. separator ++ string_bytes text) rest ≡ flat_map (λ text. separator ++ text) (texts_of rest)
  rest_same [] = refl
  rest_same (r ∷ rs) = ap (λ more. (separator ++ string_bytes r) ++ more) (rest_same rs)

-- ---- units

pub units_more : (cs yielded : List ℕ) (c : ℕ) → (length yielded < length cs) × (c ≡ get_or cs (length yielded) c)
    → (units after : List ℕ) → units ≡ flat_map encode_utf16 (take (length yielded) cs)
    → after ≡ units ++ encode_utf16 c → after ≡ flat_map encode_utf16 (take (length (yielded ++ c ∷ [])) cs)
units_more cs yielded c here units after so_far more =
    let front : take (length (yielded ++ c ∷ [])) cs ≡ take (length yielded) cs ++ c ∷ [] =
    rw (length_push yielded c) (take_more cs (length yielded) c here.0
    ∙ ap (λ x. take (length yielded) cs ++ x ∷ []) (sym here.1)) in
    more ∙ rw (so_far, front, flat_map-append encode_utf16 (take (length yielded) cs) (c ∷ []))
    (ap (λ rest. flat_map encode_utf16 (take (length yielded) cs) ++ rest) (sym (append-nil (encode_utf16 c))))

pub units_all : (cs yielded : List ℕ) → length yielded ≡ length cs → (units : List ℕ)
    → units ≡ flat_map encode_utf16 (take (length yielded) cs) → units ≡ flat_map encode_utf16 cs
units_all cs yielded whole units so_far =
    let all : take (length yielded) cs ≡ cs = rw whole (take-length cs) in so_far ∙ ap (flat_map encode_utf16) all
