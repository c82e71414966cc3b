-- Vectors: what is read is a vector, and a vector is read, whatever follows it; and lists of vectors.
use Rattle.std.proofs.Common.{◌≡◌, ◌≢◌, ℕ, ◌+◌, ◌*◌, ◌/◌, ◌%◌, ◌<◌, ◌≤◌, true, false, ltb, eqb, List, [], ◌∷◌, ◌++◌}
use Rattle.std.proofs.Common.{length, take, drop, Option, Some, None, refl, sym, ap, subst, ◌∙◌, arith}
use Rattle.std.specs.Prelude.{is_some}
use Rattle.std.proofs.lemmas.Bool.{le-ltb, ltb-false, cond-false}
use Rattle.std.proofs.lemmas.List.{take_at, drop_at, take-append-drop, length-append, length-take-le, append-nil}
use Rattle.sig_base.specs.OptionSteps.{◌>>=◌}
use Rattle.sig_base.proofs.OptionSteps.{bind_is, bind_of_some, when_is, unless_is, some_is}
use Rattle.sig_der.specs.FrontReaders.{many_at}
use Rattle.sig_der.specs.KeyInfo.{is_empty}
use Rattle.sig_der.proofs.Bytes.{IsBytes}
use Rattle.sig_der.proofs.KeyInfos.{none_left}
use Rattle.sig_der.proofs.ElementLists.{IsReader, many_at_none, many_at_more, many_at_stops}
use Rattle.sig_timestamp.specs.Vectors.{vector, IsShort, bytes_at, vector_at, whole_vector}

-- ---- so many bytes

pub bytes_at_takes : (n : ℕ) (bytes : List ℕ) (y : List ℕ × List ℕ) → bytes_at n bytes ≡ Some y
    → (length y.0 ≡ n) × (bytes ≡ y.0 ++ y.1)
unfolding bytes_at
bytes_at_takes n bytes y e =
    let g = unless_is (ltb (length bytes) n) (Some (take n bytes, drop n bytes)) y e in
    let room : n ≤ length bytes = ltb-false (length bytes) n g.0 in
    subst (λ (w : List ℕ × List ℕ). (length w.0 ≡ n) × (bytes ≡ w.0 ++ w.1)) (some_is _ y g.1)
    (length-take-le n bytes room, sym (take-append-drop n bytes))

pub bytes_at_again : (n : ℕ) (x rest : List ℕ) → length x ≡ n → bytes_at n (x ++ rest) ≡ Some (x, rest)
unfolding bytes_at
bytes_at_again n x rest len =
    cond-false (ltb (length (x ++ rest)) n) _ _ (le-ltb _ _ (omega (arith, length-append x rest)))
    ∙ rw (drop_at x rest n len, take_at x rest n len) refl

-- ---- a vector

spelled : (a b n : ℕ) (content : List ℕ) → a < 256 → b < 256 → n ≡ a * 256 + b
    → a ∷ b ∷ content ≡ (n / 256) ∷ (n % 256) ∷ content
spelled a b n content fa fb is =
    let high : a ≡ n / 256 = omega arith in
    let low : b ≡ n % 256 = omega arith in
    ap (λ (x : ℕ). x ∷ b ∷ content) high ∙ ap (λ (x : ℕ). (n / 256) ∷ x ∷ content) low

pub vector_at_takes : (bytes : List ℕ) → IsBytes bytes → (y : List ℕ × List ℕ) → vector_at bytes ≡ Some y
    → IsShort y.0 × (bytes ≡ vector y.0 ++ y.1)
unfolding vector_at
vector_at_takes [] fits y e = absurd cc
vector_at_takes (a ∷ []) fits y e = absurd cc
vector_at_takes (a ∷ b ∷ rest) fits y e =
    let t = bytes_at_takes (a * 256 + b) rest y e in
    let fa : a < 256 = fits 0 in
    let fb : b < 256 = fits 1 in
    let len : length y.0 ≡ a * 256 + b = t.0 in
    (omega arith, ap (λ (w : List ℕ). a ∷ b ∷ w) t.1 ∙ spelled a b (length y.0) (y.0 ++ y.1) fa fb len)

pub vector_at_again : (x rest : List ℕ) → IsShort x → vector_at (vector x ++ rest) ≡ Some (x, rest)
unfolding vector_at
vector_at_again x rest short =
    (let len : length x ≡ length x / 256 * 256 + length x % 256 = omega arith in
    bytes_at_again (length x / 256 * 256 + length x % 256) x rest len)

pub vector_at_shrinks : (bytes : List ℕ) (y : List ℕ × List ℕ) → vector_at bytes ≡ Some y → length y.1 < length bytes
unfolding vector_at
vector_at_shrinks [] y e = absurd cc
vector_at_shrinks (a ∷ []) y e = absurd cc
vector_at_shrinks (a ∷ b ∷ rest) y e =
    let t = bytes_at_takes (a * 256 + b) rest y e in
    let len : length rest ≡ length y.0 + length y.1 = ap (λ (w : List ℕ). length w) t.1 ∙ length-append y.0 y.1 in
    omega arith

pub vectors : IsReader vector_at IsShort vector
vectors = record { takes = vector_at_takes; again = vector_at_again; shrinks = vector_at_shrinks }

-- ---- all of the text

pub whole_vector_takes : (bytes : List ℕ) → IsBytes bytes → (x : List ℕ) → whole_vector bytes ≡ Some x
    → IsShort x × (bytes ≡ vector x)
unfolding whole_vector
whole_vector_takes bytes fits x e =
    let v = bind_is (vector_at bytes) _ x e in
    let w = when_is (is_empty v.0.1) (Some v.0.0) x v.2 in
    let t = vector_at_takes bytes fits v.0 v.1 in
    subst (λ (u : List ℕ). IsShort u × (bytes ≡ vector u)) (some_is v.0.0 x w.1)
    (t.0, t.1 ∙ ap (λ (u : List ℕ). vector v.0.0 ++ u) (none_left v.0.1 w.0) ∙ append-nil (vector v.0.0))

pub whole_vector_again : (x : List ℕ) → IsShort x → whole_vector (vector x) ≡ Some x
unfolding whole_vector
whole_vector_again x short =
    bind_of_some (vector_at (vector x)) _ (x, [])
    (subst (λ (w : List ℕ). vector_at w ≡ Some (x, [])) (append-nil (vector x)) (vector_at_again x [] short))

-- ---- a list of them

is_some_bind : {A B : Type 0} (o : Option A) (f : A → B) → is_some (o >>= λ x. Some (f x)) ≡ is_some o
is_some_bind (Some x) f = refl
is_some_bind None f = refl

pub vectors_go_on : (bytes : List ℕ) (y : List ℕ × List ℕ) → vector_at bytes ≡ Some y
    → is_some (many_at vector_at y.1) ≡ is_some (many_at vector_at bytes)
vectors_go_on bytes y e =
    sym (ap (λ (o : Option (List (List ℕ))). is_some o) (many_at_more vector_at vector_at_shrinks bytes y e)
    ∙ is_some_bind (many_at vector_at y.1) (λ xs. y.0 ∷ xs))

pub vectors_end : (bytes : List ℕ) → true ≡ eqb (length bytes) 0 → is_some (many_at vector_at bytes) ≡ true
vectors_end bytes none =
    ap (λ (w : List ℕ). is_some (many_at vector_at w)) (none_left bytes (sym none))
    ∙ ap (λ (o : Option (List (List ℕ))). is_some o) (many_at_none vector_at)

pub is_left : (bytes : List ℕ) → false ≡ eqb (length bytes) 0 → bytes ≢ []
is_left bytes e = λ none. let no = e ∙ ap (λ (w : List ℕ). eqb (length w) 0) none in cc

pub vectors_stop : (bytes : List ℕ) → false ≡ eqb (length bytes) 0 → vector_at bytes ≡ None
    → is_some (many_at vector_at bytes) ≡ false
vectors_stop bytes some_left e =
    ap (λ (o : Option (List (List ℕ))). is_some o) (many_at_stops vector_at bytes (is_left bytes some_left) e)
