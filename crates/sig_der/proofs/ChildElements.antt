-- The answers at a content, one after another, as an iterator gives them; and the children of elements that are
-- joined.
use Rattle.std.proofs.Common.{◌≡◌, ◌≢◌, ℕ, zero, suc, ◌≤◌, true, eqb, List, [], ◌∷◌, length, Result, Ok, Err, refl}
use Rattle.std.proofs.Common.{sym, ap, ◌∙◌, arith}
use Rattle.std.proofs.lemmas.Bool.{eqb-true}
use Rattle.std.proofs.lemmas.List.{nil_from_length}
use Rattle.sig_base.specs.declared.fault.DerError.{DerError}
use Rattle.sig_der.specs.Reading.{Piece, element_at}
use Rattle.sig_der.specs.Joined.{joined, AreJoined}
use Rattle.sig_der.specs.Children.{then_rest, children_within, children_of, IsPiece, all_read}
use Rattle.sig_der.proofs.Elements.{element_at_again, element_at_shorter}

-- ---- the number of readings does not matter once it suffices

same_rest : (go1 go2 : List ℕ → List (Result Piece DerError)) (r : Result (Piece × List ℕ) DerError)
    → ((x : Piece × List ℕ) → r ≡ Ok x → go1 x.1 ≡ go2 x.1) → then_rest go1 r ≡ then_rest go2 r
same_rest go1 go2 (Ok x) h = ap (λ (w : List (Result Piece DerError)). Ok x.0 ∷ w) (h x refl)
same_rest go1 go2 (Err e) h = refl

enough : (m n : ℕ) (bytes : List ℕ) → length bytes ≤ m → length bytes ≤ n
    → children_within m bytes ≡ children_within n bytes
unfolding children_within
enough zero zero bytes a b = refl
enough zero (suc n) [] a b = refl
enough (suc m) zero [] a b = refl
enough (suc m) (suc n) [] a b = refl
enough zero (suc n) (x ∷ bytes) a b = absurd (omega arith)
enough (suc m) zero (x ∷ bytes) a b = absurd (omega arith)
enough (suc m) (suc n) (x ∷ bytes) a b =
    same_rest (children_within m) (children_within n) (element_at (x ∷ bytes))
    (λ y is. let less = element_at_shorter (x ∷ bytes) y is in enough m n y.1 (omega arith) (omega arith))

-- ---- one answer

pub children_nil : (bytes : List ℕ) → true ≡ eqb (length bytes) 0 → children_of bytes ≡ []
unfolding children_of children_within
children_nil bytes none = rw (nil_from_length bytes (eqb-true (length bytes) 0 (sym none))) refl

pub children_ok : (bytes : List ℕ) (x : Piece × List ℕ) → element_at bytes ≡ Ok x
    → children_of bytes ≡ Ok x.0 ∷ children_of x.1
unfolding children_of children_within
children_ok [] x is = absurd (let less = element_at_shorter [] x is in omega arith)
children_ok (b ∷ bytes) x is =
    let less = element_at_shorter (b ∷ bytes) x is in
    ap (λ (r : Result (Piece × List ℕ) DerError). then_rest (children_within (length bytes)) r) is
    ∙ ap (λ (w : List (Result Piece DerError)). Ok x.0 ∷ w)
    (enough (length bytes) (length x.1) x.1 (omega arith) (omega arith))

-- the answer where bytes are left, and nothing after it
pub children_err_first : (bytes : List ℕ) (e : DerError) → length bytes ≢ 0 → element_at bytes ≡ Err e
    → children_of bytes ≡ Err e ∷ children_of []
unfolding children_of children_within
children_err_first [] e some is = absurd (some refl)
children_err_first (b ∷ bytes) e some is =
    ap (λ (r : Result (Piece × List ℕ) DerError). then_rest (children_within (length bytes)) r) is

-- ---- joined elements

pub children_joined : (bytes : List ℕ) (ps : List Piece) → AreJoined IsPiece (λ p. p.whole) bytes ps
    → children_of bytes ≡ all_read ps
children_joined bytes [] h = children_nil bytes (rw h.parts refl)
children_joined bytes (p ∷ ps) h =
    let rest = joined (λ (q : Piece). q.whole) ps in
    children_ok bytes (p, rest) (element_at_again p.whole p.tag p.content rest bytes h.each.0 h.parts)
    ∙ ap (λ (w : List (Result Piece DerError)). Ok p ∷ w)
    (children_joined rest ps (record { each = h.each.1; parts = refl }))
