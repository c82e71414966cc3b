-- What a step's values and errors tell, and what those of steps one after another do.
use Rattle.std.proofs.Common.{◌≡◌, ◌⊎◌, Bool, true, false, Option, Some, None, Result, Ok, Err, inl, inr, refl, sym, ap}
use Rattle.std.proofs.Common.{◌∙◌, subst}
use Rattle.std.specs.Bool.{Decides}
use Rattle.std.specs.Option.{ok_or}
use Rattle.std.specs.Prelude.{◌↔◌, if◌then◌else◌}
use Rattle.sig_base.proofs.ResultSteps.{bind_err, bind_of_ok, bind_ok, err_is, ok_is}
use Rattle.sig_base.specs.ResultSteps.{◌>>=◌}

-- a value comes if and only if this holds of it, and so does an error
pub record Tells {A E : Type 0} (r : Result A E) (Good : A → Type 0) (Bad : E → Type 0) : Type 0 where
  pub ok : (x : A) → (r ≡ Ok x) ↔ Good x
  pub err : (e : E) → (r ≡ Err e) ↔ Bad e

abbrev err : (A : Type 0) {E : Type 0} → E → Result A E
err A e = Err e

abbrev ok : {A : Type 0} (E : Type 0) → A → Result A E
ok E x = Ok x

err_same : {A E : Type 0} (d e : E) → d ≡ e → ◌≡◌ {A = Result A E} (Err d) (Err e)
err_same {A} d e is = ap (err A) is

ok_same : {A E : Type 0} (x y : A) → x ≡ y → ◌≡◌ {A = Result A E} (Ok x) (Ok y)
ok_same {E = E} x y is = ap (ok E) is

bind_fails : {A B E : Type 0} (r : Result A E) (f : A → Result B E) (e : E) → r ≡ Err e → (r >>= f) ≡ Err e
bind_fails (Ok x) f e is = absurd cc
bind_fails (Err d) f e is = err_same d e (err_is d e is)

-- ---- one step

pub tells_test : {E : Type 0} (b : Bool) (k : E) (P : Type 0) → Decides b P
    → Tells {E = E} (if b then Ok tt else Err k) (λ (done : Unit {0}). P) (λ e. (e ≡ k) × ¬ P)
tells_test true k P decides = record {
  ok = λ x. ((λ is. decides.0 refl), (λ p. refl));
  err = λ e. ((λ is. absurd cc), (λ bad. absurd (bad.1 (decides.0 refl))));
}
tells_test false k P decides = record {
  ok = λ x. ((λ is. absurd cc), (λ p. let wrong = decides.1 p in absurd cc));
  err = λ e. (
    (λ is. (sym (err_is k e is), λ p. let wrong = decides.1 p in absurd cc)),
    (λ bad. err_same k e (sym bad.0)),
  );
}

pub tells_some : {A E : Type 0} (o : Option A) (k : E)
    → Tells (ok_or o k) (λ x. o ≡ Some x) (λ e. (e ≡ k) × (o ≡ None))
tells_some None k = record {
  ok = λ x. ((λ is. absurd cc), (λ is. absurd cc));
  err = λ e. ((λ is. (sym (err_is k e is), refl)), (λ bad. err_same k e (sym bad.0)));
}
tells_some (Some y) k = record {
  ok = λ x. ((λ is. ap (λ z. Some z) (ok_is y x is)), (λ is. let same : y ≡ x = cc in ok_same y x same));
  err = λ e. ((λ is. absurd cc), (λ bad. let wrong = bad.1 in absurd cc));
}

pub tells_value : {A E : Type 0} (z : A) → Tells {E = E} (Ok z) (λ x. x ≡ z) (λ e. ⊥)
tells_value z = record {
  ok = λ x. ((λ is. sym (ok_is z x is)), (λ is. ok_same z x (sym is)));
  err = λ e. ((λ is. absurd cc), (λ bad. absurd bad));
}

-- in other words
pub retold : {A E : Type 0} (r : Result A E) (Good Other : A → Type 0) (Bad Wrong : E → Type 0)
    → Tells r Good Bad → ((x : A) → Good x ↔ Other x) → ((e : E) → Bad e ↔ Wrong e) → Tells r Other Wrong
retold r Good Other Bad Wrong tells good bad = record {
  ok = λ x. ((λ is. (good x).0 ((tells.ok x).0 is)), (λ is. (tells.ok x).1 ((good x).1 is)));
  err = λ e. ((λ is. (bad e).0 ((tells.err e).0 is)), (λ is. (tells.err e).1 ((bad e).1 is)));
}

-- ---- steps one after another

pub tells_then : {A B E : Type 0} (r : Result A E) (f : A → Result B E) (Good : A → Type 0) (Bad : E → Type 0)
    (Next : A → B → Type 0) (Fails : A → E → Type 0)
    → Tells r Good Bad → ((x : A) → Good x → Tells (f x) (Next x) (Fails x))
    → Tells (r >>= f) (λ y. (x : A) × Good x × Next x y) (λ e. Bad e ⊎ ((x : A) × Good x × Fails x e))
tells_then {A} r f Good Bad Next Fails first next = record {
  ok = λ y. (
    (λ is.
        let both = bind_ok r f y is in
        let good = (first.ok both.0).0 both.1 in (both.0, good, ((next both.0 good).ok y).0 both.2)),
    (λ is. bind_of_ok r f is.0 ((first.ok is.0).1 is.1) ∙ ((next is.0 is.1).ok y).1 is.2),
  );
  err = λ e. (
    (λ is. elim (bind_err r f e is) [
      | inl fails ↦ inl ((first.err e).0 fails)
      | inr both ↦ let good = (first.ok both.0).0 both.1 in inr (both.0, good, ((next both.0 good).err e).0 both.2)
    ]),
    (λ is. elim is [
      | inl bad ↦ bind_fails r f e ((first.err e).1 bad)
      | inr later ↦
          bind_of_ok r f later.0 ((first.ok later.0).1 later.1) ∙ ((next later.0 later.1).err e).1 later.2
    ]),
  );
}

-- where the first step has no value
pub tells_done : {B E : Type 0} (r : Result (Unit {0}) E) (f : Unit {0} → Result B E) (P : Type 0) (Bad : E → Type 0)
    (Next : B → Type 0) (Fails : E → Type 0)
    → Tells r (λ done. P) Bad → (P → Tells (f tt) Next Fails)
    → Tells (r >>= f) (λ y. P × Next y) (λ e. Bad e ⊎ (P × Fails e))
tells_done r f P Bad Next Fails first next =
    retold (r >>= f) (λ y. (x : Unit {0}) × P × Next y) (λ y. P × Next y) (λ e. Bad e ⊎ ((x : Unit {0}) × P × Fails e))
    (λ e. Bad e ⊎ (P × Fails e))
    (tells_then r f (λ done. P) Bad (λ done. Next) (λ done. Fails) first (λ done p. next p))
    (λ y. ((λ is. (is.1, is.2)), (λ is. (tt, is.0, is.1))))
    (λ e. (
      (λ is. elim is [ inl bad ↦ inl bad | inr later ↦ inr (later.1, later.2) ]),
      (λ is. elim is [ inl bad ↦ inl bad | inr later ↦ inr (tt, later.0, later.1) ]),
    ))

-- where the first step has no error
pub tells_sure : {A B E : Type 0} (r : Result A E) (f : A → Result B E) (Good : A → Type 0)
    (Next : A → B → Type 0) (Fails : A → E → Type 0)
    → Tells r Good (λ e. ⊥) → ((x : A) → Good x → Tells (f x) (Next x) (Fails x))
    → Tells (r >>= f) (λ y. (x : A) × Good x × Next x y) (λ e. (x : A) × Good x × Fails x e)
tells_sure {A} {B} r f Good Next Fails first next =
    retold (r >>= f) (λ y. (x : A) × Good x × Next x y) (λ y. (x : A) × Good x × Next x y)
    (λ e. ⊥ ⊎ ((x : A) × Good x × Fails x e)) (λ e. (x : A) × Good x × Fails x e)
    (tells_then r f Good (λ e. ⊥) Next Fails first next)
    (λ y. ((λ is. is), (λ is. is)))
    (λ e. ((λ is. elim is [ inl bad ↦ absurd bad | inr later ↦ later ]), (λ is. inr is)))

-- where a value is made of the last step's
pub tells_made : {A B E : Type 0} (r : Result A E) (f : A → Result B E) (g : A → B) (Good : A → Type 0)
    (Bad : E → Type 0) → ((x : A) → f x ≡ Ok (g x)) → Tells r Good Bad
    → Tells (r >>= f) (λ y. (x : A) × Good x × (y ≡ g x)) Bad
tells_made {A} {B} {E} r f g Good Bad is first =
    retold (r >>= f) (λ y. (x : A) × Good x × (y ≡ g x)) (λ y. (x : A) × Good x × (y ≡ g x))
    (λ e. Bad e ⊎ ((x : A) × Good x × ⊥)) Bad
    (tells_then r f Good Bad (λ x y. y ≡ g x) (λ x e. ⊥) first
    (λ x good. subst (λ (v : Result B E). Tells v (λ y. y ≡ g x) (λ e. ⊥)) (sym (is x)) (tells_value (g x))))
    (λ y. ((λ x. x), (λ x. x)))
    (λ e. ((λ x. elim x [ inl bad ↦ bad | inr later ↦ absurd later.2 ]), (λ bad. inl bad)))

-- and the last step has none
pub tells_ends : {B E : Type 0} (r : Result (Unit {0}) E) (f : Unit {0} → Result B E) (z : B) (P : Type 0)
    (Bad : E → Type 0) → f tt ≡ Ok z → Tells r (λ done. P) Bad
    → Tells (r >>= f) (λ y. P × (y ≡ z)) Bad
tells_ends {B} {E} r f z P Bad is first =
    retold (r >>= f) (λ y. P × (y ≡ z)) (λ y. P × (y ≡ z)) (λ e. Bad e ⊎ (P × ⊥)) Bad
    (tells_done r f P Bad (λ y. y ≡ z) (λ e. ⊥) first
    (λ p. subst (λ (v : Result B E). Tells v (λ y. y ≡ z) (λ e. ⊥)) (sym is) (tells_value z)))
    (λ y. ((λ x. x), (λ x. x)))
    (λ e. ((λ x. elim x [ inl bad ↦ bad | inr later ↦ absurd later.1 ]), (λ bad. inl bad)))
