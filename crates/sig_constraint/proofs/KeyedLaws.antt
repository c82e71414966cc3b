-- The refusals of a key are those of its verifier.
use Rattle.std.proofs.Common.{◌≡◌, ◌⊎◌, Result, Ok, Err, refl, sym, ap, subst, ◌∙◌, inl, inr}
use Rattle.std.specs.Prelude.{IsOk}
use Rattle.sig_base.specs.Answers.{ComesWhere, UnlessMemory}
use Rattle.sig_base.specs.declared.error.SigstoreError.{SigstoreError}
use Rattle.sig_base.specs.declared.error.SigstoreError.TheVariants.{OutOfMemory}

abbrev err_of : (X : Type 0) → SigstoreError → Result X SigstoreError
err_of X e = Err e

abbrev ok_of : (X : Type 0) → X → Result X SigstoreError
ok_of X x = Ok x

err_is : (X : Type 0) (f e : SigstoreError) → err_of X f ≡ err_of X e → f ≡ e
err_is X f e same = cc

no_err : (X : Type 0) (x : X) (e : SigstoreError) → ok_of X x ≡ err_of X e → ⊥
no_err X x e same = cc

-- an error that is passed on
pub carried : (X Y : Type 0) (f e : SigstoreError) (P : Type 0) (r : Result Y SigstoreError) → r ≡ err_of Y f
    → ComesWhere OutOfMemory (err_of X f) (err_of X e) P → ComesWhere OutOfMemory r (err_of Y e) P
carried X Y f e P r is comes =
    (λ same. comes.0 (ap (err_of X) (err_is Y f e (sym is ∙ same))), λ p. by (comes.1 p)) where
      by : (err_of X f ≡ err_of X OutOfMemory) ⊎ (err_of X f ≡ err_of X e) → (r ≡ err_of Y OutOfMemory) ⊎ (r ≡ err_of Y e)
      by (inl memory) = inl (is ∙ ap (err_of Y) (err_is X f OutOfMemory memory))
      by (inr same) = inr (is ∙ ap (err_of Y) (err_is X f e same))

-- a value, where no error comes
pub made_not : (X Y : Type 0) (x : X) (y : Y) (e : SigstoreError) (P : Type 0)
    → ComesWhere OutOfMemory (ok_of X x) (err_of X e) P → ComesWhere OutOfMemory (ok_of Y y) (err_of Y e) P
made_not X Y x y e P comes = (λ same. absurd (no_err Y y e same), λ p. by (comes.1 p)) where
  by : (ok_of X x ≡ err_of X OutOfMemory) ⊎ (ok_of X x ≡ err_of X e)
      → (ok_of Y y ≡ err_of Y OutOfMemory) ⊎ (ok_of Y y ≡ err_of Y e)
  by (inl memory) = absurd (no_err X x OutOfMemory memory)
  by (inr same) = absurd (no_err X x e same)

-- an error where a value is meant
pub not_meant : (X Y : Type 0) (f : SigstoreError) (x : X) (r : Result Y SigstoreError) → r ≡ err_of Y f
    → (f ≡ OutOfMemory) ⊎ (ok_of X x ≡ err_of X f) → UnlessMemory OutOfMemory r (IsOk r)
not_meant X Y f x r is (inl memory) = inl (is ∙ ap (err_of Y) memory)
not_meant X Y f x r is (inr same) = absurd (no_err X x f same)
