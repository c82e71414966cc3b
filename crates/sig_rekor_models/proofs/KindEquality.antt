-- The derived `==` of kinds of entries is equality, and two kinds that it tells apart are not equal.
use Rattle.std.proofs.Common.{◌≡◌, ◌∙◌, Bool, true, false, true≢false, refl, sym, subst}
use Rattle.std.specs.Bool.{Decides}
use Rattle.sig_base.proofs.Decisions.{decides_result}
use Rattle.sig_rekor_models.specs.contracts.entry_kind.EntryKindPartialEq.TheImpl as kind_eq
use Rattle.sig_rekor_models.specs.declared.entry_kind.EntryKind.{EntryKind}
use Rattle.sig_rekor_models.specs.declared.entry_kind.EntryKind.TheVariants as kinds

equal_to_itself : (k : EntryKind) → (kind_eq.ghosts).eq k k ≡ true
equal_to_itself kinds.Alpine = refl
equal_to_itself kinds.Hashedrekord = refl
equal_to_itself kinds.Helm = refl
equal_to_itself kinds.Intoto = refl
equal_to_itself kinds.Jar = refl
equal_to_itself kinds.Rekord = refl
equal_to_itself kinds.Rfc3161 = refl
equal_to_itself kinds.Rpm = refl
equal_to_itself kinds.Tuf = refl

found_equal : (k l : EntryKind) → k ≡ l → (kind_eq.ghosts).eq k l ≡ true
found_equal k l e = subst (λ m. (kind_eq.ghosts).eq k m ≡ true) e (equal_to_itself k)

-- What is of two kinds is told apart, and is not equal.
pub apart : {P : Type 0} → (k l : EntryKind) → (r : Bool) → r ≡ false → (kind_eq.ghosts).eq k l ≡ false
    → (P → k ≡ l) → Decides r P
apart k l r told unlike same = (
  λ e. absurd (true≢false (sym e ∙ told)),
  λ p. absurd (true≢false (sym (found_equal k l (same p)) ∙ unlike)),
)

pub kind_eq-tells : (k l : EntryKind) → Decides ((kind_eq.ghosts).eq k l) (k ≡ l)
kind_eq-tells kinds.Alpine kinds.Alpine = (λ e. refl, λ e. refl)
kind_eq-tells kinds.Hashedrekord kinds.Hashedrekord = (λ e. refl, λ e. refl)
kind_eq-tells kinds.Helm kinds.Helm = (λ e. refl, λ e. refl)
kind_eq-tells kinds.Intoto kinds.Intoto = (λ e. refl, λ e. refl)
kind_eq-tells kinds.Jar kinds.Jar = (λ e. refl, λ e. refl)
kind_eq-tells kinds.Rekord kinds.Rekord = (λ e. refl, λ e. refl)
kind_eq-tells kinds.Rfc3161 kinds.Rfc3161 = (λ e. refl, λ e. refl)
kind_eq-tells kinds.Rpm kinds.Rpm = (λ e. refl, λ e. refl)
kind_eq-tells kinds.Tuf kinds.Tuf = (λ e. refl, λ e. refl)
kind_eq-tells k l = apart k l _ refl refl (λ e. e)

pub kind_law : (a b : EntryKind) (r : Bool) → r ≡ (kind_eq.ghosts).eq a b → Decides r (a ≡ b)
kind_law a b r is = decides_result r _ is (kind_eq-tells a b)
