-- An error says at most one refusal, and out of memory says none.
use Rattle.std.proofs.Common.{◌≡◌, ℕ, List, refl, sym, ap, subst, ◌∙◌}
use Rattle.sig_policy.specs.Failures.{IsAllOf, opens_as_all_of}
use Rattle.sig_policy.specs.Refusals.{Refusal, Refusals, not_found, check_failed, all_of, any_of, no_refusals}
use Rattle.sig_policy.specs.Refusals.{more_refusals}
use Rattle.sig_policy.specs.Refusals.{IsRefusal, AreRefusals}
use Rattle.sig_policy.specs.declared.failure.PolicyError.{PolicyError, out-PolicyError}
use Rattle.sig_policy.specs.declared.failure.PolicyErrors.{PolicyErrors}
use Rattle.sig_policy.specs.declared.failure.PolicyError.TheVariants.{ExtensionNotFound, ExtensionCheckFailed, AnyOf}
use Rattle.sig_policy.specs.declared.failure.PolicyError.TheVariants.{OutOfMemory}
use Rattle.sig_policy.specs.declared.failure.PolicyError.TheOpen as opened
use Rattle.sig_policy.specs.declared.failure.PolicyError.TheOpen.{PolicyError-F}

abbrev Opened : Type 0
Opened = PolicyError-F PolicyError PolicyErrors

opens : {a b : PolicyError} → a ≡ b → out-PolicyError a ≡ out-PolicyError b
opens e = ap (λ (x : PolicyError). out-PolicyError x) e

pub never_memory : (r : Refusal) → ¬ IsRefusal r OutOfMemory
unfolding out-PolicyError denote.Hole.Carrier.out
never_memory not_found e = let no = opens e in cc
never_memory (check_failed x a b) e = let no = opens e in cc
never_memory (all_of n rs) h = h.1.0
never_memory (any_of n) e = let no = opens e in cc

-- an error of the variant `AllOf` is none of the others
all_not : (n : ℕ) (es : List PolicyError) (e d : PolicyError) → IsAllOf n es e → e ≡ d → IsAllOf n es d
all_not n es e d is same = subst (λ (x : PolicyError). IsAllOf n es x) same is

same_parts : (n m : ℕ) (es ds : List PolicyError) (o : Opened) → opens_as_all_of n es o → opens_as_all_of m ds o
    → (n ≡ m) × (es ≡ ds)
same_parts n m es ds (opened.AllOf k xs) a b = (sym a.0 ∙ b.0, sym a.1 ∙ b.1)
same_parts n m es ds opened.ExtensionNotFound a b = absurd a
same_parts n m es ds (opened.ExtensionCheckFailed x y z) a b = absurd a
same_parts n m es ds (opened.AnyOf k) a b = absurd a
same_parts n m es ds opened.OutOfMemory a b = absurd a

mutual
  unfolding out-PolicyError denote.Hole.Carrier.out

  pub one_refusal : (r s : Refusal) (e : PolicyError) → IsRefusal r e → IsRefusal s e → r ≡ s
  one_refusal not_found not_found e a b = refl
  one_refusal not_found (check_failed x y z) e a b = let no = opens (sym a ∙ b) in absurd cc
  one_refusal not_found (all_of n rs) e a b = absurd (all_not n b.0 e ExtensionNotFound b.1.0 a)
  one_refusal not_found (any_of n) e a b = let no = opens (sym a ∙ b) in absurd cc
  one_refusal (check_failed x y z) not_found e a b = let no = opens (sym a ∙ b) in absurd cc
  one_refusal (check_failed x y z) (check_failed u v w) e a b = let same = opens (sym a ∙ b) in cc
  one_refusal (check_failed x y z) (all_of n rs) e a b = absurd (all_not n b.0 e (ExtensionCheckFailed x y z) b.1.0 a)
  one_refusal (check_failed x y z) (any_of n) e a b = let no = opens (sym a ∙ b) in absurd cc
  one_refusal (all_of n rs) not_found e a b = absurd (all_not n a.0 e ExtensionNotFound a.1.0 b)
  one_refusal (all_of n rs) (check_failed x y z) e a b = absurd (all_not n a.0 e (ExtensionCheckFailed x y z) a.1.0 b)
  one_refusal (all_of n rs) (all_of m ss) e a b =
      let parts = same_parts n m a.0 b.0 (out-PolicyError e) a.1.0 b.1.0 in
      let same =
      each_refusal rs ss a.0 a.1.1 (subst (λ (w : List PolicyError). AreRefusals ss w) (sym parts.1) b.1.1) in
      let number = parts.0 in
      cc
  one_refusal (all_of n rs) (any_of m) e a b = absurd (all_not n a.0 e (AnyOf m) a.1.0 b)
  one_refusal (any_of n) not_found e a b = let no = opens (sym a ∙ b) in absurd cc
  one_refusal (any_of n) (check_failed x y z) e a b = let no = opens (sym a ∙ b) in absurd cc
  one_refusal (any_of n) (all_of m rs) e a b = absurd (all_not m b.0 e (AnyOf n) b.1.0 a)
  one_refusal (any_of n) (any_of m) e a b = let same = opens (sym a ∙ b) in cc

  each_refusal : (rs ss : Refusals) (es : List PolicyError) → AreRefusals rs es → AreRefusals ss es → rs ≡ ss
  each_refusal no_refusals no_refusals es a b = refl
  each_refusal no_refusals (more_refusals s ss) es a b = let no = sym a ∙ b.1.1.0 in absurd cc
  each_refusal (more_refusals r rs) no_refusals es a b = let no = sym b ∙ a.1.1.0 in absurd cc
  each_refusal (more_refusals r rs) (more_refusals s ss) es a b =
      let lists = sym a.1.1.0 ∙ b.1.1.0 in
      let first : a.0 ≡ b.0 = cc in
      let rest : a.1.0 ≡ b.1.0 = cc in
      let front = one_refusal r s a.0 a.1.1.1.0 (subst (λ (x : PolicyError). IsRefusal s x) (sym first) b.1.1.1.0) in
      let others =
      each_refusal rs ss a.1.0 a.1.1.1.1 (subst (λ (w : List PolicyError). AreRefusals ss w) (sym rest) b.1.1.1.1) in
      cc
