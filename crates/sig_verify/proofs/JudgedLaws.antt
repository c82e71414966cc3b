-- Results that say which rule fails first, one after another.
use Rattle.std.proofs.Common.{◌≡◌, ◌↔◌, List, [], ◌∷◌, ◌++◌, Some, Result, Ok, Err, inl, inr, refl, sym, ap}
use Rattle.std.proofs.Common.{subst, ◌∙◌}
use Rattle.std.specs.List.{AllByRecursion}
use Rattle.sig_base.proofs.OptionSteps.{some_is}
use Rattle.sig_base.proofs.ResultSteps.{err_is}
use Rattle.sig_base.specs.Answers.{Answers, UnlessMemory}
use Rattle.sig_base.specs.ResultSteps.{◌>>=◌}
use Rattle.sig_base.proofs.RuleLaws.{none_fails, one_fails}
use Rattle.sig_base.specs.Rules.{FailsFirst}
use Rattle.sig_verify.specs.Judged.{IsOfFirst, Judged, Tells}
use Rattle.sig_verify.specs.OfflineErrors.{link_of}
use Rattle.sig_verify.specs.declared.link.Link.{Link}
use Rattle.sig_verify.specs.declared.offline_error.OfflineError.{OfflineError}

pub all_joined : (Holds : Link → Type 0) (xs ys : List Link) → AllByRecursion Holds xs → AllByRecursion Holds ys
    → AllByRecursion Holds (xs ++ ys)
all_joined Holds [] ys front after = after
all_joined Holds (x ∷ xs) ys front after = (front.0, all_joined Holds xs ys front.1 after)

pub fails_front : (Holds : Link → Type 0) (xs ys : List Link) (link : Link) → FailsFirst Holds xs link
    → FailsFirst Holds (xs ++ ys) link
fails_front Holds [] ys link fails = absurd fails
fails_front Holds (x ∷ xs) ys link (inl fails) = inl fails
fails_front Holds (x ∷ xs) ys link (inr later) = inr (later.0, fails_front Holds xs ys link later.1)

pub fails_after : (Holds : Link → Type 0) (xs ys : List Link) (link : Link) → AllByRecursion Holds xs
    → FailsFirst Holds ys link → FailsFirst Holds (xs ++ ys) link
fails_after Holds [] ys link front fails = fails
fails_after Holds (x ∷ xs) ys link front fails = inr (front.0, fails_after Holds xs ys link front.1 fails)

pub judged_later : {A : Type 0} (Holds : Link → Type 0) (xs ys : List Link) (r : Result A OfflineError)
    → AllByRecursion Holds xs
    → Judged Holds ys r → Judged Holds (xs ++ ys) r
judged_later Holds xs ys (Ok x) front judged = all_joined Holds xs ys front judged
judged_later Holds xs ys (Err error) front judged = (judged.0, judged.1, fails_after Holds xs ys judged.0 front judged.2)

-- one step after another
pub judged_bind : {A B : Type 0} (Holds : Link → Type 0) (xs ys : List Link) (r : Result A OfflineError)
    (f : A → Result B OfflineError) → Judged Holds xs r → ((x : A) → r ≡ Ok x → Judged Holds ys (f x))
    → Judged Holds (xs ++ ys) (r >>= f)
judged_bind Holds xs ys (Ok x) f judged next = judged_later Holds xs ys (f x) judged (next x refl)
judged_bind Holds xs ys (Err error) f judged next =
    (judged.0, judged.1, fails_front Holds xs ys judged.0 judged.2)

-- what is made of a result
pub judged_map : {A B : Type 0} (Holds : Link → Type 0) (xs : List Link) (r : Result A OfflineError) (f : A → B)
    → Judged Holds xs r → Judged Holds xs (r >>= λ x. Ok (f x))
judged_map Holds xs (Ok x) f judged = judged
judged_map Holds xs (Err error) f judged = judged

-- one rule alone
pub judged_one : {A : Type 0} (Holds : Link → Type 0) (link : Link) (r : Result A OfflineError)
    → ((x : A) → r ≡ Ok x → Holds link) → ((error : OfflineError) → r ≡ Err error
    → ¬ Holds link × (link_of error ≡ Some link))
    → Judged Holds (link ∷ []) r
judged_one Holds link (Ok x) held failed = (held x refl, tt)
judged_one Holds link (Err error) held failed =
    let is = failed error refl in (link, is.1, inl (is.0, refl))

pub not_first : (Holds : Link → Type 0) (link : Link) (links : List Link) (error : OfflineError) → ¬ Holds link
    → link_of error ≡ Some link → IsOfFirst Holds (link ∷ links) error
not_first Holds link links error fails is = (link, is, inl (fails, refl))

-- ---- rules that hold alike

abbrev pub Alike : (Link → Type 0) → (Link → Type 0) → List Link → Type 0
Alike P Q links = AllByRecursion (λ l. P l ↔ Q l) links

pub alike_each : (P Q : Link → Type 0) (links : List Link) → ((l : Link) → P l ↔ Q l) → Alike P Q links
alike_each P Q [] each = tt
alike_each P Q (l ∷ links) each = (each l, alike_each P Q links each)

pub all_as : (P Q : Link → Type 0) (links : List Link) → Alike P Q links → AllByRecursion P links
    → AllByRecursion Q links
all_as P Q [] alike all = all
all_as P Q (l ∷ links) alike all = (alike.0.0 all.0, all_as P Q links alike.1 all.1)

pub fails_as : (P Q : Link → Type 0) (links : List Link) (link : Link) → Alike P Q links → FailsFirst P links link
    → FailsFirst Q links link
fails_as P Q [] link alike fails = fails
fails_as P Q (l ∷ links) link alike (inl now) = inl ((λ q. now.0 (alike.0.1 q)), now.1)
fails_as P Q (l ∷ links) link alike (inr later) = inr (alike.0.0 later.0, fails_as P Q links link alike.1 later.1)

pub judged_as : {A : Type 0} (P Q : Link → Type 0) (links : List Link) (r : Result A OfflineError) → Alike P Q links
    → Judged P links r → Judged Q links r
judged_as P Q links (Ok x) alike judged = all_as P Q links alike judged
judged_as P Q links (Err e) alike judged =
    (judged.0, judged.1, fails_as P Q links judged.0 alike judged.2)

pub alike_joined : (P Q : Link → Type 0) (xs ys : List Link) → Alike P Q xs → Alike P Q ys → Alike P Q (xs ++ ys)
alike_joined P Q xs ys front after = all_joined (λ l. P l ↔ Q l) xs ys front after

pub both_alike : {A B C D : Type 0} → (A ↔ B) → (C ↔ D) → (A × C) ↔ (B × D)
both_alike ab cd = ((λ x. (ab.0 x.0, cd.0 x.1)), (λ y. (ab.1 y.0, cd.1 y.1)))

-- what a call returns is judged as what is meant, unless memory ran out
pub judged_answer : {A : Type 0} (memory : OfflineError) (Holds : Link → Type 0) (links : List Link)
    (r meant : Result A OfflineError) → Answers memory (λ (x : A). x) r meant → Judged Holds links meant
    → UnlessMemory memory r (Judged Holds links r)
judged_answer {A = A} memory Holds links (Ok x) meant is judged =
    inr (subst (λ (m : Result A OfflineError). Judged Holds links m) is judged)
judged_answer memory Holds links (Err error) meant (inl out) judged = inl (ap Err out)
judged_answer {A = A} memory Holds links (Err error) meant (inr is) judged =
    inr (subst (λ (m : Result A OfflineError). Judged Holds links m) is judged)

-- ---- the same in full

pub judged_tells : {A : Type 0} (Holds : Link → Type 0) (links : List Link) (r : Result A OfflineError)
    → Judged Holds links r → Tells Holds links r
judged_tells Holds links (Ok x) judged = record {
  all = ((λ _. judged), (λ _. refl));
  first = λ link. (
    (λ fails. absurd (none_fails Holds links link judged fails)),
    (λ said. let wrong = said.1 in absurd cc),
  );
}
judged_tells {A = A} Holds links (Err error) judged = record {
  all = ((λ ok. absurd cc), (λ all. absurd (none_fails Holds links judged.0 all judged.2)));
  first = λ link. (
    (λ fails. (
      error,
      refl,
      judged.1 ∙ ap (λ (l : Link). Some l) (one_fails Holds links judged.0 link judged.2 fails),
    )),
    (λ said.
        let same : said.0 ≡ error = sym (err_is {A = A} error said.0 said.1) in
        let is : judged.0 ≡ link = some_is judged.0 link (sym judged.1 ∙ ap link_of (sym same) ∙ said.2) in
        subst (λ (l : Link). FailsFirst Holds links l) is judged.2),
  );
}
