-- The issuer is looked up, and then each name among the identities that are asked for with it.
use Rattle.std.proofs.Common.{ℕ, List, Bool, false, ◌&&◌, map, refl, sym, ap, ◌∙◌}
use Rattle.std.proofs.lemmas.Bool.{and_right}
use Rattle.std.specs.Borrow.{Bor}
use Rattle.std.specs.List.{list_any}
use Rattle.std.specs.Str.{bytes_eq}
use Rattle.sig_policy.proofs.AskedNames.{found_at, names_said, nobody, one_found}
use Rattle.sig_policy.specs.AskedTexts.{one_passes}
use Rattle.sig_policy.proofs.asked_identities.has_named.Goals as goal

abbrev among : List (Bor (List ℕ)) → List ℕ → Bool
among texts q = list_any (λ t. bytes_eq t q) (map (λ t. t.now) texts)

pub returns-in_default : goal.returns-in_default
returns-in_default c = rw c.in_default.is (sym (nobody (λ i q. false) (λ i q. refl) c.args.asked.now.entries))

pub returns-in_default-texts : goal.returns-in_default-texts
returns-in_default-texts c =
    rw (c.in-Some.is, c.in_default-texts.is)
    (sym (nobody (λ i q. bytes_eq c.in-Some.issuer.now i && false)
    (λ i q. and_right (bytes_eq c.in-Some.issuer.now i) false refl) c.args.asked.now.entries))

pub returns-in-None : goal.returns-in-None
returns-in-None c =
    let test = among c.in-Some-texts.texts.items in
    rw (c.in-Some.is, c.in-Some-texts.is)
    (sym (found_at c.in-Some.issuer test c.args.asked.now.entries c.len.ensures.ordered
    ∙ ap (one_found test) (sym c.in-None.ensures.value)))

pub returns-in-Some-get : goal.returns-in-Some-get
returns-in-Some-get c =
    let texts = c.in-Some-texts.texts.items in
    let keys = c.in-Some-get.identities.now.keys in
    rw (c.in-Some.is, c.in-Some-texts.is)
    (c.has_one.ensures ∙ names_said c.as_slice.result.now keys
    ∙ ap (λ (ts : List (Bor (List ℕ))). one_passes (among ts) keys) c.as_slice.ensures.value
    ∙ ap (one_found (among texts)) c.in-Some-get.ensures.value
    ∙ sym (found_at c.in-Some.issuer (among texts) c.args.asked.now.entries c.len.ensures.ordered))
