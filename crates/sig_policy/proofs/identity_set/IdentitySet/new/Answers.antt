-- The set of no texts, and that of the texts.
use Rattle.std.proofs.Common.{ℕ, List, sym, ap, ◌∙◌, refl}
use Rattle.std.specs.Borrow.{Bor}
use Rattle.std.specs.Str.{bytes_eq}
use Rattle.sig_policy.specs.IdentitySet.{has_text}
use Rattle.sig_base.proofs.SeenTexts.{list_any_seen}
use Rattle.sig_policy.proofs.identity_set.IdentitySet.new.Goals as goal
use Rattle.sig_policy.proofs.identity_set.IdentitySet.new.Goals.{in-None, in-Some+in_ok-set-in-Some}

pub invariant_of-result : goal.invariant_of-result
invariant_of-result c = record {
  same = λ q. elim c.match-texts.branch [
    | in-None w ↦ rw (w.set-is, w.in-None.is, w.new-set.ensures.empty) refl
    | in-Some+in_ok-set-in-Some w ↦
        rw (w.set-is, w.in-Some.is)
        (w.in_ok-set-in-Some.ensures q ∙ ap (λ (ts : List (Bor (List ℕ))). has_text ts q) w.as_slice.ensures.value
        ∙ sym (list_any_seen (λ (t : List ℕ). bytes_eq t q) (λ (t : Bor (List ℕ)). t.now) w.in-Some.texts.items))
  ];
}
