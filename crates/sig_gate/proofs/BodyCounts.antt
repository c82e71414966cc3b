-- How many different log bodies there are.
use Rattle.std.proofs.Common.{◌≡◌, ◌≤◌, ℕ, Bool, List, length, sym, ◌∙◌, arith}
use Rattle.std.proofs.lemmas.List.{length-map}
use Rattle.std.specs.List.{list_any}
use Rattle.sig_base.proofs.SeenTexts.{list_any_seen}
use Rattle.sig_gate.proofs.DifferentTexts.{HasSome, counted}
use Rattle.sig_gate.proofs.SortedTexts.{seen}
use Rattle.sig_gate.specs.RuleHolds.{AreDifferent, HasDifferent, bodies_of}
use Rattle.sig_gate.specs.VerifiedBundles.{IsDifferentCount}
use Rattle.sig_rekor.proofs.DedupedLists.{Raw}
use Rattle.sig_verify.specs.declared.logged_entry.LoggedEntry.{LoggedEntry}

pub different-counted : (entries : List LoggedEntry) (raws : List Raw) (count : ℕ)
    → ((test : List ℕ → Bool) → list_any (λ raw. test raw.now) raws ≡ list_any test (bodies_of entries))
    → AreDifferent (seen raws) → count ≡ length raws → IsDifferentCount entries count
different-counted entries raws count kept apart is = record {
  exact = λ asked.
      let both = counted (bodies_of entries) (seen raws) apart
      (λ test. list_any_seen test (λ (raw : Raw). raw.now) raws ∙ kept test) asked in
      let long : length (seen raws) ≡ count = length-map raws (λ (raw : Raw). raw.now) ∙ sym is in (
        (λ le. let has : HasSome (bodies_of entries) asked = both.0 (omega (arith, le, long)) in record {
          bodies = has.some;
          as_many = has.as_many;
          logged = has.among;
          different = has.apart;
        }),
        (λ (has : HasDifferent asked entries).
            let le : asked ≤ length (seen raws) = both.1 (record {
              some = has.bodies;
              as_many = has.as_many;
              among = has.logged;
              apart = has.different;
            }) in
            omega (arith, le, long)),
      );
}
