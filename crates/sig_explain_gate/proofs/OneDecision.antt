-- It is decided in one way whether an artifact is admitted.
use Rattle.std.proofs.Common.{◌≡◌, ◌↔◌, ◌∙◌, ℕ, Bool, true, List, [], ◌∷◌, Ok, inl, inr, ap, subst, sym}
use Rattle.std.specs.Cmp.{both_ways}
use Rattle.sig_base.proofs.OptionSteps.{some_is}
use Rattle.sig_base.proofs.ResultSteps.{ok_is}
use Rattle.sig_bundle.specs.Proof.{IsProof, proof_or_fault}
use Rattle.sig_bundle.specs.declared.material.ProofFields.{ProofFields}
use Rattle.sig_bundle.specs.declared.material.TransparencyLogEntry.{TransparencyLogEntry}
use Rattle.sig_gate.specs.BundleVerdict.{inputs}
use Rattle.sig_gate.specs.Gate.{AreVerified, IsDecided, IsEntryOf}
use Rattle.sig_gate.specs.RuleHolds.{IsAdmitted}
use Rattle.sig_manifest.specs.Artifact.{Asked}
use Rattle.sig_manifest.specs.Manifest.{Gate}
use Rattle.sig_rekor.specs.declared.inclusion_proof.InclusionProof.{InclusionProof}
use Rattle.sig_verify.specs.LinkLaws.{IsKept}
use Rattle.sig_verify.specs.Links.{Inputs, OfPassed}
use Rattle.sig_verify.specs.Verdict.{Checker}
use Rattle.sig_verify.specs.declared.logged_entry.LoggedEntry.{LoggedEntry}

abbrev logged : List ℕ → InclusionProof → LoggedEntry
logged body proof = record { body = body; proof = proof }

-- the members of an inclusion proof are one proof
abbrev pub ProofsAreRead : Type 0
ProofsAreRead =
    (fields : ProofFields) (proof : InclusionProof) → (proof_or_fault fields ≡ Ok proof) ↔ IsProof fields proof

module _ (proofs : ProofsAreRead) where
  -- of a log entry one body with one proof is kept
  one_kept : (e : TransparencyLogEntry) (a b : LoggedEntry) → IsKept e a → IsKept e b → a ≡ b
  one_kept e a b is was =
      let (p, there, proof) = is.proof in
      let (q, too, other) = was.proof in
      let same : p ≡ q = some_is p q (sym there ∙ too) in
      let read = ok_is a.proof b.proof
      (sym ((proofs p a.proof).1 proof) ∙ ap proof_or_fault same ∙ (proofs q b.proof).1 other) in
      ap (λ (body : List ℕ). logged body a.proof) (is.body ∙ sym was.body)
      ∙ ap (λ (proof : InclusionProof). logged b.body proof) read

  -- a bundle's text has one log entry
  one_entry : (i : Inputs) (a b : LoggedEntry) → OfPassed i (λ c. IsKept c.entry a) → OfPassed i (λ c. IsKept c.entry b)
      → a ≡ b
  one_entry i a b (bundle, is, (c, passed, kept)) (other, was, (o, also, too)) =
      let same : c.entry ≡ o.entry = (
      let brought = passed.brought in
      let logged = passed.logged in
      let brought_too = also.brought in
      let logged_too = also.logged in
      cc
      ) in
      one_kept o.entry a b (subst (λ (e : TransparencyLogEntry). IsKept e a) same kept) too

  module _ (k : Checker) (gate : Gate) (x : Asked) where
    one_of_bundle : (bundle : List ℕ) (a b : LoggedEntry) → IsEntryOf k gate x bundle a → IsEntryOf k gate x bundle b
        → a ≡ b
    one_of_bundle bundle a b (root, is, (policy, chosen, kept)) (other, was, (another, also, too)) =
        let same : root ≡ other = some_is root other (sym is ∙ was) in
        one_entry (inputs gate x other bundle) a b
        (subst (λ (r : List ℕ). OfPassed (inputs gate x r bundle) (λ c. IsKept c.entry a)) same kept) too

    -- the verified bundles of an artifact have one list of log entries
    one_list : (bundles : List (List ℕ)) (xs ys : List LoggedEntry) → AreVerified k gate x bundles xs
        → AreVerified k gate x bundles ys → xs ≡ ys
    one_list [] xs ys p q = p ∙ sym q
    one_list (bundle ∷ later) xs ys (inl (is, (a, others, made, of, rest))) (inl (was, (b, more, said, to, after))) =
        made
        ∙ ap (λ (e : LoggedEntry). e ∷ others) (one_of_bundle bundle a b of to)
        ∙ ap (λ (es : List LoggedEntry). b ∷ es) (one_list later others more rest after)
        ∙ sym said
    one_list (bundle ∷ later) xs ys (inl (is, first)) (inr (none, after)) = absurd (none is)
    one_list (bundle ∷ later) xs ys (inr (none, rest)) (inl (is, first)) = absurd (none is)
    one_list (bundle ∷ later) xs ys (inr (none, rest)) (inr (never, after)) = one_list later xs ys rest after

    pub one_decision : (a b : Bool) → IsDecided k gate x a → IsDecided k gate x b → a ≡ b
    one_decision a b is was =
        let same = one_list x.bundles is.entries was.entries is.verified was.verified in
        let decided = subst (λ (es : List LoggedEntry). (a ≡ true) ↔ IsAdmitted x.rule es) same is.decided in
        both_ways a b (λ e. was.decided.1 (decided.0 e)) (λ e. decided.1 (was.decided.0 e))
