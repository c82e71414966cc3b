-- A certificate is given if and only if an authority whose range has begun has it.
use Rattle.std.proofs.Common.{◌≡◌, ◌⊎◌, inl, inr, ℕ, zero, suc, ℤ, Bool, true, false, List, [], ◌∷◌, ◌++◌, Option, Some}
use Rattle.std.proofs.Common.{None, Contains, unwrap_or, refl, sym, ap, subst, arith}
use Rattle.std.specs.Prelude.{if◌then◌else◌}
use Rattle.std.proofs.lemmas.List.Elements.{Contains-append_cases, Contains-append_left, Contains-append_right}
use Rattle.sig_root.specs.Picked.{authority_certificates, certificates_at, has_begun}
use Rattle.sig_root.specs.PickedLaws.{IsGiven}
use Rattle.sig_root.specs.declared.record.CertificateAuthority.{CertificateAuthority as Authority}

there : {A : Type 0} → (y : A) (xs : List A) (x : A) → Contains xs x → Contains (y ∷ xs) x
there y xs x h = (suc h.0, omega (arith, h.1), h.2)

none : {A : Type 0} → (x : A) → ¬ Contains [] x
none x h = omega (arith, h.1)

first_or_later : {A : Type 0} → (y : A) (xs : List A) (x : A) → Contains (y ∷ xs) x → (y ≡ x) ⊎ Contains xs x
first_or_later y xs x (zero, lt, is) = inl is
first_or_later y xs x (suc k, lt, is) = inr (k, omega (arith, lt), is)

-- ---- of one authority

chain_of : (chain : Option (List (List ℕ))) (c : List ℕ) → Contains (unwrap_or chain []) c
    → (held : List (List ℕ)) × (chain ≡ Some held) × Contains held c
chain_of None c h = absurd (none c h)
chain_of (Some held) c h = (held, refl, h)

begun_here : (now : ℤ) (a : Authority) (group : List Authority) (c : List ℕ) (begun : Bool)
    → has_begun now a.valid_for ≡ begun
    → Contains (if begun then unwrap_or a.cert_chain [] else []) c → IsGiven now (a ∷ group) c
begun_here now a group c true is h =
    let found = chain_of a.cert_chain c h in
    record {
      authority = a;
      among = (zero, omega arith, refl);
      begun = is;
      certificates = found.0;
      chain = found.1;
      held = found.2;
    }
begun_here now a group c false is h = absurd (none c h)

-- ---- of all

later : (now : ℤ) (a : Authority) (group : List Authority) (c : List ℕ) → IsGiven now group c → IsGiven now (a ∷ group) c
later now a group c g = record {
  authority = g.authority;
  among = there a group g.authority g.among;
  begun = g.begun;
  certificates = g.certificates;
  chain = g.chain;
  held = g.held;
}

pub given : (now : ℤ) (group : List Authority) (c : List ℕ) → Contains (authority_certificates now group) c
    → IsGiven now group c
given now [] c h = absurd (none c h)
given now (a ∷ group) c h =
    elim (Contains-append_cases (certificates_at now a) (authority_certificates now group) c h) [
      | inl here ↦ begun_here now a group c (has_begun now a.valid_for) refl here
      | inr after ↦ later now a group c (given now group c after)
    ]

of_authority : (now : ℤ) (group : List Authority) (a : Authority) (held : List (List ℕ)) (c : List ℕ) → Contains group a
    → has_begun now a.valid_for ≡ true → a.cert_chain ≡ Some held → Contains held c
    → Contains (authority_certificates now group) c
of_authority now [] a held c among begun chain has = absurd (none a among)
of_authority now (b ∷ group) a held c among begun chain has =
    elim (first_or_later b group a among) [
      | inl same ↦
          let here : Contains (certificates_at now b) c = rw (same, begun, chain) has in
          Contains-append_left (certificates_at now b) (authority_certificates now group) c here
      | inr after ↦
          Contains-append_right (certificates_at now b) (authority_certificates now group) c
          (of_authority now group a held c after begun chain has)
    ]

pub given_again : (now : ℤ) (group : List Authority) (c : List ℕ) → IsGiven now group c
    → Contains (authority_certificates now group) c
given_again now group c g = of_authority now group g.authority g.certificates c g.among g.begun g.chain g.held
