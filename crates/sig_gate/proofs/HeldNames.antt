-- What is held by name, once one more was made: of trusted roots, and of policies.
use Rattle.std.proofs.Common.{◌≡◌, ◌≢◌, ℕ, Bool, true, false, List, [], Option, Some, None, IsSome, refl, sym, subst, ◌∙◌}
use Rattle.std.specs.Cmp.Lexicographic.{bytes_decides}
use Rattle.std.specs.Prelude.{bytes_eq}
use Rattle.sig_base.proofs.OptionSteps.{some_is}
use Rattle.sig_base.proofs.TextEntries.{put_found, put_others}
use Rattle.sig_base.specs.ByText.{text_lookup, text_put}
use Rattle.sig_gate.specs.NamedPolicies.{AreHeldPolicies}
use Rattle.sig_gate.specs.NamedRoots.{AreHeld, IsRootNamed}
use Rattle.sig_gate.specs.declared.named_roots.NamedRoot.{NamedRoot}
use Rattle.sig_manifest.specs.Manifest.{Gate}
use Rattle.sig_manifest.specs.Policies.{ByName}
use Rattle.sig_policy.specs.declared.request.RequestPolicy.{RequestPolicy}

-- ---- a fact of each name and its value

module _ {V : Type 0} (Fits : List ℕ → V → Type 0) where
  abbrev pub Each : List (List ℕ × V) → Type 0
  Each held = (name : List ℕ) (value : V) → text_lookup name held ≡ Some value → Fits name value

  pub none-each : (held : List (List ℕ × V)) → held ≡ [] → Each held
  none-each held none name value found =
      let nothing : ◌≡◌ {A = Option V} None (Some value) =
      subst (λ (h : List (List ℕ × V)). text_lookup name h ≡ Some value) none found in
      absurd cc

  pub put-each : (held : List (List ℕ × V)) (name : List ℕ) (value : V) → Each held → Fits name value
      → Each (text_put name value held)
  put-each held name value are is other found_value found = by (bytes_eq other name) refl
    where
      by : (t : Bool) → bytes_eq other name ≡ t → Fits other found_value
      by true same =
          let one : other ≡ name = (bytes_decides other name).0 same in
          let first : text_lookup name (text_put name value held) ≡ Some found_value =
          subst (λ (n : List ℕ). text_lookup n (text_put name value held) ≡ Some found_value) one found in
          let values : value ≡ found_value = some_is value found_value (sym (put_found name value held) ∙ first) in
          subst (λ (n : List ℕ). Fits n found_value) (sym one) (subst (λ (v : V). Fits name v) values is)
      by false apart =
          let distinct : other ≢ name = λ e. let equal : bytes_eq other name ≡ true = (bytes_decides other name).1 e in
          absurd cc in
          are other found_value (sym (put_others name other value held distinct) ∙ found)

pub put-held : {V : Type 0} (name : List ℕ) (value : V) (held after : List (List ℕ × V))
    → after ≡ text_put name value held → IsSome (text_lookup name after)
put-held name value held after put = rw (put, put_found name value held) refl

-- ---- trusted roots

pub none-held : (gate : Gate) (held : List (List ℕ × NamedRoot)) → held ≡ [] → AreHeld gate held
none-held gate held none = record { each = none-each (IsRootNamed gate) held none }

pub held-put : (gate : Gate) (held : List (List ℕ × NamedRoot)) (name : List ℕ) (root : NamedRoot) → AreHeld gate held
    → IsRootNamed gate name root → AreHeld gate (text_put name root held)
held-put gate held name root are is = record {
  each = put-each (IsRootNamed gate) held name root are.each is;
}

-- ---- policies

abbrev IsNamed : Gate → List ℕ → RequestPolicy → Type 0
IsNamed gate name policy = text_lookup name gate.policies ≡ Some policy

pub no_policies : (gate : Gate) (held : ByName) → held ≡ [] → AreHeldPolicies gate held
no_policies gate held none = record { each = none-each (IsNamed gate) held none }

pub policy-put : (gate : Gate) (held : ByName) (name : List ℕ) (policy : RequestPolicy) → AreHeldPolicies gate held
    → text_lookup name gate.policies ≡ Some policy → AreHeldPolicies gate (text_put name policy held)
policy-put gate held name policy are is = record {
  each = put-each (IsNamed gate) held name policy are.each is;
}
