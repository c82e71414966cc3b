-- What is held of trusted roots, once one more was read.
use Rattle.std.proofs.Common.{◌≡◌, ◌≢◌, ℕ, Bool, true, false, List, [], Option, Some, None, IsSome, refl, sym, subst, ◌∙◌}
use Rattle.std.specs.Cmp.Lexicographic.{bytes_decides}
use Rattle.std.specs.Prelude.{bytes_eq}
use Rattle.sig_base.proofs.OptionSteps.{some_is}
use Rattle.sig_base.proofs.TextEntries.{put_found, put_others}
use Rattle.sig_base.specs.ByText.{text_lookup, text_put}
use Rattle.sig_gate_command.specs.AskedRoots.{AreAsked, IsRootNamed}
use Rattle.sig_gate_command.specs.declared.asked_roots.NamedRoot.{NamedRoot}
use Rattle.sig_manifest.specs.Manifest.{Gate}

abbrev Held : Type 0
Held = List (List ℕ × NamedRoot)

pub none-asked : (gate : Gate) (held : Held) → held ≡ [] → AreAsked gate held
none-asked gate held none = record {
  each = λ name root found.
      let nothing : ◌≡◌ {A = Option NamedRoot} None (Some root) =
      subst (λ (h : Held). text_lookup name h ≡ Some root) none found in
      absurd cc;
}

pub asked-put : (gate : Gate) (held : Held) (name : List ℕ) (root : NamedRoot) → AreAsked gate held
    → IsRootNamed gate name root → AreAsked gate (text_put name root held)
asked-put gate held name root are is = record {
  each = λ other found_root found. by other found_root found (bytes_eq other name) refl;
} where
  by : (other : List ℕ) (found_root : NamedRoot) → text_lookup other (text_put name root held) ≡ Some found_root
      → (t : Bool) → bytes_eq other name ≡ t → IsRootNamed gate other found_root
  by other found_root found true same =
      let one : other ≡ name = (bytes_decides other name).0 same in
      let first : text_lookup name (text_put name root held) ≡ Some found_root =
      subst (λ (n : List ℕ). text_lookup n (text_put name root held) ≡ Some found_root) one found in
      let roots : root ≡ found_root = some_is root found_root (sym (put_found name root held) ∙ first) in
      subst (λ (n : List ℕ). IsRootNamed gate n found_root) (sym one)
      (subst (λ (r : NamedRoot). IsRootNamed gate name r) roots is)
  by other found_root found false apart =
      let distinct : other ≢ name = λ e. let equal : bytes_eq other name ≡ true = (bytes_decides other name).1 e in
      absurd cc in
      are.each other found_root (sym (put_others name other root held distinct) ∙ found)

pub put-asked : (name : List ℕ) (root : NamedRoot) (held after : Held) → after ≡ text_put name root held
    → IsSome (text_lookup name after)
put-asked name root held after put = rw (put, put_found name root held) refl
