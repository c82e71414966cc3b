-- What is read of trusted roots, once one more was read.
use Rattle.std.proofs.Common.{◌≡◌, ◌≢◌, ℕ, Bool, true, false, List, [], Option, Some, None, IsSome, refl, sym, subst, ◌∙◌}
use Rattle.std.specs.Cmp.Lexicographic.{bytes_decides}
use Rattle.std.specs.Prelude.{bytes_eq}
use Rattle.sig_base.proofs.OptionSteps.{some_is}
use Rattle.sig_base.proofs.TextEntries.{put_found, put_others}
use Rattle.sig_base.specs.ByText.{text_lookup, text_put}
use Rattle.sig_explain_gate.specs.Roots.{AreRead, IsReadNamed, IsReadRoot}
use Rattle.sig_explain_gate.specs.declared.roots.ReadRoot.{ReadRoot}
use Rattle.sig_manifest.specs.Manifest.{Gate}

abbrev Roots : Type 0
Roots = List (List ℕ × ReadRoot)

pub none-read : (gate : Gate) (roots : Roots) → roots ≡ [] → AreRead gate roots
none-read gate roots none = record {
  each = λ name root found.
      let nothing : ◌≡◌ {A = Option ReadRoot} None (Some root) =
      subst (λ (r : Roots). text_lookup name r ≡ Some root) none found in
      absurd cc;
}

pub read-put : (gate : Gate) (roots : Roots) (name : List ℕ) (root : ReadRoot) → AreRead gate roots
    → IsReadNamed gate name root → AreRead gate (text_put name root roots)
read-put gate roots name root are is = record {
  each = λ other found_root found. by other found_root found (bytes_eq other name) refl;
} where
  by : (other : List ℕ) (found_root : ReadRoot) → text_lookup other (text_put name root roots) ≡ Some found_root
      → (t : Bool) → bytes_eq other name ≡ t → IsReadNamed gate other found_root
  by other found_root found true same =
      let one : other ≡ name = (bytes_decides other name).0 same in
      let first : text_lookup name (text_put name root roots) ≡ Some found_root =
      subst (λ (n : List ℕ). text_lookup n (text_put name root roots) ≡ Some found_root) one found in
      let read : root ≡ found_root = some_is root found_root (sym (put_found name root roots) ∙ first) in
      subst (λ (n : List ℕ). IsReadNamed gate n found_root) (sym one)
      (subst (λ (r : ReadRoot). IsReadNamed gate name r) read is)
  by other found_root found false apart =
      let distinct : other ≢ name = λ e. let equal : bytes_eq other name ≡ true = (bytes_decides other name).1 e in
      absurd cc in
      are.each other found_root (sym (put_others name other root roots distinct) ∙ found)

pub put-read : (name : List ℕ) (root : ReadRoot) (roots after : Roots) → after ≡ text_put name root roots
    → IsSome (text_lookup name after)
put-read name root roots after put = rw (put, put_found name root roots) refl

-- what is read of the name is read of its text
pub its-text : (gate : Gate) (name text : List ℕ) (root : ReadRoot) → IsReadNamed gate name root
    → text_lookup name gate.roots ≡ Some text → IsReadRoot text gate.now root
its-text gate name text root named there =
    let same : named.text ≡ text = some_is named.text text (sym named.there ∙ there) in
    subst (λ (t : List ℕ). IsReadRoot t gate.now root) same named.of_text

-- what is found under a name is read of the text of that name
pub read-under : (gate : Gate) (roots : Roots) (name text seen : List ℕ) (root : ReadRoot) → AreRead gate roots
    → Some root ≡ text_lookup name roots → Some text ≡ text_lookup name gate.roots → seen ≡ text
    → IsReadRoot seen gate.now root
read-under gate roots name text seen root are found there same =
    subst (λ (t : List ℕ). IsReadRoot t gate.now root) (sym same)
    (its-text gate name text root (are.each name root (sym found)) (sym there))
