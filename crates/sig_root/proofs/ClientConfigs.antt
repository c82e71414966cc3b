-- A client's configuration: of its object no member but the trusted root is looked at, and what is computed of it is
-- the trusted root that it has, or why it has none.
use Rattle.std.proofs.Common.{◌≡◌, ℕ, List, [], ◌∷◌, codes, Option, Some, None, option_map, Result, Ok, Err}
use Rattle.std.proofs.Common.{IfOk, refl, sym, ap, ◌∙◌, inl, inr}
use Rattle.sig_base.proofs.ResultRuleLaws.{comes_where}
use Rattle.sig_base.specs.Answers.{Answers, ComesWhere, UnlessMemory}
use Rattle.sig_base.specs.OptionSteps.{◌>>=◌}
use Rattle.sig_base.specs.declared.error.SigstoreError.{SigstoreError}
use Rattle.sig_base.specs.declared.error.SigstoreError.TheVariants.{OutOfMemory, SigstorePKIFileMalformedError}
use Rattle.sig_base.specs.declared.fault.PkiFault.TheVariants.{NotReadable, TrustedRootMissing}
use Rattle.sig_json.proofs.NamedMembers.{optional_or-only}
use Rattle.sig_json.proofs.Records.{record_in-read, record_in-tree, record_with-same}
use Rattle.sig_json.specs.Data.{Data, Members, null, boolean, number, string, array, object}
use Rattle.sig_json.specs.Find.{as_object, get}
use Rattle.sig_json.specs.Member.{member_of, not_null, optional_or, there_or}
use Rattle.sig_json.specs.Only.{only}
use Rattle.sig_json.specs.Record.{record_with}
use Rattle.sig_json.specs.declared.error.JsonError.{JsonError}
use Rattle.sig_root.specs.ClientConfig.{configured_root_in, configured_root_of, configured_root_of_text, there}
use Rattle.sig_root.specs.ClientConfig.{HasConfiguredRoot, IsClientConfig, LacksConfiguredRoot}
use Rattle.sig_root.specs.RootRecord.{trusted_root_of}
use Rattle.sig_root.specs.declared.record.TrustedRoot.{TrustedRoot}

-- ---- the member that is read

abbrev pub config_names : List (List ℕ)
config_names = codes "trustedRoot" ∷ []

abbrev kind : Data → Option (Option TrustedRoot)
kind d = option_map Some (trusted_root_of d)

config-only : (d : Data) → configured_root_of (only config_names d) ≡ configured_root_of d
unfolding configured_root_of
config-only d = optional_or-only None kind config_names (codes "trustedRoot") d refl

pub config-listed : (text : List ℕ) → record_with config_names configured_root_of text ≡ configured_root_in text
config-listed text = record_with-same config_names configured_root_of text config-only

-- ---- a member that may be absent

abbrev member_means : Option Data → Option (Option TrustedRoot)
member_means found = there_or (Some None) kind (found >>= not_null)

mapped : (read : Option TrustedRoot) (root : TrustedRoot) → option_map Some read ≡ Some (Some root)
    → read ≡ Some root
mapped None root e = absurd cc
mapped (Some r) root e = cc

never_none : (read : Option TrustedRoot) → option_map Some read ≡ Some None → ⊥
never_none None e = cc
never_none (Some r) e = cc

root_there : (found : Option Data) (root : TrustedRoot) → member_means found ≡ Some (Some root)
    → (value : Data) × (found ≡ Some value) × (trusted_root_of value ≡ Some root)
root_there None root e = absurd cc
root_there (Some null) root e = absurd cc
root_there (Some (boolean b)) root e = (boolean b, refl, mapped (trusted_root_of (boolean b)) root e)
root_there (Some (number n)) root e = (number n, refl, mapped (trusted_root_of (number n)) root e)
root_there (Some (string s)) root e = (string s, refl, mapped (trusted_root_of (string s)) root e)
root_there (Some (array ds)) root e = (array ds, refl, mapped (trusted_root_of (array ds)) root e)
root_there (Some (object ms)) root e = (object ms, refl, mapped (trusted_root_of (object ms)) root e)

null_has_no_root : trusted_root_of null ≡ None
unfolding trusted_root_of optional_or member_of
null_has_no_root = refl

root_read : (value : Data) (root : TrustedRoot) → trusted_root_of value ≡ Some root
    → member_means (Some value) ≡ Some (Some root)
root_read null root e = absurd (let none = null_has_no_root in cc)
root_read (boolean b) root e = ap (option_map Some) e
root_read (number n) root e = ap (option_map Some) e
root_read (string s) root e = ap (option_map Some) e
root_read (array ds) root e = ap (option_map Some) e
root_read (object ms) root e = ap (option_map Some) e

root_absent : (found : Option Data) → member_means found ≡ Some None
    → (value : Data) → found ≡ Some value → value ≡ null
root_absent None e value is = absurd cc
root_absent (Some null) e value is = cc
root_absent (Some (boolean b)) e value is = absurd (never_none (trusted_root_of (boolean b)) e)
root_absent (Some (number n)) e value is = absurd (never_none (trusted_root_of (number n)) e)
root_absent (Some (string s)) e value is = absurd (never_none (trusted_root_of (string s)) e)
root_absent (Some (array ds)) e value is = absurd (never_none (trusted_root_of (array ds)) e)
root_absent (Some (object ms)) e value is = absurd (never_none (trusted_root_of (object ms)) e)

only_absent : (found : Option Data) → ((value : Data) → found ≡ Some value → value ≡ null)
    → member_means found ≡ Some None
only_absent None none = refl
only_absent (Some value) none = rw (none value refl) refl

-- ---- the tree

-- an object's member is what is looked at
of_object : (tree : Data) (members : Members) → as_object tree ≡ Some members
    → configured_root_of tree ≡ member_means (get (codes "trustedRoot") tree)
unfolding configured_root_of optional_or member_of
of_object tree ms is = rw is refl

is_object : (tree : Data) (root : Option TrustedRoot) → configured_root_of tree ≡ Some root
    → (members : Members) × (as_object tree ≡ Some members)
unfolding configured_root_of optional_or member_of
is_object null root e = absurd cc
is_object (boolean b) root e = absurd cc
is_object (number n) root e = absurd cc
is_object (string s) root e = absurd cc
is_object (array ds) root e = absurd cc
is_object (object ms) root e = (ms, refl)

has_object : (tree value : Data) → get (codes "trustedRoot") tree ≡ Some value
    → (members : Members) × (as_object tree ≡ Some members)
has_object null value e = absurd cc
has_object (boolean b) value e = absurd cc
has_object (number n) value e = absurd cc
has_object (string s) value e = absurd cc
has_object (array ds) value e = absurd cc
has_object (object ms) value e = (ms, refl)

-- ---- the text

pub has_root : (text : List ℕ) (root : TrustedRoot) → configured_root_in text ≡ Ok (Some root)
    → HasConfiguredRoot text root
has_root text root e =
    let read = record_in-tree configured_root_of text (Some root) e in
    let held = is_object read.0 (Some root) read.2 in
    let found = root_there (get (codes "trustedRoot") read.0) root
    (sym (of_object read.0 held.0 held.1) ∙ read.2) in
    record { tree = read.0; value = found.0; document = read.1; member = found.1; read = found.2 }

pub root_in : (text : List ℕ) (root : TrustedRoot) → HasConfiguredRoot text root
    → configured_root_in text ≡ Ok (Some root)
root_in text root is =
    let held = has_object is.tree is.value is.member in
    record_in-read configured_root_of text is.tree (Some root) is.document
    (of_object is.tree held.0 held.1 ∙ ap member_means is.member ∙ root_read is.value root is.read)

pub lacks_root : (text : List ℕ) → configured_root_in text ≡ Ok None → LacksConfiguredRoot text
lacks_root text e =
    let read = record_in-tree configured_root_of text None e in
    let held = is_object read.0 None read.2 in
    record {
      tree = read.0;
      members = held.0;
      document = read.1;
      object = held.1;
      absent = root_absent (get (codes "trustedRoot") read.0) (sym (of_object read.0 held.0 held.1) ∙ read.2);
    }

pub no_root_in : (text : List ℕ) → LacksConfiguredRoot text → configured_root_in text ≡ Ok None
no_root_in text is =
    record_in-read configured_root_of text is.tree None is.document
    (of_object is.tree is.members is.object ∙ only_absent (get (codes "trustedRoot") is.tree) is.absent)

-- ---- what is computed

abbrev missing : Result TrustedRoot SigstoreError
missing = Err (SigstorePKIFileMalformedError TrustedRootMissing)

abbrev unreadable : Result TrustedRoot SigstoreError
unreadable = Err (SigstorePKIFileMalformedError NotReadable)

there-ok : (read : Result (Option TrustedRoot) JsonError) (root : TrustedRoot) → there read ≡ Ok root
    → read ≡ Ok (Some root)
there-ok (Ok (Some r)) root e = (let same : r ≡ root = cc in rw same refl)
there-ok (Ok None) root e = absurd cc
there-ok (Err why) root e = absurd cc

there-missing : (read : Result (Option TrustedRoot) JsonError) → there read ≡ missing → read ≡ Ok None
there-missing (Ok (Some r)) e = absurd cc
there-missing (Ok None) e = refl
there-missing (Err why) e = absurd cc

pub configured-found : (text : List ℕ) (root : TrustedRoot) → configured_root_of_text text ≡ Ok root
    → HasConfiguredRoot text root
configured-found text root e = has_root text root (there-ok (configured_root_in text) root e)

pub configured-only : (text : List ℕ) (root : TrustedRoot) → HasConfiguredRoot text root
    → configured_root_of_text text ≡ Ok root
configured-only text root is = ap there (root_in text root is)

pub configured-missing : (text : List ℕ) → configured_root_of_text text ≡ missing → LacksConfiguredRoot text
configured-missing text e = lacks_root text (there-missing (configured_root_in text) e)

pub missing-only : (text : List ℕ) → LacksConfiguredRoot text → configured_root_of_text text ≡ missing
missing-only text is = ap there (no_root_in text is)

pub configured-unreadable : (text : List ℕ) → configured_root_of_text text ≡ unreadable → ¬ IsClientConfig text
configured-unreadable text e (inl lacks) = let is = missing-only text lacks in absurd cc
configured-unreadable text e (inr has) = let is = configured-only text has.0 has.1 in absurd cc

pub unreadable-only : (text : List ℕ) → ¬ IsClientConfig text → configured_root_of_text text ≡ unreadable
unreadable-only text never = by_read (configured_root_in text) refl where
  by_read : (read : Result (Option TrustedRoot) JsonError) → configured_root_in text ≡ read
      → configured_root_of_text text ≡ unreadable
  by_read (Ok (Some root)) e = absurd (never (inr (root, has_root text root e)))
  by_read (Ok None) e = absurd (never (inl (lacks_root text e)))
  by_read (Err why) e = ap there e

-- ---- the clauses of a result that is this, unless memory ran out

module _ (text : List ℕ) (result : Result TrustedRoot SigstoreError)
    (is : Answers OutOfMemory (λ (root : TrustedRoot). root) result (configured_root_of_text text)) where
  pub clause-found : IfOk result (λ root. HasConfiguredRoot text root)
  clause-found = by_result result is where
    by_result : (r : Result TrustedRoot SigstoreError)
        → Answers OutOfMemory (λ (root : TrustedRoot). root) r (configured_root_of_text text)
        → IfOk r (λ root. HasConfiguredRoot text root)
    by_result (Ok root) meant = configured-found text root meant
    by_result (Err e) meant = tt

  pub clause-only : (root : TrustedRoot) → HasConfiguredRoot text root
      → UnlessMemory OutOfMemory result (result ≡ Ok root)
  clause-only root has =
      (comes_where OutOfMemory result (configured_root_of_text text) (Ok root) (HasConfiguredRoot text root) is
      (λ same. cc) (configured-found text root) (configured-only text root)).1 has

  pub clause-missing : ComesWhere OutOfMemory result missing (LacksConfiguredRoot text)
  clause-missing =
      comes_where OutOfMemory result (configured_root_of_text text) missing (LacksConfiguredRoot text) is
      (λ same. cc) (configured-missing text) (missing-only text)

  pub clause-unreadable : ComesWhere OutOfMemory result unreadable (¬ IsClientConfig text)
  clause-unreadable =
      comes_where OutOfMemory result (configured_root_of_text text) unreadable (¬ IsClientConfig text) is
      (λ same. cc) (configured-unreadable text) (unreadable-only text)
