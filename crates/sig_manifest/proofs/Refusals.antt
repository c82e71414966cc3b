-- Why a text is not a manifest, in the words of the text.
use Rattle.std.proofs.Common.{◌≡◌, ℕ, zero, suc, ◌+◌, List, [], ◌∷◌, ◌++◌, length, Option, Some, None, Result, Ok, Err}
use Rattle.std.proofs.Common.{refl, sym, ap, subst, arith, IfOk, IsSome, rules}
use Rattle.std.specs.List.{AllByRecursion}
use Rattle.std.specs.Option.{ok_or, option_or}
use Rattle.sig_base.specs.Answers.{Answers}
use Rattle.sig_base.specs.ByText.{text_lookup}
use Rattle.sig_base.specs.declared.checker.AcceptedRow.{AcceptedRow}
use Rattle.sig_json.specs.Data.{Data}
use Rattle.sig_json.specs.Document.{document_of}
use Rattle.sig_json.specs.Record.{record_in, record_of}
use Rattle.sig_json.specs.declared.error.DocumentError.{DocumentError}
use Rattle.sig_json.specs.declared.error.DocumentError.TheVariants as document
use Rattle.sig_json.specs.declared.error.JsonError.{JsonError}
use Rattle.sig_json.specs.declared.error.JsonError.TheVariants as json
use Rattle.sig_manifest.specs.Artifact.{Asked}
use Rattle.sig_manifest.specs.Manifest.{Gate, manifest_view, with_accepted}
use Rattle.sig_manifest.specs.Read.{HasOtherMembers, IsManifestWith, IsReadAs, IsRefused, Parts, manifest_in, manifest_of}
use Rattle.sig_manifest.specs.Read.{parts_view, unless_unknown}
use Rattle.sig_manifest.specs.Unknown.{AreNamed, IsAfterNamed, IsNamedIn, IsUnknownPolicy, IsUnknownRoot}
use Rattle.sig_manifest.specs.Unknown.{unknown_at, unknown_by, unknown_from, unknown_in}
use Rattle.sig_manifest.specs.declared.error.ManifestError.{ManifestError}
use Rattle.sig_manifest.specs.declared.error.ManifestError.TheVariants as manifest
use Rattle.sig_manifest.specs.declared.manifest.Manifest.{Manifest}
use Rattle.sig_policy.specs.declared.request.RequestPolicy.{RequestPolicy}
use Rattle.sig_request.specs.Accepted.{with_rows}

-- ---- the first artifact that names something that is not there

there : {A : Type 0} {o : Option A} {x : A} → o ≡ Some x → IsSome o
there {A} {o} {x} is = rw is (search rules)

counted : (count place : ℕ) → 0 + count ≡ place → count ≡ place
counted count place is = omega (arith, is)

module _ (gate : Gate) where
  -- of these artifacts, of which the first is at place n
  abbrev IsFirst : ℕ → List Asked → ManifestError → Type 0
  IsFirst n xs (manifest.UnknownRoot place) =
      (x : Asked) × (count : ℕ) × (n + count ≡ place) × IsAfterNamed gate xs count x × (text_lookup x.root gate.roots ≡ None)
  IsFirst n xs (manifest.UnknownPolicy place) =
      (x : Asked) × (count : ℕ) × (n + count ≡ place) × IsAfterNamed gate xs count x × IsSome (text_lookup x.root gate.roots)
      × (text_lookup x.policy gate.policies ≡ None)
  IsFirst n xs other = ⊥

  here : (x : Asked) (xs : List Asked) → IsAfterNamed gate (x ∷ xs) 0 x
  here x xs = record { before = []; after = xs; whole = refl; index = refl; named = tt }

  named_later : (x y : Asked) (xs : List Asked) (count : ℕ) → IsNamedIn gate x → IsAfterNamed gate xs count y
      → IsAfterNamed gate (x ∷ xs) (suc count) y
  named_later x y xs count named is = record {
    before = x ∷ is.before;
    after = is.after;
    whole = ap (λ l. x ∷ l) is.whole;
    index = ap suc is.index;
    named = (named, is.named);
  }

  later : (n : ℕ) (x : Asked) (xs : List Asked) (e : ManifestError) → IsNamedIn gate x → IsFirst (n + 1) xs e
      → IsFirst n (x ∷ xs) e
  later n x xs (manifest.UnknownRoot place) named is =
      (is.0, suc is.1, omega (arith, is.2), named_later x is.0 xs is.1 named is.3, is.4)
  later n x xs (manifest.UnknownPolicy place) named is =
      (is.0, suc is.1, omega (arith, is.2), named_later x is.0 xs is.1 named is.3, is.4, is.5)
  later n x xs manifest.NotJson named is = absurd is
  later n x xs manifest.Float named is = absurd is
  later n x xs manifest.Member named is = absurd is
  later n x xs manifest.OutOfMemory named is = absurd is

  same : (a b : ManifestError) → Some a ≡ Some b → a ≡ b
  same a b is = cc

  none_some : (a : ManifestError) → None ≡ Some a → ⊥
  none_some a is = cc

  first-of : (n : ℕ) (xs : List Asked) (e : ManifestError) → unknown_from gate n xs ≡ Some e → IsFirst n xs e
  first-of n [] e is = absurd (none_some e is)
  first-of n (x ∷ xs) e is =
      by (text_lookup x.root gate.roots) refl (text_lookup x.policy gate.policies) refl (first-of (n + 1) xs e) is where
        by : (root : Option (List ℕ)) → text_lookup x.root gate.roots ≡ root → (policy : Option RequestPolicy)
            → text_lookup x.policy gate.policies ≡ policy
            → (unknown_from gate (n + 1) xs ≡ Some e → IsFirst (n + 1) xs e)
            → option_or (unknown_by n root policy) (unknown_from gate (n + 1) xs) ≡ Some e → IsFirst n (x ∷ xs) e
        by None root_is policy policy_is rest found =
            subst (IsFirst n (x ∷ xs)) (same (manifest.UnknownRoot n) e found) (x, 0, omega arith, here x xs, root_is)
        by (Some root) root_is None policy_is rest found =
            let known : IsSome (text_lookup x.root gate.roots) = there root_is in
            subst (IsFirst n (x ∷ xs)) (same (manifest.UnknownPolicy n) e found)
            (x, 0, omega arith, here x xs, known, policy_is)
        by (Some root) root_is (Some policy) policy_is rest found =
            let named : IsNamedIn gate x = record {
              root = there root_is;
              policy = there policy_is;
            } in
            later n x xs e named (rest found)

  named-of : (n : ℕ) (xs : List Asked) → unknown_from gate n xs ≡ None → AllByRecursion (IsNamedIn gate) xs
  named-of n [] is = tt
  named-of n (x ∷ xs) is =
      by (text_lookup x.root gate.roots) refl (text_lookup x.policy gate.policies) refl (named-of (n + 1) xs) is where
        by : (root : Option (List ℕ)) → text_lookup x.root gate.roots ≡ root → (policy : Option RequestPolicy)
            → text_lookup x.policy gate.policies ≡ policy
            → (unknown_from gate (n + 1) xs ≡ None → AllByRecursion (IsNamedIn gate) xs)
            → option_or (unknown_by n root policy) (unknown_from gate (n + 1) xs) ≡ None
            → AllByRecursion (IsNamedIn gate) (x ∷ xs)
        by None root_is policy policy_is rest found = absurd (none_some (manifest.UnknownRoot n) (sym found))
        by (Some root) root_is None policy_is rest found = absurd (none_some (manifest.UnknownPolicy n) (sym found))
        by (Some root) root_is (Some policy) policy_is rest found = (
          record { root = there root_is; policy = there policy_is },
          rest found,
        )

  -- as a refusal of a text that is read as this manifest
  refusal-of : (text : List ℕ) (rows : List AcceptedRow) (e : ManifestError) → IsReadAs text (gate, rows)
      → IsFirst 0 gate.artifacts e → IsRefused text e
  refusal-of text rows (manifest.UnknownRoot place) read is = (
    (gate, rows),
    read,
    record {
      artifact = is.0;
      first = subst (λ k. IsAfterNamed gate gate.artifacts k is.0)
          (counted is.1 place is.2) is.3;
      root = is.4;
    },
  )
  refusal-of text rows (manifest.UnknownPolicy place) read is = (
    (gate, rows),
    read,
    record {
      artifact = is.0;
      first = subst (λ k. IsAfterNamed gate gate.artifacts k is.0)
          (counted is.1 place is.2) is.3;
      root = is.4;
      policy = is.5;
    },
  )
  refusal-of text rows manifest.NotJson read is = absurd is
  refusal-of text rows manifest.Float read is = absurd is
  refusal-of text rows manifest.Member read is = absurd is
  refusal-of text rows manifest.OutOfMemory read is = absurd is

-- ---- the text

abbrev failed : ManifestError → Result Parts ManifestError
failed e = Err e

abbrev made : Parts → Result Parts ManifestError
made parts = Ok parts

same_error : (a b : ManifestError) → failed a ≡ failed b → a ≡ b
same_error a b is = cc

ok_err : (parts : Parts) (e : ManifestError) → made parts ≡ failed e → ⊥
ok_err parts e is = cc

abbrev meaning : Data → Option Parts
meaning = with_rows with_accepted

pub refused-of : (text : List ℕ) (e : ManifestError) → manifest_in text ≡ Err e → IsRefused text e
unfolding record_in
refused-of text e is = by_document (document_of text) refl is where
  by_unknown : (tree : Data) (parts : Parts) → document_of text ≡ Ok tree → meaning tree ≡ Some parts
      → (unknown : Option ManifestError) → unknown_in parts.0 ≡ unknown → unless_unknown parts unknown ≡ Err e
      → IsRefused text e
  by_unknown tree parts read means None unknown_is found = absurd (ok_err parts e found)
  by_unknown tree parts read means (Some error) unknown_is found =
      subst (IsRefused text) (same_error error e found)
      (refusal-of parts.0 text parts.1 error (record { tree = tree; document = read; members = means })
      (first-of parts.0 0 parts.0.artifacts error unknown_is))

  by_members : (tree : Data) → document_of text ≡ Ok tree → (members : Option Parts) → meaning tree ≡ members
      → manifest_of (ok_or members json.Member) ≡ Err e → IsRefused text e
  by_members tree read None means found =
      subst (IsRefused text) (same_error manifest.Member e found)
      (record { tree = tree; document = read; members = means })
  by_members tree read (Some parts) means found = by_unknown tree parts read means (unknown_in parts.0) refl found

  by_document : (d : Result Data DocumentError) → document_of text ≡ d → manifest_of (record_of meaning d) ≡ Err e
      → IsRefused text e
  by_document (Err document.NotJson) read found = subst (IsRefused text) (same_error manifest.NotJson e found) read
  by_document (Err document.Float) read found = subst (IsRefused text) (same_error manifest.Float e found) read
  by_document (Err document.OutOfMemory) read found =
      subst (IsRefused text) (same_error manifest.OutOfMemory e found) tt
  by_document (Ok tree) read found = by_members tree read (meaning tree) refl found

pub meant-of : (text : List ℕ) (parts : Parts) → manifest_in text ≡ Ok parts → IsManifestWith text parts
unfolding record_in
meant-of text parts is = by_document (document_of text) refl is where
  err_ok : (error : ManifestError) → failed error ≡ made parts → ⊥
  err_ok error is = cc

  same_parts : (other : Parts) → made other ≡ made parts → other ≡ parts
  same_parts other is = cc

  by_unknown : (tree : Data) (other : Parts) → document_of text ≡ Ok tree → meaning tree ≡ Some other
      → (unknown : Option ManifestError) → unknown_in other.0 ≡ unknown → unless_unknown other unknown ≡ Ok parts
      → IsManifestWith text parts
  by_unknown tree other read means None unknown_is found =
      subst (IsManifestWith text) (same_parts other found) (record {
        read = record { tree = tree; document = read; members = means };
        named = named-of other.0 0 other.0.artifacts unknown_is;
      })
  by_unknown tree other read means (Some error) unknown_is found = absurd (err_ok error found)

  by_members : (tree : Data) → document_of text ≡ Ok tree → (members : Option Parts) → meaning tree ≡ members
      → manifest_of (ok_or members json.Member) ≡ Ok parts → IsManifestWith text parts
  by_members tree read None means found = absurd (err_ok manifest.Member found)
  by_members tree read (Some other) means found = by_unknown tree other read means (unknown_in other.0) refl found

  by_document : (d : Result Data DocumentError) → document_of text ≡ d → manifest_of (record_of meaning d) ≡ Ok parts
      → IsManifestWith text parts
  by_document (Err document.NotJson) read found = absurd (err_ok manifest.NotJson found)
  by_document (Err document.Float) read found = absurd (err_ok manifest.Float found)
  by_document (Err document.OutOfMemory) read found = absurd (err_ok manifest.OutOfMemory found)
  by_document (Ok tree) read found = by_members tree read (meaning tree) refl found

-- what is named by the artifacts of a manifest that is returned is there
pub named-answer : (text : List ℕ) (result : Result (Manifest × List AcceptedRow) ManifestError)
    → Answers manifest.OutOfMemory parts_view result (manifest_in text)
    → IfOk result (λ parts. AreNamed (manifest_view parts.0))
named-answer text (Ok parts) is = (meant-of text (parts_view parts) is).named
named-answer text (Err error) is = tt

pub ruleset refusals = (refused-of, meant-of)
