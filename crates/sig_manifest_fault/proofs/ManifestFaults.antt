-- Nothing is wrong with a text if and only if it is a manifest.
use Rattle.std.proofs.Common.{◌≡◌, ◌↔◌, ◌<◌, ◌≤◌, ℕ, ◌+◌, List, [], ◌∷◌, length, Bool, true, false, if◌then◌else◌, nat_lt, Option}
use Rattle.std.proofs.Common.{Some, None, is_some, option_map, Result, Ok, Err, IsSome, refl, sym, ap, ◌∙◌, arith}
use Rattle.std.proofs.Common.{ltb-false, ltb-true}
use Rattle.std.specs.List.{AllByRecursion}
use Rattle.std.specs.Option.{option_or}
use Rattle.std.specs.Prelude.{IfOk, ⊤}
use Rattle.sig_base.specs.ByText.{text_lookup}
use Rattle.sig_base.specs.OptionSteps.{or_else}
use Rattle.sig_json.proofs.Records.{record_in-read, record_in-tree}
use Rattle.sig_json.specs.Data.{Data}
use Rattle.sig_json.specs.Document.{document_of}
use Rattle.sig_json.specs.Record.{record_in}
use Rattle.sig_json.specs.declared.error.JsonError.{JsonError}
use Rattle.sig_manifest.proofs.Refusals.{meant-of}
use Rattle.sig_manifest.specs.Artifact.{Asked}
use Rattle.sig_manifest.specs.Manifest.{Gate, with_accepted}
use Rattle.sig_manifest.specs.Read.{Parts, manifest_in, manifest_of, unless_unknown}
use Rattle.sig_manifest.specs.Unknown.{IsNamedIn, unknown_by, unknown_from, unknown_in}
use Rattle.sig_manifest.specs.declared.error.ManifestError.{ManifestError}
use Rattle.sig_manifest.specs.declared.error.ManifestError.TheVariants as manifest
use Rattle.sig_manifest_fault.proofs.AscendingNames.{document-ascends}
use Rattle.sig_manifest_fault.proofs.ManifestTables.{manifest_is}
use Rattle.sig_manifest_fault.specs.ManifestFault.{IsManifest, manifest_fault_in, unknown_fault}
use Rattle.sig_manifest_fault.specs.ManifestTable.{manifest_table}
use Rattle.sig_policy.specs.declared.request.RequestPolicy.{RequestPolicy}
use Rattle.sig_request.specs.Accepted.{with_rows}
use Rattle.sig_request.specs.Limit.{most_bytes}
use Rattle.sig_request_fault.specs.RequestFault.{request_fault_in}
use Rattle.sig_request_fault.specs.declared.fault.RequestFault.{RequestFault}
use Rattle.sig_request_fault.specs.declared.fault.RequestFault.TheVariants.{TooLong, Document}
use Rattle.sig_table.proofs.TextFaults.{beside_reader}
use Rattle.sig_table.specs.DocumentFault.{error_alone, error_of, fault_in}
use Rattle.sig_table.specs.Table.{fits}
use Rattle.sig_table.specs.TableOf.{IsTableOf}
use Rattle.sig_table.specs.declared.fault.DocumentFault.{DocumentFault}
use Rattle.sig_table.specs.declared.fault.DocumentFault.TheVariants.{NotJson, Float, Member}

abbrev meaning : Data → Option Parts
meaning = with_rows with_accepted

-- ---- the table: it finds nothing if and only if the text is a document whose tree keeps to it

-- the tree itself, if it keeps to the table
abbrev kept : Data → Option Data
kept d = if fits manifest_table d then Some d else None

kept_some : (b : Bool) (d : Data) → b ≡ is_some (if b then Some d else None)
kept_some true d = refl
kept_some false d = refl

kept_is : IsTableOf kept manifest_table
kept_is d = kept_some (fits manifest_table d) d

kept_fits : (b : Bool) (d e : Data) → (if b then Some d else None) ≡ Some e → b ≡ true
kept_fits true d e is = refl
kept_fits false d e is = cc

no_fault : (found : Option DocumentFault) → error_of found ≡ Ok tt → found ≡ None
no_fault None same = refl
no_fault (Some NotJson) same = cc
no_fault (Some Float) same = cc
no_fault (Some (Member fault)) same = cc

is_read : {A : Type 0} → (read : Result A JsonError) → Ok tt ≡ error_alone read → (x : A) × (read ≡ Ok x)
is_read (Ok x) same = (x, refl)
is_read (Err error) same = cc

module _ (text : List ℕ) where
  beside : error_of (fault_in manifest_table text) ≡ error_alone (record_in kept text)
  beside =
      let whole : Result (Option DocumentFault) ⊤ = Ok (fault_in manifest_table text) in
      beside_reader kept manifest_table kept_is text whole refl

  -- a text in which the table finds nothing means parts
  table-sound : fault_in manifest_table text ≡ None → (tree : Data) × (document_of text ≡ Ok tree) × IsSome (meaning tree)
  table-sound none =
      let read = is_read (record_in kept text) (ap error_of (sym none) ∙ beside) in
      let found = record_in-tree kept text read.0 read.1 in
      let fit : fits manifest_table found.0 ≡ true = kept_fits (fits manifest_table found.0) found.0 read.0 found.2 in
      (found.0, found.1, sym (manifest_is found.0 (document-ascends text found.0 found.1)) ∙ fit)

  -- and the other way
  sound-table : (tree : Data) (parts : Parts) → document_of text ≡ Ok tree → meaning tree ≡ Some parts
      → fault_in manifest_table text ≡ None
  sound-table tree parts document means =
      let fit : fits manifest_table tree ≡ true =
      manifest_is tree (document-ascends text tree document) ∙ ap is_some means in
      let keeps : kept tree ≡ Some tree = rw fit refl in
      no_fault (fault_in manifest_table text)
      (beside ∙ ap error_alone (record_in-read kept text tree tree document keeps))

-- ---- what artifacts name

known : (place : ℕ) (root : Option (List ℕ)) (policy : Option RequestPolicy) → IsSome root → IsSome policy
    → unknown_by place root policy ≡ None
known place None policy some also = absurd (let wrong : false ≡ true = some in cc)
known place (Some root) None some also = absurd (let wrong : false ≡ true = also in cc)
known place (Some root) (Some policy) some also = refl

all-known : (gate : Gate) (place : ℕ) (xs : List Asked) → AllByRecursion (IsNamedIn gate) xs
    → unknown_from gate place xs ≡ None
all-known gate place [] named = refl
all-known gate place (x ∷ xs) named =
    ap (λ first. option_or first (unknown_from gate (place + 1) xs))
    (known place (text_lookup x.root gate.roots) (text_lookup x.policy gate.policies) named.0.root named.0.policy)
    ∙ all-known gate (place + 1) xs named.1

-- what is not there is a trusted root or a policy, and so a fault
abbrev IsShown : Option ManifestError → Type 0
IsShown None = ⊤
IsShown (Some (manifest.UnknownRoot place)) = ⊤
IsShown (Some (manifest.UnknownPolicy place)) = ⊤
IsShown (Some other) = ⊥

by-shown : (place : ℕ) (root : Option (List ℕ)) (policy : Option RequestPolicy) (rest : Option ManifestError) → IsShown rest
    → IsShown (option_or (unknown_by place root policy) rest)
by-shown place None policy rest shown = tt
by-shown place (Some root) None rest shown = tt
by-shown place (Some root) (Some policy) rest shown = shown

from-shown : (gate : Gate) (place : ℕ) (xs : List Asked) → IsShown (unknown_from gate place xs)
from-shown gate place [] = tt
from-shown gate place (x ∷ xs) =
    by-shown place (text_lookup x.root gate.roots) (text_lookup x.policy gate.policies) (unknown_from gate (place + 1) xs)
    (from-shown gate (place + 1) xs)

none-unknown : (parts : Parts) (unknown : Option ManifestError) → IsShown unknown
    → unknown_fault (unless_unknown parts unknown) ≡ None → unless_unknown parts unknown ≡ Ok parts
none-unknown parts None shown none = refl
none-unknown parts (Some (manifest.UnknownRoot place)) shown none = cc
none-unknown parts (Some (manifest.UnknownPolicy place)) shown none = cc
none-unknown parts (Some manifest.NotJson) shown none = absurd shown
none-unknown parts (Some manifest.Float) shown none = absurd shown
none-unknown parts (Some manifest.Member) shown none = absurd shown
none-unknown parts (Some manifest.OutOfMemory) shown none = absurd shown

-- ---- a text

first_none : (found other : Option RequestFault) → or_else found other ≡ None → found ≡ None
first_none None other none = refl
first_none (Some fault) other none = cc

second_none : (found other : Option RequestFault) → or_else found other ≡ None → other ≡ None
second_none None other none = none
second_none (Some fault) other none = cc

no_document : (found : Option DocumentFault) → option_map Document found ≡ None → found ≡ None
no_document None none = refl
no_document (Some fault) none = cc

there : {A : Type 0} → (found : Option A) → IsSome found → (x : A) × (found ≡ Some x)
there None some = absurd (let wrong : false ≡ true = some in cc)
there (Some x) some = (x, refl)

module _ (text : List ℕ) where
  read_as : (tree : Data) (parts : Parts) → document_of text ≡ Ok tree → meaning tree ≡ Some parts
      → manifest_in text ≡ unless_unknown parts (unknown_in parts.0)
  read_as tree parts document means = ap manifest_of (record_in-read meaning text tree parts document means)

  abbrev in_table : Option DocumentFault
  in_table = fault_in manifest_table text

  -- short enough, and the table finds nothing
  by_length : (long : Bool) → nat_lt most_bytes (length text) ≡ long
      → (if long then Some TooLong else option_map Document in_table) ≡ None
      → (length text ≤ most_bytes) × (in_table ≡ None)
  by_length true long none = cc
  by_length false short none = (ltb-false most_bytes (length text) short, no_document in_table none)

  short_none : (long : Bool) → nat_lt most_bytes (length text) ≡ long → length text ≤ most_bytes → in_table ≡ None
      → (if long then Some TooLong else option_map Document in_table) ≡ None
  short_none true long short none =
      let above : most_bytes < length text = ltb-true most_bytes (length text) long in
      absurd (omega (arith, above, short))
  short_none false is short none = rw none refl

  found_parts : length text ≤ most_bytes → unknown_fault (manifest_in text) ≡ None
      → (tree : Data) × (document_of text ≡ Ok tree) × IsSome (meaning tree) → IsManifest text
  found_parts short none read =
      let means = there (meaning read.0) read.2 in
      let same = read_as read.0 means.0 read.1 means.1 in
      let whole : unless_unknown means.0 (unknown_in means.0.0) ≡ Ok means.0 =
      none-unknown means.0 (unknown_in means.0.0) (from-shown means.0.0 0 means.0.0.artifacts)
      (ap unknown_fault (sym same) ∙ none) in
      record { parts = means.0; short = short; is = meant-of text means.0 (same ∙ whole) }

  pub none-manifest : manifest_fault_in text ≡ None → IsManifest text
  unfolding manifest_fault_in request_fault_in
  none-manifest none =
      let found = by_length (nat_lt most_bytes (length text)) refl (first_none _ (unknown_fault (manifest_in text)) none) in
      found_parts found.0 (second_none _ (unknown_fault (manifest_in text)) none) (table-sound text found.1)

  pub manifest-none : IsManifest text → manifest_fault_in text ≡ None
  unfolding manifest_fault_in request_fault_in
  manifest-none is =
      let read = is.is.read in
      let none = sound-table text read.tree is.parts read.document read.members in
      let named : manifest_in text ≡ Ok is.parts =
      read_as read.tree is.parts read.document read.members
      ∙ ap (unless_unknown is.parts) (all-known is.parts.0 0 is.parts.0.artifacts is.is.named) in
      rw (short_none (nat_lt most_bytes (length text)) refl is.short none, named) refl

  pub none_if_manifest : {E : Type 0} → (result : Result (Option RequestFault) E)
      → IfOk result (λ found. found ≡ manifest_fault_in text)
      → IfOk result (λ found. (found ≡ None) ↔ IsManifest text)
  none_if_manifest (Ok found) same = rw same (none-manifest, manifest-none)
  none_if_manifest (Err error) same = tt
