-- A text is one manifest, or there is a cause why it is none.
use Rattle.std.proofs.Common.{◌≡◌, ◌<◌, ◌≤◌, ◌+◌, ◌∙◌, ℕ, true, false, List, [], ◌∷◌, length, IsSome, Option, Some, None, Result, Ok, Err}
use Rattle.std.proofs.Common.{ap, arith, refl, sym}
use Rattle.std.specs.List.{AllByRecursion}
use Rattle.std.specs.Option.{option_or}
use Rattle.sig_base.proofs.OptionSteps.{some_is}
use Rattle.sig_base.proofs.ResultSteps.{ok_is}
use Rattle.sig_base.specs.ByText.{text_lookup}
use Rattle.sig_base.specs.declared.checker.AcceptedRow.{AcceptedRow}
use Rattle.sig_gate_command.specs.Request.{IsGateText, IsReadFrom}
use Rattle.sig_json.proofs.Records.{record_in-read}
use Rattle.sig_json.specs.Data.{Data}
use Rattle.sig_manifest.specs.Artifact.{Asked}
use Rattle.sig_manifest.specs.Manifest.{Gate, with_accepted}
use Rattle.sig_manifest.specs.Read.{IsManifestWith, Parts, manifest_in, manifest_of, parts_view, unless_unknown}
use Rattle.sig_manifest.specs.Unknown.{IsNamedIn, unknown_by, unknown_from}
use Rattle.sig_manifest.specs.declared.error.ManifestError.{ManifestError}
use Rattle.sig_manifest.specs.declared.manifest.Manifest.{Manifest}
use Rattle.sig_policy.specs.declared.request.RequestPolicy.{RequestPolicy}
use Rattle.sig_request.specs.Accepted.{with_rows}
use Rattle.sig_request.specs.Limit.{most_bytes}

abbrev meaning : Data → Option Parts
meaning = with_rows with_accepted

-- ---- a text is one manifest

pub one_manifest : (text : List ℕ) (a b : Parts) → IsGateText text a → IsGateText text b → a ≡ b
one_manifest text a b is other =
    let tree : is.is.read.tree ≡ other.is.read.tree =
    ok_is is.is.read.tree other.is.read.tree (sym is.is.read.document ∙ other.is.read.document) in
    some_is a b (sym is.is.read.members ∙ ap meaning tree ∙ other.is.read.members)

-- ---- a manifest is read

known : (place : ℕ) (root : Option (List ℕ)) (policy : Option RequestPolicy) → IsSome root → IsSome policy
    → unknown_by place root policy ≡ None
known place None policy some also = absurd (let f : false ≡ true = some in cc)
known place (Some root) None some also = absurd (let f : false ≡ true = also in cc)
known place (Some root) (Some policy) some also = refl

none_unknown : (gate : Gate) (place : ℕ) (xs : List Asked) → AllByRecursion (IsNamedIn gate) xs
    → unknown_from gate place xs ≡ None
none_unknown gate place [] named = refl
none_unknown gate place (x ∷ xs) named =
    ap (λ first. option_or first (unknown_from gate (place + 1) xs))
    (known place (text_lookup x.root gate.roots) (text_lookup x.policy gate.policies) named.0.root named.0.policy)
    ∙ none_unknown gate (place + 1) xs named.1

manifest_read : (text : List ℕ) (parts : Parts) → IsManifestWith text parts → manifest_in text ≡ Ok parts
manifest_read text parts is =
    ap manifest_of (record_in-read meaning text is.read.tree parts is.read.document is.read.members)
    ∙ ap (unless_unknown parts) (none_unknown parts.0 0 parts.0.artifacts is.named)

ok_err : (parts : Parts) (e : ManifestError) → ◌≡◌ {A = Result Parts ManifestError} (Ok parts) (Err e) → ⊥
ok_err parts e is = cc

-- ---- what is read of a text

pub unread-long : (text : List ℕ) → most_bytes < length text → IsReadFrom text None
unread-long text long parts is = omega (arith, is.short, long)

pub unread-error : (text : List ℕ) (e : ManifestError) → manifest_in text ≡ Err e → IsReadFrom text None
unread-error text e fails parts is = ok_err parts e (sym (manifest_read text parts is.is) ∙ fails)

pub read-manifest : (text : List ℕ) (manifest : Manifest) (rows : List AcceptedRow) → length text ≤ most_bytes
    → IsManifestWith text (parts_view (manifest, rows))
    → IsReadFrom text (Some (record { manifest = manifest; accepted = rows }))
read-manifest text manifest rows short is = record { short = short; is = is }

pub ruleset requests = (unread-long, unread-error, read-manifest)
