-- *Report*: the lines that say what a gate finds.
use Rattle.std.specs.Prelude.{ℕ, ◌+◌, Bool, true, false, if◌then◌else◌, List, [], ◌∷◌, ◌++◌, codes, decimal, length}
use Rattle.std.specs.Fmt.{signed_decimal}
use Rattle.std.specs.List.{count_by, list_any}
use Rattle.sig_gate.specs.declared.verdict.BundleVerdict.{BundleVerdict}
use Rattle.sig_gate.specs.declared.verdict.BundleVerdict.TheVariants.{Verified, Refused}
use Rattle.sig_gate.specs.declared.verdict.Verdict.{Verdict}
use Rattle.sig_manifest.specs.Artifact.{Asked}
use Rattle.sig_rekor.specs.declared.inclusion_proof.InclusionProof.{InclusionProof}
use Rattle.sig_verify.specs.Link.{link_name}

-- ---- the lines of an artifact

-- index and size of the proof
abbrev pub verified_end : InclusionProof → List ℕ
verified_end proof = signed_decimal proof.log_index ++ (codes " " ++ (decimal proof.tree_size ++ codes "\n"))

-- the line of the bundle at this place
abbrev pub bundle_line : ℕ → BundleVerdict → List ℕ
bundle_line place (Verified entry) =
    codes "bundle " ++ (decimal place ++ (codes " verified " ++ verified_end entry.proof))
bundle_line place (Refused link) =
    codes "bundle " ++ (decimal place ++ (codes " refused " ++ (link_name link ++ codes "\n")))

-- the lines of these bundles, whose first is at this place
abbrev pub bundle_lines : ℕ → List BundleVerdict → List ℕ
bundle_lines place [] = []
bundle_lines place (verdict ∷ later) = bundle_line place verdict ++ bundle_lines (place + 1) later

abbrev pub is_verified : BundleVerdict → Bool
is_verified (Verified entry) = true
is_verified (Refused link) = false

-- why an artifact is not admitted: no bundle of it is verified, or else its rule does not hold
abbrev pub denial : List BundleVerdict → List ℕ
denial bundles = if list_any is_verified bundles then codes "deny rule" else codes "deny none"

abbrev pub decision : Verdict → List ℕ
decision verdict = if verdict.admitted then codes "admit" else denial verdict.bundles

abbrev pub artifact_lines : List ℕ → Verdict → List ℕ
artifact_lines name verdict =
    codes "artifact " ++ (name ++ (codes " " ++ (decision verdict ++ (codes "\n" ++ bundle_lines 0 verdict.bundles))))

-- ---- all lines

-- the lines of all artifacts
abbrev pub all_lines : List Asked → List Verdict → List ℕ
all_lines [] verdicts = []
all_lines (x ∷ xs) [] = []
all_lines (x ∷ xs) (verdict ∷ later) = artifact_lines x.name verdict ++ all_lines xs later

abbrev pub is_admitted : Verdict → Bool
is_admitted verdict = verdict.admitted

-- how many are admitted
abbrev pub admitted_of : List Verdict → ℕ
admitted_of verdicts = count_by is_admitted verdicts

abbrev pub last_line : List Verdict → List ℕ
last_line verdicts =
    codes "admitted " ++ (decimal (admitted_of verdicts) ++ (codes " of " ++ (decimal (length verdicts) ++ codes "\n")))

abbrev pub report_text : List Asked → List Verdict → List ℕ
report_text artifacts verdicts = all_lines artifacts verdicts ++ last_line verdicts
