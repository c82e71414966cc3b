-- *Asked root*: what a trusted root gives at a time, for the questions of bundles. A root is made of its text once, and
-- each bundle's questions are those under the root's text.
use Rattle.std.specs.Prelude.{◌≡◌, ℕ, ℤ, List, Result, Ok, Err}
use Rattle.std.specs.List.{AllByRecursion}
use Rattle.sig_base.specs.Rules.{FailsFirst}
use Rattle.sig_bundle.specs.BundleRecord.{bundle_in}
use Rattle.sig_bundle.specs.declared.bundle.Bundle.{Bundle}
use Rattle.sig_dsse.specs.declared.artifact_digest.ArtifactDigest.{ArtifactDigest}
use Rattle.sig_json.specs.declared.error.JsonError.{JsonError}
use Rattle.sig_root.specs.RootRecord.{trusted_root_in}
use Rattle.sig_root.specs.declared.record.TrustedRoot.{TrustedRoot}
use Rattle.sig_verify.specs.OfflineVerdict.{authorities_of, ct_keys_of}
use Rattle.sig_verify.specs.Outcome.{inputs_of}
use Rattle.sig_verify.specs.RootLinks.{HoldsOfRoot, root_links}
use Rattle.sig_verify.specs.Verifier.{IsVerifierOf}
use Rattle.sig_verify.specs.declared.link.Link.{Link as LinkType}
use Rattle.sig_verify.specs.declared.link.Link.TheVariants.{RootJson}
use Rattle.sig_questions.specs.Listed.{GivesTrust, IsAnswered, Listing}
use Rattle.sig_questions.specs.declared.asked_root.AskedRoot.{AskedRoot}
use Rattle.sig_questions.specs.declared.asked_root.AskedTrust.{AskedTrust}
use Rattle.sig_questions.specs.declared.listing.NoQuestions.{NoQuestions}
use Rattle.sig_questions.specs.declared.listing.NoQuestions.TheVariants.{Link, TooLong, OutOfMemory}

-- ---- what is made of a root

-- the root has trust anchors and keys at the time, and this is made of them
pub record IsTrustOf (root : TrustedRoot) (now : ℤ) (trust : AskedTrust) : Type 0 where
  pub links : AllByRecursion (HoldsOfRoot root now) root_links
  pub verifier : IsVerifierOf (authorities_of root now) (ct_keys_of root now) trust.verifier
  pub parts : GivesTrust root now trust.parts

-- that, or the first of the root's links that fails
abbrev pub IsTrustIn : TrustedRoot → ℤ → Result AskedTrust LinkType → Type 0
IsTrustIn root now (Ok trust) = IsTrustOf root now trust
IsTrustIn root now (Err link) = FailsFirst (HoldsOfRoot root now) root_links link

-- it is made of the trusted root that this text is
pub record IsAskedRootOf (text : List ℕ) (now : ℤ) (asked : AskedRoot) : Type 0 where
  pub root : TrustedRoot
  pub read : trusted_root_in text ≡ Ok root
  pub given : IsTrustIn root now asked.trust

-- what reading a text returns: what is made of its root, or `root-json` if the text is not a trusted root, unless
-- memory ran out
abbrev pub IsAskedRootIn : List ℕ → ℤ → Result AskedRoot NoQuestions → Type 0
IsAskedRootIn text now (Ok asked) = IsAskedRootOf text now asked
IsAskedRootIn text now (Err (Link link)) = (link ≡ RootJson) × ((why : JsonError) × (trusted_root_in text ≡ Err why))
IsAskedRootIn text now (Err TooLong) = ⊥
IsAskedRootIn text now (Err OutOfMemory) = Unit {0}

-- ---- the questions of a bundle

-- whatever texts its root and the bundle were read from, this is listed
abbrev pub IsAnsweredUnder : AskedTrust → ArtifactDigest → Bundle → ℕ → Listing → Type 0
IsAnsweredUnder trust d b most result =
    (root_text : List ℕ) (root : TrustedRoot) (now : ℤ) (text : List ℕ) → trusted_root_in root_text ≡ Ok root
    → IsTrustOf root now trust → bundle_in text ≡ Ok b → IsAnswered (inputs_of root_text now d text) most result

abbrev pub IsAnsweredOf : AskedRoot → ArtifactDigest → Bundle → ℕ → Listing → Type 0
IsAnsweredOf asked d b most result =
    (root_text : List ℕ) (now : ℤ) (text : List ℕ) → IsAskedRootOf root_text now asked → bundle_in text ≡ Ok b
    → IsAnswered (inputs_of root_text now d text) most result

-- the result for the text of a bundle
abbrev pub IsAnsweredIn : AskedRoot → ArtifactDigest → List ℕ → ℕ → Listing → Type 0
IsAnsweredIn asked d text most result =
    (root_text : List ℕ) (now : ℤ) → IsAskedRootOf root_text now asked
    → IsAnswered (inputs_of root_text now d text) most result
