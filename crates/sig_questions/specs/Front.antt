-- The links before `issuer`, which ask for no signature: those of a bundle all hold, or this is the first that fails.
use Rattle.std.specs.Prelude.{◌≢◌, ℤ, true, List, [], ◌∷◌, ◌++◌, Option, Some, None, Result, Ok, Err}
use Rattle.std.specs.List.{AllByRecursion}
use Rattle.sig_base.specs.Rules.{FailsFirst}
use Rattle.sig_bundle.specs.declared.bundle.Bundle.{Bundle}
use Rattle.sig_checked_bundle.specs.Checked.{Checked}
use Rattle.sig_checked_bundle.specs.Passed.{IsPassed}
use Rattle.sig_dsse.specs.declared.artifact_digest.ArtifactDigest.{ArtifactDigest}
use Rattle.sig_json.specs.declared.error.JsonError.{JsonError}
use Rattle.sig_json.specs.declared.error.JsonError.TheVariants as json
use Rattle.sig_root.specs.declared.record.TrustedRoot.{TrustedRoot}
use Rattle.sig_verify.specs.BundleLinks.{bundle_links}
use Rattle.sig_verify.specs.LinkLaws.{HoldsOfVerified, trust_of}
use Rattle.sig_verify.specs.RootLinks.{IsSomeAnchor, authorities, ct_keys}
use Rattle.sig_verify.specs.Verifier.{Trusted}
use Rattle.sig_verify.specs.declared.link.Link.{Link as LinkType}
use Rattle.sig_verify.specs.declared.link.Link.TheVariants.{Issuance, Issuer}
use Rattle.sig_questions.specs.Questions.{accepting}
use Rattle.sig_questions.specs.declared.listing.NoQuestions.{NoQuestions}
use Rattle.sig_questions.specs.declared.listing.NoQuestions.TheVariants.{Link, TooLong, OutOfMemory}

abbrev pub front_result : Option LinkType → Result (Unit {0}) NoQuestions
front_result (Some Issuer) = Ok tt
front_result (Some link) = Err (Link link)
front_result None = Err OutOfMemory

-- why there are no questions, where the text of this link was not read
abbrev pub unread : LinkType → JsonError → NoQuestions
unread link json.OutOfMemory = OutOfMemory
unread link other = Link link

-- ---- the links of a bundle, under what a verifier trusts

-- those before `issuer`
abbrev pub bundle_front : List LinkType
bundle_front = bundle_links ++ Issuance ∷ []

-- what a link requires of a bundle beside signatures
abbrev pub HoldsOfUnasked : Trusted → ArtifactDigest → Bundle → LinkType → Type 0
HoldsOfUnasked trusted d b = HoldsOfVerified accepting.checker accepting.policy (trust_of trusted) d true b

abbrev pub IsFrontTold : Trusted → ArtifactDigest → Bundle → Result (Unit {0}) NoQuestions → Type 0
IsFrontTold trusted d b (Ok done) = AllByRecursion (HoldsOfUnasked trusted d b) bundle_front
IsFrontTold trusted d b (Err (Link link)) =
    FailsFirst (HoldsOfUnasked trusted d b) (bundle_front ++ Issuer ∷ []) link
IsFrontTold trusted d b (Err TooLong) = ⊥
IsFrontTold trusted d b (Err OutOfMemory) = Unit {0}

-- ---- what these links say of a root and of a bundle that were read

-- at the time the root has certificates of authorities, each a trust anchor, and keys of Certificate Transparency logs
pub record HasTrust (root : TrustedRoot) (now : ℤ) : Type 0 where
  pub some : authorities root now ≢ []
  pub anchors : AllByRecursion IsSomeAnchor (authorities root now)
  pub keys : ct_keys root now ≢ []

-- the bundle passes its own checks
abbrev pub IsPassedBundle : Bundle → Type 0
IsPassedBundle b = (c : Checked) × IsPassed b c
