-- *Verified tree*: what is shown of a bundle that is verified: the bundle as it passed its own checks, of the issuer
-- in the first certification path (RFC 5280 section 6.1) from its certificate to a trust anchor, and of the proof of
-- its log entry. Nothing is shown if one of them is not there.
use Rattle.std.specs.Prelude.{◌≡◌, List, [], Option, Some}
use Rattle.std.specs.Result.{result_ok}
use Rattle.sig_base.specs.Checker.{accepted}
use Rattle.sig_base.specs.OptionSteps.{◌>>=◌}
use Rattle.sig_base.specs.declared.checker.AcceptedRow.{AcceptedRow}
use Rattle.sig_base.specs.declared.checker.Operation.TheVariants.{Certificate}
use Rattle.sig_bundle.specs.BundleRecord.{bundle_in}
use Rattle.sig_json.specs.Writing.{object_of}
use Rattle.sig_bundle.specs.declared.bundle.Bundle.{Bundle}
use Rattle.sig_certificate.specs.Certificate.{Cert}
use Rattle.sig_checked_bundle.specs.Checked.{Checked}
use Rattle.sig_json.specs.Data.{Data}
use Rattle.sig_verified.specs.Verified.{verified_rows}
use Rattle.sig_verified.specs.declared.run.VerifiedRun.{VerifiedRun}
use Rattle.sig_verify.specs.IssuerCheck.{path_start}
use Rattle.sig_verify.specs.declared.logged_entry.LoggedEntry.{LoggedEntry}
use Rattle.sig_x509.specs.Issuance.{Accepts, IsAnchor}
use Rattle.sig_x509.specs.Pool.{pool_over}
use Rattle.sig_x509.specs.declared.issuer.Issuer.{Issuer}
use Rattle.sig_explain_verify.specs.Inputs.{Inputs}
use Rattle.sig_explain_verify.specs.Parts.{AreAuthorities, IsCheckedOf, root_in}

-- the signatures of certificates that are accepted as genuine
abbrev pub accepts_of : List AcceptedRow → Accepts
accepts_of rows issuer algorithm tbs signature = accepted rows Certificate algorithm issuer tbs signature

-- the issuer in the first path from a certificate over the further ones to a trust anchor, at the first second of its
-- validity
abbrev pub first_issuer : List AcceptedRow → List Cert → List Cert → Cert → Option Issuer
first_issuer rows anchors further c = result_ok (path_start (accepts_of rows) (pool_over anchors further) c)

-- the issuer of a bundle that passed its own checks
abbrev pub issuer_under : List AcceptedRow → Checked → List Cert → Option Issuer
issuer_under rows c anchors =
    first_issuer rows anchors c.further c.certificate

abbrev pub issuer_among : List AcceptedRow → Option (List Cert) → Checked → Option Issuer
issuer_among rows anchors c = anchors >>= issuer_under rows c

-- what was verified
pub record IsRunOf (i : Inputs) (b : Bundle) (c : Checked) (issued_by : Issuer) (entry : LoggedEntry) (run : VerifiedRun)
    : Type 0 where
  pub bundle : run.bundle.now ≡ b
  pub checked : run.checked.now ≡ c
  pub issuer : run.issuer ≡ issued_by
  pub proof : run.proof.now ≡ entry.proof
  pub digest : run.digest.now ≡ i.digest
  pub policy : run.policy.now ≡ i.policy

-- the tree by a bundle, what its checks return for it, and the issuer
abbrev pub IsShownOf : Inputs → LoggedEntry → Option Bundle → Option Checked → Option Issuer → Data → Type 0
IsShownOf i entry (Some b) (Some c) (Some issuer) tree =
    (run : VerifiedRun) × IsRunOf i b c issuer entry run × (tree ≡ object_of (verified_rows run))
IsShownOf i entry bundle found issuer tree = tree ≡ object_of []

-- under these trust anchors
abbrev pub IsShownUnder : Inputs → LoggedEntry → Option (List Cert) → Option Bundle → Data → Type 0
IsShownUnder i entry anchors bundle tree = (found : Option Checked) × IsCheckedOf bundle found
    × IsShownOf i entry bundle found (found >>= issuer_among i.accepted anchors) tree

abbrev pub IsVerifiedTree : Inputs → LoggedEntry → Data → Type 0
IsVerifiedTree i entry tree =
    (anchors : Option (List Cert)) × AreAuthorities IsAnchor (root_in i.root) i.now anchors
    × IsShownUnder i entry anchors (result_ok (bundle_in i.bundle)) tree
