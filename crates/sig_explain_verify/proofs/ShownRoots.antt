-- What a root that is at hand has, and what is shown under it.
use Rattle.std.proofs.Common.{◌≡◌, ℕ, ◌<◌, length, get_or, ℤ, List, Result, Ok, Err, Option, Some, None, option_map, refl, sym, ap, subst}
use Rattle.std.proofs.lemmas.Option.{slice_get_read}
use Rattle.std.specs.Prelude.{IfOk}
use Rattle.std.specs.Result.{result_ok}
use Rattle.sig_base.specs.OptionSteps.{◌>>=◌}
use Rattle.sig_base.specs.declared.memory.OutOfMemory.{OutOfMemory}
use Rattle.sig_bundle.specs.BundleRecord.{bundle_in}
use Rattle.sig_json.specs.Writing.{members, members_into}
use Rattle.sig_bundle.specs.declared.bundle.Bundle.{Bundle}
use Rattle.sig_json.specs.declared.object.Object.{Object}
use Rattle.sig_certificate.specs.Certificate.{Cert, IsCertificate}
use Rattle.sig_checked_bundle.specs.Checked.{Checked}
use Rattle.sig_explain_verify.proofs.Rows.{shows}
use Rattle.sig_explain_verify.specs.Evidence.{IsOfChecked, checked_rows, if_there}
use Rattle.sig_explain_verify.specs.Inputs.{Inputs}
use Rattle.sig_explain_verify.specs.Parts.{AreAuthorities, AreReadAll, IsCheckedIn, IsReadOne, root_in}
use Rattle.sig_explain_verify.specs.RefusedTree.{Shows}
use Rattle.sig_explain_verify.specs.ShownRoot.{IsPoolOf, IsShownRoot, IsTrustIn, anchors_in, authorities_in}
use Rattle.sig_explain_verify.specs.Verified.{IsShownUnder, IsVerifiedTree}
use Rattle.sig_explain_verify.specs.declared.root.ShownRoot.{ShownRoot}
use Rattle.sig_explain_verify.specs.declared.trust.TrustParts.{TrustParts}
use Rattle.sig_json.specs.Data.{Members, object}
use Rattle.sig_root.specs.declared.record.TrustedRoot.{TrustedRoot}
use Rattle.sig_verify.specs.RootLinks.{authorities}
use Rattle.sig_verify.specs.declared.link.Link.{Link}
use Rattle.sig_verify.specs.declared.logged_entry.LoggedEntry.{LoggedEntry}
use Rattle.sig_x509.specs.Issuance.{IsAnchor}
use Rattle.sig_x509.specs.Pool.{Pool}

-- ---- certificates and trust anchors

certificates_of : Option TrustParts → Option (List Cert)
certificates_of trust = trust >>= λ parts. parts.authorities

anchors_of : Option TrustParts → Option (List Cert)
anchors_of trust = option_map (λ (pool : Pool). pool.anchors) (trust >>= λ parts. parts.pool)

pooled : (ders : List (List ℕ)) (pool : Option Pool) → IsPoolOf ders pool
    → AreReadAll IsAnchor ders (option_map (λ (pool : Pool). pool.anchors) pool)
pooled ders None is = is
pooled ders (Some pool) is = is.0

trusted : (root : Option TrustedRoot) (now : ℤ) (trust : Option TrustParts) → IsTrustIn root now trust
    → AreAuthorities IsCertificate root now (certificates_of trust) × AreAuthorities IsAnchor root now (anchors_of trust)
unfolding certificates_of anchors_of
trusted None now trust is = (ap certificates_of is, ap anchors_of is)
trusted (Some root) now trust is = (
  subst (λ (t : Option TrustParts). AreReadAll IsCertificate (authorities root now) (certificates_of t)) (sym is.1)
      is.2.read,
  subst (λ (t : Option TrustParts). AreReadAll IsAnchor (authorities root now) (anchors_of t)) (sym is.1)
      (pooled (authorities root now) is.0.pool is.2.anchors),
)

pub authorities_shown : (text : List ℕ) (now : ℤ) (shown : ShownRoot) → IsShownRoot text now shown
    → AreAuthorities IsCertificate (root_in text) now (authorities_in shown)
unfolding certificates_of anchors_of
authorities_shown text now shown is = (trusted (root_in text) now shown.trust is.trust).0

pub anchors_shown : (text : List ℕ) (now : ℤ) (shown : ShownRoot) → IsShownRoot text now shown
    → AreAuthorities IsAnchor (root_in text) now (anchors_in shown)
unfolding certificates_of anchors_of
anchors_shown text now shown is = (trusted (root_in text) now shown.trust is.trust).1

-- some bytes are not a certificate
pub not_read : (ders items : List (List ℕ)) (index : ℕ) (x u : List ℕ) (found : Option Cert) → items ≡ ders
    → index < length items → u ≡ get_or items index u → x ≡ u → IsReadOne x found → found ≡ None
    → AreReadAll IsCertificate ders None
not_read ders items index x u found same below there seen is none = (
  index,
  u,
  slice_get_read ders (length items) index u (ap length same) below
      (subst (λ (xs : List (List ℕ)). u ≡ get_or xs index u) same there),
  subst (λ (y : List ℕ). (c : Cert) → ¬ IsCertificate y c) seen
      (subst (λ (o : Option Cert). IsReadOne x o) none is),
)

-- ---- what is shown of the bundle that passed its own checks

pub of_checked : (i : Inputs) (named : Link) (shown : ShownRoot) (found : Option Checked)
    (result : Result Object OutOfMemory) (before : Members) → IsShownRoot i.root i.now shown → IsCheckedIn i.bundle found
    → IfOk result (λ made. members made
    ≡ members_into before (if_there (checked_rows i (authorities_in shown) named) found))
    → IfOk result (λ made. Shows (IsOfChecked i named) before (members made))
of_checked i named shown found result before under checked is =
    shows (IsOfChecked i named) result before (if_there (checked_rows i (authorities_in shown) named) found)
    (authorities_in shown, authorities_shown i.root i.now shown under, found, checked, refl) is

pub verified : (i : Inputs) (entry : LoggedEntry) (shown : ShownRoot) (bundle : Option Bundle)
    (result : Result Object OutOfMemory) → IsShownRoot i.root i.now shown → result_ok (bundle_in i.bundle) ≡ bundle
    → IfOk result (λ made. IsShownUnder i entry (anchors_in shown) bundle (object (members made)))
    → IfOk result (λ made. IsVerifiedTree i entry (object (members made)))
verified i entry shown bundle (Ok made) under read is = (
  anchors_in shown,
  anchors_shown i.root i.now shown under,
  subst (λ (b : Option Bundle). IsShownUnder i entry (anchors_in shown) b (object (members made))) (sym read) is,
)
verified i entry shown bundle (Err why) under read is = tt
