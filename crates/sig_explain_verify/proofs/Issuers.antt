-- The issuer that a pool finds, or none; and what is shown of it.
use Rattle.std.proofs.Common.{◌≡◌, ◌≢◌, inl, inr, List, Result, Ok, Err, Option, Some, None, option_map, sym, ap, subst, ◌∙◌}
use Rattle.std.specs.Prelude.{IfOk}
use Rattle.std.specs.Result.{result_ok}
use Rattle.sig_base.specs.Answers.{OrMemory}
use Rattle.sig_base.specs.declared.checker.AcceptedRow.{AcceptedRow}
use Rattle.sig_base.specs.declared.fault.PoolError.{PoolError}
use Rattle.sig_base.specs.declared.fault.PoolError.TheVariants as pool
use Rattle.sig_base.specs.declared.memory.OutOfMemory.{OutOfMemory}
use Rattle.sig_json.specs.Writing.{members, members_into}
use Rattle.sig_bundle.specs.declared.bundle.Bundle.{Bundle}
use Rattle.sig_json.specs.declared.object.Object.{Object}
use Rattle.sig_certificate.specs.Certificate.{Cert}
use Rattle.sig_checked_bundle.specs.Checked.{Checked}
use Rattle.sig_explain_verify.specs.Inputs.{Inputs}
use Rattle.sig_explain_verify.specs.ShownRoot.{anchors_in, pool_in}
use Rattle.sig_explain_verify.specs.Verified.{IsRunOf, IsShownOf, first_issuer, issuer_among}
use Rattle.sig_explain_verify.specs.declared.root.ShownRoot.{ShownRoot}
use Rattle.sig_json.specs.Data.{no_members, object}
use Rattle.sig_verified.specs.Verified.{verified_rows}
use Rattle.sig_verified.specs.declared.run.VerifiedRun.{VerifiedRun}
use Rattle.sig_verify.specs.Errors.{of_pool}
use Rattle.sig_verify.specs.declared.error.VerificationError.{VerificationError}
use Rattle.sig_verify.specs.declared.error.VerificationError.TheVariants as verification
use Rattle.sig_verify.specs.declared.logged_entry.LoggedEntry.{LoggedEntry}
use Rattle.sig_x509.specs.Pool.{Pool}
use Rattle.sig_x509.specs.declared.issuer.Issuer.{Issuer}

-- no other error is the one for out of memory
memory_alone : (error : PoolError) → of_pool error ≡ verification.OutOfMemory → error ≡ pool.OutOfMemory
memory_alone (pool.TooMany count) is = cc
memory_alone (pool.Anchor index) is = cc
memory_alone pool.Malformed is = cc
memory_alone pool.VerificationFailed is = cc
memory_alone pool.OutOfMemory is = cc

pub none_found : (found : Result Issuer VerificationError) (error : PoolError)
    (result : Result (Option Issuer) OutOfMemory)
    → OrMemory verification.OutOfMemory (of_pool error) (found ≡ Err (of_pool error))
    → IfOk result (λ issuer. (issuer ≡ None) × (error ≢ pool.OutOfMemory))
    → IfOk result (λ issuer. issuer ≡ result_ok found)
none_found found error (Ok issuer) (inl memory) is = absurd (is.1 (memory_alone error memory))
none_found found error (Ok issuer) (inr e) is = is.0 ∙ sym (ap result_ok e)
none_found found error (Err why) refused is = tt

pub run_shown : (i : Inputs) (entry : LoggedEntry) (b : Bundle) (c : Checked) (issuer : Issuer) (found : Option Issuer)
    (run : VerifiedRun) (result : Result Object OutOfMemory) → found ≡ Some issuer → IsRunOf i b c issuer entry run
    → IfOk result (λ made. members made ≡ members_into no_members (verified_rows run))
    → IfOk result (λ made. IsShownOf i entry (Some b) (Some c) found (object (members made)))
run_shown i entry b c issuer found run (Ok made) there held is =
    subst (λ (o : Option Issuer). IsShownOf i entry (Some b) (Some c) o (object (members made))) (sym there)
    (run, held, ap object is)
run_shown i entry b c issuer found run (Err why) there held is = tt

-- under the pool that a root has
pub issuer_taken : (rows : List AcceptedRow) (shown : ShownRoot) (c : Checked) (p : Pool) (leaf : Cert)
    (further : List Cert) (result : Result (Option Issuer) OutOfMemory) → Some p ≡ pool_in shown → leaf ≡ c.certificate
    → further ≡ c.further → IfOk result (λ issuer. issuer ≡ first_issuer rows p.anchors further leaf)
    → IfOk result (λ issuer. issuer ≡ issuer_among rows (anchors_in shown) c)
issuer_taken rows shown c p leaf further (Ok issuer) there first others is =
    is ∙ ap (λ (x : Cert). first_issuer rows p.anchors further x) first
    ∙ ap (λ (xs : List Cert). first_issuer rows p.anchors xs c.certificate) others
    ∙ ap (λ (o : Option Pool). issuer_among rows (option_map (λ (pool : Pool). pool.anchors) o) c) there
issuer_taken rows shown c p leaf further (Err why) there first others is = tt
