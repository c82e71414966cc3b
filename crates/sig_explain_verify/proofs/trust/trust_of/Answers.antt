use Rattle.std.proofs.Common.{◌≡◌, List, ℕ, ℤ, subst}
use Rattle.std.proofs.Math.Facts.{to_z-of_z}
use Rattle.sig_certificate.specs.Certificate.{IsCertificate}
use Rattle.sig_evidence.specs.Logs.{logs_tree}
use Rattle.sig_json.specs.Tree.{document_tree}
use Rattle.sig_verify.specs.RootLinks.{authorities, rekor_keys}
use Rattle.sig_explain_verify.specs.Parts.{AreReadAll}
use Rattle.sig_explain_verify.specs.ShownRoot.{IsPoolOf}
use Rattle.sig_explain_verify.proofs.trust.trust_of.Goals as goal

pub returns : goal.returns
returns c =
    record {
      log_keys = subst (λ (t : ℤ). c.in_ok-log_keys.log_keys ≡ rekor_keys c.args.root.now t) (to_z-of_z c.ranges.now)
          c.in_ok-log_keys.ensures;
      read = subst (λ (t : ℤ). AreReadAll IsCertificate (authorities c.args.root.now t) c.in_ok-authorities.authorities)
          (to_z-of_z c.ranges.now)
          (subst (λ (ders : List (List ℕ)). AreReadAll IsCertificate ders c.in_ok-authorities.authorities)
          c.in_ok-ders.ensures c.in_ok-authorities.ensures);
      anchors = subst (λ (t : ℤ). IsPoolOf (authorities c.args.root.now t) c.in_ok-pool.pool) (to_z-of_z c.ranges.now)
          (subst (λ (ders : List (List ℕ)). IsPoolOf ders c.in_ok-pool.pool) c.in_ok-ders.ensures
          c.in_ok-pool.ensures);
      ctlogs = subst (λ (t : ℤ). document_tree c.in_ok-ctlogs.ctlogs ≡ logs_tree t c.args.root.now.ctlogs)
          (to_z-of_z c.ranges.now) c.in_ok-ctlogs.ensures;
      tlogs = subst (λ (t : ℤ). document_tree c.in_ok-tlogs.tlogs ≡ logs_tree t c.args.root.now.tlogs)
          (to_z-of_z c.ranges.now) c.in_ok-tlogs.ensures;
    }
