-- *Shown root*: what explanations show of a trusted root at a time, in whole seconds since 1970.
use Rattle.std.specs.Prelude.{◌≡◌, ℕ, ℤ, List, [], Option, Some, None, option_map}
use Rattle.sig_base.specs.OptionSteps.{◌>>=◌}
use Rattle.sig_certificate.specs.Certificate.{Cert, IsCertificate}
use Rattle.sig_document_fault.specs.RootTable.{root_table}
use Rattle.sig_evidence.specs.Logs.{logs_tree}
use Rattle.sig_json.specs.Tree.{document_tree}
use Rattle.sig_root.specs.declared.record.TrustedRoot.{TrustedRoot}
use Rattle.sig_table.specs.DocumentFault.{fault_in}
use Rattle.sig_table.specs.declared.fault.DocumentFault.{DocumentFault}
use Rattle.sig_verify.specs.RootLinks.{authorities, rekor_keys}
use Rattle.sig_x509.specs.Issuance.{IsAnchor}
use Rattle.sig_x509.specs.Pool.{Pool}
use Rattle.sig_explain_verify.specs.Parts.{AreReadAll, root_in}
use Rattle.sig_explain_verify.specs.declared.root.ShownRoot.{ShownRoot}
use Rattle.sig_explain_verify.specs.declared.trust.TrustParts.{TrustParts}

-- which member is wrong, of a text that is not a trusted root
abbrev pub if_unread : Option TrustedRoot → Option DocumentFault → Option DocumentFault
if_unread None fault = fault
if_unread (Some root) fault = None

abbrev pub root_fault_in : List ℕ → Option DocumentFault
root_fault_in text = if_unread (root_in text) (fault_in root_table text)

-- the pool of trust anchors, if each of the bytes is one
abbrev pub IsPoolOf : List (List ℕ) → Option Pool → Type 0
IsPoolOf ders None = AreReadAll IsAnchor ders None
IsPoolOf ders (Some pool) = AreReadAll IsAnchor ders (Some pool.anchors) × (pool.intermediates ≡ [])

-- what a root gives at a time
pub record IsGivenAt (root : TrustedRoot) (now : ℤ) (parts : TrustParts) : Type 0 where
  pub log_keys : parts.log_keys ≡ rekor_keys root now
  pub read : AreReadAll IsCertificate (authorities root now) parts.authorities
  pub anchors : IsPoolOf (authorities root now) parts.pool
  pub ctlogs : document_tree parts.ctlogs ≡ logs_tree now root.ctlogs
  pub tlogs : document_tree parts.tlogs ≡ logs_tree now root.tlogs

abbrev pub IsTrustIn : Option TrustedRoot → ℤ → Option TrustParts → Type 0
IsTrustIn None now found = found ≡ None
IsTrustIn (Some root) now found = (parts : TrustParts) × (found ≡ Some parts) × IsGivenAt root now parts

pub record IsShownRoot (text : List ℕ) (now : ℤ) (shown : ShownRoot) : Type 0 where
  pub fault : shown.fault ≡ root_fault_in text
  pub root : shown.root ≡ root_in text
  pub trust : IsTrustIn (root_in text) now shown.trust

abbrev pub authorities_in : ShownRoot → Option (List Cert)
authorities_in shown = shown.trust >>= λ parts. parts.authorities

abbrev pub pool_in : ShownRoot → Option Pool
pool_in shown = shown.trust >>= λ parts. parts.pool

-- its trust anchors
abbrev pub anchors_in : ShownRoot → Option (List Cert)
anchors_in shown = option_map (λ pool. pool.anchors) (pool_in shown)
