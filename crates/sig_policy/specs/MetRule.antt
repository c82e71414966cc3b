-- *Met rule*: which extension of a certificate each rule of a request compares, by Fulcio's number of it.
use Rattle.std.specs.List.{All, Any}
use Rattle.sig_certificate.specs.Certificate.{Cert}
use Rattle.sig_der.specs.ObjectIdentifiers.{fulcio}
use Rattle.sig_policy.specs.CertificateWords.{HasText, IsNamed}
use Rattle.sig_policy.specs.declared.request.LeafPolicy.{LeafPolicy}
use Rattle.sig_policy.specs.declared.request.LeafPolicy.TheVariants as rule
use Rattle.sig_policy.specs.declared.request.RequestPolicy.{RequestPolicy}
use Rattle.sig_policy.specs.declared.request.RequestPolicy.TheVariants as policy

-- the certificate has the extension 1.3.6.1.4.1.57264.1.N once, and its value is the rule's text
abbrev pub IsMet : Cert → LeafPolicy → Type 0
IsMet c (rule.OIDCIssuer p) = HasText (fulcio 1) c p.0
IsMet c (rule.GitHubWorkflowTrigger p) = HasText (fulcio 2) c p.0
IsMet c (rule.GitHubWorkflowSHA p) = HasText (fulcio 3) c p.0
IsMet c (rule.GitHubWorkflowName p) = HasText (fulcio 4) c p.0
IsMet c (rule.GitHubWorkflowRepository p) = HasText (fulcio 5) c p.0
IsMet c (rule.GitHubWorkflowRef p) = HasText (fulcio 6) c p.0
IsMet c (rule.Identity p) = HasText (fulcio 1) c p.issuer × IsNamed c p.identity

-- each of the rules is met, or at least one of them
abbrev pub IsMetBy : RequestPolicy → Cert → Type 0
IsMetBy (policy.All rules) c = All (IsMet c) rules
IsMetBy (policy.Any rules) c = Any (IsMet c) rules
