-- For private clauses: the part of an object of which only one member is there is read back.
use Rattle.std.specs.Prelude.{Option, Some, None, ⊤}
use Rattle.sig_json.specs.CommonRecord.{certificate_of, chain_of}
use Rattle.sig_bundle.specs.BundleRecord.{envelope_of, message_signature_of}
use Rattle.sig_bundle.specs.BundleTree.{certificate_tree, chain_tree, envelope_tree, message_tree}
use Rattle.sig_json.specs.Writing.{IsReadAs}
use Rattle.sig_bundle.specs.declared.bundle.Content.{Content}
use Rattle.sig_bundle.specs.declared.bundle.Content.TheVariants as content
use Rattle.sig_bundle.specs.declared.material.MaterialContent.{MaterialContent}
use Rattle.sig_bundle.specs.declared.material.MaterialContent.TheVariants as material

-- the material's content is read back
abbrev pub MaterialContentIsRead : Option MaterialContent → Type 0
MaterialContentIsRead None = ⊤
MaterialContentIsRead (Some (material.Certificate der)) = IsReadAs certificate_of (certificate_tree der) der
MaterialContentIsRead (Some (material.X509CertificateChain chain)) = IsReadAs chain_of (chain_tree chain) chain
MaterialContentIsRead (Some material.PublicKey) = ⊤

-- the content is read back
abbrev pub ContentIsRead : Option Content → Type 0
ContentIsRead None = ⊤
ContentIsRead (Some (content.MessageSignature m)) = IsReadAs message_signature_of (message_tree m) m
ContentIsRead (Some (content.DsseEnvelope e)) = IsReadAs envelope_of (envelope_tree e) e
