-- The links of the chain of trust, in their order, and their names.
use Rattle.std.specs.Prelude.{ℕ, List, codes}
use Rattle.sig_verify.specs.declared.link.Link.{Link}
use Rattle.sig_verify.specs.declared.link.Link.TheVariants.{Request, RootJson, BundleJson, Fulcio, Anchor, Ctfe}
use Rattle.sig_verify.specs.declared.link.Link.TheVariants.{Material, Certificate, Leaf, RootInChain, Content, Envelope}
use Rattle.sig_verify.specs.declared.link.Link.TheVariants.{Entry, Profile, Issuance, Issuer, Sct, Policy, Key}
use Rattle.sig_verify.specs.declared.link.Link.TheVariants.{Signature, Subject, Body, Time, LogKey, Promise, Proof}
use Rattle.sig_verify.specs.declared.link.Link.TheVariants.{Checkpoint, NoteKey, NoteMatch, Inclusion, Consistency}

abbrev pub link_name : Link → List ℕ
link_name Request = codes "request"
link_name RootJson = codes "root-json"
link_name BundleJson = codes "bundle-json"
link_name Fulcio = codes "fulcio"
link_name Anchor = codes "anchor"
link_name Ctfe = codes "ctfe"
link_name Material = codes "material"
link_name Certificate = codes "certificate"
link_name Leaf = codes "leaf"
link_name RootInChain = codes "root-in-chain"
link_name Content = codes "content"
link_name Envelope = codes "envelope"
link_name Entry = codes "entry"
link_name Profile = codes "profile"
link_name Issuance = codes "issuance"
link_name Issuer = codes "issuer"
link_name Sct = codes "sct"
link_name Policy = codes "policy"
link_name Key = codes "key"
link_name Signature = codes "signature"
link_name Subject = codes "subject"
link_name Body = codes "body"
link_name Time = codes "time"
link_name LogKey = codes "log-key"
link_name Promise = codes "promise"
link_name Proof = codes "proof"
link_name Checkpoint = codes "checkpoint"
link_name NoteKey = codes "note-key"
link_name NoteMatch = codes "note-match"
link_name Inclusion = codes "inclusion"
link_name Consistency = codes "consistency"
