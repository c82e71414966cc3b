-- *Body of an entry*: what Rekor logs: the kind of the entry, its version, and what it says in a form of the kind.
use Rattle.std.specs.Prelude.{ℕ, List, Option, Some, codes}
use Rattle.std.specs.Result.{result_ok}
use Rattle.sig_base.specs.OptionSteps.{◌>>=◌}
use Rattle.sig_json.specs.Data.{Data}
use Rattle.sig_json.specs.Kinds.{bytes_of, text_of}
use Rattle.sig_json.specs.Member.{required, required_text}
use Rattle.sig_json.specs.Record.{record_in}
use Rattle.sig_json.specs.Tree.{document_tree}
use Rattle.sig_rekor_models.specs.EntryKind.{kind_name, kind_named}
use Rattle.sig_rekor_models.specs.EntryTree.{entry_json}
use Rattle.sig_rekor_models.specs.declared.body.Body.{Body as HeldBody}
use Rattle.sig_rekor_models.specs.declared.body.Body.TheVariants.{alpine, hashedrekord, helm, intoto, jar, rekord}
use Rattle.sig_rekor_models.specs.declared.body.Body.TheVariants.{rfc3161, rpm, tuf}
use Rattle.sig_rekor_models.specs.declared.body.BodyContent.{BodyContent}
use Rattle.sig_rekor_models.specs.declared.entry_kind.EntryKind.{EntryKind}
use Rattle.sig_rekor_models.specs.declared.entry_kind.EntryKind.TheVariants as kinds

pub record Body : Type 0 where
  pub kind : EntryKind
  pub api_version : List ℕ
  pub spec : Data

-- the same without the kind
pub record Content : Type 0 where
  pub api_version : List ℕ
  pub spec : Data

-- ---- the body that a value of the code is

abbrev pub kind_of : HeldBody → EntryKind
kind_of (alpine content) = kinds.Alpine
kind_of (hashedrekord content) = kinds.Hashedrekord
kind_of (helm content) = kinds.Helm
kind_of (intoto content) = kinds.Intoto
kind_of (jar content) = kinds.Jar
kind_of (rekord content) = kinds.Rekord
kind_of (rfc3161 content) = kinds.Rfc3161
kind_of (rpm content) = kinds.Rpm
kind_of (tuf content) = kinds.Tuf

abbrev pub body_content_of : HeldBody → BodyContent
body_content_of (alpine content) = content
body_content_of (hashedrekord content) = content
body_content_of (helm content) = content
body_content_of (intoto content) = content
body_content_of (jar content) = content
body_content_of (rekord content) = content
body_content_of (rfc3161 content) = content
body_content_of (rpm content) = content
body_content_of (tuf content) = content

abbrev pub seen_body_content : BodyContent → Content
seen_body_content content = record { api_version = content.api_version; spec = document_tree content.spec }

abbrev pub seen_body : HeldBody → Body
seen_body body = record {
  kind = kind_of body;
  api_version = (body_content_of body).api_version;
  spec = document_tree (body_content_of body).spec;
}

-- ---- a body as JSON

-- the object of `apiVersion`, `kind` and `spec`
abbrev pub body_tree : Body → Data
body_tree body = entry_json (kind_name body.kind) body.api_version body.spec

abbrev pub entry_kind_of : Data → Option EntryKind
entry_kind_of d = text_of d >>= kind_named

-- the three members are required, and any others are ignored
unfoldable pub body_of : Data → Option Body
body_of d = do
  kind ← required entry_kind_of (codes "kind") d
  api_version ← required_text (codes "apiVersion") d
  spec ← required Some (codes "spec") d
  Some (record { kind = kind; api_version = api_version; spec = spec })

-- the body that a text in base64 (RFC 4648 section 4) is, a JSON document of its own
unfoldable pub coded_body_of : Data → Option Body
coded_body_of d = bytes_of d >>= λ text. result_ok (record_in body_of text)
