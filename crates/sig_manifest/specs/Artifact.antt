-- *Artifact*: what an artifact of a manifest means.
use Rattle.std.specs.Prelude.{ℕ, List, codes, length, Bool, ◌&&◌, nat_lt, if◌then◌else◌, Option, Some, None}
use Rattle.std.specs.List.{list_all}
use Rattle.sig_base.specs.OptionSteps.{◌>>=◌}
use Rattle.sig_dsse.specs.declared.artifact_digest.ArtifactDigest.{ArtifactDigest}
use Rattle.sig_json.specs.Data.{Data}
use Rattle.sig_json.specs.Kinds.{text_of}
use Rattle.sig_json.specs.Member.{optional_list, required, required_text}
use Rattle.sig_manifest.specs.Formula.{Formula, rule_view}
use Rattle.sig_manifest.specs.RuleTable.{rule_of}
use Rattle.sig_manifest.specs.declared.artifact.Artifact.{Artifact}
use Rattle.sig_request.specs.DigestText.{digest_kind}

-- an artifact as contracts see it
pub record Asked : Type 0 where
  pub name : List ℕ
  pub digest : ArtifactDigest
  pub root : List ℕ
  pub policy : List ℕ
  pub bundles : List (List ℕ)
  pub rule : Formula

abbrev pub artifact_view : Artifact → Asked
artifact_view x =
    record {
      name = x.name;
      digest = x.digest;
      root = x.root;
      policy = x.policy;
      bundles = x.bundles;
      rule = rule_view x.rule;
    }

-- a character of ASCII from `!` to `~`
abbrev pub is_graphic : ℕ → Bool
is_graphic byte = nat_lt 32 byte && nat_lt byte 127

abbrev pub are_graphic : List ℕ → Bool
are_graphic bytes = list_all is_graphic bytes

-- 1 to 256 of them
abbrev pub is_name : List ℕ → Bool
is_name text = nat_lt 0 (length text) && (nat_lt (length text) 257 && are_graphic text)

abbrev pub name_in : List ℕ → Option (List ℕ)
name_in text = if is_name text then Some text else None

unfoldable pub name_kind : Data → Option (List ℕ)
name_kind d = text_of d >>= name_in

unfoldable pub artifact_of : Data → Option Asked
artifact_of d = do
  name ← required name_kind (codes "name") d
  digest ← required digest_kind (codes "digest") d
  root ← required_text (codes "root") d
  policy ← required_text (codes "policy") d
  bundles ← optional_list text_of (codes "bundles") d
  rule ← required rule_of (codes "rule") d
  Some (record { name = name; digest = digest; root = root; policy = policy; bundles = bundles; rule = rule })
