-- *Hashedrekord tree*: the JSON of an entry of kind `hashedrekord` (Rekor's hashedrekord schema, version 0.0.1), object
-- by object; the members of each come in the byte order of their names.
use Rattle.std.specs.Prelude.{ℕ, List, codes}
use Rattle.sig_json.specs.Data.{Data, object, string, member, no_members}
use Rattle.sig_rekor_models.specs.EntryTree.{entry_json}
use Rattle.sig_rekor_models.specs.PublicKey.{key_text}
use Rattle.sig_rekor_models.specs.declared.hashedrekord.AlgorithmKind.{AlgorithmKind}
use Rattle.sig_rekor_models.specs.declared.hashedrekord.AlgorithmKind.TheVariants.{sha256, sha1}
use Rattle.sig_rekor_models.specs.declared.hashedrekord.Data.{Data as LoggedData}
use Rattle.sig_rekor_models.specs.declared.hashedrekord.Hash.{Hash}
use Rattle.sig_rekor_models.specs.declared.hashedrekord.Hashedrekord.{Hashedrekord}
use Rattle.sig_rekor_models.specs.declared.hashedrekord.Signature.{Signature}
use Rattle.sig_rekor_models.specs.declared.hashedrekord.Spec.{Spec}
use Rattle.sig_rekor_models.specs.declared.public_key.PublicKey.{PublicKey}

abbrev pub algorithm_name : AlgorithmKind → List ℕ
algorithm_name sha256 = codes "sha256"
algorithm_name sha1 = codes "sha1"

unfoldable pub hash_json : Hash → Data
hash_json hash =
    object (member (codes "algorithm") (string (algorithm_name hash.algorithm))
    (member (codes "value") (string hash.value) no_members))

unfoldable pub data_json : LoggedData → Data
data_json logged = object (member (codes "hash") (hash_json logged.hash) no_members)

abbrev pub public_key_json : PublicKey → Data
public_key_json key = object (member (codes "content") (string (key_text key)) no_members)

unfoldable pub signature_json : Signature → Data
signature_json signature =
    object (member (codes "content") (string signature.content)
    (member (codes "publicKey") (public_key_json signature.public_key) no_members))

unfoldable pub spec_json : Spec → Data
spec_json spec =
    object (member (codes "data") (data_json spec.logged_data)
    (member (codes "signature") (signature_json spec.signature) no_members))

abbrev pub hashedrekord_json : Hashedrekord → Data
hashedrekord_json entry = entry_json entry.kind entry.api_version (spec_json entry.spec)
