-- The members of what is written: of the JSON of a body and of a `hashedrekord`.
use Rattle.std.proofs.Common.{refl}
use Rattle.sig_rekor_models.specs.EntryMembers.{BodiesAreWritten, HashedrekordsAreWritten, IsJsonOf, IsSpecOf}
use Rattle.sig_rekor_models.specs.EntryTree.{entry_json}
use Rattle.sig_rekor_models.specs.HashedrekordTree.{data_json, hash_json, public_key_json, signature_json, spec_json}
use Rattle.sig_rekor_models.specs.declared.hashedrekord.Spec.{Spec}
use Rattle.sig_json.specs.Data.{Data}
use Rattle.std.proofs.Common.{ℕ, List}

json_is : (kind version : List ℕ) (spec : Data) → IsJsonOf kind version spec (entry_json kind version spec)
unfolding entry_json
json_is kind version spec = record { names = refl; version = refl; kind = refl; spec = refl }

spec_is : (spec : Spec) → IsSpecOf spec (spec_json spec)
unfolding spec_json data_json hash_json signature_json
spec_is spec = record {
  names = refl;
  hashed = data_json spec.logged_data;
  has_hashed = refl;
  hashed_names = refl;
  hash = hash_json spec.logged_data.hash;
  has_hash = refl;
  hash_names = refl;
  algorithm = refl;
  value = refl;
  signed = signature_json spec.signature;
  has_signed = refl;
  signed_names = refl;
  content = refl;
  key = public_key_json spec.signature.public_key;
  has_key = refl;
  key_names = refl;
  key_content = refl;
}

pub bodies_are_written : BodiesAreWritten
bodies_are_written body = json_is _ body.api_version body.spec

pub hashedrekords_are_written : HashedrekordsAreWritten
hashedrekords_are_written entry = (json_is entry.kind entry.api_version (spec_json entry.spec), spec_is entry.spec)
