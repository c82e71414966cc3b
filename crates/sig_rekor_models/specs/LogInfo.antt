-- *Tree head from Rekor*: what Rekor's API says of a log, as the tree head that it is.
use Rattle.std.specs.Prelude.{Result, Ok}
use Rattle.sig_base.specs.ResultSteps.{◌>>=◌}
use Rattle.sig_base.specs.declared.error.SigstoreError.{SigstoreError}
use Rattle.sig_base.specs.declared.unexpected.UnexpectedKind.TheVariants.{RootLength}
use Rattle.sig_rekor.specs.HashText.{hash_in}
use Rattle.sig_rekor_models.specs.declared.log_info.LogInfo.{LogInfo}
use Rattle.sig_rekor_models.specs.declared.log_info.RekorLogInfo.{RekorLogInfo}

-- the root hash is a text in hexadecimal, and the other parts are as they are
unfoldable pub log_info_from_rekor : RekorLogInfo → Result LogInfo SigstoreError
log_info_from_rekor raw = do
  root ← hash_in RootLength raw.root_hash
  Ok (record {
    root_hash = root;
    tree_size = raw.tree_size;
    signed_tree_head = raw.signed_tree_head;
    tree_id = raw.tree_id;
    inactive_shards = raw.inactive_shards;
  })
