-- The request of `log`: what its members mean.
use Rattle.std.specs.Prelude.{List, codes, Option, Some, None}
use Rattle.sig_base.specs.OptionSteps.{◌>>=◌}
use Rattle.sig_base.specs.declared.checker.AcceptedRow.{AcceptedRow}
use Rattle.sig_json.specs.Data.{Data}
use Rattle.sig_json.specs.Kinds.{hash_of}
use Rattle.sig_json.specs.Member.{optional, optional_list, required_bytes, required_hash, required_i64, required_u64}
use Rattle.sig_request.specs.declared.request.LogRequest.{LogRequest}
use Rattle.sig_request.specs.Accepted.{with_rows}
use Rattle.sig_request.specs.HeadMembers.{head_of}
use Rattle.sig_request.specs.Row.{entries_of}

-- the members of a request beside its rows of `accepted`
unfoldable pub log_members : List AcceptedRow → Data → Option LogRequest
log_members accepted d = do
  entry ← required_bytes (codes "entry") d
  log_index ← required_i64 (codes "logIndex") d
  tree_size ← required_u64 (codes "treeSize") d
  root_hash ← required_hash (codes "rootHash") d
  hashes ← optional_list hash_of (codes "hashes") d
  head ← head_of accepted d
  entries ← optional entries_of (codes "entries") d
  Some (record {
    entry = entry;
    proof = record {
      log_index = log_index;
      root_hash = root_hash;
      tree_size = tree_size;
      hashes = hashes;
      checkpoint = None;
    };
    head = head;
    entries = entries;
  })

-- what a request means
abbrev pub log_request : Data → Option LogRequest
log_request = with_rows log_members
