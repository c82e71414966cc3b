-- The request of `consistency`: what its members mean.
use Rattle.std.specs.Prelude.{List, codes, Option, Some}
use Rattle.sig_base.specs.OptionSteps.{◌>>=◌}
use Rattle.sig_base.specs.declared.checker.AcceptedRow.{AcceptedRow}
use Rattle.sig_json.specs.Data.{Data}
use Rattle.sig_json.specs.Kinds.{hash_of}
use Rattle.sig_json.specs.Member.{optional, optional_list, required_hash, required_u64}
use Rattle.sig_request.specs.declared.consistency_request.ConsistencyRequest.{ConsistencyRequest}
use Rattle.sig_request.specs.Accepted.{with_rows}
use Rattle.sig_request.specs.HeadMembers.{head_of}
use Rattle.sig_request.specs.Row.{entries_of}

-- the members of a request beside its rows of `accepted`
unfoldable pub consistency_members : List AcceptedRow → Data → Option ConsistencyRequest
consistency_members accepted d = do
  old_size ← required_u64 (codes "oldSize") d
  old_root ← required_hash (codes "oldRoot") d
  tree_size ← required_u64 (codes "treeSize") d
  root_hash ← required_hash (codes "rootHash") d
  hashes ← optional_list hash_of (codes "hashes") d
  head ← head_of accepted d
  entries ← optional entries_of (codes "entries") d
  Some (record {
    old_size = old_size;
    old_root = old_root;
    tree_size = tree_size;
    root_hash = root_hash;
    hashes = hashes;
    head = head;
    entries = entries;
  })

-- what a request means
abbrev pub consistency_request : Data → Option ConsistencyRequest
consistency_request = with_rows consistency_members
