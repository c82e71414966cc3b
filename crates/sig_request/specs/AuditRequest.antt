-- The request of `audit`: what its members mean.
use Rattle.std.specs.Prelude.{ℕ, ◌<◌, ◌≤◌, Bool, ◌&&◌, List, codes, length, nat_lt, if◌then◌else◌, Option, Some, None}
use Rattle.std.specs.List.{AllByRecursion, list_all}
use Rattle.sig_audit.specs.declared.heads.Watch.{Watch}
use Rattle.sig_base.specs.OptionSteps.{◌>>=◌}
use Rattle.sig_base.specs.declared.checker.AcceptedRow.{AcceptedRow}
use Rattle.sig_json.specs.Data.{Data}
use Rattle.sig_json.specs.Kinds.{hash_of}
use Rattle.sig_json.specs.Member.{optional, optional_list, required, required_bytes, required_list, required_text}
use Rattle.sig_json.specs.Member.{required_u64}
use Rattle.sig_request.specs.declared.audit_request.AuditRequest.{AuditRequest}
use Rattle.sig_request.specs.declared.audit_request.HeadText.{HeadText}
use Rattle.sig_request.specs.Accepted.{with_rows}
use Rattle.sig_request.specs.Row.{entries_of, scheme_kind}

-- a head: its checkpoint, and the consistency proof from the head before it
unfoldable pub head_text_of : Data → Option HeadText
head_text_of d = do
  checkpoint ← required_text (codes "checkpoint") d
  hashes ← optional_list hash_of (codes "hashes") d
  Some (record { checkpoint = checkpoint; hashes = hashes })

-- a watched entry: the index of its head, its own index in the head's tree, its audit path, and its bytes
unfoldable pub watch_of : Data → Option Watch
watch_of d = do
  head ← required_u64 (codes "head") d
  index ← required_u64 (codes "index") d
  hashes ← optional_list hash_of (codes "hashes") d
  entry ← required_bytes (codes "entry") d
  Some (record { head = head; index = index; hashes = hashes; entry = entry })

-- from 1 to 256 heads, at most 4,096 watched entries, each of these under one of the heads
pub record AreWithin (heads : List HeadText) (watched : List Watch) : Type 0 where
  pub some : 1 ≤ length heads
  pub most : length heads ≤ 256
  pub few : length watched ≤ 4096
  pub under : AllByRecursion (λ (watch : Watch). watch.head < length heads) watched

-- each watched entry is under one of this number of heads
abbrev pub are_under : ℕ → List Watch → Bool
are_under count watched = list_all (λ (watch : Watch). nat_lt watch.head count) watched

-- the same as a test
abbrev pub is_within : List HeadText → List Watch → Bool
is_within heads watched =
    nat_lt 0 (length heads) && (nat_lt (length heads) 257 && (nat_lt (length watched) 4097
    && are_under (length heads) watched))

-- the request, if it has as many heads and watched entries as it may, each of these under one of the heads
abbrev pub kept_within : AuditRequest → Option AuditRequest
kept_within request = if is_within request.heads request.watched then Some request else None

-- the members of a request beside its rows of `accepted`
unfoldable pub audit_members : List AcceptedRow → Data → Option AuditRequest
audit_members accepted d = do
  heads ← required_list head_text_of (codes "heads") d
  watched ← optional_list watch_of (codes "watched") d
  scheme ← required scheme_kind (codes "scheme") d
  key ← required_bytes (codes "key") d
  entries ← optional entries_of (codes "entries") d
  kept_within (record {
    heads = heads;
    watched = watched;
    scheme = scheme;
    key = key;
    accepted = accepted;
    entries = entries;
  })

-- what a request means
abbrev pub audit_request : Data → Option AuditRequest
audit_request = with_rows audit_members
