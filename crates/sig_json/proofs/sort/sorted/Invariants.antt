-- The members of the keys that are left are to go in, and are still there.
use Rattle.std.proofs.Common.{◌≡◌, ◌≤◌, ◌<◌, ℕ, drop, length, get_or}
use Rattle.sig_json.specs.Gathered.{Entry, put_each, gathered, InOrder}
use Rattle.sig_json.specs.Sorting.{entries_at}
use Rattle.sig_json.specs.View.{members_view}
use Rattle.sig_json.specs.declared.sort.Key.{Key}
use Rattle.sig_json.proofs.sort.sorted.Given as goal

abbrev pub invariant-keys : goal.invariant-keys
invariant-keys l =
    ((d : Entry) → put_each (entries_at d l.fn.members.items (drop l.key-index l.key-items)) (members_view l.ordered.items)
    ≡ gathered l.fn.members.items)
    × InOrder l.ordered.items
    × (length l.members.items ≡ length l.fn.members.items)
    × ((i : ℕ) (key : Key) (d : Entry) → l.key-index ≤ i → i < length l.key-items
    → get_or l.members.items (get_or l.key-items i key).index d
    ≡ get_or l.fn.members.items (get_or l.key-items i key).index d)
