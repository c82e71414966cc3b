-- The origins of a request, added one after another.
use Rattle.std.proofs.Common.{◌≡◌, ◌<◌, ℕ, List, length, take, get_or, refl}
use Rattle.std.proofs.lemmas.Option.{slice_get_read}
use Rattle.sig_explain_witness.specs.Start.{StopsAt}
use Rattle.sig_witness_command.proofs.Starts.{added-done, added-more, added-none}
use Rattle.sig_witness_command.specs.Start.{AreAdded, IsUnaddable, Logs}
use Rattle.sig_witness_command.specs.declared.request.OriginKey.{OriginKey}

pub stops-at : (logs next : Logs) (all : List OriginKey) (place : ℕ) (one : OriginKey) → place < length all
    → one ≡ get_or all place one → AreAdded logs (take place all) next → IsUnaddable next one → StopsAt logs all place
stops-at logs next all place one below is so_far stops =
    record {
      next = next;
      added = so_far;
      one = one;
      here = slice_get_read all (length all) place one refl below is;
      stops = stops;
    }

pub ruleset adding = (added-none, added-more, added-done, stops-at)
