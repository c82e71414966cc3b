use Rattle.std.proofs.Common.{◌≡◌, ◌-◌, ◌<◌, map}
use Rattle.std.specs.List.{All}
use Rattle.sig_der.specs.Readers.{left}
use Rattle.sig_der.specs.FrontReaders.{many_at}
use Rattle.sig_der.proofs.ElementLists.{with_front}
use Rattle.sig_certificate.specs.declared.extensions.ExtensionPlaces.{ExtensionPlaces}
use Rattle.sig_certificate.specs.Cutting.{extension_at}
use Rattle.sig_certificate.specs.Places.{extension_of, AreSpans, Ascend}
use Rattle.sig_certificate.proofs.reading.read_extensions.Given as goal

-- what was found, and then what is left, is all; what was found ascends, and begins before what is left
abbrev pub invariant-loop-rest : goal.invariant-loop-rest
invariant-loop-rest l =
    record {
      buffer : l.rest.bytes.now ≡ l.reader.bytes.now;
      ends : l.rest.end ≡ l.reader.end;
      all : with_front (map (extension_of l.reader.bytes.now) l.found.items) (many_at extension_at (left l.rest))
          ≡ many_at extension_at (left l.reader);
      within : All (AreSpans l.reader.end) l.found.items;
      before : All (λ (e : ExtensionPlaces). e.whole.start < l.rest.at) l.found.items;
      ascend : Ascend l.found.items;
    }

abbrev pub decreases-loop-rest : goal.decreases-loop-rest
decreases-loop-rest l = l.rest.end - l.rest.at
