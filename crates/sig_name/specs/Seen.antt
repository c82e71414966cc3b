-- What contracts see of borrowed parts of a name.
use Rattle.std.specs.Prelude.{List, map}
use Rattle.sig_name.specs.Name.{Part}
use Rattle.sig_name.specs.declared.name.NamePart.{NamePart}

abbrev pub seen : NamePart → Part
seen part = (part.name.now, part.value.now)

abbrev pub all_seen : List NamePart → List Part
all_seen parts = map seen parts
