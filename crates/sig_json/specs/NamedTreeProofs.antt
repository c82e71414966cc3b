-- A tree is named in one way at most, as a ghost field wants of a fact.
use Rattle.std.proofs.Props.{props}
use mathlib.Core.HLevel.{×_prop, Unit-prop}
use Rattle.serde_json.specs.Data.{Data, null, boolean, number, string, array, object, Items, no_items, item, Members}
use Rattle.serde_json.specs.Data.{no_members, member}
use Rattle.sig_json.specs.NamedTree.{NamesAscend, IsNamedTree, AreNamed, HasNamedValues}

pub NamesAscend-prop : (ms : Members) → IsProp (NamesAscend ms)
NamesAscend-prop ms = hlevel props

mutual
  pub IsNamedTree-prop : (d : Data) → IsProp (IsNamedTree d)
  IsNamedTree-prop null = Unit-prop
  IsNamedTree-prop (boolean b) = Unit-prop
  IsNamedTree-prop (number n) = Unit-prop
  IsNamedTree-prop (string text) = Unit-prop
  IsNamedTree-prop (array ds) = AreNamed-prop ds
  IsNamedTree-prop (object ms) = ×_prop (NamesAscend-prop ms) (HasNamedValues-prop ms)

  pub AreNamed-prop : (ds : Items) → IsProp (AreNamed ds)
  AreNamed-prop no_items = Unit-prop
  AreNamed-prop (item d ds) = ×_prop (IsNamedTree-prop d) (AreNamed-prop ds)

  pub HasNamedValues-prop : (ms : Members) → IsProp (HasNamedValues ms)
  HasNamedValues-prop no_members = Unit-prop
  HasNamedValues-prop (member name d ms) = ×_prop (IsNamedTree-prop d) (HasNamedValues-prop ms)
