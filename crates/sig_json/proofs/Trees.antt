-- A tree beside its data, level by level.
use Rattle.std.proofs.Common.{◌≡◌, Vec, Global, Bool, rules}
use Rattle.std.specs.Cow.{cow_str_bytes}
use Rattle.serde_json.specs.Data.{null, boolean, number, string, array, object}
use Rattle.serde_json.specs.View.{number_view}
use Rattle.serde_json.specs.declared.number.Number.{Number}
use Rattle.sig_json.specs.View.{Words, view, items_view, members_view}
use Rattle.sig_json.specs.declared.tree.Tree.{Tree, Null, Bool as Truth, Number as Numeral, Text, Array, Object}
use Rattle.sig_json.specs.declared.tree.Tree.{the_lemmas}
use Rattle.sig_json.specs.Gathered.{Entry}

pub view-Array : (v : Vec Tree Global) → view (Array v) ≡ array (items_view v.items)
view-Array v = search (rules, the_lemmas)

pub view-Object : (v : Vec Entry Global) → view (Object v) ≡ object (members_view v.items)
view-Object v = search (rules, the_lemmas)

pub view-Null : view Null ≡ null
view-Null = search (rules, the_lemmas)

pub view-Bool : (b : Bool) → view (Truth b) ≡ boolean b
view-Bool b = search (rules, the_lemmas)

pub view-Number : (n : Number) → view (Numeral n) ≡ number (number_view n)
view-Number n = search (rules, the_lemmas)

pub view-Text : (text : Words) → view (Text text) ≡ string (cow_str_bytes text)
view-Text text = search (rules, the_lemmas)

pub ruleset trees = (view-Null, view-Bool, view-Number, view-Text, view-Array, view-Object)
