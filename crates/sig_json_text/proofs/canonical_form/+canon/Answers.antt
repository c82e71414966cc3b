use Rattle.std.proofs.Common.{ℕ, List, Option, subst, string_bytes}
use Rattle.sig_json_text.proofs.MemberTexts.{object_meant}
use Rattle.sig_json.proofs.NamedTrees.{names_differ}
use Rattle.sig_json_text.specs.Writes.{WritesPart}
use Rattle.sig_json_text.proofs.canonical_form.+canon.Goals as goal

pub write_object-returns : goal.write_object-returns
write_object-returns t c =
    let P : Option (List ℕ) → Type 0 =
    WritesPart (string_bytes c.args.out.now) c.write_members.result (string_bytes c.write_members.new.out) in
    subst P (object_meant _ _ (names_differ _ c.requires.0) c.in_ok-sorted.ensures) c.write_members.ensures
