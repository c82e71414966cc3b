use Rattle.std.proofs.Common.{◌≡◌, Some, None, arith, rules}
use Rattle.json.specs.Json.{read_key}
use Rattle.sig_json.proofs.KeptMembers.{kept_taken, kept_key_fault, kept_member_fault, kept_end}
use Rattle.sig_json.proofs.kept.read_kept_members.Goals as goal

pub members-preserved : goal.members-preserved
members-preserved c =
    let key : read_key c.members.reader ≡ Some (Some c.in-Some.name.now, c.next_key.new.self) = grind arith in
    let taken = c.in_ok-take_value.ensures in
    kept_taken _ _ _ _ _ _ _ _ _ _ _ c.members.invariant key taken.ok taken.shorter

pub returns-in_err-name-clause-err : goal.returns-in_err-name-clause-err
returns-in_err-name-clause-err c refused =
    kept_key_fault _ _ _ _ _ _ c.members.invariant c.in_err-name.ensures.value

pub returns-in_err-take_value-clause-err : goal.returns-in_err-take_value-clause-err
returns-in_err-take_value-clause-err c refused =
    let key : read_key c.members.reader ≡ Some (Some c.in-Some.name.now, c.next_key.new.self) = grind arith in
    kept_member_fault _ _ _ _ _ _ _ _ c.members.invariant key (c.take_value.ensures.err (grind arith))

pub returns-clause-ok : goal.returns-clause-ok
returns-clause-ok c =
    let end : read_key c.members.reader ≡ Some (None, c.next_key.new.self) = grind arith in
    kept_end _ _ _ _ _ _ _ _ _ c.members.invariant end (search rules) c.in_ok-float.ensures
