use Rattle.std.proofs.Common.{◌≡◌, Some, None, arith, rules}
use Rattle.json.specs.Json.{read_key}
use Rattle.sig_json.proofs.StreamedLists.{parts_taken, parts_list, parts_key_fault, parts_member_fault, parts_end}
use Rattle.sig_json.proofs.stream.stream_members.Goals as goal

pub members-preserved : goal.members-preserved
members-preserved g c =
    let key : read_key c.members.reader ≡ Some (Some c.in-Some.name.now, c.next_key.new.self) = grind arith in
    let taken = c.in_ok-take_value.ensures in
    parts_taken _ _ _ _ _ _ _ _ c.in-Some.name.now key taken.shorter _ _ _ c.members.invariant _ _ (grind arith) taken.ok

pub returns-clause-ok : goal.returns-clause-ok
returns-clause-ok g c =
    let l = c.members in
    let end : read_key l.reader ≡ Some (None, c.next_key.new.self) = grind arith in
    parts_end _ _ _ _ _ _ _ _ _ l.invariant _ _ _ (grind arith) end (search rules) c.in_ok-float.ensures

pub members-preserved-then-eq : goal.members-preserved-then-eq
members-preserved-then-eq g c =
    let key : read_key c.members.reader ≡ Some (Some c.in-Some.name.now, c.next_key.new.self) = grind arith in
    let listed = c.in_ok-listed.ensures in
    parts_list _ _ _ _ _ _ _ _ c.in-Some.name.now key listed.shorter _ _ _ c.members.invariant c.in_ok-listed.float _ _
    (grind arith) (grind arith) listed.ok c.in_ok-add.ensures

pub returns-in_err-name-clause-err : goal.returns-in_err-name-clause-err
returns-in_err-name-clause-err g c refused =
    parts_key_fault _ _ _ _ _ _ _ _ _ c.members.invariant c.in_err-name.ensures.value

pub returns-in_err-listed-clause-err : goal.returns-in_err-listed-clause-err
returns-in_err-listed-clause-err g c refused =
    let key : read_key c.members.reader ≡ Some (Some c.in-Some.name.now, c.next_key.new.self) = grind arith in
    parts_member_fault _ _ _ _ _ _ _ _ _ c.members.invariant _ c.in-Some.name.now key
    (c.stream_list.ensures.err (grind arith))

pub returns-in_err-take_value-clause-err : goal.returns-in_err-take_value-clause-err
returns-in_err-take_value-clause-err g c refused =
    let key : read_key c.members.reader ≡ Some (Some c.in-Some.name.now, c.next_key.new.self) = grind arith in
    parts_member_fault _ _ _ _ _ _ _ _ _ c.members.invariant _ c.in-Some.name.now key
    (c.take_value.ensures.err (grind arith))
