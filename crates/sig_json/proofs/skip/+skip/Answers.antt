use Rattle.std.proofs.Common.{◌≡◌, ◌∷◌, Some, None, ap, refl, arith}
use Rattle.json.proofs.Grammar.{value_is}
use Rattle.json.specs.Json.{value, after_end_array, read_key}
use Rattle.json.specs.Reads.{token_of}
use Rattle.serde_json.specs.Read.{of_json, converted}
use Rattle.sig_json.proofs.KeptMembers.{kept_key_fault, kept_member_fault, kept_passed, members_end}
use Rattle.sig_json.proofs.SkippedValues.{items_fault, items_end, number_none, number_passed, list_passed}
use Rattle.sig_json.proofs.SkippedValues.{object_passed}
use Rattle.sig_json.proofs.Tokens.{array_too_deep, object_too_deep}
use Rattle.sig_json.proofs.skip.+skip.Goals as goal

pub skip_items-returns-in_err-float-clause-err : goal.skip_items-returns-in_err-float-clause-err
skip_items-returns-in_err-float-clause-err t c refused =
    let l = c.items in
    let going : (after_end_array l.reader ≡ None) × (c.take_end_array.new.self ≡ l.reader) = grind arith in
    items_fault _ _ _ _ l.invariant going.0 (rw (← going.1) (c.skip_value.ensures.err (grind arith)))

pub skip_items-returns-clause-ok : goal.skip_items-returns-clause-ok
skip_items-returns-clause-ok t c =
    let end : after_end_array c.items.reader ≡ Some c.take_end_array.new.self = grind arith in
    items_end _ _ _ _ _ c.items.invariant end

pub skip_members-returns-in_err-name-clause-err : goal.skip_members-returns-in_err-name-clause-err
skip_members-returns-in_err-name-clause-err t c refused =
    kept_key_fault _ _ _ _ _ _ c.members.invariant c.in_err-name.ensures.value

pub skip_members-returns-in_err-float-clause-err : goal.skip_members-returns-in_err-float-clause-err
skip_members-returns-in_err-float-clause-err t c refused =
    let key : read_key c.members.reader ≡ Some (Some c.in-Some.name.now, c.next_key.new.self) = grind arith in
    kept_member_fault _ _ _ _ _ _ _ _ c.members.invariant key (c.skip_value.ensures.err (grind arith))

pub skip_members-members-preserved : goal.skip_members-members-preserved
skip_members-members-preserved t c =
    let key : read_key c.members.reader ≡ Some (Some c.in-Some.name.now, c.next_key.new.self) = grind arith in
    kept_passed c.in_ok-float.float _ _ _ _ _ _ _ _ _ c.in-Some.name.now c.members.invariant key
    c.in_ok-float.ensures.shorter refl c.in_ok-float.ensures.ok c.in_ok-add.ensures

pub skip_members-returns-clause-ok : goal.skip_members-returns-clause-ok
skip_members-returns-clause-ok t c =
    let end : read_key c.members.reader ≡ Some (None, c.next_key.new.self) = grind arith in
    members_end _ _ _ _ _ c.members.notes c.members.invariant end c.in_ok-tell.ensures

pub skip_after-returns-then-depth-eq0-clause-err : goal.skip_after-returns-then-depth-eq0-clause-err
skip_after-returns-then-depth-eq0-clause-err t c refused =
    array_too_deep _ _ _ (omega arith) (ap (λ k. token_of k ∷ c.args.reader.now) c.in-BeginArray.is)

pub skip_after-returns-then-depth-eq0-2-clause-err : goal.skip_after-returns-then-depth-eq0-2-clause-err
skip_after-returns-then-depth-eq0-2-clause-err t c refused =
    object_too_deep _ _ _ (omega arith) (ap (λ k. token_of k ∷ c.args.reader.now) c.in-BeginObject.is)

pub skip_after-returns-in-Number-clause-ok : goal.skip_after-returns-in-Number-clause-ok
skip_after-returns-in-Number-clause-ok t c =
    number_passed c.is_float.result _ _ _ _ (ap (λ k. token_of k ∷ c.args.reader.now) c.in-Number.is)
    c.is_float.ensures.ok

pub skip_after-returns-in-Number-clause-err : goal.skip_after-returns-in-Number-clause-err
skip_after-returns-in-Number-clause-err t c refused =
    number_none _ _ _ _ (ap (λ k. token_of k ∷ c.args.reader.now) c.in-Number.is) (c.is_float.ensures.err refused)

pub skip_after-returns-else-depth-eq0-clause-ok : goal.skip_after-returns-else-depth-eq0-clause-ok
skip_after-returns-else-depth-eq0-clause-ok t c =
    list_passed c.skip_items.result _ _ _ _ (omega arith)
    (ap (λ k. token_of k ∷ c.args.reader.now) c.in-BeginArray.is) c.skip_items.ensures.ok

pub skip_after-returns-else-depth-eq0-2-clause-ok : goal.skip_after-returns-else-depth-eq0-2-clause-ok
skip_after-returns-else-depth-eq0-2-clause-ok t c =
    object_passed c.skip_members.result _ _ _ _ (omega arith)
    (ap (λ k. token_of k ∷ c.args.reader.now) c.in-BeginObject.is) c.skip_members.ensures.ok

pub skip_after-returns-in-EndObject-clause-err : goal.skip_after-returns-in-EndObject-clause-err
skip_after-returns-in-EndObject-clause-err t c refused =
    let none : value c.args.depth (token_of c.args.token ∷ c.args.reader.now) ≡ None =
    rw (value_is c.args.depth (token_of c.args.token ∷ c.args.reader.now)) (grind arith) in
    ap (converted of_json) none
