use Rattle.std.proofs.Common.{◌≡◌, ◌∷◌, Some, None, ap, ◌∙◌, arith, rules}
use Rattle.json.proofs.Grammar.{value_is}
use Rattle.json.specs.Json.{value, after_end_array, read_key}
use Rattle.json.specs.Reads.{token_of}
use Rattle.serde_json.specs.Read.{of_json, converted}
use Rattle.sig_json.proofs.Tokens.{null_means, number_means, number_refused, text_means, array_too_deep}
use Rattle.sig_json.proofs.Tokens.{object_too_deep, list_refused, object_step, object_refused_at_key}
use Rattle.sig_json.proofs.Tokens.{object_refused_at_value, ordered_end}
use Rattle.sig_json.proofs.read.+read.Goals as goal

pub read_items-returns-in_err-item-clause-err : goal.read_items-returns-in_err-item-clause-err
read_items-returns-in_err-item-clause-err t c refused =
    let l = c.items in
    let going : (after_end_array l.reader ≡ None) × (c.take_end_array.new.self ≡ l.reader) = grind arith in
    list_refused _ _ _ _ l.invariant going.0 (rw (← going.1) (c.read_value.ensures.err (grind arith)))

pub read_all_members-returns-in_err-name-clause-err : goal.read_all_members-returns-in_err-name-clause-err
read_all_members-returns-in_err-name-clause-err t c refused =
    object_refused_at_key _ _ _ _ c.members.invariant.0 c.in_err-name.ensures.value

pub read_all_members-returns-in_err-value-clause-err : goal.read_all_members-returns-in_err-value-clause-err
read_all_members-returns-in_err-value-clause-err t c refused =
    let l = c.members in
    let key : read_key l.reader ≡ Some (Some c.in-Some.name.now, c.next_key.new.self) = grind arith in
    object_refused_at_value _ _ _ _ _ _ l.invariant.0 key (c.read_value.ensures.err (grind arith))

pub read_all_members-members-preserved : goal.read_all_members-members-preserved
read_all_members-members-preserved t c =
    let l = c.members in
    let key : read_key l.reader ≡ Some (Some c.in-Some.name.now, c.next_key.new.self) = grind arith in
    let done = c.in_ok-value.ensures in (
      object_step _ _ _ _ _ l.found.items c.add_member.new.members.items c.in-Some.name.now c.borrow-key.result
          c.in_ok-value.value l.invariant.0 key (search rules) done.ok done.shorter done.named
          (search rules) (search rules),
      search rules,
    )

pub read_all_members-returns-clause-ok : goal.read_all_members-returns-clause-ok
read_all_members-returns-clause-ok t c =
    let l = c.members in
    let end : read_key l.reader ≡ Some (None, c.next_key.new.self) = grind arith in
    ordered_end _ _ _ _ _ _ l.invariant.0 end (search rules)

pub read_value-returns-then-depth-eq0-clause-err : goal.read_value-returns-then-depth-eq0-clause-err
read_value-returns-then-depth-eq0-clause-err t c never =
    let first : c.args.reader.now ≡ token_of c.in-Some.token ∷ c.next.new.self = c.in-Some.ensures.value in
    array_too_deep _ _ _ (omega arith) (first ∙ ap (λ k. token_of k ∷ c.next.new.self) c.in-BeginArray.is)

pub read_value-returns-then-depth-eq0-2-clause-err : goal.read_value-returns-then-depth-eq0-2-clause-err
read_value-returns-then-depth-eq0-2-clause-err t c never =
    let first : c.args.reader.now ≡ token_of c.in-Some.token ∷ c.next.new.self = c.in-Some.ensures.value in
    object_too_deep _ _ _ (omega arith) (first ∙ ap (λ k. token_of k ∷ c.next.new.self) c.in-BeginObject.is)

pub read_value-returns-in-Null-clause-ok : goal.read_value-returns-in-Null-clause-ok
read_value-returns-in-Null-clause-ok t c =
    let first : c.args.reader.now ≡ token_of c.in-Some.token ∷ c.next.new.self = c.in-Some.ensures.value in
    null_means _ _ _ (first ∙ ap (λ k. token_of k ∷ c.next.new.self) c.in-Null.is)

pub read_value-returns-in-Some-number_in-clause-ok : goal.read_value-returns-in-Some-number_in-clause-ok
read_value-returns-in-Some-number_in-clause-ok t c =
    let first : c.args.reader.now ≡ token_of c.in-Some.token ∷ c.next.new.self = c.in-Some.ensures.value in
    number_means _ _ _ _ _ (first ∙ ap (λ k. token_of k ∷ c.next.new.self) c.in-Number.is) c.in-Some-number_in.ensures

pub read_value-returns-in-None-clause-err : goal.read_value-returns-in-None-clause-err
read_value-returns-in-None-clause-err t c refused =
    let first : c.args.reader.now ≡ token_of c.in-Some.token ∷ c.next.new.self = c.in-Some.ensures.value in
    number_refused _ _ _ _ (first ∙ ap (λ k. token_of k ∷ c.next.new.self) c.in-Number.is) c.in-None.ensures

pub read_value-returns-in-String-clause-ok : goal.read_value-returns-in-String-clause-ok
read_value-returns-in-String-clause-ok t c =
    let first : c.args.reader.now ≡ token_of c.in-Some.token ∷ c.next.new.self = c.in-Some.ensures.value in
    text_means _ _ _ _ _ (first ∙ ap (λ k. token_of k ∷ c.next.new.self) c.in-String.is) (search rules)

pub read_value-returns-in-EndObject-clause-err : goal.read_value-returns-in-EndObject-clause-err
read_value-returns-in-EndObject-clause-err t c refused =
    let first : c.args.reader.now ≡ token_of c.in-Some.token ∷ c.next.new.self = c.in-Some.ensures.value in
    let none : value c.args.depth c.args.reader.now ≡ None =
    rw (value_is c.args.depth c.args.reader.now, first) (grind arith) in
    ap (converted of_json) none
