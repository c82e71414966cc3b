-- Nothing is wrong with a text if and only if it is a request.
use Rattle.std.proofs.Common.{◌≡◌, ◌↔◌, ◌<◌, ◌≤◌, ℕ, List, length, Bool, true, false, if◌then◌else◌, nat_lt, Option, Some}
use Rattle.std.proofs.Common.{None, option_map, Result, Ok, Err, refl, sym, ap, ◌∙◌, arith, ltb-false, ltb-true}
use Rattle.std.specs.Prelude.{IfOk, ⊤}
use Rattle.sig_json.proofs.Records.{record_in-read}
use Rattle.sig_json.specs.Data.{Data}
use Rattle.sig_json.specs.Record.{record_in}
use Rattle.sig_json.specs.declared.error.JsonError.{JsonError}
use Rattle.sig_request.proofs.RequestTexts.{read-request}
use Rattle.sig_request.specs.Limit.{most_bytes}
use Rattle.sig_request_fault.specs.RequestFault.{IsRequest, request_fault_in}
use Rattle.sig_request_fault.specs.declared.fault.RequestFault.{RequestFault}
use Rattle.sig_request_fault.specs.declared.fault.RequestFault.TheVariants.{TooLong, Document}
use Rattle.sig_table.proofs.TextFaults.{beside_reader}
use Rattle.sig_table.specs.DocumentFault.{error_alone, error_of, fault_in}
use Rattle.sig_table.specs.Table.{Table}
use Rattle.sig_table.specs.TableOf.{IsTableOf}
use Rattle.sig_table.specs.declared.fault.DocumentFault.{DocumentFault}
use Rattle.sig_table.specs.declared.fault.DocumentFault.TheVariants.{NotJson, Float, Member}

no_fault : (found : Option DocumentFault) → error_of found ≡ Ok tt → found ≡ None
no_fault None same = refl
no_fault (Some NotJson) same = cc
no_fault (Some Float) same = cc
no_fault (Some (Member fault)) same = cc

no_document : (found : Option DocumentFault) → option_map Document found ≡ None → found ≡ None
no_document None none = refl
no_document (Some fault) none = cc

module _ {A : Type 0} (meaning : Data → Option A) (t : Table) (is : IsTableOf meaning t) (text : List ℕ) where
  beside : error_of (fault_in t text) ≡ error_alone (record_in meaning text)
  beside = let whole : Result (Option DocumentFault) ⊤ = Ok (fault_in t text) in beside_reader meaning t is text whole refl

  -- a record that is read is a request, where the text is short enough
  read_is : (read : Result A JsonError) → record_in meaning text ≡ read → Ok tt ≡ error_alone read
      → length text ≤ most_bytes → IsRequest meaning text
  read_is (Ok request) is same short = (request, read-request meaning text request short is)
  read_is (Err error) is same short = cc

  request_short : IsRequest meaning text → length text ≤ most_bytes
  request_short request = let is = request.1 in is.short

  not_long : IsRequest meaning text → most_bytes < length text → ⊥
  not_long request long = let short = request_short request in omega (arith, short, long)

  request_sound : IsRequest meaning text → fault_in t text ≡ None
  request_sound request =
      let is = request.1 in
      let read : record_in meaning text ≡ Ok request.0 =
      record_in-read meaning text is.tree request.0 is.document is.members in
      no_fault (fault_in t text) (beside ∙ ap error_alone read)

  by_length : (long : Bool) → nat_lt most_bytes (length text) ≡ long
      → ((if long then Some TooLong else option_map Document (fault_in t text)) ≡ None) ↔ IsRequest meaning text
  by_length true long =
      ((λ e. cc), (λ request. absurd (not_long request (ltb-true most_bytes (length text) long))))
  by_length false short = (
    (λ e. read_is (record_in meaning text) refl
        (ap error_of (sym (no_document (fault_in t text) e)) ∙ beside) (ltb-false most_bytes (length text) short)),
    (λ request. rw (request_sound request) refl),
  )

  request_if_none : (request_fault_in t text ≡ None) ↔ IsRequest meaning text
  unfolding request_fault_in
  request_if_none = by_length (nat_lt most_bytes (length text)) refl

  pub none_if_request : {E : Type 0} → (result : Result (Option RequestFault) E)
      → IfOk result (λ found. found ≡ request_fault_in t text)
      → IfOk result (λ found. (found ≡ None) ↔ IsRequest meaning text)
  none_if_request (Ok found) same = rw same request_if_none
  none_if_request (Err error) same = tt
