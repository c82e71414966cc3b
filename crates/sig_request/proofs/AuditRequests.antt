-- The lists of a request of `audit` are as long as they may be, and each watched entry is under one of the heads.
use Rattle.std.proofs.Common.{◌≡◌, ◌<◌, ◌&&◌, ℕ, List, [], ◌∷◌, length, codes, Some, true, ap, arith, subst, nat_lt}
use Rattle.std.proofs.lemmas.Bool.{and_parts, ltb-true}
use Rattle.std.specs.List.{AllByRecursion}
use Rattle.sig_audit.specs.declared.heads.Watch.{Watch}
use Rattle.sig_base.proofs.OptionSteps.{bind_is, some_is, when_is}
use Rattle.sig_json.specs.Member.{optional, optional_list, required, required_bytes, required_list}
use Rattle.sig_request.specs.Accepted.{with_rows}
use Rattle.sig_request.specs.AuditRequest.{AreWithin, are_under, audit_members, audit_request, head_text_of, is_within, watch_of}
use Rattle.sig_request.specs.ReadFrom.{IsRequestOf}
use Rattle.sig_request.specs.Row.{entries_of, row_of, scheme_kind}
use Rattle.sig_request.specs.declared.audit_request.AuditRequest.{AuditRequest}
use Rattle.sig_request.specs.declared.audit_request.HeadText.{HeadText}

all_under : (count : ℕ) (watched : List Watch) → are_under count watched ≡ true
    → AllByRecursion (λ (watch : Watch). watch.head < count) watched
all_under count [] is = tt
all_under count (watch ∷ later) is =
    let parts = and_parts (nat_lt watch.head count) (are_under count later) is in
    (ltb-true watch.head count parts.0, all_under count later parts.1)

are_within : (heads : List HeadText) (watched : List Watch) → is_within heads watched ≡ true → AreWithin heads watched
are_within heads watched is =
    let some = and_parts _ _ is in
    let most = and_parts _ _ some.1 in
    let few = and_parts _ _ most.1 in
    record {
      some = ltb-true 0 (length heads) some.0;
      most = omega (arith, ltb-true (length heads) 257 most.0);
      few = omega (arith, ltb-true (length watched) 4097 few.0);
      under = all_under (length heads) watched few.1;
    }

pub within : (text : List ℕ) (request : AuditRequest) → IsRequestOf audit_request text request
    → AreWithin request.heads request.watched
unfolding with_rows audit_members
within text request is =
    let rows = bind_is (optional_list row_of (codes "accepted") is.tree) _ request is.members in
    let heads = bind_is (required_list head_text_of (codes "heads") is.tree) _ request rows.2 in
    let watched = bind_is (optional_list watch_of (codes "watched") is.tree) _ request heads.2 in
    let scheme = bind_is (required scheme_kind (codes "scheme") is.tree) _ request watched.2 in
    let key = bind_is (required_bytes (codes "key") is.tree) _ request scheme.2 in
    let entries = bind_is (optional entries_of (codes "entries") is.tree) _ request key.2 in
    let kept = when_is (is_within heads.0 watched.0) _ request entries.2 in
    subst (λ (r : AuditRequest). AreWithin r.heads r.watched) (some_is _ request kept.1)
    (are_within heads.0 watched.0 kept.0)
