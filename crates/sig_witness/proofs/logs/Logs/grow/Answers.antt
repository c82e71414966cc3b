-- The tree keeps its entries, except for the log at the origin.
use Rattle.std.proofs.Common.{◌≡◌, sym, ap, ◌∙◌, Some, None, Option}
use Rattle.std.specs.Prelude.{string_bytes}
use Rattle.std.specs.Option.{option_copied_mut}
use Rattle.std.specs.Cmp.Lexicographic.{slice_cmp}
use Rattle.std.specs.Ordering.{nat_cmp, is_eq}
use Rattle.std.specs.Map.{set_value}
use Rattle.std.proofs.lemmas.Map.Steps.{set_value_same}
use Rattle.sig_base.proofs.Texts.{ascend-entries, text_lookup-entries}
use Rattle.sig_base.specs.ByText.{text_entries, text_lookup, text_put}
use Rattle.sig_witness.proofs.Entries.{none-there, on-err, set-put}
use Rattle.sig_witness.specs.declared.kept_log.KeptLog.{KeptLog}
use Rattle.sig_witness.specs.Updates.{grown_log}
use Rattle.sig_witness.proofs.logs.Logs.grow.Goals as goal

pub unreachable-requires : goal.unreachable-requires
unreachable-requires c =
    let es = c.self.inside.logs.entries in
    let none : text_lookup c.args.origin.now (text_entries es) ≡ None =
    sym (text_lookup-entries c.args.origin.now es) ∙ sym c.get_mut.ensures.value ∙ ap option_copied_mut c.in_default.is in
    none-there (text_lookup c.args.origin.now (text_entries es)) none (rw c.self.view_is c.requires)

pub invariant_of-self : goal.invariant_of-self
invariant_of-self c = ascend-entries _ (c.get_mut.follows.holds c.push_head.new.log).4

pub invariant_of-self-2 : goal.invariant_of-self-2
invariant_of-self-2 c = ascend-entries _ (c.get_mut.follows.holds c.push_head.new.log).4

pub returns-in_err-push_head-clause-err : goal.returns-in_err-push_head-clause-err
returns-in_err-push_head-clause-err c =
    let es = c.self.inside.logs.entries in
    on-err c.from_residual.result _
    (ap text_entries ((c.get_mut.follows.holds c.push_head.new.log).0
    ∙ ap (set_value (λ k. is_eq (slice_cmp nat_cmp c.args.origin.now (string_bytes k))) es) c.in_err-push_head.ensures.err
    ∙ set_value_same (λ k. is_eq (slice_cmp nat_cmp c.args.origin.now (string_bytes k))) es c.in-Some.log.now
    (sym c.get_mut.ensures.value ∙ ap option_copied_mut c.in-Some.is))
    ∙ c.self.view_is)

pub returns-clause-ok : goal.returns-clause-ok
returns-clause-ok c =
    λ log found.
    (let es = c.self.inside.logs.entries in
    let held : text_lookup c.args.origin.now (text_entries es) ≡ Some c.in-Some.log.now =
    sym (text_lookup-entries c.args.origin.now es) ∙ sym c.get_mut.ensures.value ∙ ap option_copied_mut c.in-Some.is in
    let both : ◌≡◌ {A = Option KeptLog} (Some c.in-Some.log.now) (Some log) =
    sym held ∙ ap (text_lookup c.args.origin.now) c.self.view_is ∙ found in
    let same : c.in-Some.log.now ≡ log = (let f = both in cc) in
    ap text_entries (c.get_mut.follows.holds c.push_head.new.log).0
    ∙ set-put c.args.origin.now c.push_head.new.log c.in-Some.log.now es c.self.invariant held
    ∙ ap (λ v. text_put c.args.origin.now v (text_entries es))
    (c.in_ok-push_head.ensures.ok ∙ ap (λ l. grown_log l c.args.head) same)
    ∙ ap (text_put c.args.origin.now (grown_log log c.args.head)) c.self.view_is)
