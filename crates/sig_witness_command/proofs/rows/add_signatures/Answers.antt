-- The list has the signatures so far, and in the end all of them, or has no room for the next.
use Rattle.std.proofs.Common.{◌≡◌, ◌<◌, ◌∙◌, Bool, List, Some, ℕ, ap, arith, get_or, length, subst, sym, true, false}
use Rattle.sig_base.specs.ByText.{text_lookup}
use Rattle.sig_rekor.specs.NoteText.{note_text}
use Rattle.sig_witness_command.proofs.Listings.{sign-done, sign-more, sign-past}
use Rattle.sig_witness_command.proofs.Marks.{put-most, put-notes, put-room}
use Rattle.sig_witness_command.specs.Questions.{key_row, signature_row}
use Rattle.sig_witness_command.specs.RowList.{IsPut}
use Rattle.sig_witness_command.proofs.rows.add_signatures.Goals as goal

pub signatures-preserved : goal.signatures-preserved
signatures-preserved c =
    let key = c.args.key.now in
    let checkpoint = c.args.checkpoint.now in
    let item = c.signature-item.result in
    let row = signature_row key checkpoint item in
    let same = c.as_slice-signature-items.ensures in
    let below : c.signatures.signature-index < length c.args.checkpoint.now.signatures =
    omega (arith, c.signatures-test.true, ap length same) in
    let is = c.signature-item.is ∙ ap (λ items. get_or items c.signatures.signature-index c.signature-item.result) same in
    let put : IsPut (signature_row c.args.key.now c.args.checkpoint.now c.signature-item.result) c.args.number
    c.signature-item.result.raw c.signatures.rows c.add.new.self true =
    subst (λ (b : Bool). IsPut (signature_row c.args.key.now c.args.checkpoint.now c.signature-item.result) c.args.number
    c.signature-item.result.raw c.signatures.rows c.add.new.self b) c.if-not-branch.false
    (subst (λ (t : List ℕ). IsPut (key_row c.args.key.now t c.signature-item.result.raw) c.args.number
    c.signature-item.result.raw c.signatures.rows c.add.new.self c.in_ok-add.field-0) c.requires.note
    c.in_ok-add.ensures.put) in
    let numbered : text_lookup (note_text c.args.checkpoint.now.note) c.signatures.rows.notes ≡ Some c.args.number =
    ap (text_lookup (note_text c.args.checkpoint.now.note)) c.signatures.invariant.2
    ∙ ap (λ t. text_lookup t c.args.rows.now.notes) (sym c.requires.note) ∙ c.requires.number in (
      λ logs bound before lines at listed. sign-more c.args.key.now c.args.checkpoint.now logs bound before lines at
          c.signatures.signature-index c.args.number c.signature-item.result c.signatures.rows c.add.new.self below is
          numbered c.in_ok-add.ensures.coded (c.signatures.invariant.0 logs bound before lines at listed) put,
      put-room (signature_row c.args.key.now c.args.checkpoint.now c.signature-item.result) c.args.number
          c.signature-item.result.raw c.signatures.rows c.add.new.self c.signatures.invariant.1 put,
      put-notes (signature_row c.args.key.now c.args.checkpoint.now c.signature-item.result) c.args.number
          c.signature-item.result.raw c.signatures.rows c.add.new.self put ∙ c.signatures.invariant.2,
      put-most (signature_row c.args.key.now c.args.checkpoint.now c.signature-item.result) c.args.number
          c.signature-item.result.raw c.signatures.rows c.add.new.self put ∙ c.signatures.invariant.3,
    )

pub returns-then-not-branch-clause-added : goal.returns-then-not-branch-clause-added
returns-then-not-branch-clause-added c =
    let same = c.as_slice-signature-items.ensures in
    let below : c.signatures.signature-index < length c.args.checkpoint.now.signatures =
    omega (arith, c.signatures-test.true, ap length same) in
    let is = c.signature-item.is ∙ ap (λ items. get_or items c.signatures.signature-index c.signature-item.result) same in
    let put : IsPut (signature_row c.args.key.now c.args.checkpoint.now c.signature-item.result) c.args.number
    c.signature-item.result.raw c.signatures.rows c.add.new.self false =
    subst (λ (b : Bool). IsPut (signature_row c.args.key.now c.args.checkpoint.now c.signature-item.result) c.args.number
    c.signature-item.result.raw c.signatures.rows c.add.new.self b) c.if-not-branch.true
    (subst (λ (t : List ℕ). IsPut (key_row c.args.key.now t c.signature-item.result.raw) c.args.number
    c.signature-item.result.raw c.signatures.rows c.add.new.self c.in_ok-add.field-0) c.requires.note
    c.in_ok-add.ensures.put) in
    let numbered : text_lookup (note_text c.args.checkpoint.now.note) c.signatures.rows.notes ≡ Some c.args.number =
    ap (text_lookup (note_text c.args.checkpoint.now.note)) c.signatures.invariant.2
    ∙ ap (λ t. text_lookup t c.args.rows.now.notes) (sym c.requires.note) ∙ c.requires.number in
    λ logs bound before lines at listed. sign-past c.args.key.now c.args.checkpoint.now logs bound before lines at
    c.signatures.signature-index c.args.number c.signature-item.result c.signatures.rows c.add.new.self below is numbered
    c.in_ok-add.ensures.coded (c.signatures.invariant.0 logs bound before lines at listed) put

pub returns-clause-added : goal.returns-clause-added
returns-clause-added c = λ logs bound before lines at listed.
    sign-done c.args.key.now c.args.checkpoint.now logs bound before lines at c.signatures.signature-index
    c.signatures.rows (omega (arith, c.signatures-test.false, ap length c.as_slice-signature-items.ensures))
    (c.signatures.invariant.0 logs bound before lines at listed)
