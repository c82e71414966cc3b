-- The search finds an index if and only if the table has the row.
use Rattle.std.proofs.Common.{rules, ◌≡◌, ◌↔◌, sym, subst, true, List, ℕ}
use Rattle.std.specs.Prelude.{Contains, is_ok}
use Rattle.std.specs.Bool.{one_answer}
use Rattle.std.proofs.lemmas.Fn.{always_returns_same}
use Rattle.sig_base.specs.declared.checker.AcceptedRow.{AcceptedRow}
use Rattle.sig_base.specs.RowOrder.{IsOrderOf}
use Rattle.sig_base.proofs.AcceptedRows.{accepted-rows, as_row}
use Rattle.sig_base.proofs.RowOrders.{finds_row, sought}
use Rattle.sig_base.proofs.checker.TableChecker.accepts.Goals as goal

found : (c : goal.After-is_ok) → (c.is_ok.result ≡ true)
    ↔ Contains c.args.self.now (as_row c.args.operation c.args.scheme.now c.args.key.now c.args.message.now
    c.args.signature.now)
found c =
    let row : AcceptedRow = as_row c.args.operation c.args.scheme.now c.args.key.now c.args.message.now
    c.args.signature.now in
    let order : IsOrderOf c.self.inside.rows c.as_slice.result.now =
    subst (λ (indices : List ℕ). IsOrderOf c.self.inside.rows indices)
    (sym c.as_slice.ensures.value) c.self.invariant.0 in
    let inside = finds_row c.self.inside.rows row c.as_slice.result.now c.binary_search_by-found.result order
    (c.binary_search_by-found.ensures.position (sought c.self.inside.rows row)
    (always_returns_same _ _ _ (λ a r f' k. search rules))) in
    let rows_are : c.self.inside.rows ≡ c.args.self.now = c.self.view_is in
    let held : (is_ok c.binary_search_by-found.result ≡ true) ↔ Contains c.args.self.now row =
    subst (λ (rows : List AcceptedRow). (is_ok c.binary_search_by-found.result ≡ true) ↔ Contains rows row) rows_are
    inside in
    subst (λ b. (b ≡ true) ↔ Contains c.args.self.now row) (sym c.is_ok.ensures.value) held

pub returns-clause-exact : goal.returns-clause-exact
returns-clause-exact c = found c

pub returns-clause-value : goal.returns-clause-value
returns-clause-value c =
    one_answer _ _ (found c) (accepted-rows c.args.self.now c.args.operation c.args.scheme.now c.args.key.now
    c.args.message.now c.args.signature.now)
