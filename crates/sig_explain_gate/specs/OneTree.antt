-- *One tree*: a text has one explanation by `gate`.
use Rattle.std.specs.Prelude.{◌≡◌, ℕ, List}
use Rattle.sig_explain_gate.specs.GateExplanation.{IsGateExplanation}
use Rattle.sig_json.specs.Data.{Data}

abbrev pub TextsHaveOneTree : Type 0
TextsHaveOneTree =
    (text : List ℕ) (one other : Data) → IsGateExplanation text one → IsGateExplanation text other → one ≡ other
