use Rattle.sig_json_text.proofs.Units.{units_decoded, units_distinct}
use Rattle.sig_json_text.proofs.laws.units_of_texts.Goals as goal

pub returns : goal.returns
returns c = record { decoded = units_decoded; distinct = units_distinct }
