use Rattle.sig_json_text.proofs.LargeIntegers.{large_exact}
use Rattle.sig_json_text.proofs.laws.large_integers.Goals as goal

pub returns : goal.returns
returns c = record { exact = large_exact }
