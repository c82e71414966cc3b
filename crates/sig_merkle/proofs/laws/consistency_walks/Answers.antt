use Rattle.sig_merkle.proofs.BitFolds.{bit_fold-last}
use Rattle.sig_merkle.specs.GrowthWalk.{kept_by_bit}
use Rattle.sig_merkle.proofs.GrowthBits.{shift-parts}
use Rattle.sig_merkle.proofs.Growths.{growth_lens, growth_leads, shift-inner}
use Rattle.sig_merkle.proofs.laws.consistency_walks.Goals as goal

pub returns : goal.returns
returns c = record {
  roots = growth_leads;
  lens = growth_lens;
  sides = bit_fold-last kept_by_bit;
  shift = shift-parts;
  inner = shift-inner;
}
