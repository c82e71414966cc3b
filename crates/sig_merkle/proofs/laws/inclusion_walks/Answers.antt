use Rattle.sig_merkle.proofs.WalkBits.{bit_len-within, border_len-all_inner}
use Rattle.sig_merkle.proofs.BitFolds.{bit_fold-last}
use Rattle.sig_merkle.specs.Walk.{node_by_bit}
use Rattle.sig_merkle.proofs.Walks.{walk_lens, walk_leads}
use Rattle.sig_merkle.proofs.laws.inclusion_walks.Goals as goal

pub returns : goal.returns
returns c = record {
  root = walk_leads;
  lens = walk_lens;
  sides = bit_fold-last node_by_bit;
  bits = bit_len-within;
  all_inner = border_len-all_inner;
}
