use Rattle.rw_out.proofs.OneList.{list-alone, one-list}
use Rattle.rw_out.proofs.laws.items_are_one_list.Goals as goal

pub returns : goal.returns
returns c = record { one = one-list; without_probes = list-alone }
