use Rattle.rw_domain.proofs.AllStand.{table-stands}
use Rattle.rw_domain.proofs.laws.tables_lead_to_code.Goals as goal

pub returns : goal.returns
returns c = table-stands
