use Rattle.std.proofs.Common.{◌≡◌, ◌≤◌, length}
use Rattle.std.specs.Prelude.{flat_map}
use Rattle.std.specs.List.{fold}
use Rattle.asm_items.specs.Lines.{used_names}
use Rattle.asm_items.specs.Names.{with_name}
use Rattle.rw_out.specs.Items.{Probes, no_probes}
use Rattle.rw_out.specs.Plan.{item_names}
use Rattle.rw_out.specs.Positions.{IsPast, points_on}
use Rattle.rw_out.proofs.naming.Found.add_points.Given as goal

abbrev pub invariant-loop-at : goal.invariant-loop-at
invariant-loop-at l = record {
  past : IsPast l.picture l.k l.at;
  all : (probes : Probes) → fold with_name l.self.all (flat_map item_names (points_on l.picture probes l.k l.at)) ≡ fold with_name l.initial.self.all (flat_map item_names (points_on l.picture probes l.k l.from));
  used : (probes : Probes) → fold with_name l.self.used (used_names (points_on l.picture probes l.k l.at)) ≡ fold with_name l.initial.self.used (used_names (points_on l.picture probes l.k l.from));
  fewer : (probes : Probes) → length (points_on l.picture probes l.k l.at) ≤ length (points_on l.picture probes l.k l.from);
}

abbrev pub decreases-loop-at : goal.decreases-loop-at
decreases-loop-at l = length (points_on l.picture no_probes l.k l.at)
