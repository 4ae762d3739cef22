use Rattle.std.proofs.Common.{◌≡◌, length}
use Rattle.std.specs.Prelude.{flat_map}
use Rattle.std.specs.List.{fold}
use Rattle.asm_items.specs.Lines.{used_names}
use Rattle.asm_items.specs.Names.{with_name}
use Rattle.rw_out.specs.Items.{main_items}
use Rattle.rw_out.specs.Plan.{by_appearance, item_names, names_of}
use Rattle.rw_out.specs.Positions.{IsAt, rest}
use Rattle.rw_out.specs.Kept.{probes_in}
use Rattle.rw_out.proofs.naming.find_names.Given as goal

abbrev pub invariant-loop-item : goal.invariant-loop-item
invariant-loop-item l = record {
  at : IsAt l.picture l.position;
  all : fold with_name l.found.all (flat_map item_names (rest l.picture (probes_in l.bare) l.position)) ≡ names_of (main_items l.picture (probes_in l.probes));
  used : fold with_name l.found.used (used_names (rest l.picture (probes_in l.bare) l.position)) ≡ by_appearance (used_names (main_items l.picture (probes_in l.probes)));
}

abbrev pub decreases-loop-item : goal.decreases-loop-item
decreases-loop-item l = length (rest l.picture (probes_in l.bare) l.position)
