-- Worked runs of the printed program, by computing.
use Rattle.std.proofs.Common.{◌≡◌, ℕ, List, [], ◌∷◌, ◌++◌, map, Option, Some, None, refl}
use Rattle.std.specs.Prelude.{option_map, flat_map, codes, slice_get}
use Rattle.asm_items.specs.declared.item.Item.TheVariants.{Label, Tail}
use Rattle.asm_items.specs.declared.item.Label.TheVariants as label
use Rattle.rw_domain.specs.Placed.{Placed}
use Rattle.rw_machine.specs.declared.ending.End.{End}
use Rattle.rw_machine.specs.declared.ending.End.TheVariants.{Exited, Trapped}
use Rattle.rw_machine.specs.declared.ending.Trap.TheVariants.{Int3}
use Rattle.rw_machine.specs.Events.{Call, System}
use Rattle.rw_machine.specs.Step.{Machine}
use Rattle.rw_machine.specs.Domains.{numbers}
use Rattle.rw_runs.specs.Runs.{first_run, made}
use Rattle.rw_code.proofs.Rows.{one_point, numbers_start}
use Rattle.rw_out.specs.Items.{no_probes, with_symbols, symbol_named, opening, entry_items, point_items, closing}
use Rattle.asm_items.specs.declared.item.Label as label_type
use Rattle.asm_items.specs.Lines.{Items}
use Rattle.asm_items.specs.Layout.{Layout}
use Rattle.rw_code.specs.Printed.{printed, start_of}
use Rattle.rw_code.specs.Example.{exit_file, exits_too}
use Rattle.rw_out_examples.specs.Example.{exit_label, exit_layout}
use Rattle.rw_out_examples.proofs.Example.{exit_items}

-- the text starts at the label of its first point
pub starts_at_label : slice_get exit_items (start_of exit_items) ≡ Some (Label (label.Code 0x1000))
starts_at_label = refl

abbrev pub printed_start : Items → Machine Placed ℕ ℕ ℕ
printed_start items = record numbers_start { point = start_of items }

-- the printed program ends after three steps, with the same call
pub printed_exits : option_map {U = Option End × List Call} (λ run. (run.ending, map (λ event. event.call) run.events)) (made numbers (printed exit_items [] exit_layout) 3 (first_run (printed_start exit_items) (exits_too ∷ []))) ≡ Some (Some (Exited 0), System 60 ∷ [])
unfolding with_symbols symbol_named
printed_exits = refl

pub printed_needs_an_answer : made numbers (printed exit_items [] exit_layout) 3 (first_run (printed_start exit_items) []) ≡ None
unfolding with_symbols symbol_named
printed_needs_an_answer = refl

-- behind the last instruction the printed program comes to a trap, where the symbolic machine stops
abbrev pub one_items : Items
one_items = opening (codes "_start") ++ entry_items (codes "_start") ++ flat_map (point_items exit_file no_probes) one_point ++ closing 0x1000 ++ Tail ∷ []

abbrev pub one_label : label_type.Label → ℕ
one_label (label.Past s) = 0x20005
one_label l = exit_label l

abbrev pub one_layout : Layout
one_layout = record exit_layout { label = one_label }

pub printed_traps : option_map (λ run. run.ending) (made numbers (printed one_items [] one_layout) 2 (first_run (printed_start one_items) [])) ≡ Some (Some (Trapped Int3))
unfolding with_symbols symbol_named
printed_traps = refl
