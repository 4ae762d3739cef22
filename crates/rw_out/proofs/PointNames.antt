-- The names that are to come at a point of a function: those of its instruction, and those behind it.
use Rattle.std.proofs.Common.{◌≡◌, ℕ, ◌<◌, List, ◌++◌, length, sym, ap, ◌∙◌, arith, length-append}
use Rattle.std.specs.Prelude.{flat_map}
use Rattle.std.specs.List.{fold}
use Rattle.std.proofs.lemmas.Grind.{flat_map-append}
use Rattle.std.proofs.lemmas.List.Sums.{fold-append}
use Rattle.x86_insn.specs.declared.instruction.Insn.{Insn}
use Rattle.asm_items.specs.declared.item.Item.TheVariants.{Ins}
use Rattle.asm_items.specs.Lines.{used_names}
use Rattle.asm_items.specs.Names.{with_name}
use Rattle.rw_probe.specs.ProbedPrograms.{is_endbr64}
use Rattle.rw_out.specs.Items.{Probes, insn_items, probe_items, with_symbols}
use Rattle.rw_out.specs.Plan.{item_names}
use Rattle.rw_out.specs.Positions.{IsPointOf, points_on}
use Rattle.rw_out.specs.Uses.{names_used}
use Rattle.rw_out.proofs.ProbeNames.{no-item-names, none-used, of-insn}
use Rattle.rw_out.proofs.Rests.{point_next}

module _ (file : List ℕ) (probes : Probes) (k a : ℕ) (i : Insn ℕ) (next : ℕ) (e : IsPointOf file k a i next) where
  pub names-behind : (start : List (List ℕ)) → fold with_name (fold with_name start (names_used (Ins (with_symbols file i)))) (flat_map item_names (points_on file probes k next)) ≡ fold with_name start (flat_map item_names (points_on file probes k a))
  names-behind start =
      let first = is_endbr64 i in
      let insns = insn_items first (Ins (with_symbols file i)) (probe_items (probes.at a)) in
      let behind = flat_map item_names (points_on file probes k next) in
      sym (ap (λ xs. fold with_name start (flat_map item_names xs)) (point_next file probes k a i next e)
      ∙ (ap (fold with_name start) (flat_map-append item_names insns (points_on file probes k next) ∙ ap (λ ns. ns ++ behind) (of-insn item_names no-item-names file probes probes first (Ins (with_symbols file i)) (probes.at a)))
      ∙ fold-append with_name start (names_used (Ins (with_symbols file i))) behind))

  pub used-behind : (start : List (List ℕ)) → fold with_name (fold with_name start (names_used (Ins (with_symbols file i)))) (used_names (points_on file probes k next)) ≡ fold with_name start (used_names (points_on file probes k a))
  used-behind start =
      let first = is_endbr64 i in
      let insns = insn_items first (Ins (with_symbols file i)) (probe_items (probes.at a)) in
      let behind = used_names (points_on file probes k next) in
      sym (ap (λ xs. fold with_name start (used_names xs)) (point_next file probes k a i next e)
      ∙ (ap (fold with_name start) (flat_map-append names_used insns (points_on file probes k next) ∙ ap (λ ns. ns ++ behind) (of-insn names_used none-used file probes probes first (Ins (with_symbols file i)) (probes.at a)))
      ∙ fold-append with_name start (names_used (Ins (with_symbols file i))) behind))

  pub fewer-behind : length (points_on file probes k next) < length (points_on file probes k a)
  fewer-behind =
      let insns = insn_items (is_endbr64 i) (Ins (with_symbols file i)) (probe_items (probes.at a)) in
      let whole = ap length (point_next file probes k a i next e) in
      let size = length-append insns (points_on file probes k next) in
      omega (arith, whole, size)
