-- The registers of a program at its start, set one after another.
use Rattle.std.proofs.Common.{◌≡◌, ◌+◌, ◌*◌, ℕ, List, length, replicate, set, sym, ap, ◌∙◌}
use Rattle.rw_base.specs.declared.width.Width.TheVariants.{Q}
use Rattle.rw_words.specs.declared.atom.Atom.TheVariants.{Ptr}
use Rattle.rw_words.specs.declared.atom.Cell.{Cell}
use Rattle.rw_words.specs.Words.{atom_cells, number_cells, undefined_cells}
use Rattle.rw_code.specs.Ground.{Ground}
use Rattle.rw_code.specs.Start.{Start, arguments_number, environment_offset, first_offset, hosted_offset, hosted_registers, own_registers, stack_number, word_count}
use Rattle.rw_sim.proofs.StartPuts.{SymbolMachine}

abbrev pub register_set : ℕ → List Cell → SymbolMachine → SymbolMachine
register_set r word m = record m { registers = set m.registers r word }

abbrev pub with_registers : SymbolMachine → List (List Cell) → SymbolMachine
with_registers m registers = record m { registers = registers }

module _ (file_ground : Ground) (start : Start) (m : SymbolMachine) (unknown : m.registers ≡ replicate 16 (undefined_cells Q)) where
  pub own-set : (m' : SymbolMachine) (n o : ℕ) (w : List Cell) → n ≡ length file_ground.regions → o ≡ first_offset start → w ≡ atom_cells (Ptr (n + 1) o) → m' ≡ register_set 4 w m → m' ≡ with_registers m (own_registers file_ground start)
  own-set m' n o w count at word put =
      put
      ∙ ap (with_registers m)
      (ap (λ rs. set rs 4 w) unknown
      ∙ ap (λ v. set (replicate 16 (undefined_cells Q)) 4 v) (word ∙ ap (λ k. atom_cells (Ptr (k + 1) o)) count ∙ ap (λ p. atom_cells (Ptr (length file_ground.regions + 1) p)) at))

  pub hosted-set : (m1 m2 m3 m4 : SymbolMachine) (w1 w2 w3 w4 : List Cell)
      → w1 ≡ atom_cells (Ptr (stack_number file_ground) (hosted_offset start)) → w2 ≡ number_cells Q (word_count start) → w3 ≡ atom_cells (Ptr (arguments_number file_ground) 0) → w4 ≡ atom_cells (Ptr (arguments_number file_ground) (environment_offset start))
      → m1 ≡ register_set 4 w1 m → m2 ≡ register_set 7 w2 m1 → m3 ≡ register_set 6 w3 m2 → m4 ≡ register_set 2 w4 m3 → m4 ≡ with_registers m (hosted_registers file_ground start)
  hosted-set m1 m2 m3 m4 w1 w2 w3 w4 e1 e2 e3 e4 p1 p2 p3 p4 =
      p4
      ∙ ap (register_set 2 w4) (p3 ∙ ap (register_set 6 w3) (p2 ∙ ap (register_set 7 w2) p1))
      ∙ ap (with_registers m)
      (ap (λ rs. set (set (set (set rs 4 w1) 7 w2) 6 w3) 2 w4) unknown
      ∙ ap (λ v. set (set (set (set (replicate 16 (undefined_cells Q)) 4 v) 7 w2) 6 w3) 2 w4) e1
      ∙ ap (λ v. set (set (set (set (replicate 16 (undefined_cells Q)) 4 (atom_cells (Ptr (stack_number file_ground) (hosted_offset start)))) 7 v) 6 w3) 2 w4) e2
      ∙ ap (λ v. set (set (set (set (replicate 16 (undefined_cells Q)) 4 (atom_cells (Ptr (stack_number file_ground) (hosted_offset start)))) 7 (number_cells Q (word_count start))) 6 v) 2 w4) e3
      ∙ ap (λ v. set (set (set (set (replicate 16 (undefined_cells Q)) 4 (atom_cells (Ptr (stack_number file_ground) (hosted_offset start)))) 7 (number_cells Q (word_count start))) 6 (atom_cells (Ptr (arguments_number file_ground) 0))) 2 v) e4)
