-- Leaders: the points at which the basic blocks of a file begin.
use Rattle.std.specs.Prelude.{ℕ, ◌+◌, ◌*◌, List, filter, Bool, true, false, ◌&&◌, ◌||◌, ◌==◌, Option, Some, None, option_and_then, if◌then◌else◌}
use Rattle.std.specs.List.{list_any, range_with_len}
use Rattle.std.specs.Option.{option_map_or}
use Rattle.x86_insn.specs.declared.instruction.Insn.{Insn}
use Rattle.x86_insn.specs.declared.instruction.Insn.TheVariants.{Jcc, Jmp, JmpTo, Call, CallTo, Ret}
use Rattle.x86_insn.specs.References.{reference_of}
use Rattle.rw_words.specs.declared.atom.Atom.{Atom}
use Rattle.rw_words.specs.declared.atom.Atom.TheVariants.{Code}
use Rattle.rw_elf.specs.declared.symbol.Symbol.{Symbol}
use Rattle.rw_reloc.specs.declared.slot.Slot.{Slot}
use Rattle.rw_reloc.specs.declared.slot.Target.{Target}
use Rattle.rw_reloc.specs.declared.slot.Target.TheVariants.{To}
use Rattle.rw_reloc.specs.Slots.{slots_of}
use Rattle.rw_funcs.specs.Functions.{kept_functions, starts_at}
use Rattle.rw_funcs.specs.Points.{Point, file_points, is_point, places_of, points_of}
use Rattle.rw_refs.specs.CodeReferences.{is_direct}
use Rattle.rw_refs.specs.References.{reference_at, target_at}
use Rattle.rw_tables.specs.declared.table.Table.{Table}
use Rattle.rw_tables.specs.Tables.{entry_at, tables_of}
use Rattle.rw_probe.specs.declared.leaders.Mode.{Mode}
use Rattle.rw_probe.specs.declared.leaders.Mode.TheVariants.{Nothing, Starts, Blocks}

-- a jump of any kind, a call of any kind, or a return
abbrev pub ends_block : {R : Type 0} → Insn R → Bool
ends_block (Jcc cond to) = true
ends_block (Jmp to) = true
ends_block (JmpTo to notrack) = true
ends_block (Call to) = true
ends_block (CallTo to notrack) = true
ends_block Ret = true
ends_block _ = false

-- it is the code at an address
abbrev pub is_code : ℕ → Option Atom → Bool
is_code c (Some (Code a)) = a == c
is_code c _ = false

-- the address of the file that a slot holds, if it holds one
abbrev pub address_in : Target → Option ℕ
address_in (To a) = Some a
address_in _ = None

-- the word of a jump table leads to c
abbrev pub leads_to : ℕ → Option (ℕ × ℕ) → Bool
leads_to c word = option_map_or (λ entry. entry.0 == c) word false

-- a block ends with the instruction before c
abbrev pub ends_at : ℕ → Point → Bool
ends_at c p = ends_block p.insn && p.place + p.len == c

module _ (bytes : List ℕ) where
  -- a function starts at c
  abbrev pub is_start : ℕ → Bool
  is_start c = list_any (starts_at c) (kept_functions bytes)

  -- An instruction names c: as the target of a direct jump or call, or relative to %rip.
  abbrev pub named_at : Insn ℕ → ℕ → Option Atom
  named_at i a = if is_direct i then target_at bytes a else reference_at bytes a

  abbrev pub named_by : Point → Option Atom
  named_by p = option_and_then (named_at p.insn) (reference_of p.insn)

  abbrev pub is_named : ℕ → Bool
  is_named c = list_any (λ p. is_code c (named_by p)) (file_points bytes)

  -- a kept slot holds the address of c
  abbrev pub held_by : Slot → Option Atom
  held_by s = if s.kept then option_and_then (reference_at bytes) (address_in s.target) else None

  abbrev pub is_held : ℕ → Bool
  is_held c = list_any (λ s. is_code c (held_by s)) (slots_of bytes)

  -- a word of a jump table leads to c
  abbrev pub is_in : ℕ → Table → Bool
  is_in c t = list_any (λ k. leads_to c (entry_at bytes (t.base + 4 * k))) (range_with_len 0 t.count)

  abbrev pub is_in_table : ℕ → Bool
  is_in_table c = list_any (is_in c) (tables_of bytes)

  -- c comes directly after a jump, a call or a return, as a point of the same function
  abbrev pub is_behind_in : ℕ → Symbol → Bool
  is_behind_in c f = is_point (points_of bytes f) c && list_any (ends_at c) (points_of bytes f)

  abbrev pub is_behind : ℕ → Bool
  is_behind c = list_any (is_behind_in c) (kept_functions bytes)

  -- the leaders of a mode, as a set
  abbrev pub is_leader : Mode → ℕ → Bool
  is_leader Nothing c = false
  is_leader Starts c = is_start c
  is_leader Blocks c = is_start c || ((is_named c || is_behind c) || (is_held c || is_in_table c))

-- and as a list: the points of a file that are leaders, by ascending address
unfoldable pub leaders_of : List ℕ → Mode → List ℕ
leaders_of bytes mode = filter (is_leader bytes mode) (places_of (file_points bytes))
