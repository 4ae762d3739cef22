use Rattle.std.proofs.Common.{sym, ap, ◌∙◌}
use Rattle.std.specs.Prelude.{is_some}
use Rattle.asm_items.specs.declared.item.Sym.TheVariants as syms
use Rattle.asm_items.specs.Named.{name_of}
use Rattle.rw_out.proofs.ProbeLines.{line-insn, line-there}
use Rattle.rw_out.proofs.probes.Counting.insn.Goals as goal

pub unwrap-requires : goal.unwrap-requires
unwrap-requires c =
    let line = c.args.self in
    ap is_some (line-there (syms.Counter line.counter) line.form line.number c.requires c.insn.result (sym c.insn.ensures)).1

pub returns : goal.returns
returns c = λ names. line-insn (name_of names) c.args.self c.unwrap.result (sym c.insn.ensures ∙ c.unwrap.ensures)
