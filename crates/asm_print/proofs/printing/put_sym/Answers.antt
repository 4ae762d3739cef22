use Rattle.asm_print.specs.Text.{sym_text}
use Rattle.asm_print.proofs.Cut.{cut-then}
use Rattle.asm_print.proofs.printing.put_sym.Goals as goal

pub returns-in-Counter : goal.returns-in-Counter
unfolding sym_text
returns-in-Counter c =
    rw c.in-Counter.is (cut-then _ _ _ _ _ c.put_str-in-Counter.ensures (rw c.from-in-Counter.ensures at c.put_offset-in-Counter.ensures))
