use Rattle.rw_funcs.proofs.code.mark_function.Given as goal

abbrev pub ghost-mark_part : goal.ghost-mark_part
ghost-mark_part g a = g.before
