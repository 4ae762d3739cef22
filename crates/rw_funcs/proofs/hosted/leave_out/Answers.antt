use Rattle.std.proofs.Common.{not, ◌&&◌, rules}
use Rattle.std.specs.List.{list_any}
use Rattle.std.proofs.lemmas.Fn.{filter_same}
use Rattle.rw_elf.specs.declared.symbol.Symbol.{Symbol}
use Rattle.rw_funcs.specs.Functions.{same_range}
use Rattle.rw_funcs.proofs.hosted.leave_out.Goals as goal

pub returns : goal.returns
returns c = filter_same _ (λ (f : Symbol). not (c.args.hosted && list_any (same_range f) c.args.startup.now)) _ (λ x b f' k. search rules) _ _ c.retain.ensures.filtered
