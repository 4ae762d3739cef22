use Rattle.std.proofs.Common.{◌≡◌, eqb, length, sym, ap, subst, ◌∙◌, arith}
use Rattle.std.specs.List.{dedup}
use Rattle.std.specs.List.Sorted.{IsStrictlyIncreasing}
use Rattle.std.proofs.lemmas.List.Filters.{dedup_is}
use Rattle.std.proofs.lemmas.Map.Keys.{IsStrictlyIncreasing-dedup}
use Rattle.rw_base.specs.Rules.{first}
use Rattle.rw_elf.specs.Tables.{elf_rules}
use Rattle.rw_funcs.specs.Found.{found_rules}
use Rattle.rw_tables.specs.Tables.{table_rules}
use Rattle.rw_probe.specs.Collecting.{AddsWhere}
use Rattle.rw_probe.specs.Leaders.{is_leader, leaders_of}
use Rattle.rw_probe.proofs.LeaderFacts.{leaders-few, leaders-made, sorted-set}
use Rattle.rw_probe.proofs.leaders.Leaders.of.Goals as goal

increases : (c : goal.After-dedup) → IsStrictlyIncreasing c.dedup.new.self.items
increases c =
    let e : c.dedup.new.self.items ≡ dedup eqb c.sort_unstable.new.self.items = dedup_is eqb _ _ c.dedup.ensures.filtered in
    subst IsStrictlyIncreasing (sym e) (IsStrictlyIncreasing-dedup c.sort_unstable.new.self.items c.sort_unstable.ensures.sorted)

made : (c : goal.After-dedup) → c.dedup.new.self.items ≡ leaders_of c.args.elf.now c.args.mode
made c =
    let e : c.dedup.new.self.items ≡ dedup eqb c.sort_unstable.new.self.items = dedup_is eqb _ _ c.dedup.ensures.filtered in
    leaders-made c.args.elf.now c.args.mode c.push_leaders.new.list.items c.dedup.new.self.items
    (sym (ap (λ b. first (elf_rules b)) c.requires.functions) ∙ c.list-functions.ensures.clean_file) (sym (ap (λ b. first (found_rules b)) c.requires.functions) ∙ c.list-functions.ensures.clean) (sym (ap (λ b. first (table_rules b)) c.requires.tables) ∙ c.list-tables.ensures.clean)
    (subst (λ old. AddsWhere (is_leader c.args.elf.now c.args.mode) old c.push_leaders.new.list.items) c.new-list.ensures.items c.in_ok-push_leaders.ensures) (increases c)
    (λ a. sorted-set c.push_leaders.new.list.items c.sort_unstable.new.self.items c.dedup.new.self.items a c.sort_unstable.ensures.permutation e)

pub returns : goal.returns
returns c = made c

pub invariant_of-result : goal.invariant_of-result
invariant_of-result c =
    let few = leaders-few c.args.elf.now c.args.mode (sym (ap (λ b. first (elf_rules b)) c.requires.functions) ∙ c.list-functions.ensures.clean_file) (sym (ap (λ b. first (found_rules b)) c.requires.functions) ∙ c.list-functions.ensures.clean) in
    let size = ap length (made c) in
    record { ascend = increases c; few = omega (arith, few, size) }
