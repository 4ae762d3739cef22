use Rattle.std.proofs.Common.{◌≡◌, ◌+◌, ◌-◌, length, sym, ap, ◌∙◌, length-append, arith}
use Rattle.std.specs.Prelude.{vec_len}
use Rattle.rw_domain.specs.SymbolData.{placed_symbols}
use Rattle.rw_funcs.specs.Functions.{entry_of}
use Rattle.rw_machine.specs.State.{machine_of}
use Rattle.rw_code.specs.Start.{canary_number, first_registers, start_regions}
use Rattle.rw_refs.proofs.Few.{few-regions}
use Rattle.rw_data.proofs.Clean.{each_clean}
use Rattle.rw_sim.specs.Start.{file_ground, start_with}
use Rattle.rw_sim.proofs.FileRows.{regions-count}
use Rattle.rw_sim.proofs.StartPuts.{blank-is, sections-put}
use Rattle.rw_sim.proofs.StartRegisters.{with_registers}
use Rattle.rw_sim.proofs.start.words_start.Goals as goal

pub new-requires-clause-few : goal.new-requires-clause-few
new-requires-clause-few c =
    let file = c.args.picture.now in
    let clean = each_clean file c.funcs.ensures.clean in
    let few = few-regions file clean.elf clean.relocations in
    let count = regions-count file in
    let all = length-append (file_ground file).regions (start_regions (file_ground file) (start_with c.args.args.now)) in
    let items = ap length c.in_ok-regions.ensures in
    let same = c.in_ok-regions.regions.ok.0 in
    omega (arith, few, count, all, items, same)

pub put_words-requires-clause-loaded : goal.put_words-requires-clause-loaded
put_words-requires-clause-loaded c =
    let file = c.args.picture.now in
    let start = start_with c.args.args.now in
    let all = length-append (file_ground file).regions (start_regions (file_ground file) start) in
    let items = ap length c.in_ok-regions.ensures in
    let same = c.in_ok-regions.regions.ok.0 in
    let canary : vec_len c.in_ok-regions.regions - 1 ≡ canary_number (file_ground file) = omega (arith, all, items, same) in
    sections-put file start (machine_of c.in_ok-state.state) (machine_of c.put.new.state)
    (blank-is file start (machine_of c.in_ok-state.state) (placed_symbols c.new.result) c.in_ok-regions.regions.items c.in_ok-holes.holes.items (vec_len c.in_ok-regions.regions - 1) c.entry.result c.in_ok-state.ensures.machine c.new.ensures
    c.in_ok-regions.ensures c.in_ok-holes.ensures canary (c.entry.ensures ∙ ap entry_of c.funcs.ensures.file))
    c.in_ok-put.ensures

pub returns : goal.returns
returns c =
    let file = c.args.picture.now in
    let start = start_with c.args.args.now in
    record { machine = c.set_registers.ensures ∙ ap (λ m. with_registers m (first_registers (file_ground file) start)) c.in_ok-put_words.ensures }
