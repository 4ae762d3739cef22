use Rattle.std.proofs.Common.{◌≡◌, ◌∷◌, [], length, List, sym, ap, ◌∙◌, map}
use Rattle.std.specs.Prelude.{string_bytes}
use Rattle.rw_words.specs.declared.atom.Cell.{Cell}
use Rattle.rw_words.specs.declared.atom.Cell.TheVariants.{Num}
use Rattle.rw_machine.specs.State.{machine_of}
use Rattle.rw_sim.specs.Start.{file_ground, start_with}
use Rattle.rw_sim.proofs.FileRows.{contents-count}
use Rattle.rw_sim.proofs.StartPuts.{canary-is, inside-stack, range-stack, put-stack, inside-arguments, range-arguments, put-arguments, inside-canary, range-canary, put-canary}
use Rattle.rw_sim.proofs.start.put_words.Goals as goal

pub put-requires-clause-inside : goal.put-requires-clause-inside
put-requires-clause-inside c =
    let g = file_ground c.args.picture.now in
    let start = start_with c.args.args.now in
    let is = c.requires.start in
    let n = c.count-region.result in
    let regions : length (file_ground c.args.picture.now).regions ≡ c.count-region.result = sym c.count-region.ensures.count in
    let contents : length (file_ground c.args.picture.now).contents ≡ c.count-region.result = contents-count c.args.picture.now ∙ regions in
    let row = c.deref.ensures.value ∙ c.in_ok-first.ensures in
    inside-stack g start is n contents regions (machine_of c.args.state.now) c.stack_offset.result c.deref.result.now c.requires.loaded c.stack_offset.ensures row

pub put-requires-clause-range : goal.put-requires-clause-range
put-requires-clause-range c =
    let g = file_ground c.args.picture.now in
    let start = start_with c.args.args.now in
    let is = c.requires.start in
    let n = c.count-region.result in
    let regions : length (file_ground c.args.picture.now).regions ≡ c.count-region.result = sym c.count-region.ensures.count in
    let contents : length (file_ground c.args.picture.now).contents ≡ c.count-region.result = contents-count c.args.picture.now ∙ regions in
    let row = c.deref.ensures.value ∙ c.in_ok-first.ensures in
    range-stack g start is n contents regions (machine_of c.args.state.now) c.stack_offset.result c.deref.result.now c.requires.loaded c.stack_offset.ensures row

pub put-requires-2-clause-inside : goal.put-requires-2-clause-inside
put-requires-2-clause-inside c =
    let g = file_ground c.args.picture.now in
    let start = start_with c.args.args.now in
    let is = c.requires.start in
    let n = c.count-region.result in
    let regions : length (file_ground c.args.picture.now).regions ≡ c.count-region.result = sym c.count-region.ensures.count in
    let contents : length (file_ground c.args.picture.now).contents ≡ c.count-region.result = contents-count c.args.picture.now ∙ regions in
    let row = c.deref.ensures.value ∙ c.in_ok-first.ensures in
    let e1 = put-stack g start is n contents regions (machine_of c.args.state.now) (machine_of c.put.new.state) c.stack_offset.result c.deref.result.now c.requires.loaded c.stack_offset.ensures row c.in_ok-put.ensures in
    let row2 = c.deref-2.ensures.value ∙ c.in_ok-row.ensures in
    inside-arguments g start is n contents regions (machine_of c.put.new.state) c.deref-2.result.now e1 row2

pub put-requires-2-clause-range : goal.put-requires-2-clause-range
put-requires-2-clause-range c =
    let g = file_ground c.args.picture.now in
    let start = start_with c.args.args.now in
    let is = c.requires.start in
    let n = c.count-region.result in
    let regions : length (file_ground c.args.picture.now).regions ≡ c.count-region.result = sym c.count-region.ensures.count in
    let contents : length (file_ground c.args.picture.now).contents ≡ c.count-region.result = contents-count c.args.picture.now ∙ regions in
    let row = c.deref.ensures.value ∙ c.in_ok-first.ensures in
    let e1 = put-stack g start is n contents regions (machine_of c.args.state.now) (machine_of c.put.new.state) c.stack_offset.result c.deref.result.now c.requires.loaded c.stack_offset.ensures row c.in_ok-put.ensures in
    let row2 = c.deref-2.ensures.value ∙ c.in_ok-row.ensures in
    range-arguments g start is n contents regions (machine_of c.put.new.state) c.deref-2.result.now e1 row2

pub put-requires-3-clause-inside : goal.put-requires-3-clause-inside
put-requires-3-clause-inside c =
    let g = file_ground c.args.picture.now in
    let start = start_with c.args.args.now in
    let is = c.requires.start in
    let n = c.count-region.result in
    let regions : length (file_ground c.args.picture.now).regions ≡ c.count-region.result = sym c.count-region.ensures.count in
    let contents : length (file_ground c.args.picture.now).contents ≡ c.count-region.result = contents-count c.args.picture.now ∙ regions in
    let row = c.deref.ensures.value ∙ c.in_ok-first.ensures in
    let e1 = put-stack g start is n contents regions (machine_of c.args.state.now) (machine_of c.put.new.state) c.stack_offset.result c.deref.result.now c.requires.loaded c.stack_offset.ensures row c.in_ok-put.ensures in
    let row2 = c.deref-2.ensures.value ∙ c.in_ok-row.ensures in
    let e2 = put-arguments g start is n contents regions (machine_of c.put.new.state) (machine_of c.put-2.new.state) c.deref-2.result.now e1 row2 c.in_ok-put-2.ensures in
    let cells : List Cell = Num 0 ∷ Num 1 ∷ Num 2 ∷ Num 3 ∷ Num 4 ∷ Num 5 ∷ Num 6 ∷ Num 7 ∷ [] in
    let row3 : (Num 0 ∷ Num 1 ∷ Num 2 ∷ Num 3 ∷ Num 4 ∷ Num 5 ∷ Num 6 ∷ Num 7 ∷ []) ≡ map Num (start_with c.args.args.now).canary = ap (map Num) (sym (canary-is (map string_bytes c.args.args.now))) in
    inside-canary g start is n contents regions (machine_of c.put-2.new.state) cells e2 row3

pub put-requires-3-clause-range : goal.put-requires-3-clause-range
put-requires-3-clause-range c =
    let g = file_ground c.args.picture.now in
    let start = start_with c.args.args.now in
    let is = c.requires.start in
    let n = c.count-region.result in
    let regions : length (file_ground c.args.picture.now).regions ≡ c.count-region.result = sym c.count-region.ensures.count in
    let contents : length (file_ground c.args.picture.now).contents ≡ c.count-region.result = contents-count c.args.picture.now ∙ regions in
    let row = c.deref.ensures.value ∙ c.in_ok-first.ensures in
    let e1 = put-stack g start is n contents regions (machine_of c.args.state.now) (machine_of c.put.new.state) c.stack_offset.result c.deref.result.now c.requires.loaded c.stack_offset.ensures row c.in_ok-put.ensures in
    let row2 = c.deref-2.ensures.value ∙ c.in_ok-row.ensures in
    let e2 = put-arguments g start is n contents regions (machine_of c.put.new.state) (machine_of c.put-2.new.state) c.deref-2.result.now e1 row2 c.in_ok-put-2.ensures in
    let cells : List Cell = Num 0 ∷ Num 1 ∷ Num 2 ∷ Num 3 ∷ Num 4 ∷ Num 5 ∷ Num 6 ∷ Num 7 ∷ [] in
    let row3 : (Num 0 ∷ Num 1 ∷ Num 2 ∷ Num 3 ∷ Num 4 ∷ Num 5 ∷ Num 6 ∷ Num 7 ∷ []) ≡ map Num (start_with c.args.args.now).canary = ap (map Num) (sym (canary-is (map string_bytes c.args.args.now))) in
    range-canary g start is n contents regions (machine_of c.put-2.new.state) cells e2 row3

pub returns : goal.returns
returns c =
    let g = file_ground c.args.picture.now in
    let start = start_with c.args.args.now in
    let is = c.requires.start in
    let n = c.count-region.result in
    let regions : length (file_ground c.args.picture.now).regions ≡ c.count-region.result = sym c.count-region.ensures.count in
    let contents : length (file_ground c.args.picture.now).contents ≡ c.count-region.result = contents-count c.args.picture.now ∙ regions in
    let row = c.deref.ensures.value ∙ c.in_ok-first.ensures in
    let e1 = put-stack g start is n contents regions (machine_of c.args.state.now) (machine_of c.put.new.state) c.stack_offset.result c.deref.result.now c.requires.loaded c.stack_offset.ensures row c.in_ok-put.ensures in
    let row2 = c.deref-2.ensures.value ∙ c.in_ok-row.ensures in
    let e2 = put-arguments g start is n contents regions (machine_of c.put.new.state) (machine_of c.put-2.new.state) c.deref-2.result.now e1 row2 c.in_ok-put-2.ensures in
    let cells : List Cell = Num 0 ∷ Num 1 ∷ Num 2 ∷ Num 3 ∷ Num 4 ∷ Num 5 ∷ Num 6 ∷ Num 7 ∷ [] in
    let row3 : (Num 0 ∷ Num 1 ∷ Num 2 ∷ Num 3 ∷ Num 4 ∷ Num 5 ∷ Num 6 ∷ Num 7 ∷ []) ≡ map Num (start_with c.args.args.now).canary = ap (map Num) (sym (canary-is (map string_bytes c.args.args.now))) in
    put-canary g start is n contents regions (machine_of c.put-2.new.state) (machine_of c.put-3.new.state) cells e2 row3 c.in_ok-put-3.ensures
