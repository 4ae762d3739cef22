use Rattle.std.proofs.Common.{◌≡◌, ◌<◌, ◌+◌, ◌∷◌, ◌∙◌, [], ap, length, get_or, subst, sym, arith, Some}
use Rattle.std.proofs.lemmas.Option.{slice_get-get_or, get_or_from_slice_get}
use Rattle.rw_machine.specs.Replying.{stored_one, stored_rows, stores_of, AreStorable}
use Rattle.rw_machine.specs.Views.{rows_of}
use Rattle.rw_machine.proofs.RowLemmas.{row-item, row-within}
use Rattle.rw_machine.proofs.WritesAll.{storable-after}
use Rattle.rw_machine.proofs.memory.Memory.byte_after.Goals as goal

pub returns-in-Two : goal.returns-in-Two
returns-in-Two g c d =
    let memory = c.args.self.now in
    let rows = rows_of memory in
    let place = c.args.place in
    let at = place.offset + c.args.i in
    let row = c.index-row.result.now in
    let byte = c.index-before.result.now in
    let item : row.items ≡ get_or rows place.region [] = row-item (λ row. row.items) memory.rows.items place.region row (row-within (λ row. row.items) memory.rows.items place 8 c.requires.there) c.index-row.ensures in
    let size : length row.items ≡ length (get_or rows place.region []) = ap length item in
    let room = c.requires.there.bytes in
    let near = c.requires.near in
    let below : at < length row.items = omega (arith, size, room, near) in
    let before : get_or (get_or rows place.region []) at d ≡ byte =
    ap (λ row. get_or row at d) (sym item) ∙ get_or_from_slice_get row.items at byte d (slice_get-get_or row.items at byte below ∙ ap Some (sym c.index-before.ensures)) in
    let storable = subst (λ stores. AreStorable rows (stores_of stores)) c.in-Two.is c.requires.storable in
    subst (λ stores. get_or (get_or (stored_rows (stores_of stores) rows) place.region []) at d ≡ c.byte_stored-in-Two.result) (sym c.in-Two.is)
    (c.byte_stored-in-Two.ensures (stored_one c.in-Two.s rows) d (storable-after rows c.in-Two.s (c.in-Two.t ∷ []) storable.0 storable.1).0
    (c.byte_stored-first.ensures rows d storable.0 before))
