use Rattle.std.proofs.Common.{[], ◌∷◌, ◌++◌, map, sym, ap, ◌∙◌, arith}
use Rattle.std.proofs.lemmas.List.{length-map, map-append, take_all}
use Rattle.asm_items.specs.Named.{named}
use Rattle.asm_items.specs.Lines.{copies_of}
use Rattle.rw_layout.specs.Program.{seen, shown}
use Rattle.rw_layout.specs.Rule.{copy_extent}
use Rattle.rw_layout.specs.Units.{extent_of}
use Rattle.rw_layout.proofs.Lines.{read-at}
use Rattle.rw_layout.proofs.UseFacts.{room-more, no-room-more}
use Rattle.rw_layout.proofs.copies.copy_rooms.Goals as goal
use Rattle.rw_layout.proofs.copies.copy_rooms.Goals.{in-Some+in_ok-push, in_default}

pub loop-i-preserved : goal.loop-i-preserved
loop-i-preserved c =
    let text = c.args.text.now in
    let i = c.loop-i.i in
    let item = c.index.result.now in
    let read = read-at text.items.items i item (omega arith) c.index.ensures in
    elim c.match-copy_room.branch [
      | in-Some+in_ok-push w ↦
          let room = sym c.copy_room.ensures ∙ w.in-Some.is in
          ap (λ rs. map extent_of rs.items) w.rooms-is ∙ ap (map extent_of) w.in_ok-push.ensures.items ∙ map-append extent_of c.loop-i.rooms.items (w.in-Some.room ∷ [])
          ∙ ap (λ rs. rs ++ extent_of w.in-Some.room ∷ []) c.loop-i.invariant ∙ sym (room-more text.names text.items.items i item read w.in-Some.room room)
      | in_default w ↦
          let none = sym c.copy_room.ensures ∙ cc in
          ap (λ rs. map extent_of rs.items) w.rooms-is ∙ c.loop-i.invariant ∙ sym (ap (map copy_extent) (no-room-more text.names text.items.items i item read none))
    ]

pub returns : goal.returns
returns c =
    let text = c.args.text.now in
    c.loop-i.invariant ∙ ap (λ xs. map copy_extent (copies_of xs)) (take_all c.loop-i.i (shown (seen text)) (omega (arith, length-map text.items.items (named text.names))))
