use Rattle.std.proofs.Common.{ℕ, List, ◌+◌, [], ◌∷◌, ◌++◌, drop, map, refl, sym, ap, ◌∙◌, arith}
use Rattle.std.proofs.lemmas.List.{drop_all, append_assoc, append-nil}
use Rattle.std.specs.Prelude.{slice_index_or}
use Rattle.rw_layout.specs.Rule.{bases_from, behind_all}
use Rattle.rw_layout.specs.Units.{extent_of}
use Rattle.rw_layout.specs.declared.units.Room.{Room}
use Rattle.rw_layout.proofs.BaseFacts.{bases-more, end-more, behind-le}
use Rattle.rw_layout.proofs.bases.place.Goals as goal

abbrev none : Room
none = record { size = 0; align = 0 }

pub loop-room-init : goal.loop-room-init
loop-room-init c = record { list = ap (λ xs. xs ++ bases_from c.args.gap c.args.cursor (map extent_of c.args.rooms.now)) c.in_ok-list.ensures.items; end = refl }

pub next_multiple_of-base-requires-clause-fits : goal.next_multiple_of-base-requires-clause-fits
next_multiple_of-base-requires-clause-fits c =
    let most = behind-le c.args.rooms.now c.args.gap c.loop-room.room-index none c.loop-room-test.true c.loop-room.end _ c.loop-room.invariant.end in
    omega (arith, most, c.requires.fits)

pub overflow_add-end : goal.overflow_add-end
overflow_add-end c =
    let most = behind-le c.args.rooms.now c.args.gap c.loop-room.room-index none c.loop-room-test.true c.loop-room.end _ c.loop-room.invariant.end in
    omega (arith, most, c.requires.fits, c.next_multiple_of-base.ensures.value)

pub overflow_add-end-in-loop-room : goal.overflow_add-end-in-loop-room
overflow_add-end-in-loop-room c =
    let most = behind-le c.args.rooms.now c.args.gap c.loop-room.room-index none c.loop-room-test.true c.loop-room.end _ c.loop-room.invariant.end in
    omega (arith, most, c.requires.fits, c.next_multiple_of-base.ensures.value)

pub loop-room-preserved : goal.loop-room-preserved
loop-room-preserved c =
    let rooms = c.args.rooms.now in
    let i = c.loop-room.room-index in
    let rest = map extent_of (drop (i + 1) rooms) in
    let more = bases-more rooms c.args.gap i none c.loop-room-test.true c.loop-room.end in
    let end = end-more rooms c.args.gap i none c.loop-room-test.true c.loop-room.end in
    let value = c.next_multiple_of-base.ensures.value in
    let size : ℕ = (slice_index_or rooms i none).size in
    let gap : ℕ = c.args.gap in
    let base : ℕ = c.next_multiple_of-base.result in
    let list : List ℕ = c.loop-room.list.items in
    record {
      list = ap (λ xs. xs ++ bases_from gap (base + size + gap) rest) c.in_ok-push.ensures.items ∙ append_assoc list (base ∷ []) (bases_from gap (base + size + gap) rest)
          ∙ ap (λ b. list ++ b ∷ bases_from gap (b + size + gap) rest) value ∙ ap (λ xs. list ++ xs) (sym more) ∙ c.loop-room.invariant.list;
      end = ap (λ b. behind_all gap (b + size + gap) rest) value ∙ sym end ∙ c.loop-room.invariant.end;
    }

pub returns-clause-list : goal.returns-clause-list
returns-clause-list c =
    let none_left = drop_all c.loop-room.room-index c.args.rooms.now (omega arith) in
    sym (append-nil c.loop-room.list.items) ∙ sym (ap (λ rs. c.loop-room.list.items ++ bases_from c.args.gap c.loop-room.end (map extent_of rs)) none_left) ∙ c.loop-room.invariant.list

pub returns-clause-end : goal.returns-clause-end
returns-clause-end c =
    let none_left = drop_all c.loop-room.room-index c.args.rooms.now (omega arith) in
    sym (ap (λ rs. behind_all c.args.gap c.loop-room.end (map extent_of rs)) none_left) ∙ c.loop-room.invariant.end
