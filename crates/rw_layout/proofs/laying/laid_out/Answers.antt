use Rattle.std.proofs.Common.{◌≡◌, ℕ, ◌+◌, ◌<◌, ◌≤◌, ◌^◌, ◌∷◌, ◌++◌, List, map, length, sym, ap, subst, ◌∙◌, arith, All}
use Rattle.std.specs.Int.{next_multiple_of}
use Rattle.std.specs.Prelude.{[], drop, take, slice_index, slice_index_or}
use Rattle.std.specs.List.Sorted.{IsNonDecreasingBy}
use Rattle.asm_items.specs.Lines.{Items, copies_of, copies_number}
use Rattle.rw_layout.specs.NameTable.{IsTable, named_at, own_among}
use Rattle.rw_layout.specs.Places.{AreInsns, ArePlaced}
use Rattle.rw_layout.specs.Program.{Numbered, seen, shown}
use Rattle.rw_layout.specs.Rule.{bases_from, behind_copies, behind_units, copy_bases, copy_extent, first_name_address, functions_number, region_bases, unit_bases}
use Rattle.rw_layout.specs.Units.{extent_of}
use Rattle.rw_layout.specs.declared.laying.Order.{Order}
use Rattle.rw_layout.specs.declared.units.Room.{Room}
use Rattle.rw_layout.proofs.LayoutFacts.{bases-low, copies-aligned, copies-count, copies-fit, copies-low, is-laid, lines-fit, name-low, regions-fit}
use Rattle.rw_layout.proofs.laying.laid_out.Goals as goal

pub place-requires-clause-aligned : goal.place-requires-clause-aligned
place-requires-clause-aligned c = copies-aligned (shown (seen c.args.text.now)) c.deref.result.now (ap (map extent_of) c.deref.ensures.value ∙ c.in_ok-copy_rooms.ensures)

pub place-requires-clause-fits : goal.place-requires-clause-fits
place-requires-clause-fits c =
    let text : Numbered = seen c.args.text.now in
    let low = copies-low text c.requires.formed c.requires.program c.requires.few c.args.order c.args.gap c.requires.close in
    let same = copies-fit text c.requires.formed c.requires.program c.requires.few c.args.order c.args.gap c.requires.close c.in_ok-units.units.end c.deref.result.now c.in_ok-units.ensures.end (ap (map extent_of) c.deref.ensures.value ∙ c.in_ok-copy_rooms.ensures) in
    omega (arith, low, same)

pub next_multiple_of-first_name-requires-clause-fits : goal.next_multiple_of-first_name-requires-clause-fits
next_multiple_of-first_name-requires-clause-fits c =
    let text : Numbered = seen c.args.text.now in
    let low = name-low text c.requires.formed c.requires.program c.requires.few c.args.order c.args.gap c.requires.close in
    let same = copies-fit text c.requires.formed c.requires.program c.requires.few c.args.order c.args.gap c.requires.close c.in_ok-units.units.end c.deref.result.now c.in_ok-units.ensures.end (ap (map extent_of) c.deref.ensures.value ∙ c.in_ok-copy_rooms.ensures) in
    let end : c.in_ok-copies.copies.end ≡ behind_copies (shown text) c.args.order c.args.gap = c.in_ok-copies.ensures.end ∙ same in
    let fits : next_multiple_of c.in_ok-copies.copies.end 16 < 2 ^ 62 = subst (λ n. next_multiple_of n 16 < 2 ^ 62) (sym end) low in
    omega (arith, fits)

pub name_addresses-requires-clause-fits : goal.name_addresses-requires-clause-fits
name_addresses-requires-clause-fits c =
    let text : Numbered = seen c.args.text.now in
    let low = name-low text c.requires.formed c.requires.program c.requires.few c.args.order c.args.gap c.requires.close in
    let same = copies-fit text c.requires.formed c.requires.program c.requires.few c.args.order c.args.gap c.requires.close c.in_ok-units.units.end c.deref.result.now c.in_ok-units.ensures.end (ap (map extent_of) c.deref.ensures.value ∙ c.in_ok-copy_rooms.ensures) in
    let end : c.in_ok-copies.copies.end ≡ behind_copies (shown text) c.args.order c.args.gap = c.in_ok-copies.ensures.end ∙ same in
    subst (λ n. n < 2 ^ 62) (sym (c.next_multiple_of-first_name.ensures.value ∙ ap (λ n. next_multiple_of n 16) end)) low

copies-are : (items : Items) (order : Order) (gap end : ℕ) (rooms : List Room) → end ≡ behind_units items order gap → map extent_of rooms ≡ map copy_extent (copies_of items) → bases_from 0 end (map extent_of rooms) ≡ copy_bases items order gap
copies-are items order gap end rooms e are = ap (bases_from 0 end) are ∙ ap (λ n. bases_from 0 n (map copy_extent (copies_of items))) e

pub name_addresses-requires-clause-bases : goal.name_addresses-requires-clause-bases
name_addresses-requires-clause-bases c =
    let text : Numbered = seen c.args.text.now in
    let are = c.in_ok-copies.ensures.list ∙ copies-are (shown text) c.args.order c.args.gap c.in_ok-units.units.end c.deref.result.now c.in_ok-units.ensures.end (ap (map extent_of) c.deref.ensures.value ∙ c.in_ok-copy_rooms.ensures) in
    ap length (c.deref-2.ensures.value ∙ are) ∙ copies-count text c.requires.formed c.requires.program c.requires.few c.args.order c.args.gap c.requires.close

pub line_addresses-requires-clause-low : goal.line_addresses-requires-clause-low
line_addresses-requires-clause-low c =
    subst (λ bs. All (λ base. base < 2 ^ 62) bs) (sym (c.deref-3.ensures.value ∙ c.in_ok-units.ensures.list)) (bases-low (seen c.args.text.now) c.requires.formed c.requires.program c.requires.few c.args.order c.args.gap c.requires.close)

pub line_addresses-requires-clause-fits : goal.line_addresses-requires-clause-fits
line_addresses-requires-clause-fits c = lines-fit (seen c.args.text.now) c.requires.formed c.requires.program c.requires.few c.args.order c.args.gap c.requires.close

pub region_list-requires-clause-units : goal.region_list-requires-clause-units
region_list-requires-clause-units c =
    subst (λ bs. functions_number (shown (seen c.args.text.now)) + copies_number (shown (seen c.args.text.now)) ≤ length bs) (sym (c.deref-5.ensures.value ∙ c.in_ok-units.ensures.list))
    (regions-fit (seen c.args.text.now) c.requires.formed c.requires.program c.requires.few c.args.order c.args.gap c.requires.close)

pub invariant_of-result : goal.invariant_of-result
invariant_of-result c = (c.requires.ascend, subst (λ addresses. IsNonDecreasingBy (λ q. slice_index addresses q) c.in_ok-insns.insns.items) c.deref-4.ensures.value c.in_ok-insns.ensures.ascend)

pub returns : goal.returns
returns c = λ sizes.
    let text : Numbered = seen c.args.text.now in
    let items : Items = shown text in
    let order = c.args.order in
    let gap = c.args.gap in
    let functions : ℕ = functions_number items in
    let sections : ℕ = copies_number items in
    let rooms_are = ap (map extent_of) c.deref.ensures.value ∙ c.in_ok-copy_rooms.ensures in
    let units_5 : c.deref-5.result.now ≡ unit_bases items order gap = c.deref-5.ensures.value ∙ c.in_ok-units.ensures.list in
    let units_3 : c.deref-3.result.now ≡ unit_bases items order gap = c.deref-3.ensures.value ∙ c.in_ok-units.ensures.list in
    let copies_list : c.in_ok-copies.copies.list.items ≡ copy_bases items order gap = c.in_ok-copies.ensures.list ∙ copies-are items order gap c.in_ok-units.units.end c.deref.result.now c.in_ok-units.ensures.end rooms_are in
    let copies_6 : c.deref-6.result.now ≡ copy_bases items order gap = c.deref-6.ensures.value ∙ copies_list in
    let copies_2 : c.deref-2.result.now ≡ copy_bases items order gap = c.deref-2.ensures.value ∙ copies_list in
    let end : c.in_ok-copies.copies.end ≡ behind_copies items order gap =
    c.in_ok-copies.ensures.end ∙ copies-fit text c.requires.formed c.requires.program c.requires.few order gap c.requires.close c.in_ok-units.units.end c.deref.result.now c.in_ok-units.ensures.end rooms_are in
    let first : c.next_multiple_of-first_name.result ≡ first_name_address items order gap = c.next_multiple_of-first_name.ensures.value ∙ ap (λ n. next_multiple_of n 16) end in
    let regions : c.in_ok-regions.regions.items ≡ region_bases items order gap =
    c.in_ok-regions.ensures ∙ ap (λ cs. take sections (drop functions c.deref-5.result.now) ++ cs ++ slice_index_or c.deref-5.result.now (functions + sections) 65536 ∷ []) copies_6
    ∙ ap (λ us. take sections (drop functions us) ++ copy_bases items order gap ++ slice_index_or us (functions + sections) 65536 ∷ []) units_5 in
    let names : IsTable text.names c.in_ok-names.names.items (named_at (copy_bases items order gap) (first_name_address items order gap) (copies_of items) (own_among items items)) =
    subst (λ n. IsTable text.names c.in_ok-names.names.items (named_at (copy_bases items order gap) n (copies_of items) (own_among items items))) first
    (subst (λ cs. IsTable text.names c.in_ok-names.names.items (named_at cs c.next_multiple_of-first_name.result (copies_of items) (own_among items items))) copies_2 c.in_ok-names.ensures) in
    let addresses : ArePlaced c.in_ok-addresses.addresses.items (unit_bases items order gap) items (length text.items) =
    subst (λ us. ArePlaced c.in_ok-addresses.addresses.items us items (length text.items)) units_3 c.in_ok-addresses.ensures in
    let insns : AreInsns c.in_ok-insns.insns.items items (length text.items) = c.in_ok-insns.ensures.insns in
    is-laid text c.requires.formed c.requires.program c.requires.few order gap c.requires.close c.args.lines.items c.requires.keyed c.in_ok-addresses.addresses.items c.in_ok-insns.insns.items c.in_ok-regions.regions.items c.in_ok-names.names.items
    addresses insns regions names sizes
