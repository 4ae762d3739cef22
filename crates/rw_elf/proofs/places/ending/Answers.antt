use Rattle.std.proofs.Common.{◌≡◌, ◌-◌, Some, None, sym, ◌∙◌, arith}
use Rattle.std.specs.List.{position}
use Rattle.rw_elf.specs.Places.{spans}
use Rattle.rw_elf.specs.Section.{null_section}
use Rattle.rw_elf.proofs.KeptPlaces.{apart_pairs, around_on, ending-none, ending-other, ending-some, ending-zero}
use Rattle.rw_elf.proofs.places.ending.Goals as goal

pub returns-then-address-eq0 : goal.returns-then-address-eq0
returns-then-address-eq0 c = sym (ending-zero c.args.list.now (apart_pairs c.args.list.now c.requires.apart) c.requires.some c.args.address (omega arith))

pub number_around-requires-clause-apart : goal.number_around-requires-clause-apart
number_around-requires-clause-apart c = apart_pairs c.args.list.now c.requires.apart

pub returns-in_err-number : goal.returns-in_err-number
returns-in_err-number c =
    let found : position (spans (c.args.address - 1)) c.args.list.now ≡ None = sym c.number_around.ensures ∙ c.in_err-number.was in
    rw c.from_residual.ensures (sym (ending-none c.args.list.now (apart_pairs c.args.list.now c.requires.apart) c.requires.some c.args.address (omega arith) found))

pub overflow_sub-address-2 : goal.overflow_sub-address-2
overflow_sub-address-2 c =
    let found : position (spans (c.args.address - 1)) c.args.list.now ≡ Some c.in_ok-number.number = sym c.number_around.ensures ∙ c.in_ok-number.was in
    let low = (around_on c.args.list.now (c.args.address - 1) c.in_ok-number.number null_section found).0 in
    omega (arith, low)

pub returns-then-address-section : goal.returns-then-address-section
returns-then-address-section c =
    let found : position (spans (c.args.address - 1)) c.args.list.now ≡ Some c.in_ok-number.number = sym c.number_around.ensures ∙ c.in_ok-number.was in
    let low = (around_on c.args.list.now (c.args.address - 1) c.in_ok-number.number null_section found).0 in
    let same = c.if-address-section.true in
    sym (ending-some c.args.list.now (apart_pairs c.args.list.now c.requires.apart) c.requires.some c.args.address c.in_ok-number.number null_section (omega arith) found (omega (arith, low, same)))

pub returns-else-address-section : goal.returns-else-address-section
returns-else-address-section c =
    let found : position (spans (c.args.address - 1)) c.args.list.now ≡ Some c.in_ok-number.number = sym c.number_around.ensures ∙ c.in_ok-number.was in
    let low = (around_on c.args.list.now (c.args.address - 1) c.in_ok-number.number null_section found).0 in
    let differs = c.if-address-section.false in
    sym (ending-other c.args.list.now (apart_pairs c.args.list.now c.requires.apart) c.requires.some c.args.address c.in_ok-number.number null_section (omega arith) found (λ same. differs (omega (arith, low, same))))
