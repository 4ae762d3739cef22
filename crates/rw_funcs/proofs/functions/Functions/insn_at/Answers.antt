use Rattle.std.proofs.Common.{◌≡◌, ◌-◌, drop, sym, ap, ◌∙◌, arith}
use Rattle.std.proofs.lemmas.Grind.{get_or_default_zero}
use Rattle.x86_decode.specs.Reading.{decode_of}
use Rattle.rw_funcs.specs.Found.{IsCodeAt}
use Rattle.rw_funcs.specs.Notes.{length_or}
use Rattle.rw_funcs.specs.Points.{file_points}
use Rattle.rw_funcs.proofs.FunctionsOf.{address-inside, marked-length, insn-none, insn-there}
use Rattle.rw_funcs.proofs.functions.Functions.insn_at.Goals as goal

pub returns-then-index-eq0 : goal.returns-then-index-eq0
returns-then-index-eq0 c =
    let is : IsCodeAt c.args.self.now c.args.address c.in_ok-part.part.now = c.in_ok-part.ensures.some in
    let on = address-inside c.args.address c.in_ok-part.part.now is.has in
    let low = on.0 in
    let high = on.1 in
    let size = is.marked.marks.size in
    let none : length_or 0 (file_points c.args.self.now) c.args.address ≡ 0 =
    sym (marked-length c.args.self.now c.args.address c.in_ok-part.part.now is) ∙ sym (get_or_default_zero c.in_ok-part.part.now.marks.items (c.args.address - c.in_ok-part.part.now.section.addr) c.index.result.now (omega (arith, low, high, size))) ∙ sym c.index.ensures ∙ c.if-index-eq0.true in
    sym (insn-none (file_points c.args.self.now) c.args.address c.in_ok-part.ensures.lengths none)

pub returns : goal.returns
returns c =
    let is : IsCodeAt c.args.self.now c.args.address c.in_ok-part.part.now = c.in_ok-part.ensures.some in
    let on = address-inside c.args.address c.in_ok-part.part.now is.has in
    let low = on.0 in
    let high = on.1 in
    let size = is.marked.marks.size in
    let value = c.index.ensures ∙ get_or_default_zero c.in_ok-part.part.now.marks.items (c.args.address - c.in_ok-part.part.now.section.addr) c.index.result.now (omega (arith, low, high, size)) ∙ marked-length c.args.self.now c.args.address c.in_ok-part.part.now is in
    c.decode_one.ensures.exact
    ∙ ap (decode_of c.args.address) (c.rest.ensures ∙ ap (drop (c.args.address - c.in_ok-part.part.now.section.addr)) c.deref.ensures.value)
    ∙ insn-there c.args.self.now c.in_ok-part.ensures.clean_file c.in_ok-part.ensures.clean c.args.address c.in_ok-part.part.now is (λ none. c.if-index-eq0.false (value ∙ none))
