use Rattle.std.proofs.Common.{◌≡◌, ◌∷◌, sym, ap, subst, arith}
use Rattle.rw_elf.specs.declared.section.Section.{Section}
use Rattle.rw_data.specs.declared.piece.Piece.TheVariants as piece
use Rattle.rw_data.specs.Pieces.{end_of_piece, pieces_from, start_of}
use Rattle.rw_data.proofs.Clean.{each_clean}
use Rattle.rw_tables.specs.Tables.{end_of}
use Rattle.rw_out.specs.Positions.{Goes}
use Rattle.rw_out.proofs.Rests.{run_next, section_kept, table_next}
use Rattle.rw_out.specs.Kept.{probes_in}
use Rattle.rw_out.proofs.steps.piece_step.Goals as goal

pub overflow_add-result : goal.overflow_add-result
overflow_add-result c =
    let file = c.args.picture.now in
    let low = (section_kept file (each_clean file c.elf-elf.ensures.clean) c.args.n c.requires.number).low in
    let end = ap end_of_piece c.in-Some-Quad.field-0-is in
    let start = ap start_of c.in-Some-Quad.field-0-is in
    let here = c.in-Some-Quad.ensures.here in
    let inside = c.in-Some-Quad.ensures.inside.1 in
    let addr = ap (λ (s : Section). s.addr) c.kept_section.ensures.section in
    let size = ap (λ (s : Section). s.size) c.kept_section.ensures.section in
    omega (arith, low, end, start, here, inside, addr, size)

pub returns-in-Some-Table : goal.returns-in-Some-Table
returns-in-Some-Table c =
    let file = c.args.picture.now in
    let n = c.args.n in
    let a = c.args.at in
    let t = c.in-Some-Table.table in
    let section = c.kept_section.result.now in
    let some = subst (λ p. pieces_from file section a ≡ p ∷ pieces_from file section (end_of_piece p)) c.in-Some-Table.field-0-is c.in-Some-Table.ensures.some in
    let next = subst (λ (s : Section). pieces_from file s a ≡ piece.Table t ∷ pieces_from file s (end_of t)) c.kept_section.ensures.section some in
    let end = ap end_of_piece c.in-Some-Table.field-0-is in
    let start = ap start_of c.in-Some-Table.field-0-is in
    let here = c.in-Some-Table.ensures.here in
    let after = c.in-Some-Table.ensures.inside.0 in
    let inside = c.in-Some-Table.ensures.inside.1 in
    let addr = ap (λ (s : Section). s.addr) c.kept_section.ensures.section in
    let size = ap (λ (s : Section). s.size) c.kept_section.ensures.section in
    let least = c.requires.least in
    let most = c.requires.most in (
      table_next file (probes_in c.args.probes.now) n a t next,
      (
        record { number = c.requires.number; least = omega (arith, start, here, least); most = omega (arith, start, here, most); stored = c.requires.stored },
        record { number = c.requires.number; least = omega (arith, start, here, least); most = omega (arith, end, inside, addr, size); stored = c.requires.stored },
        omega (arith, end, start, here, after),
      ),
      tt,
    )

pub returns-in-Some-Bytes : goal.returns-in-Some-Bytes
returns-in-Some-Bytes c =
    let file = c.args.picture.now in
    let probes = probes_in c.args.probes.now in
    let n = c.args.n in
    let a = c.args.at in
    let run = c.in-Some-Bytes.run' in
    let section = c.kept_section.result.now in
    let some = subst (λ p. pieces_from file section a ≡ p ∷ pieces_from file section (end_of_piece p)) c.in-Some-Bytes.field-0-is c.in-Some-Bytes.ensures.some in
    let next = subst (λ (s : Section). pieces_from file s a ≡ piece.Bytes run ∷ pieces_from file s run.end) c.kept_section.ensures.section some in
    subst (λ xs. Goes file probes xs c.line_step.result) (sym (run_next file probes n a run next)) (c.line_step.ensures probes)
