use Rattle.std.proofs.Common.{◌≡◌, ◌∙◌, ◌+◌, ap, length, map, take, subst, sym}
use Rattle.std.specs.Vec.{with_item, with_items}
use Rattle.std.proofs.lemmas.List.{with_items_is}
use Rattle.rw_base.specs.Width.{byte_count}
use Rattle.rw_domain.specs.Eight.{eight_of}
use Rattle.rw_machine.specs.Running.{row_written, written_at}
use Rattle.rw_machine.specs.Views.{HasRange, rows_of}
use Rattle.rw_machine.proofs.After.{low-count}
use Rattle.rw_machine.proofs.Front.{marks-written}
use Rattle.rw_machine.proofs.RowLemmas.{row-set, row-within, lengths-written}
use Rattle.rw_machine.proofs.memory.Memory.write_eight.Given as given
use Rattle.rw_machine.proofs.memory.Memory.write_eight.Goals as goal

written : (g : given.Over) (c : goal.After-without-self g) → map (λ row. row.items) (with_item c.args.self.now.rows c.args.at.region (with_items c.index_mut.result.now c.overwrite_word-end.new.row)).items ≡ written_at (rows_of c.args.self.now) c.args.at (take (byte_count c.args.w) (eight_of c.args.bytes.now))
written g c =
    let e : length c.overwrite_word-end.new.row ≡ c.index_mut.result.now.len = c.overwrite_word-end.auto.row ∙ c.deref_mut.ensures.len in
    row-set (λ row. row.items) c.args.self.now.rows.items c.args.at.region c.index_mut.result.now (with_items c.index_mut.result.now c.overwrite_word-end.new.row)
    (λ row. row_written row c.args.at.offset (take (byte_count c.args.w) (eight_of c.args.bytes.now)))
    (row-within (λ row. row.items) c.args.self.now.rows.items c.args.at (byte_count c.args.w) c.requires) c.index_mut.ensures.value
    (with_items_is c.index_mut.result.now c.overwrite_word-end.new.row e ∙ c.overwrite_word-end.ensures.row ∙ ap (λ row. row_written row c.args.at.offset (take (byte_count c.args.w) (eight_of c.args.bytes.now))) c.deref_mut.ensures.value)

pub invariant_of-self : goal.invariant_of-self
invariant_of-self g c =
    let bytes = take (byte_count c.args.w) (eight_of c.args.bytes.now) in
    let size = sym (low-count c.args.w c.args.bytes.now) in
    record {
      forgotten =
          marks-written c.args.self.now.undefined (rows_of c.args.self.now) _ c.args.at bytes c.overwrite_word-end.result c.args.self.now.marks c.without-self.result c.args.self.now.forgotten
          (subst (λ n. HasRange (rows_of c.args.self.now) c.args.at n) size c.requires) (c.overwrite_word-end.ensures.end ∙ ap (λ n. c.args.at.offset + n) size) c.without-self.ensures (written g c);
    }

pub returns-clause-rows : goal.returns-clause-rows
returns-clause-rows g c = written g c.before

pub returns-clause-lengths : goal.returns-clause-lengths
returns-clause-lengths g c =
    ap (map length) (returns-clause-rows g c) ∙ lengths-written (rows_of c.args.self.now) c.args.at (take (byte_count c.args.w) (eight_of c.args.bytes.now)) (subst (λ n. HasRange (rows_of c.args.self.now) c.args.at n) (sym (low-count c.args.w c.args.bytes.now)) c.requires)
