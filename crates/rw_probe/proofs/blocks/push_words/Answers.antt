use Rattle.std.proofs.Common.{◌≡◌, ◌+◌, ◌*◌, sym, ap, ◌∙◌, arith}
use Rattle.std.specs.List.{list_any, range_with_len}
use Rattle.rw_funcs.specs.Points.{is_one_of}
use Rattle.rw_tables.specs.Tables.{entry_at}
use Rattle.rw_probe.specs.Leaders.{is_in, leads_to}
use Rattle.rw_probe.proofs.Adding.{or-false, adds-none, adds-one, adds-same, adds-next}
use Rattle.rw_probe.proofs.blocks.push_words.Goals.{in-Some+in_ok-push, in_default}
use Rattle.rw_probe.proofs.blocks.push_words.Goals as goal

pub loop-k-init : goal.loop-k-init
loop-k-init c = λ a. sym (or-false (is_one_of c.args.list.now.items a))

pub loop-k-preserved : goal.loop-k-preserved
loop-k-preserved c =
    adds-next (λ a k. leads_to a (entry_at c.args.tables.now (c.args.table.now.base + 4 * k))) c.loop-k.k c.args.list.now.items c.loop-k.list.items c.match-entry_at.list.items c.loop-k.invariant
    (elim c.match-entry_at.branch [
      | in-Some+in_ok-push w ↦
          adds-one c.loop-k.list.items c.match-entry_at.list.items w.in-Some.target (λ a. leads_to a (entry_at c.args.tables.now (c.args.table.now.base + 4 * c.loop-k.k))) (ap (λ v. v.items) w.list-is ∙ w.in_ok-push.ensures.items)
          (λ a. ap (leads_to a) (sym c.entry_at.ensures ∙ w.in-Some.is))
      | in_default w ↦
          adds-none c.loop-k.list.items c.match-entry_at.list.items (λ a. leads_to a (entry_at c.args.tables.now (c.args.table.now.base + 4 * c.loop-k.k))) (ap (λ v. v.items) w.list-is)
          (λ a. ap (leads_to a) (sym c.entry_at.ensures ∙ w.in_default.is))
    ])

pub returns : goal.returns
returns c =
    let past = c.loop-k-test.false in
    let end = c.loop-k.auto.k-end in
    let last : c.loop-k.k ≡ c.args.table.now.count = omega (arith, past, end) in
    adds-same c.args.list.now.items c.loop-k.list.items (λ a. list_any (λ k. leads_to a (entry_at c.args.tables.now (c.args.table.now.base + 4 * k))) (range_with_len 0 c.loop-k.k)) (λ a. is_in c.args.tables.now a c.args.table.now)
    (λ a. ap (λ n. list_any (λ k. leads_to a (entry_at c.args.tables.now (c.args.table.now.base + 4 * k))) (range_with_len 0 n)) last) c.loop-k.invariant
