use Rattle.std.proofs.Common.{ℕ, List, ◌+◌, length, take, true, sym, ap, subst, ◌∙◌, arith}
use Rattle.asm_items.specs.Named.{named}
use Rattle.asm_items.specs.Lines.{Items, copies_of}
use Rattle.rw_layout.specs.Program.{seen, shown}
use Rattle.rw_layout.specs.NameTable.{IsTable, named_at, own_among}
use Rattle.rw_layout.proofs.Lines.{shown-at, read-at, item-formed}
use Rattle.rw_layout.proofs.UseFacts.{used-within, named-given, named-kept, named-none}
use Rattle.rw_layout.proofs.names.name_addresses.Goals as goal
use Rattle.rw_layout.proofs.names.name_addresses.Goals.{in-Some+then-give, in-Some+else-give, in_default}

pub give-requires : goal.give-requires
give-requires c =
    let text = c.args.text.now in
    let i = c.loop-i.i in
    let item = c.index.result.now in
    let read = read-at text.items.items i item (omega arith) c.index.ensures in
    let good = item-formed (shown (seen text)) i (named text.names item) c.requires.formed.formed (shown-at text.names text.items.items i item read) in
    let within = used-within text.names item c.in-Some.id good (sym c.name_used.ensures ∙ c.in-Some.is) in
    omega (arith, within, c.loop-i.invariant.table.count)

pub loop-i-preserved : goal.loop-i-preserved
loop-i-preserved c =
    let text = c.args.text.now in
    let items : Items = shown (seen text) in
    let i = c.loop-i.i in
    let item = c.index.result.now in
    let bases = c.args.bases.now in
    let first = c.args.first in
    let read = read-at text.items.items i item (omega arith) c.index.ensures in
    let good = item-formed items i (named text.names item) c.requires.formed.formed (shown-at text.names text.items.items i item read) in
    let inv = c.loop-i.invariant in
    let own : List (List ℕ) = own_among items (take (i + 1) items) in
    elim c.match-name_used.branch [
      | in-Some+then-give w ↦
          let used = sym c.name_used.ensures ∙ w.in-Some.is in
          let given = w.give.ensures.given w.if-give.true in
          let both = named-given text.names c.are_distinct.ensures text.items.items i item read good c.loop-i.list.items w.give.new.list.items true bases first inv.table w.in-Some.id c.loop-i.next used inv.next given.0 given.1 in
          record {
            next = omega (arith, w.next-is, both.1, inv.next);
            few = omega (arith, both.1, inv.few);
            table = subst (λ l. IsTable text.names l.items (named_at bases first (copies_of items) own)) (sym w.list-is) both.0;
          }
      | in-Some+else-give w ↦
          let used = sym c.name_used.ensures ∙ w.in-Some.is in
          let kept = w.give.ensures.kept w.if-give.false in
          let same = named-kept text.names c.are_distinct.ensures text.items.items i item read good c.loop-i.list.items w.give.new.list.items true bases first inv.table w.in-Some.id used kept.0 in
          let long = ap length same in
          record {
            next = omega (arith, w.next-is, long, inv.next);
            few = omega (arith, long, inv.few);
            table = subst (λ l. IsTable text.names l.items (named_at bases first (copies_of items) own)) (sym w.list-is)
                (subst (λ t. IsTable text.names t (named_at bases first (copies_of items) own)) (sym kept.1) (subst (λ o. IsTable text.names c.loop-i.list.items (named_at bases first (copies_of items) o)) (sym same) inv.table));
          }
      | in_default w ↦
          let none = sym c.name_used.ensures ∙ cc in
          let same = named-none text.names c.are_distinct.ensures text.items.items i item read good c.loop-i.list.items c.loop-i.list.items true bases first inv.table none in
          let long = ap length same in
          record {
            next = omega (arith, w.next-is, long, inv.next);
            few = omega (arith, long, inv.few);
            table = subst (λ l. IsTable text.names l.items (named_at bases first (copies_of items) own)) (sym w.list-is) (subst (λ o. IsTable text.names c.loop-i.list.items (named_at bases first (copies_of items) o)) (sym same) inv.table);
          }
    ]
