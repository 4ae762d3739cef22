use Rattle.std.proofs.Common.{◌≡◌, ℕ, true, false, rules, arith, subst}
use Rattle.std.proofs.lemmas.Option.{slice_get_within, get_or_from_slice_get}
use Rattle.std.proofs.lemmas.List.Sorted.{IsPartitionPoint-from_clause}
use Rattle.rw_layout.specs.Keys.{Key, comes_before}
use Rattle.rw_layout.proofs.KeyedLines.{partitioned}
use Rattle.rw_layout.proofs.keyed.count_before.Goals as goal

pub returns : goal.returns
returns c =
    let lines = c.args.lines.now in
    let key : Key = c.args.key in
    let point = IsPartitionPoint-from_clause (λ (line : Key × ℕ). comes_before line.0 key) lines _ c.partition_point.ensures.partitioned (partitioned lines c.requires key) (λ a r q k. search rules) in
    record {
      before = λ k line low at. subst (λ (x : Key × ℕ). comes_before x.0 key ≡ true) (get_or_from_slice_get lines k line line at) (point.0 k line (omega arith) low);
      behind = λ k line high at. subst (λ (x : Key × ℕ). comes_before x.0 key ≡ false) (get_or_from_slice_get lines k line line at) (point.1 k line high (slice_get_within lines k line at));
    }
