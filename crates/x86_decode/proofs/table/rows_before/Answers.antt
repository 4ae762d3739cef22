use Rattle.std.proofs.Common.{◌≡◌, ◌+◌, ◌<◌, ◌≤◌, ◌⊎◌, inl, inr, List, length, ℕ, slice_index_or, ap, sym, ◌∙◌, arith}
use Rattle.x86_decode.specs.declared.row.Row.{Row}
use Rattle.x86_decode.specs.Index.{first_rows}
use Rattle.x86_decode.proofs.IndexLaws.{one_byte_at, two_bytes_at, rows_before_outside}
use Rattle.x86_decode.proofs.table.rows_before.Goals as goal

pub returns-then-opcode-lt256 : goal.returns-then-opcode-lt256
returns-then-opcode-lt256 c = c.from-then-opcode-lt256.ensures ∙ (ap (λ (xs : List ℕ). slice_index_or xs c.from.result 0) c.one_byte.ensures ∙ (ap (λ k. slice_index_or (first_rows 0 256) k 0) c.from.ensures ∙ one_byte_at c.args.opcode c.if-opcode-lt256.true))

pub returns-then-opcode-lt4096 : goal.returns-then-opcode-lt4096
returns-then-opcode-lt4096 c =
    let k = c.from-then-opcode-lt4096.result in
    let e : 0x0F00 + k ≡ c.args.opcode = omega (arith, c.from-then-opcode-lt4096.ensures, c.if-opcode-ge3840.true) in
    let lt : k < 256 = omega (arith, e, c.if-opcode-lt4096.true) in
    c.from-then-opcode-lt4096-2.ensures ∙ (ap (λ (xs : List ℕ). slice_index_or xs k 0) c.two_bytes.ensures ∙ two_bytes_at c.args.opcode k e lt)

pub returns-else-opcode-ge3840 : goal.returns-else-opcode-ge3840
returns-else-opcode-ge3840 c =
    let out : (c.args.opcode < 0x0F00) ⊎ (0x1000 ≤ c.args.opcode) = elim c.else-opcode-ge3840.either [
      | inl p ↦ inr p.1
      | inr p ↦ inl p
    ] in
    ap (λ (xs : List Row). length xs) c.rows.ensures ∙ sym (rows_before_outside c.args.opcode c.if-opcode-lt256.false out)
