use Rattle.std.proofs.Common.{◌≡◌, Some, rules, arith}
use Rattle.rw_elf.specs.Places.{bytes_at}
use Rattle.rw_elf.proofs.BytesAt.{bytes_at-length}
use Rattle.rw_reloc.proofs.entries.number_in_place.Goals as goal

pub u64_at-requires : goal.u64_at-requires
u64_at-requires c =
    let found : bytes_at c.args.elf.now c.args.address 8 ≡ Some c.in-Some.word.now = search rules in
    let size = bytes_at-length c.args.elf.now c.args.address 8 c.in-Some.word.now c.file-file.ensures.clean found in
    omega (arith, size)
