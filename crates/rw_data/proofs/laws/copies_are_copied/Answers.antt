use Rattle.std.proofs.Common.{◌≡◌, ℕ, ◌==◌, true, arith}
use Rattle.std.proofs.lemmas.Bool.Decides.{nat_tests}
use Rattle.rw_elf.proofs.Around.{filter_contains, filter_tests}
use Rattle.rw_reloc.specs.Slots.{copies_of, is_copy_slot, slots_of}
use Rattle.rw_data.proofs.Clean.{each_clean}
use Rattle.rw_data.proofs.Copied.{copied}
use Rattle.rw_data.proofs.laws.copies_are_copied.Goals as goal

five : (kind : ℕ) → (kind == 5) ≡ true → kind ≡ 5
five kind h = grind (arith, nat_tests)

pub returns : goal.returns
unfolding copies_of
returns c = λ bytes s clean here. copied bytes s (each_clean bytes clean).relocations (filter_contains is_copy_slot (slots_of bytes) s here) (five s.kind (filter_tests is_copy_slot (slots_of bytes) s here))
