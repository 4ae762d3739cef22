-- What is known of a file that breaks no rule of the reader: its length, and the indices of its sections.
use Rattle.std.proofs.Common.{◌≡◌, ℕ, ◌^◌, ◌<◌, List, length, get_or, None, arith}
use Rattle.rw_base.specs.Rules.{first}
use Rattle.rw_elf.specs.Header.{header_count}
use Rattle.rw_elf.specs.declared.section.Section.{Section}
use Rattle.rw_elf.specs.Section.{sections}
use Rattle.rw_elf.specs.Tables.{elf_rules}
use Rattle.rw_elf.proofs.Limits.{clean_size}
use Rattle.rw_elf.proofs.SectionFacts.{each_section, section_at-own_index}

-- the index of a section is one of the table's
pub index_within : (bytes : List ℕ) (k : ℕ) (d : Section) → k < length (sections bytes) → (get_or (sections bytes) k d).index < header_count bytes
index_within bytes k d within =
    each_section (λ s. s.index < header_count bytes) bytes (λ i low. omega (arith, section_at-own_index bytes i)) k d within

-- the file has less than 2^32 bytes
pub length_below : (bytes : List ℕ) → first (elf_rules bytes) ≡ None → length bytes < 2 ^ 32
length_below bytes h = omega (arith, clean_size bytes h)
