-- The text of a fault.
use Rattle.std.specs.Prelude.{ℕ, ◌+◌, ◌/◌, ◌%◌, List, [], ◌∷◌, ◌++◌, codes, decimal}
use Rattle.rw_base.specs.declared.fault.Fault.{Fault}
use Rattle.rw_base.specs.declared.fault.Detail.{Detail}
use Rattle.rw_base.specs.declared.fault.Detail.TheVariants.{Nothing, Number, Offset, Address, Section, Line, NumberAndAddress}
use Rattle.rw_base.specs.Fault.{number_of, name_of, detail_of}
use Rattle.asm_print.specs.Line.{hex}

-- a number of two digits
abbrev pub two_digits : ℕ → List ℕ
two_digits n = (48 + n / 10) ∷ (48 + n % 10) ∷ []

unfoldable pub number_part : ℕ → List ℕ
number_part n = codes " " ++ decimal n

unfoldable pub offset_part : ℕ → List ℕ
offset_part o = codes " at offset " ++ decimal o

unfoldable pub address_part : ℕ → List ℕ
address_part a = codes " at 0x" ++ hex a

unfoldable pub section_part : ℕ → List ℕ
section_part i = codes " in section " ++ decimal i

unfoldable pub line_part : ℕ → List ℕ
line_part k = codes " at line " ++ decimal k

-- what stands behind the name: offsets and numbers are decimal, addresses hexadecimal
unfoldable pub detail_text : Detail → List ℕ
detail_text Nothing = []
detail_text (Number n) = number_part n
detail_text (Offset o) = offset_part o
detail_text (Address a) = address_part a
detail_text (Section i) = section_part i
detail_text (Line k) = line_part k
detail_text (NumberAndAddress n a) = number_part n ++ address_part a

-- F, the number in two digits, a space, the name and what stands behind it
unfoldable pub fault_text : Fault → List ℕ
fault_text fault = codes "F" ++ two_digits (number_of fault) ++ codes " " ++ name_of fault ++ detail_text (detail_of fault)
