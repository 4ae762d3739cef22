-- The line of a failure is short.
use Rattle.std.proofs.Common.{ℕ, ◌≤◌, [], ◌∷◌, ◌++◌, length, arith, length-append}
use Rattle.std.specs.Prelude.{codes}
use Rattle.rw_base.specs.declared.fault.Fault.{Fault}
use Rattle.rw_base.specs.declared.fault.Fault.TheVariants.{TooLarge, Truncated, NotElf64, WrongMachine, NotPositionIndependent, BadHeader, Stripped, BadString, Overlap, ThreadLocal, BadSection, UnknownReloc, BadRelocPlace, BadRelocTarget, NoEntry, BadInstruction, Crosses, BadTarget, BadReference, UnknownTable, BadTable, Constructors, WritableCode, BadText}
use Rattle.rw_base.specs.declared.fault.Detail.{Detail}
use Rattle.rw_base.specs.declared.fault.Detail.TheVariants.{Nothing, Number, Offset, Address, Section, Line, NumberAndAddress}
use Rattle.rw_base.specs.Fault.{number_of, name_of, detail_of}
use Rattle.asm_print.proofs.Lengths.{digits-le}
use Rattle.retro.specs.declared.failure.Failure.{Failure}
use Rattle.retro.specs.declared.failure.Failure.TheVariants as failure
use Rattle.retro.specs.FaultText.{detail_text, two_digits, number_part, offset_part, address_part, section_part, line_part, fault_text}
use Rattle.retro.specs.Failure.{failure_text}
use Rattle.retro.specs.Call.{message}

name-le : (fault : Fault) → length (name_of fault) ≤ 22
name-le (TooLarge n) = omega arith
name-le (Truncated o) = omega arith
name-le (NotElf64 o) = omega arith
name-le (WrongMachine n) = omega arith
name-le (NotPositionIndependent n) = omega arith
name-le (BadHeader o) = omega arith
name-le Stripped = omega arith
name-le (BadString o) = omega arith
name-le (Overlap a) = omega arith
name-le (ThreadLocal i) = omega arith
name-le (BadSection i) = omega arith
name-le (UnknownReloc a t) = omega arith
name-le (BadRelocPlace a) = omega arith
name-le (BadRelocTarget a) = omega arith
name-le NoEntry = omega arith
name-le (BadInstruction a) = omega arith
name-le (Crosses a) = omega arith
name-le (BadTarget a) = omega arith
name-le (BadReference a) = omega arith
name-le (UnknownTable a) = omega arith
name-le (BadTable a) = omega arith
name-le (Constructors a) = omega arith
name-le (WritableCode i) = omega arith
name-le (BadText k) = omega arith

number-le : (n : ℕ) → length (number_part n) ≤ 80
unfolding number_part
number-le n = omega (arith, digits-le 10 n)

offset-le : (n : ℕ) → length (offset_part n) ≤ 80
unfolding offset_part
offset-le n = omega (arith, digits-le 10 n)

address-le : (n : ℕ) → length (address_part n) ≤ 80
unfolding address_part
address-le n = omega (arith, digits-le 16 n)

section-le : (n : ℕ) → length (section_part n) ≤ 80
unfolding section_part
section-le n = omega (arith, digits-le 10 n)

line-le : (n : ℕ) → length (line_part n) ≤ 80
unfolding line_part
line-le n = omega (arith, digits-le 10 n)

detail-le : (detail : Detail) → length (detail_text detail) ≤ 160
unfolding detail_text
detail-le Nothing = omega arith
detail-le (Number n) = omega (arith, number-le n)
detail-le (Offset o) = omega (arith, offset-le o)
detail-le (Address a) = omega (arith, address-le a)
detail-le (Section i) = omega (arith, section-le i)
detail-le (Line k) = omega (arith, line-le k)
detail-le (NumberAndAddress n a) = omega (arith, number-le n, address-le a, length-append (number_part n) (address_part a))

fault-le : (fault : Fault) → length (fault_text fault) ≤ 200
unfolding fault_text
fault-le fault = omega (arith, name-le fault, detail-le (detail_of fault), length-append (name_of fault) (detail_text (detail_of fault)), length-append (codes "F" ++ two_digits (number_of fault) ++ codes " ") (name_of fault), length-append (codes "F" ++ two_digits (number_of fault) ++ codes " " ++ name_of fault) (detail_text (detail_of fault)))

failure-le : (f : Failure) → length (failure_text f) ≤ 200
failure-le (failure.Fault fault) = fault-le fault
failure-le failure.Words = omega arith
failure-le failure.Read = omega arith
failure-le failure.Memory = omega arith

pub message-le : (f : Failure) → length (message (failure_text f)) ≤ 8192
message-le f = omega (arith, failure-le f, length-append (failure_text f) (10 ∷ []))
