-- The instructions of a probe are ones of the table.
use Rattle.std.proofs.Common.{◌≡◌, ℕ, zero, suc, ◌-◌, ◌≤◌, length, true, All, slice_get, refl, arith}
use Rattle.x86_insn.specs.declared.kinds.Reg.TheVariants.{Rax}
use Rattle.std.proofs.lemmas.List.Elements.{All-from_recursion}
use Rattle.x86_insn.specs.WellFormed.{is_instruction}
use Rattle.rw_probe.specs.declared.form.Probe.{Probe}
use Rattle.rw_probe.specs.declared.form.Probe.TheVariants.{Inc, Dead, Spill}
use Rattle.rw_probe.specs.Probes.{probe_insns, spill, step_count, through}

pub count-is : {R : Type 0} (counter : R) (probe : Probe) → length (probe_insns counter probe) ≡ step_count probe
count-is counter Inc = refl
count-is counter (Dead r) = refl
count-is counter Spill = refl

pub formed : {R : Type 0} (counter : R) (probe : Probe) → All (λ i. is_instruction i ≡ true) (probe_insns counter probe)
formed counter Inc = All-from_recursion (λ i. is_instruction i ≡ true) (probe_insns counter Inc) (refl, tt)
formed counter (Dead r) = All-from_recursion (λ i. is_instruction i ≡ true) (probe_insns counter (Dead r)) (refl, (refl, (refl, tt)))
formed counter Spill = All-from_recursion (λ i. is_instruction i ≡ true) (probe_insns counter Spill) (refl, (refl, (refl, (refl, (refl, (refl, (refl, tt)))))))

-- three of the seven instructions of a spill are those of a probe through %rax
pub inner : {R : Type 0} (counter : R) (k : ℕ) → 2 ≤ k → k ≤ 4 → slice_get (through counter Rax) (k - 2) ≡ slice_get (spill counter) k
inner counter zero low high = absurd (omega (arith, low))
inner counter (suc zero) low high = absurd (omega (arith, low))
inner counter (suc (suc zero)) low high = refl
inner counter (suc (suc (suc zero))) low high = refl
inner counter (suc (suc (suc (suc zero)))) low high = refl
inner counter (suc (suc (suc (suc (suc k))))) low high = absurd (omega (arith, high))
