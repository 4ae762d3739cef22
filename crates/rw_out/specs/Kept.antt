-- The probes of a text as a plan keeps them: the leaders, and one byte for the probe at each.
use Rattle.std.specs.Prelude.{◌≡◌, ◌==◌, ◌<◌, ◌≤◌, ℕ, zero, suc, ◌+◌, List, length, map, position, Some, option_and_then}
use Rattle.x86_insn.specs.WellFormed.{code_of}
use Rattle.x86_decode.specs.Value.{register_of}
use Rattle.rw_probe.specs.declared.form.Probe.{Probe}
use Rattle.rw_probe.specs.declared.form.Probe.TheVariants.{Inc, Dead, Spill}
use Rattle.rw_out.specs.Items.{Probes}
use Rattle.rw_out.specs.Probed.{counted}

-- the byte of a probe: 0 and 1, or 2 plus the code of the register that it goes through
abbrev pub probe_byte : Probe → ℕ
probe_byte Inc = 0
probe_byte Spill = 1
probe_byte (Dead r) = 2 + code_of r

abbrev pub probe_of_byte : ℕ → Probe
probe_of_byte zero = Inc
probe_of_byte (suc zero) = Spill
probe_of_byte (suc (suc code)) = Dead (register_of code)

-- the probes of some bytes
abbrev pub forms_of : List ℕ → List Probe
forms_of bytes = map probe_of_byte bytes

-- the probes at some leaders, by ascending address, of these bytes
abbrev pub probes_by : List ℕ → List ℕ → Probes
probes_by leaders bytes = record {
  counters = length leaders;
  at = λ a. option_and_then (counted (forms_of bytes)) (position (λ leader. leader == a) leaders);
}

-- leaders, and a byte for each
pub record KeptProbes : Type 0 where
  pub leaders : List ℕ
  pub bytes : List ℕ

abbrev pub probes_in : KeptProbes → Probes
probes_in kept = probes_by kept.leaders kept.bytes

-- There are no more counters than bytes in a file, and a probe counts in one of them.
pub record AreFew (probes : Probes) : Type 0 where
  pub counters : probes.counters ≤ 16777216
  pub numbers : (a k : ℕ) (form : Probe) → probes.at a ≡ Some (k, form) → k < probes.counters
