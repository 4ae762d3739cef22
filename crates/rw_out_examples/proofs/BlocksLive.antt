-- What is live at the blocks of the file with probes, and that its probes are these.
use Rattle.std.proofs.Common.{◌≡◌, ◌⊎◌, inl, inr, ℕ, zero, suc, List, [], ◌∷◌, ◌++◌, length, map, Some, true, false, refl, sym, ap, subst, ◌∙◌, lit<}
use Rattle.std.specs.Prelude.{Contains, find, slice_get}
use Rattle.std.specs.Option.{option_map_or}
use Rattle.x86_insn.specs.declared.kinds.Reg.{Reg}
use Rattle.x86_insn.specs.declared.kinds.Reg.TheVariants.{Rax, Rcx, Rdx, Rsi, Rdi}
use Rattle.x86_meaning.specs.declared.sets.Flag.TheVariants.{Zf}
use Rattle.x86_meaning.specs.Registers.{writes_whole_of}
use Rattle.rw_funcs.specs.Functions.{function_at, has_address}
use Rattle.rw_funcs.specs.Points.{Point, file_points}
use Rattle.rw_live.specs.Liveness.{IsFlagLive, IsLive, ReadsRegister}
use Rattle.rw_live.specs.Nodes.{points_within}
use Rattle.rw_probe.specs.declared.form.Probe.{Probe}
use Rattle.rw_probe.specs.declared.form.Probe.TheVariants.{Inc, Dead}
use Rattle.rw_probe.specs.declared.leaders.Mode.TheVariants.{Blocks}
use Rattle.rw_probe.specs.Probes.{IsProbe}
use Rattle.rw_out.specs.Probed.{AreProbes, points_around}
use Rattle.rw_out_examples.specs.BlocksExample.{block_forms, block_leaders, blocks_file}
use Rattle.rw_out_examples.proofs.LiveAt.{all-written, counting-ends, counting-later, counting-written, most-written, no-element, other-register, stops}
use Rattle.rw_out_examples.proofs.BlocksFile.{functions-are, points-are, start_points, start_symbol, sum_points, sum_symbol}
use Rattle.rw_out_examples.proofs.BlocksText.{leaders-are}

-- ---- the probe behind the call, through %rdi

register-lives : (r : Reg) → (Rdi ≡ r → ⊥) → (Rax ≡ r → ⊥) → IsLive start_points 0x100a r
register-lives r first second = (0x100c ∷ 0x1011 ∷ [], ((other-register Rdi r first, (refl, inl (refl, refl))), ((other-register Rax r second, (refl, inl (refl, refl))), inl refl)))

flag-lives : IsFlagLive start_points 0x100a Zf
flag-lives = (0x100c ∷ 0x1011 ∷ [], ((no-element Zf, (refl, inl (refl, refl))), ((no-element Zf, (refl, inl (refl, refl))), inl refl)))

rax-lives : IsLive start_points 0x100a Rax
rax-lives = ([], inr (0, lit< tt, refl))

rdi-dead : ¬ IsLive start_points 0x100a Rdi
rdi-dead =
    stops start_points (ReadsRegister start_points Rdi) (λ p. Contains (writes_whole_of p.insn) Rdi) 0x100a _ refl (λ h. reads h) (0, lit< tt, refl)
  where
    reads : (false ≡ true) ⊎ Contains (Rax ∷ []) Rdi → ⊥
    reads (inl e) = cc
    reads (inr at) = other-register Rax Rdi (λ e. cc) at

through-rdi : IsProbe start_points 0x100a (Dead Rdi)
through-rdi = (
  (0, Zf, lit< tt, refl, flag-lives),
  inr (rax-lives, inr (register-lives Rcx (λ e. cc) (λ e. cc), inr (register-lives Rdx (λ e. cc) (λ e. cc), inr (register-lives Rsi (λ e. cc) (λ e. cc), inl (refl, rdi-dead))))),
)

-- ---- the others

inc-at-start : IsProbe start_points 0x1000 Inc
inc-at-start = counting-later start_points 0x1000 _ refl refl refl refl (counting-ends start_points 0x1005 _ refl refl refl refl refl)

inc-at-test : IsProbe sum_points 0x1020 Inc
inc-at-test = counting-written sum_points 0x1020 _ refl refl refl all-written

inc-at-push : IsProbe sum_points 0x1024 Inc
inc-at-push = counting-later sum_points 0x1024 _ refl refl refl refl (counting-written sum_points 0x1025 _ refl refl refl most-written)

inc-at-pop : IsProbe sum_points 0x102c Inc
inc-at-pop = counting-later sum_points 0x102c _ refl refl refl refl (counting-written sum_points 0x102d _ refl refl refl all-written)

inc-at-xor : IsProbe sum_points 0x1030 Inc
inc-at-xor = counting-written sum_points 0x1030 _ refl refl refl all-written

-- ---- all of them

abbrev around : List Point → ℕ → List Point
around points a = option_map_or (λ f. points_within f.span points) (find (has_address a) (function_at start_symbol ∷ function_at sum_symbol ∷ [])) []

around-is : (a : ℕ) → points_around blocks_file a ≡ around (start_points ++ sum_points) a
around-is a = ap (λ fs. option_map_or (λ f. points_within f.span (file_points blocks_file)) (find (has_address a) (map function_at fs)) []) functions-are ∙ ap (λ ps. around ps a) points-are

one : (c : ℕ) (probe : Probe) → IsProbe (around (start_points ++ sum_points) c) c probe → (a : ℕ) (form : Probe) → Some c ≡ Some a → Some probe ≡ Some form → IsProbe (points_around blocks_file a) a form
one c probe is a form e g =
    let same : c ≡ a = cc in
    let other : probe ≡ form = cc in
    subst (λ z. IsProbe (points_around blocks_file z) z form) same (subst (IsProbe (points_around blocks_file c) c) other (subst (λ ps. IsProbe ps c probe) (sym (around-is c)) is))

each : (k a : ℕ) (form : Probe) → slice_get block_leaders k ≡ Some a → slice_get block_forms k ≡ Some form → IsProbe (points_around blocks_file a) a form
each zero a form e g = one 0x1000 Inc inc-at-start a form e g
each (suc zero) a form e g = one 0x100a (Dead Rdi) through-rdi a form e g
each (suc (suc zero)) a form e g = one 0x1020 Inc inc-at-test a form e g
each (suc (suc (suc zero))) a form e g = one 0x1024 Inc inc-at-push a form e g
each (suc (suc (suc (suc zero)))) a form e g = one 0x102c Inc inc-at-pop a form e g
each (suc (suc (suc (suc (suc zero))))) a form e g = one 0x1030 Inc inc-at-xor a form e g
each (suc (suc (suc (suc (suc (suc k)))))) a form e g = cc

pub are-probes : AreProbes blocks_file Blocks block_forms
are-probes = record {
  count = sym (ap length leaders-are);
  each = λ k a form e. each k a form (subst (λ leaders. slice_get leaders k ≡ Some a) leaders-are e);
}
