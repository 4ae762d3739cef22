-- Members of lists of registers and flags, and of what a micro list gathers.
use Rattle.std.proofs.Common.{◌≡◌, ℕ, ◌^◌, suc, zero, List, [], ◌∷◌, get_or, bit_or, Bool, true, false, refl, sym, ap, subst, ◌∙◌, inl, inr, ⊎_elim, arith}
use Rattle.std.specs.Prelude.{◌↔◌, ◌⊎◌, if◌then◌else◌}
use Rattle.std.specs.Int.{bit_at}
use Rattle.std.specs.List.{Any, Contains}
use Rattle.std.proofs.lemmas.Bool.{cases_eq}
use Rattle.std.proofs.lemmas.List.Elements.{Contains-append_left, Contains-append_right, Contains-append_cases}
use Rattle.std.proofs.lemmas.Nat.Bits.{bit_at_or, bit_at-zero, bit_at-lt, bit_at-pow_same, bit_at-pow_other}
use Rattle.x86_insn.specs.declared.kinds.Reg.{Reg}
use Rattle.x86_insn.specs.declared.kinds.Reg.TheVariants.{Rax, Rcx, Rdx, Rbx, Rsp, Rbp, Rsi, Rdi, R8, R9, R10, R11, R12, R13, R14, R15}
use Rattle.x86_insn.specs.declared.instruction.Insn.{Insn}
use Rattle.x86_insn.specs.WellFormed.{code_of}
use Rattle.x86_meaning.specs.declared.sets.Flag.{Flag}
use Rattle.x86_meaning.specs.declared.sets.Flag.TheVariants.{Cf, Zf, Sf, Of, Pf}
use Rattle.x86_meaning.specs.declared.operations.Micro.{Micro}
use Rattle.x86_meaning.specs.declared.operations.Micro.TheVariants.{Put}
use Rattle.x86_meaning.specs.Meaning.{micro_of}
use Rattle.x86_meaning.specs.Sets.{set_of, flag_code, flag_set}
use Rattle.x86_meaning.specs.Registers.{reads_of, touches_of, writes_whole_of}
use Rattle.x86_meaning.specs.Effects.{fetched, changed, filled, filled_part, put_whole, is_implied, gathered}
use Rattle.x86_meaning.proofs.RegisterLaws.{fetched-micro, changed-micro, whole-micro}

-- ---- what a list gathers

any_later : (f : Micro → List Reg) (m : Micro) (ms : List Micro) (r : Reg) → Any (λ x. Contains (f x) r) ms → Any (λ x. Contains (f x) r) (m ∷ ms)
any_later f m ms r (k, x, lt, e, p) = (suc k, x, omega arith, e, p)

any_from_gathered : (f : Micro → List Reg) (ms : List Micro) (r : Reg) → Contains (gathered f ms) r → Any (λ x. Contains (f x) r) ms
any_from_gathered f [] r (k, lt, e) = absurd (omega arith)
any_from_gathered f (m ∷ ms) r h = ⊎_elim (λ a. (zero, m, omega arith, refl, a)) (λ b. any_later f m ms r (any_from_gathered f ms r b)) (Contains-append_cases (f m) (gathered f ms) r h)

gathered_from_any : (f : Micro → List Reg) (ms : List Micro) (r : Reg) → Any (λ x. Contains (f x) r) ms → Contains (gathered f ms) r
gathered_from_any f [] r (k, x, lt, e, p) = absurd (omega arith)
gathered_from_any f (m ∷ ms) r (zero, x, lt, e, p) = Contains-append_left (f m) (gathered f ms) r (subst (λ v. Contains (f v) r) (sym e) p)
gathered_from_any f (m ∷ ms) r (suc k, x, lt, e, p) = Contains-append_right (f m) (gathered f ms) r (gathered_from_any f ms r (k, x, omega arith, e, p))

pub reads_are_gets : {R : Type 0} (i : Insn R) (r : Reg) → Contains (reads_of i) r ↔ Any (λ m. Contains (fetched m) r) (micro_of i)
reads_are_gets i r = (λ h. any_from_gathered fetched (micro_of i) r (subst (λ v. Contains v r) (sym (fetched-micro i)) h), λ h. subst (λ v. Contains v r) (fetched-micro i) (gathered_from_any fetched (micro_of i) r h))

pub touches_are_puts : {R : Type 0} (i : Insn R) (r : Reg) → Contains (touches_of i) r ↔ Any (λ m. Contains (changed m) r) (micro_of i)
touches_are_puts i r = (λ h. any_from_gathered changed (micro_of i) r (subst (λ v. Contains v r) (sym (changed-micro i)) h), λ h. subst (λ v. Contains v r) (changed-micro i) (gathered_from_any changed (micro_of i) r h))

filled_unless : (b : Bool) (xs : List Reg) (r : Reg) → Contains (if b then [] else xs) r → Contains xs r
filled_unless true xs r (k, lt, e) = absurd (omega arith)
filled_unless false xs r h = h

filled_from_put : (m : Micro) (r : Reg) → Contains (put_whole m) r → Contains (filled m) r
filled_from_put (Put w to from) r h = filled_unless (is_implied from) (filled_part w to) r h
filled_from_put _ r h = h

any_filled : (ms : List Micro) (r : Reg) → Any (λ m. Contains (put_whole m) r) ms → Any (λ m. Contains (filled m) r) ms
any_filled ms r (k, x, lt, e, p) = (k, x, lt, e, filled_from_put x r p)

pub whole_is_put : {R : Type 0} (i : Insn R) (r : Reg) → Contains (writes_whole_of i) r → Any (λ m. Contains (filled m) r) (micro_of i)
whole_is_put i r h = any_filled (micro_of i) r (any_from_gathered put_whole (micro_of i) r (subst (λ v. Contains v r) (sym (whole-micro i)) h))

-- ---- bits and members

registers : List Reg
registers = Rax ∷ Rcx ∷ Rdx ∷ Rbx ∷ Rsp ∷ Rbp ∷ Rsi ∷ Rdi ∷ R8 ∷ R9 ∷ R10 ∷ R11 ∷ R12 ∷ R13 ∷ R14 ∷ R15 ∷ []

register_named : (r : Reg) → get_or registers (code_of r) Rax ≡ r
unfolding registers
register_named Rax = refl
register_named _ = refl

same_register : (a b : Reg) → code_of a ≡ code_of b → a ≡ b
same_register a b e = sym (register_named a) ∙ ap (λ n. get_or registers n Rax) e ∙ register_named b

flags : List Flag
flags = Cf ∷ Zf ∷ Sf ∷ Of ∷ Pf ∷ []

flag_named : (f : Flag) → get_or flags (flag_code f) Cf ≡ f
unfolding flags
flag_named Cf = refl
flag_named _ = refl

same_flag : (a b : Flag) → flag_code a ≡ flag_code b → a ≡ b
same_flag a b e = sym (flag_named a) ∙ ap (λ n. get_or flags n Cf) e ∙ flag_named b

-- one bit more in a set: that of code a, where b is the bit of code c
bit_of_more : (a rest c : ℕ) → bit_at (bit_or (2 ^ a) rest) c ≡ 1 → (a ≡ c) ⊎ (bit_at rest c ≡ 1)
bit_of_more a rest c h = ⊎_elim inl (λ ne. inr (
    let o = bit_at_or (2 ^ a) rest c in
    let z = bit_at-pow_other a c (λ e. ne (sym e)) in
    omega arith)) (cases_eq a c)

more_from_first : (a rest : ℕ) → bit_at (bit_or (2 ^ a) rest) a ≡ 1
more_from_first a rest =
    let o = bit_at_or (2 ^ a) rest a in
    let s = bit_at-pow_same a in
    let l = bit_at-lt rest a in
    omega arith

more_from_rest : (a rest c : ℕ) → bit_at rest c ≡ 1 → bit_at (bit_or (2 ^ a) rest) c ≡ 1
more_from_rest a rest c h =
    let o = bit_at_or (2 ^ a) rest c in
    let l = bit_at-lt (2 ^ a) c in
    omega arith

contains_first : {X : Type 0} (x : X) (xs : List X) (y : X) → x ≡ y → Contains (x ∷ xs) y
contains_first x xs y e = (zero, omega arith, e)

contains_later : {X : Type 0} (x : X) (xs : List X) (y : X) → Contains xs y → Contains (x ∷ xs) y
contains_later x xs y (k, lt, e) = (suc k, omega arith, e)

contains_cases : {X : Type 0} (x : X) (xs : List X) (y : X) → Contains (x ∷ xs) y → (x ≡ y) ⊎ Contains xs y
contains_cases x xs y (zero, lt, e) = inl e
contains_cases x xs y (suc k, lt, e) = inr (k, omega arith, e)

register_from_bit : (rs : List Reg) (r : Reg) → bit_at (set_of rs) (code_of r) ≡ 1 → Contains rs r
register_from_bit [] r h = absurd (let z = bit_at-zero (code_of r) in omega arith)
register_from_bit (x ∷ xs) r h = ⊎_elim (λ e. contains_first x xs r (same_register x r e)) (λ b. contains_later x xs r (register_from_bit xs r b)) (bit_of_more (code_of x) (set_of xs) (code_of r) h)

bit_from_register : (rs : List Reg) (r : Reg) → Contains rs r → bit_at (set_of rs) (code_of r) ≡ 1
bit_from_register [] r (k, lt, e) = absurd (omega arith)
bit_from_register (x ∷ xs) r h = ⊎_elim (λ e. subst (λ v. bit_at (bit_or (2 ^ code_of x) (set_of xs)) v ≡ 1) (ap code_of e) (more_from_first (code_of x) (set_of xs))) (λ b. more_from_rest (code_of x) (set_of xs) (code_of r) (bit_from_register xs r b)) (contains_cases x xs r h)

pub register_members : (rs : List Reg) (r : Reg) → (bit_at (set_of rs) (code_of r) ≡ 1) ↔ Contains rs r
register_members rs r = (register_from_bit rs r, bit_from_register rs r)

flag_from_bit : (fs : List Flag) (f : Flag) → bit_at (flag_set fs) (flag_code f) ≡ 1 → Contains fs f
flag_from_bit [] f h = absurd (let z = bit_at-zero (flag_code f) in omega arith)
flag_from_bit (x ∷ xs) f h = ⊎_elim (λ e. contains_first x xs f (same_flag x f e)) (λ b. contains_later x xs f (flag_from_bit xs f b)) (bit_of_more (flag_code x) (flag_set xs) (flag_code f) h)

bit_from_flag : (fs : List Flag) (f : Flag) → Contains fs f → bit_at (flag_set fs) (flag_code f) ≡ 1
bit_from_flag [] f (k, lt, e) = absurd (omega arith)
bit_from_flag (x ∷ xs) f h = ⊎_elim (λ e. subst (λ v. bit_at (bit_or (2 ^ flag_code x) (flag_set xs)) v ≡ 1) (ap flag_code e) (more_from_first (flag_code x) (flag_set xs))) (λ b. more_from_rest (flag_code x) (flag_set xs) (flag_code f) (bit_from_flag xs f b)) (contains_cases x xs f h)

pub flag_members : (fs : List Flag) (f : Flag) → (bit_at (flag_set fs) (flag_code f) ≡ 1) ↔ Contains fs f
flag_members fs f = (flag_from_bit fs f, bit_from_flag fs f)
