-- Sets of registers as bits, by the registers' codes.
use Rattle.std.proofs.Common.{◌≡◌, ◌≢◌, ℕ, ◌-◌, ◌<◌, ◌^◌, ◌==◌, true, false, not, ◌&&◌, ◌||◌, min, max, List, [], ◌∷◌, bit_and, bit_or, slice_index_or, refl, sym, ap, ◌∙◌, arith, inl, inr, lit<}
use Rattle.std.specs.Int.{bit_at}
use Rattle.std.specs.List.{list_any}
use Rattle.std.proofs.lemmas.Bool.{cases_eq}
use Rattle.std.proofs.lemmas.Bool.Decides.{nat_tests}
use Rattle.std.proofs.lemmas.Nat.Bits.{bit_at_and, bit_at_or, bit_at_not, bit_at-lt, bit_at-zero, bit_at-pow_same, bit_at-pow_other}
use Rattle.std.specs.Int.{w16}
use Rattle.x86_insn.specs.declared.kinds.Reg.{Reg}
use Rattle.x86_insn.specs.declared.kinds.Reg.TheVariants.{Rax, Rcx, Rdx, Rbx, Rsp, Rbp, Rsi, Rdi, R8, R9, R10, R11, R12, R13, R14, R15}
use Rattle.x86_insn.specs.Codes.{registers}
use Rattle.x86_insn.specs.WellFormed.{code_of}
use Rattle.x86_meaning.specs.Sets.{set_of}
use Rattle.rw_tables.specs.Dispatch.{is_register}
use Rattle.rw_tables.specs.Seen.{has}

pub code_fits : (r : Reg) → code_of r < 16
code_fits Rax = lit< tt
code_fits Rcx = lit< tt
code_fits Rdx = lit< tt
code_fits Rbx = lit< tt
code_fits Rsp = lit< tt
code_fits Rbp = lit< tt
code_fits Rsi = lit< tt
code_fits Rdi = lit< tt
code_fits R8 = lit< tt
code_fits R9 = lit< tt
code_fits R10 = lit< tt
code_fits R11 = lit< tt
code_fits R12 = lit< tt
code_fits R13 = lit< tt
code_fits R14 = lit< tt
code_fits R15 = lit< tt

-- a register by its code
register-at : (r : Reg) → slice_index_or registers (code_of r) Rax ≡ r
register-at Rax = refl
register-at Rcx = refl
register-at Rdx = refl
register-at Rbx = refl
register-at Rsp = refl
register-at Rbp = refl
register-at Rsi = refl
register-at Rdi = refl
register-at R8 = refl
register-at R9 = refl
register-at R10 = refl
register-at R11 = refl
register-at R12 = refl
register-at R13 = refl
register-at R14 = refl
register-at R15 = refl

pub same-register : (q r : Reg) → code_of q ≡ code_of r → q ≡ r
same-register q r e = sym (register-at q) ∙ ap (λ n. slice_index_or registers n Rax) e ∙ register-at r

bits-without : (x y : ℕ) → x < 2 → y < 2 → (min x (1 - y) == 1) ≡ ((x == 1) && not (y == 1))
bits-without x y a b = grind (arith, nat_tests)

pub has-without : (a b : ℕ) (r : Reg) → b < 65536 → has (bit_and a (65535 - b)) r ≡ (has a r && not (has b r))
has-without a b r fits =
    let both = bit_at_and a (65535 - b) (code_of r) in
    let other = bit_at_not w16 b (code_of r) fits (code_fits r) in
    ap (λ n. n == 1) (both ∙ ap (min (bit_at a (code_of r))) other) ∙ bits-without (bit_at a (code_of r)) (bit_at b (code_of r)) (bit_at-lt a (code_of r)) (bit_at-lt b (code_of r))

bits-one : (y : ℕ) → y < 2 → (max 1 y == 1) ≡ true
bits-one y b = grind (arith, nat_tests)

bits-none : (y : ℕ) → y < 2 → (max 0 y == 1) ≡ (y == 1)
bits-none y b = grind (arith, nat_tests)

same-test : (m n : ℕ) → m ≡ n → (m == n) ≡ true
same-test m n e = grind (arith, nat_tests)

other-test : (m n : ℕ) → m ≢ n → (m == n) ≡ false
other-test m n e = grind (arith, nat_tests)

pub has-with : (a : ℕ) (q r : Reg) → has (bit_or (2 ^ code_of q) a) r ≡ (is_register r q || has a r)
has-with a q r =
    let both = bit_at_or (2 ^ code_of q) a (code_of r) in
    let some = bit_at-lt a (code_of r) in
    elim (cases_eq (code_of q) (code_of r)) [
      | inl same ↦
          ap (λ n. n == 1) (both ∙ ap (λ n. max n (bit_at a (code_of r))) (ap (bit_at (2 ^ code_of q)) (sym same) ∙ bit_at-pow_same (code_of q))) ∙ bits-one (bit_at a (code_of r)) some
          ∙ sym (ap (λ t. t || has a r) (same-test (code_of q) (code_of r) same))
      | inr other ↦
          ap (λ n. n == 1) (both ∙ ap (λ n. max n (bit_at a (code_of r))) (bit_at-pow_other (code_of q) (code_of r) (λ e. other (sym e)))) ∙ bits-none (bit_at a (code_of r)) some
          ∙ sym (ap (λ t. t || has a r) (other-test (code_of q) (code_of r) other))
    ]

pub has-set_of : (rs : List Reg) (r : Reg) → has (set_of rs) r ≡ list_any (is_register r) rs
has-set_of [] r = ap (λ n. n == 1) (bit_at-zero (code_of r))
has-set_of (q ∷ qs) r = has-with (set_of qs) q r ∙ ap (λ t. is_register r q || t) (has-set_of qs r)
