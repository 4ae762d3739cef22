use Rattle.std.proofs.Common.{◌≡◌, true, false, eqb, refl, sym, ap, ◌∙◌, eq-eqb, arith}
use Rattle.std.proofs.lemmas.Bool.Decides.{nat_tests}
use Rattle.rw_base.specs.Name.{is_digit}
use Rattle.asm_read.specs.declared.registers.TheConstants.{ENDING_IN_L, ENDING_IN_X, ENDING_IN_P, ENDING_IN_I, ENDING_IN_B, ENDING_IN_W, ENDING_IN_D, ENDING_IN_H, NUMBERED}
use Rattle.asm_read.proofs.Named.{register-among, ends_name, no-register}
use Rattle.asm_read.proofs.registers.register.Goals as goal

pub returns-in-108 : goal.returns-in-108
returns-in-108 c = c.register_in.ensures ∙ register-among c.args.text.now (λ b. eqb b 108) ENDING_IN_L refl (eq-eqb _ _ (sym c.last_byte.ensures ∙ c.in-108.is))

pub returns-in-120 : goal.returns-in-120
returns-in-120 c = c.register_in-in-120.ensures ∙ register-among c.args.text.now (λ b. eqb b 120) ENDING_IN_X refl (eq-eqb _ _ (sym c.last_byte.ensures ∙ c.in-120.is))

pub returns-in-112 : goal.returns-in-112
returns-in-112 c = c.register_in-in-112.ensures ∙ register-among c.args.text.now (λ b. eqb b 112) ENDING_IN_P refl (eq-eqb _ _ (sym c.last_byte.ensures ∙ c.in-112.is))

pub returns-in-105 : goal.returns-in-105
returns-in-105 c = c.register_in-in-105.ensures ∙ register-among c.args.text.now (λ b. eqb b 105) ENDING_IN_I refl (eq-eqb _ _ (sym c.last_byte.ensures ∙ c.in-105.is))

pub returns-in-98 : goal.returns-in-98
returns-in-98 c = c.register_in-in-98.ensures ∙ register-among c.args.text.now (λ b. eqb b 98) ENDING_IN_B refl (eq-eqb _ _ (sym c.last_byte.ensures ∙ c.in-98.is))

pub returns-in-119 : goal.returns-in-119
returns-in-119 c = c.register_in-in-119.ensures ∙ register-among c.args.text.now (λ b. eqb b 119) ENDING_IN_W refl (eq-eqb _ _ (sym c.last_byte.ensures ∙ c.in-119.is))

pub returns-in-100 : goal.returns-in-100
returns-in-100 c = c.register_in-in-100.ensures ∙ register-among c.args.text.now (λ b. eqb b 100) ENDING_IN_D refl (eq-eqb _ _ (sym c.last_byte.ensures ∙ c.in-100.is))

pub returns-in-104 : goal.returns-in-104
returns-in-104 c = c.register_in-in-104.ensures ∙ register-among c.args.text.now (λ b. eqb b 104) ENDING_IN_H refl (eq-eqb _ _ (sym c.last_byte.ensures ∙ c.in-104.is))

pub returns-in-48-to-57 : goal.returns-in-48-to-57
returns-in-48-to-57 c =
    let digit : is_digit c.last_byte.result ≡ true = grind (arith, nat_tests) in
    c.register_in-in-48-to-57.ensures ∙ register-among c.args.text.now is_digit NUMBERED refl (ap is_digit (sym c.last_byte.ensures) ∙ digit)

pub returns-in_default : goal.returns-in_default
returns-in_default c =
    let other : ends_name c.last_byte.result ≡ false = grind (arith, nat_tests) in
    no-register c.args.text.now ends_name refl (ap ends_name (sym c.last_byte.ensures) ∙ other)

pub returns-in_default-2 : goal.returns-in_default-2
returns-in_default-2 c =
    let other : ends_name c.last_byte.result ≡ false = grind (arith, nat_tests) in
    no-register c.args.text.now ends_name refl (ap ends_name (sym c.last_byte.ensures) ∙ other)
