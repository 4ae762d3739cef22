use Rattle.std.proofs.Common.{◌≡◌, false, eqb, refl, sym, ap, ◌∙◌, eq-eqb, arith}
use Rattle.std.proofs.lemmas.Bool.Decides.{nat_tests}
use Rattle.asm_print.specs.Forms.{kind_of}
use Rattle.asm_read.specs.declared.forms.TheConstants.{BEGINNING_WITH_A, BEGINNING_WITH_B, BEGINNING_WITH_C, BEGINNING_WITH_D, BEGINNING_WITH_E, BEGINNING_WITH_H, BEGINNING_WITH_I, BEGINNING_WITH_J, BEGINNING_WITH_L, BEGINNING_WITH_M, BEGINNING_WITH_N, BEGINNING_WITH_O, BEGINNING_WITH_P, BEGINNING_WITH_R, BEGINNING_WITH_S, BEGINNING_WITH_T, BEGINNING_WITH_U, BEGINNING_WITH_X}
use Rattle.asm_read.proofs.Named.{form-among, begins_mnemonic, no-form}
use Rattle.asm_read.proofs.forms.form_of_mnemonic.Goals as goal

pub returns-in-97 : goal.returns-in-97
returns-in-97 g c = c.form_in.ensures ∙ form-among c.args.text.now (kind_of c.args.args.now) (λ b. eqb b 97) BEGINNING_WITH_A refl (eq-eqb _ _ (sym c.first_byte.ensures ∙ c.in-97.is))

pub returns-in-98 : goal.returns-in-98
returns-in-98 g c = c.form_in-in-98.ensures ∙ form-among c.args.text.now (kind_of c.args.args.now) (λ b. eqb b 98) BEGINNING_WITH_B refl (eq-eqb _ _ (sym c.first_byte.ensures ∙ c.in-98.is))

pub returns-in-99 : goal.returns-in-99
returns-in-99 g c = c.form_in-in-99.ensures ∙ form-among c.args.text.now (kind_of c.args.args.now) (λ b. eqb b 99) BEGINNING_WITH_C refl (eq-eqb _ _ (sym c.first_byte.ensures ∙ c.in-99.is))

pub returns-in-100 : goal.returns-in-100
returns-in-100 g c = c.form_in-in-100.ensures ∙ form-among c.args.text.now (kind_of c.args.args.now) (λ b. eqb b 100) BEGINNING_WITH_D refl (eq-eqb _ _ (sym c.first_byte.ensures ∙ c.in-100.is))

pub returns-in-101 : goal.returns-in-101
returns-in-101 g c = c.form_in-in-101.ensures ∙ form-among c.args.text.now (kind_of c.args.args.now) (λ b. eqb b 101) BEGINNING_WITH_E refl (eq-eqb _ _ (sym c.first_byte.ensures ∙ c.in-101.is))

pub returns-in-104 : goal.returns-in-104
returns-in-104 g c = c.form_in-in-104.ensures ∙ form-among c.args.text.now (kind_of c.args.args.now) (λ b. eqb b 104) BEGINNING_WITH_H refl (eq-eqb _ _ (sym c.first_byte.ensures ∙ c.in-104.is))

pub returns-in-105 : goal.returns-in-105
returns-in-105 g c = c.form_in-in-105.ensures ∙ form-among c.args.text.now (kind_of c.args.args.now) (λ b. eqb b 105) BEGINNING_WITH_I refl (eq-eqb _ _ (sym c.first_byte.ensures ∙ c.in-105.is))

pub returns-in-106 : goal.returns-in-106
returns-in-106 g c = c.form_in-in-106.ensures ∙ form-among c.args.text.now (kind_of c.args.args.now) (λ b. eqb b 106) BEGINNING_WITH_J refl (eq-eqb _ _ (sym c.first_byte.ensures ∙ c.in-106.is))

pub returns-in-108 : goal.returns-in-108
returns-in-108 g c = c.form_in-in-108.ensures ∙ form-among c.args.text.now (kind_of c.args.args.now) (λ b. eqb b 108) BEGINNING_WITH_L refl (eq-eqb _ _ (sym c.first_byte.ensures ∙ c.in-108.is))

pub returns-in-109 : goal.returns-in-109
returns-in-109 g c = c.form_in-in-109.ensures ∙ form-among c.args.text.now (kind_of c.args.args.now) (λ b. eqb b 109) BEGINNING_WITH_M refl (eq-eqb _ _ (sym c.first_byte.ensures ∙ c.in-109.is))

pub returns-in-110 : goal.returns-in-110
returns-in-110 g c = c.form_in-in-110.ensures ∙ form-among c.args.text.now (kind_of c.args.args.now) (λ b. eqb b 110) BEGINNING_WITH_N refl (eq-eqb _ _ (sym c.first_byte.ensures ∙ c.in-110.is))

pub returns-in-111 : goal.returns-in-111
returns-in-111 g c = c.form_in-in-111.ensures ∙ form-among c.args.text.now (kind_of c.args.args.now) (λ b. eqb b 111) BEGINNING_WITH_O refl (eq-eqb _ _ (sym c.first_byte.ensures ∙ c.in-111.is))

pub returns-in-112 : goal.returns-in-112
returns-in-112 g c = c.form_in-in-112.ensures ∙ form-among c.args.text.now (kind_of c.args.args.now) (λ b. eqb b 112) BEGINNING_WITH_P refl (eq-eqb _ _ (sym c.first_byte.ensures ∙ c.in-112.is))

pub returns-in-114 : goal.returns-in-114
returns-in-114 g c = c.form_in-in-114.ensures ∙ form-among c.args.text.now (kind_of c.args.args.now) (λ b. eqb b 114) BEGINNING_WITH_R refl (eq-eqb _ _ (sym c.first_byte.ensures ∙ c.in-114.is))

pub returns-in-115 : goal.returns-in-115
returns-in-115 g c = c.form_in-in-115.ensures ∙ form-among c.args.text.now (kind_of c.args.args.now) (λ b. eqb b 115) BEGINNING_WITH_S refl (eq-eqb _ _ (sym c.first_byte.ensures ∙ c.in-115.is))

pub returns-in-116 : goal.returns-in-116
returns-in-116 g c = c.form_in-in-116.ensures ∙ form-among c.args.text.now (kind_of c.args.args.now) (λ b. eqb b 116) BEGINNING_WITH_T refl (eq-eqb _ _ (sym c.first_byte.ensures ∙ c.in-116.is))

pub returns-in-117 : goal.returns-in-117
returns-in-117 g c = c.form_in-in-117.ensures ∙ form-among c.args.text.now (kind_of c.args.args.now) (λ b. eqb b 117) BEGINNING_WITH_U refl (eq-eqb _ _ (sym c.first_byte.ensures ∙ c.in-117.is))

pub returns-in-120 : goal.returns-in-120
returns-in-120 g c = c.form_in-in-120.ensures ∙ form-among c.args.text.now (kind_of c.args.args.now) (λ b. eqb b 120) BEGINNING_WITH_X refl (eq-eqb _ _ (sym c.first_byte.ensures ∙ c.in-120.is))

pub returns-in_default : goal.returns-in_default
returns-in_default g c =
    let other : begins_mnemonic c.first_byte.result ≡ false = grind (arith, nat_tests) in
    no-form c.args.text.now (kind_of c.args.args.now) begins_mnemonic refl (ap begins_mnemonic (sym c.first_byte.ensures) ∙ other)
