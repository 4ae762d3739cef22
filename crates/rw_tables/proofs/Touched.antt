-- What an instruction leaves of what registers hold.
use Rattle.std.proofs.Common.{◌≡◌, ◌≢◌, ℕ, ◌<◌, ◌^◌, ◌==◌, Bool, true, false, not, ◌&&◌, ◌||◌, cond, List, [], ◌∷◌, length, bit_or, slice_set, slice_index_or, is_some, option_map, Option, Some, None, refl, sym, ap, ◌∙◌, arith, get_or-set_same, get_or-set_other}
use Rattle.std.specs.List.{list_any}
use Rattle.std.proofs.lemmas.Bool.{eqb-true}
use Rattle.std.proofs.lemmas.Bool.Decides.{nat_tests}
use Rattle.rw_base.specs.declared.width.Width.{Width}
use Rattle.rw_base.specs.declared.width.Width.TheVariants.{Q}
use Rattle.x86_insn.specs.declared.kinds.Reg.{Reg}
use Rattle.x86_insn.specs.declared.kinds.AluOp.{AluOp}
use Rattle.x86_insn.specs.declared.kinds.AluOp.TheVariants.{Add}
use Rattle.x86_insn.specs.declared.operands.Mem.{Mem}
use Rattle.x86_insn.specs.declared.operands.Mem.TheVariants.{Rel}
use Rattle.x86_insn.specs.declared.operands.Operand.{Operand}
use Rattle.x86_insn.specs.declared.operands.Operand.TheVariants as operand
use Rattle.x86_insn.specs.declared.instruction.Insn.{Insn}
use Rattle.x86_insn.specs.declared.instruction.Insn.TheVariants as insn
use Rattle.x86_insn.specs.WellFormed.{code_of}
use Rattle.x86_meaning.specs.Registers.{touches_of, touches_alu}
use Rattle.x86_meaning.specs.Sets.{set_of}
use Rattle.rw_tables.specs.Dispatch.{is_register, writes, ends_run, sum_by, sum_register, naming_at, naming_of, named_by}
use Rattle.rw_tables.specs.Seen.{has, sum_behind, address_behind}
use Rattle.rw_tables.proofs.Registers.{has-with, has-set_of}

-- a 64-bit add into a register writes that one alone, and so does a lea
sum_by-touches : (op : AluOp) (w : Width) (to : Operand ℕ) (q : Reg) → sum_by op w to ≡ Some q → touches_alu op to ≡ q ∷ []
sum_by-touches Add Q (operand.Reg r) q h = let same : r ≡ q = cc in ap (λ x. x ∷ []) same
sum_by-touches _ _ _ q h = absurd (cc)

pub sum_register-touches : (i : Insn ℕ) (q : Reg) → sum_register i ≡ Some q → touches_of i ≡ q ∷ []
sum_register-touches (insn.Alu op w to _) q h = sum_by-touches op w to q h
sum_register-touches _ q h = absurd (cc)

naming_at-register : (w : Width) (to : Reg) (at : Mem ℕ) (q : Reg) (a : ℕ) → naming_at w to at ≡ Some (q, a) → to ≡ q
naming_at-register Q to (Rel b) q a h = let both : ◌≡◌ {A = Reg × ℕ} (to, b) (q, a) = cc in ap (λ x. x.0) both
naming_at-register _ _ _ q a h = absurd (cc)

naming_of-touches : (i : Insn ℕ) (q : Reg) (a : ℕ) → naming_of i ≡ Some (q, a) → touches_of i ≡ q ∷ []
naming_of-touches (insn.Lea w to at) q a h = ap (λ x. x ∷ []) (naming_at-register w to at q a h)
naming_of-touches _ q a h = absurd (cc)

-- ---- the registers that adds wrote last

pub has-kept : (i : Insn ℕ) (old touched kept : ℕ) (r : Reg) → touched ≡ set_of (touches_of i) → has kept r ≡ (has old r && not (has touched r)) → has kept r ≡ (has old r && not (writes r i))
has-kept i old touched kept r is e = e ∙ ap (λ t. has old r && not t) (ap (λ n. has n r) is ∙ has-set_of (touches_of i) r)

some-left : (t s : Bool) → (t || (s && not (t || false))) ≡ cond (t || false) true s
some-left true true = refl
some-left true false = refl
some-left false true = refl
some-left false false = refl

none-left : (t s : Bool) → (s && not t) ≡ cond t false s
none-left true true = refl
none-left true false = refl
none-left false true = refl
none-left false false = refl

pub writes-one : (i : Insn ℕ) (q r : Reg) → touches_of i ≡ q ∷ [] → writes r i ≡ (is_register r q || false)
writes-one i q r e = ap (list_any (is_register r)) e

pub sums-some : (i : Insn ℕ) (old kept new : ℕ) (q r : Reg) → ends_run i ≡ false → sum_register i ≡ Some q → has kept r ≡ (has old r && not (writes r i)) → new ≡ bit_or (2 ^ code_of q) kept → has new r ≡ sum_behind (has old) i r
sums-some i old kept new q r runs sum e made =
    let one = writes-one i q r (sum_register-touches i q sum) in
    ap (λ n. has n r) made ∙ has-with kept q r ∙ ap (λ t. is_register r q || t) (e ∙ ap (λ t. has old r && not t) one)
    ∙ some-left (is_register r q) (has old r)
    ∙ sym (ap (λ t. cond t false (cond (writes r i) (is_some (sum_register i)) (has old r))) runs ∙ ap (λ t. cond t (is_some (sum_register i)) (has old r)) one ∙ ap (λ o. cond (is_register r q || false) (is_some o) (has old r)) sum)

pub sums-none : (i : Insn ℕ) (old kept : ℕ) (r : Reg) → ends_run i ≡ false → sum_register i ≡ None → has kept r ≡ (has old r && not (writes r i)) → has kept r ≡ sum_behind (has old) i r
sums-none i old kept r runs sum e =
    e ∙ none-left (writes r i) (has old r)
    ∙ sym (ap (λ t. cond t false (cond (writes r i) (is_some (sum_register i)) (has old r))) runs ∙ ap (λ o. cond (writes r i) (is_some o) (has old r)) sum)

-- ---- the addresses that registers hold

abbrev value : ℕ → List ℕ → Reg → Option ℕ
value held values r = cond (has held r) (Some (slice_index_or values (code_of r) 0)) None

named-one : (t s : Bool) (new other old : Option ℕ) → (t ≡ true → new ≡ other) → (t ≡ false → new ≡ old) → cond (t || (s && not (t || false))) new None ≡ cond (t || false) other (cond s old None)
named-one true s new other old gives keeps = gives refl
named-one false true new other old gives keeps = keeps refl
named-one false false new other old gives keeps = refl

named-left : (t s : Bool) (old : Option ℕ) → cond (s && not t) old None ≡ cond t None (cond s old None)
named-left true true old = refl
named-left true false old = refl
named-left false true old = refl
named-left false false old = refl

other-code : (m n : ℕ) → (m == n) ≡ false → n ≢ m
other-code m n h e = grind (arith, nat_tests)

pub names-some : (i : Insn ℕ) (held kept new : ℕ) (values : List ℕ) (q r : Reg) (a : ℕ) → naming_of i ≡ Some (q, a) → has kept r ≡ (has held r && not (writes r i)) → new ≡ bit_or (2 ^ code_of q) kept → code_of q < length values
    → value new (slice_set values (code_of q) a) r ≡ address_behind (value held values) i r
names-some i held kept new values q r a naming e made fits =
    let one = writes-one i q r (naming_of-touches i q a naming) in
    let test : has new r ≡ (is_register r q || (has held r && not (is_register r q || false))) =
    ap (λ n. has n r) made ∙ has-with kept q r ∙ ap (λ t. is_register r q || t) (e ∙ ap (λ t. has held r && not t) one) in
    let named : named_by i ≡ Some a = ap (option_map (λ n. n.1)) naming in
    ap (λ t. cond t (Some (slice_index_or (slice_set values (code_of q) a) (code_of r) 0)) None) test
    ∙ named-one (is_register r q) (has held r) (Some (slice_index_or (slice_set values (code_of q) a) (code_of r) 0)) (Some a) (Some (slice_index_or values (code_of r) 0))
    (λ h. ap Some (ap (λ n. slice_index_or (slice_set values (code_of q) a) n 0) (sym (eqb-true (code_of q) (code_of r) h)) ∙ get_or-set_same values (code_of q) a 0 fits))
    (λ h. ap Some (get_or-set_other values (code_of q) (code_of r) a 0 (other-code (code_of q) (code_of r) h)))
    ∙ sym (ap (λ t. cond t (named_by i) (value held values r)) one ∙ ap (λ o. cond (is_register r q || false) o (value held values r)) named)

pub names-none : (i : Insn ℕ) (held kept : ℕ) (values : List ℕ) (r : Reg) → naming_of i ≡ None → has kept r ≡ (has held r && not (writes r i)) → value kept values r ≡ address_behind (value held values) i r
names-none i held kept values r naming e =
    let none : named_by i ≡ None = ap (option_map (λ n. n.1)) naming in
    ap (λ t. cond t (Some (slice_index_or values (code_of r) 0)) None) e
    ∙ named-left (writes r i) (has held r) (Some (slice_index_or values (code_of r) 0))
    ∙ sym (ap (λ o. cond (writes r i) o (value held values r)) none)
