-- In the list of an instruction a shift that sets flags and stands behind a number is by this number, which is a count, each
-- trap ends the run, and only a system call is a system call.
use Rattle.std.proofs.Common.{◌≡◌, ◌&&◌, List, [], ◌∷◌, ◌++◌, Option, Some, None, Bool, true, false, refl, sym, subst, append_assoc, ◌⊎◌, inl, inr}
use Rattle.std.specs.List.{list_all, list_any}
use Rattle.std.proofs.lemmas.Bool.{and_parts, or_parts}
use Rattle.rw_base.specs.declared.width.Width.{Width}
use Rattle.rw_base.specs.declared.width.Width.TheVariants.{B, W, L, Q}
use Rattle.x86_insn.specs.declared.kinds.ShiftOp.{ShiftOp}
use Rattle.x86_insn.specs.declared.kinds.Count.{Count}
use Rattle.x86_insn.specs.declared.kinds.Cond.{Cond}
use Rattle.x86_insn.specs.declared.kinds.Count.TheVariants as count
use Rattle.x86_insn.specs.declared.instruction.Insn.{Insn}
use Rattle.x86_insn.specs.declared.instruction.Insn.TheVariants.{Call, Syscall}
use Rattle.x86_insn.specs.WellFormed.{is_count, is_place, is_instruction}
use Rattle.x86_meaning.specs.declared.operations.Temp.{Temp}
use Rattle.x86_meaning.specs.declared.operations.Micro.{Micro}
use Rattle.x86_meaning.specs.declared.operations.Micro.TheVariants.{Num, Go, Shift, System}
use Rattle.x86_meaning.specs.declared.operations.Micro.TheVariants as micro
use Rattle.x86_meaning.specs.Meaning.{micro_of, value_of, write_of, count_of, call_of, return_of, t0, t1, t2}
use Rattle.x86_meaning.proofs.Shape.{ArePlain, IsEnd, jump_with, by-shape, is_plain, none-plain, none-joined}

-- the number that a shift behind an operation is by
abbrev pub IsBy : Option Micro → Width → Temp → Type 0
IsBy (Some (Num t B n)) w by = (by ≡ t) × (is_count w (count.Imm n) ≡ true)
IsBy (Some (Num t W n)) w by = ⊥
IsBy (Some (Num t L n)) w by = ⊥
IsBy (Some (Num t Q n)) w by = ⊥
IsBy _ w by = Unit {0}

-- an operation behind another
abbrev pub Follows : Option Micro → Micro → Type 0
Follows p (Shift op w to a by true) = IsBy p w by
Follows p (micro.Trap kind) = IsEnd kind
Follows p System = ⊥
Follows p _ = Unit {0}

abbrev pub AreFollowing : Option Micro → List Micro → Type 0
AreFollowing p [] = Unit {0}
AreFollowing p (m ∷ ms) = Follows p m × AreFollowing (Some m) ms

-- ---- most operations follow any other

abbrev is_apart : Micro → Bool
is_apart (Shift _ _ _ _ _ flags) = flags
is_apart (micro.Trap _) = true
is_apart System = true
is_apart _ = false

plain-apart : (m : Micro) → is_plain m ≡ true → is_apart m ≡ false
plain-apart (Shift op w to a by true) e = cc
plain-apart (Shift op w to a by false) e = refl
plain-apart (micro.Trap kind) e = cc
plain-apart System e = cc
plain-apart _ e = refl

follows-any : (p : Option Micro) (m : Micro) → is_apart m ≡ false → Follows p m
follows-any p (Shift op w to a by true) e = cc
follows-any p (Shift op w to a by false) e = tt
follows-any p (micro.Trap kind) e = cc
follows-any p System e = cc
follows-any p _ e = tt

list-follows : (p : Option Micro) (ms : List Micro) → list_any is_apart ms ≡ false → AreFollowing p ms
list-follows p [] h = tt
list-follows p (m ∷ ms) h =
    let e = or_parts (is_apart m) (list_any is_apart ms) h in
    (follows-any p m e.0, list-follows (Some m) ms e.1)

plain-follows : (p : Option Micro) (ms : List Micro) → ArePlain ms → AreFollowing p ms
plain-follows p ms h = list-follows p ms (none-plain is_apart plain-apart ms h)

-- a list that follows any other, behind a plain one
after-plain : (p : Option Micro) (xs ys : List Micro) → ArePlain xs → ((q : Option Micro) → AreFollowing q ys) → AreFollowing p (xs ++ ys)
after-plain p [] ys h k = k p
after-plain p (x ∷ xs) ys h k =
    let e = and_parts (is_plain x) (list_all is_plain xs) h.all in
    (follows-any p x (plain-apart x e.0), after-plain (Some x) xs ys (record { all = e.1 }) k)

-- a shift comes directly behind its count
count-follows : (q : Option Micro) (op : ShiftOp) (w : Width) (n : Count) (ms : List Micro) → is_count w n ≡ true → ArePlain ms → AreFollowing q (count_of n ∷ Shift op w t2 t0 t1 true ∷ ms)
count-follows q op w count.Cl ms e h = (tt, (tt, plain-follows _ ms h))
count-follows q op w (count.Imm c) ms e h = (tt, ((refl, e), plain-follows _ ms h))

and-second : (a b : Bool) → (a && b) ≡ true → b ≡ true
and-second a b e = (and_parts a b e).1

jump-follows : {R : Type 0} (cond : Option Cond) (to : R) → AreFollowing None (micro_of (jump_with cond to))
jump-follows None to = (tt, (tt, tt))
jump-follows (Some cond) to = (tt, (tt, tt))

-- an instruction whose parts follow each other, or a system call
abbrev FollowsOrAsks : {R : Type 0} → Insn R → Type 0
FollowsOrAsks i = is_instruction i ≡ true → AreFollowing None (micro_of i) ⊎ (i ≡ Syscall)

pub micro-follows : {R : Type 0} (i : Insn R) → is_instruction i ≡ true → AreFollowing None (micro_of i) ⊎ (i ≡ Syscall)
micro-follows {R = R} i =
    by-shape {R = R} FollowsOrAsks
    (record {
      all_plain = λ i plain e. inl (plain-follows None (micro_of i) plain);
      shift = λ op w at n front back e.
          inl (subst (λ ms. AreFollowing None ms) (sym (append_assoc (value_of t0 w at) (count_of n ∷ Shift op w t2 t0 t1 true ∷ []) (write_of w at t2)))
          (after-plain None (value_of t0 w at) _ front (λ q. count-follows q op w n (write_of w at t2) (and-second (is_place w at) (is_count w n) e) back)));
      strings = λ i moves w rep is e. inl (subst (λ ms. AreFollowing None ms) (sym is) (tt, tt));
      jump = λ cond to e. inl (jump-follows cond to);
      call = λ to e. inl (list-follows None (micro_of (Call to)) refl);
      jump_to = λ to notrack front e. inl (list-follows None _ (none-joined is_apart (value_of t0 Q to) (Go None t0 ∷ []) (none-plain is_apart plain-apart _ front) refl));
      call_to = λ to notrack front e. inl (list-follows None _ (none-joined is_apart (value_of t0 Q to) call_of (none-plain is_apart plain-apart _ front) refl));
      return = λ e. inl (list-follows None return_of refl);
      system = λ e. inr refl;
      trap = λ kind end is e. inl (subst (λ ms. AreFollowing None ms) (sym is) (end, tt));
    }) i
