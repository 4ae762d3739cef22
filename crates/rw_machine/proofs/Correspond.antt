-- A small operation keeps the correspondence of two runs, and so does a list of them.
use Rattle.std.proofs.Common.{◌≡◌, ℕ, ◌-◌, ◌^◌, List, [], ◌∷◌, Option, Some, None, Result, Ok, Err, Bool, true, false, cond, nat_le, refl, sym, ap, subst}
use Rattle.std.specs.Prelude.{slice_set, option_map, is_ok}
use Rattle.rw_base.specs.declared.width.Width.{Width}
use Rattle.rw_base.specs.Width.{byte_count}
use Rattle.x86_insn.specs.declared.kinds.Reg.{Reg}
use Rattle.x86_insn.specs.declared.kinds.Reg.TheVariants.{Rax, Rsi, Rdi}
use Rattle.x86_meaning.specs.declared.operations.Temp.{Temp}
use Rattle.x86_meaning.specs.declared.operations.Micro.{Micro}
use Rattle.x86_meaning.specs.declared.operations.Micro.TheVariants.{Get, Put, Num, Ref, Next, Sum, Load, Store, Alu, One, Shift, Mul, Div, Extend, Swap, Bit, Scan, Elements, Same, Choose, Go, System}
use Rattle.x86_meaning.specs.declared.operations.Micro.TheVariants as micro
use Rattle.rw_domain.specs.declared.cause.Cause.{Cause}
use Rattle.rw_domain.specs.declared.flags.Tri.{Tri}
use Rattle.rw_domain.specs.declared.flags.Tri.TheVariants.{Yes, No, Unknown}
use Rattle.rw_domain.specs.declared.flags.Flags.{Flags}
use Rattle.rw_domain.specs.declared.place.Place.{Place}
use Rattle.rw_domain.specs.declared.place.Access.{Access}
use Rattle.rw_domain.specs.declared.place.Access.TheVariants.{Read, Write}
use Rattle.rw_domain.specs.Operators.{Operators}
use Rattle.rw_domain.specs.Stands.{FlagStands, FlagsStand, Both, OptionStands, KnownStands, ResultStands, OperatorsStand}
use Rattle.rw_domain.specs.OtherOperators.{FlaggedStands, PairStands, OtherOperatorsStand}
use Rattle.rw_machine.specs.Conditions.{holds}
use Rattle.rw_machine.specs.Running.{Due, Ask, Running, StringStep, Here, rank, first_cause, range_at, set_temp, set_temps, trap_of, unknown_flags, zero_flags, borrow_flags, temp, register, loaded_run, stored_run, computed_run, goal_run, chosen_run, borrowed_run, with_itself, shifted_run, divided_run, elements_permitted, elements_done, elements_of, due_after, after, after_all}
use Rattle.rw_machine.specs.Stands.{Spare, PlacesMiss, RowsStand, DueStands, HereStands, RunningStands, StandsUnlessStopped}
use Rattle.rw_machine.proofs.Lists.{set_both, take_both, join_both}
use Rattle.rw_machine.proofs.Spare.{Reached, places-reached, range-stands}
use Rattle.rw_machine.proofs.Flags.{holds-stands}
use Rattle.rw_machine.proofs.Parts.{temp-stands, register-stands, part-stands, put_part-stands}
use Rattle.rw_machine.proofs.StringSteps.{some_bytes, count-stands, registers-left, permitted-stand}

-- a cause once there stays
never_none : (o : Option Cause) (c : Cause) → first_cause o c ≡ None → ⊥
never_none None c e = cc
never_none (Some d) c e = by_test (nat_le (rank d) (rank c)) e
  where
    by_test : (b : Bool) → cond b (Some d) (Some c) ≡ None → ⊥
    by_test true e = cc
    by_test false e = cc

zero-flags : FlagsStand zero_flags zero_flags
zero-flags = record { cf = refl; zf = refl; sf = refl; of = refl; pf = refl }

borrow-flags : FlagsStand borrow_flags borrow_flags
borrow-flags = record { cf = refl; zf = refl; sf = refl; of = refl; pf = refl }

unknown-flags : FlagsStand unknown_flags unknown_flags
unknown-flags = record { cf = tt; zf = tt; sf = tt; of = tt; pf = tt }

module _ {V U E F : Type 0} (R : V → U → Type 0) (Byte : E → F → Type 0) (s : Operators V E) (n : Operators U F) (laws : OperatorsStand R Byte s n) (spare : Spare F) (miss : PlacesMiss spare s) where
  abbrev Unless : Running V → Running U → Type 0
  Unless a b = StandsUnlessStopped R s spare a b

  word-at : {a : Running V} {b : Running U} → RunningStands R s spare a b → (t : Temp) → R (temp s a t) (temp n b t)
  word-at {a} {b} h t = temp-stands R Byte s n laws a.temps b.temps h.temps t

  register-at : {a : Running V} {b : Running U} → RunningStands R s spare a b → (k : Reg) → R (register s a.registers k) (register n b.registers k)
  register-at {a} {b} h k = register-stands R Byte s n laws a.registers b.registers h.registers k

  place-at : (w : Width) (access : Access) {a : V} {b : U} → R a b → ResultStands (Reached spare (byte_count w)) (s.place a (byte_count w) access) (n.place b (byte_count w) access)
  place-at w access {a} {b} h = places-reached spare (byte_count w) _ _ (laws.place a b (byte_count w) access (some_bytes w) h) (miss a (byte_count w) access)

  -- a run that stands does so after a change of one of its parts
  with_temps : {a : Running V} {b : Running U} → RunningStands R s spare a b → (t : Temp) (v : V) (v' : U) (u : Temp) (w : V) (w' : U) (f g : Flags) → R v v' → R w w' → FlagsStand f g
      → RunningStands R s spare (set_temps a t v u w f) (set_temps b t v' u w' g)
  with_temps {a} {b} h t v v' u w w' f g r q k = record {
    temps = set_both R w w' q _ _ u.0 (set_both R v v' r a.temps b.temps t.0 h.temps);
    registers = h.registers;
    flags = k;
    due = h.due;
    goal = h.goal;
    ask = h.ask;
    goes_on = h.goes_on;
  }

  with_temp : {a : Running V} {b : Running U} → RunningStands R s spare a b → (to : Temp) (v : V) (w : U) → R v w → RunningStands R s spare (set_temp a to v) (set_temp b to w)
  with_temp {a} {b} h to v w r = record {
    temps = set_both R v w r a.temps b.temps to.0 h.temps;
    registers = h.registers;
    flags = h.flags;
    due = h.due;
    goal = h.goal;
    ask = h.ask;
    goes_on = h.goes_on;
  }

  with_result : {a : Running V} {b : Running U} → RunningStands R s spare a b → (to : Temp) (v : V) (w : U) (f g : Flags) → R v w → FlagsStand f g
      → RunningStands R s spare (record a { temps = slice_set a.temps to.0 v; flags = f }) (record b { temps = slice_set b.temps to.0 w; flags = g })
  with_result {a} {b} h to v w f g r k = record {
    temps = set_both R v w r a.temps b.temps to.0 h.temps;
    registers = h.registers;
    flags = k;
    due = h.due;
    goal = h.goal;
    ask = h.ask;
    goes_on = h.goes_on;
  }

  with_register : {a : Running V} {b : Running U} → RunningStands R s spare a b → (k : ℕ) (v : V) (w : U) → R v w
      → RunningStands R s spare (record a { registers = slice_set a.registers k v }) (record b { registers = slice_set b.registers k w })
  with_register {a} {b} h k v w r = record {
    temps = h.temps;
    registers = set_both R v w r a.registers b.registers k h.registers;
    flags = h.flags;
    due = h.due;
    goal = h.goal;
    ask = h.ask;
    goes_on = h.goes_on;
  }

  dues-after : (ds : List (Due V)) (es : List (Due U)) → Both (DueStands R s spare) ds es → (x : Due V) (y : Due U) → DueStands R s spare x y → Both (DueStands R s spare) (due_after ds x) (due_after es y)
  dues-after ds es h x y r = take_both (DueStands R s spare) 2 _ _ (join_both (DueStands R s spare) ds es (x ∷ []) (y ∷ []) h (r, tt))

  with_due : {a : Running V} {b : Running U} → RunningStands R s spare a b → (x : Due V) (y : Due U) → DueStands R s spare x y → RunningStands R s spare (record a { due = due_after a.due x }) (record b { due = due_after b.due y })
  with_due {a} {b} h x y r = record {
    temps = h.temps;
    registers = h.registers;
    flags = h.flags;
    due = dues-after a.due b.due h.due x y r;
    goal = h.goal;
    ask = h.ask;
    goes_on = h.goes_on;
  }

  with_elements : {a : Running V} {b : Running U} → RunningStands R s spare a b → (p : List V) (q : List U) (x : Due V) (y : Due U) → Both R p q → DueStands R s spare x y
      → RunningStands R s spare (record a { registers = p; due = due_after a.due x }) (record b { registers = q; due = due_after b.due y })
  with_elements {a} {b} h p q x y k r = record {
    temps = h.temps;
    registers = k;
    flags = h.flags;
    due = dues-after a.due b.due h.due x y r;
    goal = h.goal;
    ask = h.ask;
    goes_on = h.goes_on;
  }

  with_goal : {a : Running V} {b : Running U} → RunningStands R s spare a b → (x : V) (y : U) → R x y → RunningStands R s spare (record a { goal = Some x }) (record b { goal = Some y })
  with_goal h x y r = record {
    temps = h.temps;
    registers = h.registers;
    flags = h.flags;
    due = h.due;
    goal = r;
    ask = h.ask;
    goes_on = h.goes_on;
  }

  with_ask : {a : Running V} {b : Running U} → RunningStands R s spare a b → (x : Option Ask) → RunningStands R s spare (record a { ask = x }) (record b { ask = x })
  with_ask h x = record {
    temps = h.temps;
    registers = h.registers;
    flags = h.flags;
    due = h.due;
    goal = h.goal;
    ask = refl;
    goes_on = h.goes_on;
  }

  loaded-stands : (x : List (List E)) (y : List (List F)) → RowsStand Byte spare x y → (a : Running V) (b : Running U) (to : Temp) (w : Width) (p q : Result Place Cause) → Unless a b → (RunningStands R s spare a b → ResultStands (Reached spare (byte_count w)) p q)
      → Unless (loaded_run s x a to w p) (loaded_run n y b to w q)
  loaded-stands x y m a b to w (Ok p) (Ok q) k e none =
      with_temp (k none) to _ _
      (subst (λ z. R (s.join w (range_at x p (byte_count w))) (n.join w (range_at y z (byte_count w)))) (e (k none)).0 (laws.join w _ _ (range-stands Byte spare x y m p (byte_count w) (e (k none)).1)))
  loaded-stands x y m a b to w (Ok p) (Err d) k e none = absurd (e (k none))
  loaded-stands x y m a b to w (Err c) q k e none = absurd (never_none a.cause c none)

  stored-stands : (a : Running V) (b : Running U) (w : Width) (v : V) (v' : U) (p q : Result Place Cause) → Unless a b → (RunningStands R s spare a b → R v v') → (RunningStands R s spare a b → ResultStands (Reached spare (byte_count w)) p q)
      → Unless (stored_run s a w v p) (stored_run n b w v' q)
  stored-stands a b w v v' (Ok p) (Ok q) k r e none = with_due (k none) _ _ ((e (k none)).0, refl, r (k none), (e (k none)).1)
  stored-stands a b w v v' (Ok p) (Err d) k r e none = absurd (e (k none))
  stored-stands a b w v v' (Err c) q k r e none = absurd (never_none a.cause c none)

  computed-stands : (a : Running V) (b : Running U) (to : Temp) (w : Width) (p : Result (V × Flags) Cause) (q : Result (U × Flags) Cause) → Unless a b
      → (RunningStands R s spare a b → ResultStands (λ x y. R x.0 y.0 × FlagsStand x.1 y.1) p q)
      → Unless (computed_run s a to w p) (computed_run n b to w q)
  computed-stands a b to w (Ok p) (Ok q) k e none = with_result (k none) to p.0 q.0 p.1 q.1 (e (k none)).0 (e (k none)).1
  computed-stands a b to w (Ok p) (Err d) k e none = absurd (e (k none))
  computed-stands a b to w (Err c) q k e none = absurd (never_none a.cause c none)

  shifted-stands : (a : Running V) (b : Running U) (to : Temp) (w : Width) (sets : Bool) (p : Result (V × Flags) Cause) (q : Result (U × Flags) Cause) → Unless a b → (RunningStands R s spare a b → ResultStands (FlaggedStands R) p q)
      → Unless (shifted_run s a to w sets p) (shifted_run n b to w sets q)
  shifted-stands a b to w true p q k e none = computed-stands a b to w p q k e none
  shifted-stands a b to w false (Ok p) (Ok q) k e none = with_temp (k none) to p.0 q.0 (e (k none)).0
  shifted-stands a b to w false (Ok p) (Err d) k e none = absurd (e (k none))
  shifted-stands a b to w false (Err c) q k e none = absurd (never_none a.cause c none)

  divided-stands : (a : Running V) (b : Running U) (quotient rest : Temp) (w : Width) (p : Result (Option (V × V)) Cause) (q : Result (Option (U × U)) Cause) → Unless a b → (RunningStands R s spare a b → ResultStands (OptionStands (PairStands R)) p q)
      → Unless (divided_run s a quotient rest w p) (divided_run n b quotient rest w q)
  divided-stands a b quotient rest w (Ok (Some p)) (Ok (Some q)) k e none = with_temps (k none) quotient p.0 q.0 rest p.1 q.1 _ _ (e (k none)).0 (e (k none)).1 unknown-flags
  divided-stands a b quotient rest w (Ok (Some p)) (Ok None) k e none = absurd (e (k none))
  divided-stands a b quotient rest w (Ok None) (Ok (Some q)) k e none = absurd (e (k none))
  divided-stands a b quotient rest w (Ok None) (Ok None) k e none = with_ask (k none) _
  divided-stands a b quotient rest w (Ok (Some p)) (Err d) k e none = absurd (e (k none))
  divided-stands a b quotient rest w (Ok None) (Err d) k e none = absurd (e (k none))
  divided-stands a b quotient rest w (Err c) q k e none = absurd (never_none a.cause c none)

  gone-stands : (a : Running V) (b : Running U) (v : V) (v' : U) (x y : Option Bool) → Unless a b → (RunningStands R s spare a b → R v v') → (RunningStands R s spare a b → KnownStands x y) → Unless (goal_run s a v x) (goal_run n b v' y)
  gone-stands a b v v' (Some true) y k r e none = subst (λ z. RunningStands R s spare (goal_run s a v (Some true)) (goal_run n b v' z)) (sym (e (k none))) (with_goal (k none) v v' (r (k none)))
  gone-stands a b v v' (Some false) y k r e none = subst (λ z. RunningStands R s spare (goal_run s a v (Some false)) (goal_run n b v' z)) (sym (e (k none))) (k none)
  gone-stands a b v v' None y k r e none = absurd (never_none a.cause _ none)

  chosen-stands : (a : Running V) (b : Running U) (to : Temp) (u v : V) (u' v' : U) (x y : Option Bool) → Unless a b → (RunningStands R s spare a b → R u u') → (RunningStands R s spare a b → R v v') → (RunningStands R s spare a b → KnownStands x y)
      → Unless (chosen_run s a to u v x) (chosen_run n b to u' v' y)
  chosen-stands a b to u v u' v' (Some true) y k r t e none = subst (λ z. RunningStands R s spare (chosen_run s a to u v (Some true)) (chosen_run n b to u' v' z)) (sym (e (k none))) (with_temp (k none) to u u' (r (k none)))
  chosen-stands a b to u v u' v' (Some false) y k r t e none = subst (λ z. RunningStands R s spare (chosen_run s a to u v (Some false)) (chosen_run n b to u' v' z)) (sym (e (k none))) (with_temp (k none) to v v' (t (k none)))
  chosen-stands a b to u v u' v' None y k r t e none = absurd (never_none a.cause _ none)

  borrowed-stands : (a : Running V) (b : Running U) (to : Temp) (w : Width) (x y : Tri) → Unless a b → (RunningStands R s spare a b → FlagStands x y) → Unless (borrowed_run s a to w x) (borrowed_run n b to w y)
  borrowed-stands a b to w Yes y k e none = subst (λ z. RunningStands R s spare (borrowed_run s a to w Yes) (borrowed_run n b to w z)) (sym (e (k none))) (with_result (k none) to _ _ _ _ (laws.num w (2 ^ 64 - 1)) borrow-flags)
  borrowed-stands a b to w No y k e none = subst (λ z. RunningStands R s spare (borrowed_run s a to w No) (borrowed_run n b to w z)) (sym (e (k none))) (with_result (k none) to _ _ _ _ (laws.num w 0) zero-flags)
  borrowed-stands a b to w Unknown y k e none = absurd (never_none a.cause _ none)

  itself-stands : (borrow : Bool) (a : Running V) (b : Running U) (to : Temp) (w : Width) → Unless a b → Unless (with_itself s borrow a to w) (with_itself n borrow b to w)
  itself-stands false a b to w k none = with_result (k none) to _ _ _ _ (laws.num w 0) zero-flags
  itself-stands true a b to w k none = borrowed-stands a b to w a.flags.cf b.flags.cf k (λ h. h.flags.cf) none

  base-stands : (a : Running V) (b : Running U) → RunningStands R s spare a b → (o : Option Temp) → OptionStands R (option_map (temp s a) o) (option_map (temp n b) o)
  base-stands a b h None = tt
  base-stands a b h (Some t) = word-at h t

  index-stands : (a : Running V) (b : Running U) → RunningStands R s spare a b → (o : Option (Temp × ℕ)) → OptionStands {A = V × ℕ} {T = U × ℕ} (λ p q. R p.0 q.0 × (p.1 ≡ q.1)) (option_map (λ p. (temp s a p.0, p.1)) o) (option_map (λ p. (temp n b p.0, p.1)) o)
  index-stands a b h None = tt
  index-stands a b h (Some t) = (word-at h t.0, refl)

  direct-stands : (x : Here V) (y : Here U) → HereStands R x y → (direct : Bool) → R (cond direct x.direct x.indirect) (cond direct y.direct y.indirect)
  direct-stands x y h true = h.direct
  direct-stands x y h false = h.indirect

  abbrev step : {T : Type 0} → Bool → Width → T → StringStep T
  step moves w word = record { moves = moves; width = w; word = word }

  permitted-done : (a : Running V) (b : Running U) (v : V) (v' : U) (moves : Bool) (w : Width) (rep : Bool) (i : ℕ) (p : V × V) (q : Result (U × U) Cause)
      → RunningStands R s spare a b → R v v' → elements_permitted s (step moves w v) i (register s a.registers Rsi) (register s a.registers Rdi) ≡ Ok p → ResultStands (PairStands R) (Ok p) q
      → RunningStands R s spare (elements_done s a (step moves w v) rep i (Ok p)) (elements_done n b (step moves w v') rep i q)
  permitted-done a b v v' moves w rep i p (Ok q) h r permitted e =
      with_elements h _ _ _ _ (registers-left R Byte s n laws spare miss rep moves a.registers b.registers p q h.registers e)
      (record { moves = refl; width = refl; word = r; count = refl; source = register-at h Rsi; target = register-at h Rdi; permitted = ap is_ok permitted })
  permitted-done a b v v' moves w rep i p (Err d) h r permitted e = absurd e

  done-stands : (a : Running V) (b : Running U) (v : V) (v' : U) (moves : Bool) (w : Width) (rep : Bool) (i : ℕ) (j : Option ℕ) (p : Result (V × V) Cause)
      → Unless a b → (RunningStands R s spare a b → R v v') → (RunningStands R s spare a b → j ≡ Some i) → elements_permitted s (step moves w v) i (register s a.registers Rsi) (register s a.registers Rdi) ≡ p
      → Unless (elements_done s a (step moves w v) rep i p) (elements_of n b (step moves w v') rep j)
  done-stands a b v v' moves w rep i j (Ok p) k r e permitted none =
      let h = k none in
      subst (λ z. RunningStands R s spare (elements_done s a (step moves w v) rep i (Ok p)) (elements_of n b (step moves w v') rep z)) (sym (e h))
      (permitted-done a b v v' moves w rep i p _ h (r h) permitted
      (subst (λ z. ResultStands (PairStands R) z (elements_permitted n (step moves w v') i (register n b.registers Rsi) (register n b.registers Rdi))) permitted
      (permitted-stand R Byte s n laws spare miss moves w v v' i _ _ _ _ (register-at h Rsi) (register-at h Rdi))))
  done-stands a b v v' moves w rep i j (Err c) k r e permitted none = absurd (never_none a.cause c none)

  counted-stands : (a : Running V) (b : Running U) (v : V) (v' : U) (moves : Bool) (w : Width) (rep : Bool) (i j : Option ℕ)
      → Unless a b → (RunningStands R s spare a b → R v v') → (RunningStands R s spare a b → KnownStands i j)
      → Unless (elements_of s a (step moves w v) rep i) (elements_of n b (step moves w v') rep j)
  counted-stands a b v v' moves w rep None j k r e none = absurd (never_none a.cause _ none)
  counted-stands a b v v' moves w rep (Some i) j k r e none = done-stands a b v v' moves w rep i j _ k r e refl none

  module _ (others : OtherOperatorsStand R s n) (x : List (List E)) (y : List (List F)) (m : RowsStand Byte spare x y) (here : Here V) (here' : Here U) (found : HereStands R here here') where
    pub after-stands : (i : Micro) (a : Running V) (b : Running U) → StandsUnlessStopped R s spare a b → StandsUnlessStopped R s spare (after s x here i a) (after n y here' i b)
    after-stands (Get to w from) a b k none =
        with_temp (k none) to _ _ (part-stands R Byte s n laws w from _ _ (register-at (k none) _))
    after-stands (Put w to from) a b k none =
        with_register (k none) _ _ _
        (put_part-stands R Byte s n laws w to _ _ _ _ (register-at (k none) _) (word-at (k none) from))
    after-stands (Num to w v) a b k none = with_temp (k none) to _ _ (laws.num w v)
    after-stands (Ref to direct) a b k none = with_temp (k none) to _ _ (direct-stands here here' found direct)
    after-stands (micro.Canary to) a b k none = with_temp (k none) to _ _ laws.canary
    after-stands (Next to) a b k none = with_temp (k none) to _ _ found.next
    after-stands (Sum to base index disp) a b k none = with_temp (k none) to _ _ (laws.sum _ _ _ _ disp (base-stands a b (k none) base) (index-stands a b (k none) index))
    after-stands (Load to w at) a b k none = loaded-stands x y m a b to w _ _ k (λ h. place-at w Read (word-at h at)) none
    after-stands (Store w at from) a b k none = stored-stands a b w _ _ _ _ k (λ h. word-at h from) (λ h. place-at w Write (word-at h at)) none
    after-stands (Alu op w to i j) a b k none =
        computed-stands a b to w _ _ k (λ h. laws.alu op w _ _ _ _ a.flags b.flags (word-at h i) (word-at h j) h.flags) none
    after-stands (One op w to i) a b k none =
        let r = others.one op w _ _ a.flags b.flags (word-at (k none) i) (k none).flags in
        with_result (k none) to _ _ _ _ r.0 r.1
    after-stands (Shift op w to i count sets) a b k none =
        shifted-stands a b to w sets _ _ k (λ h. others.shift op w _ _ _ _ a.flags b.flags (word-at h i) (word-at h count) h.flags) none
    after-stands (Mul is_signed w low high i j) a b k none =
        let r = others.mul is_signed w _ _ _ _ (word-at (k none) i) (word-at (k none) j) in
        with_temps (k none) low _ _ high _ _ _ _ r.0 r.1 r.2
    after-stands (Div is_signed w quotient rest high low by) a b k none =
        divided-stands a b quotient rest w _ _ k (λ h. others.div is_signed w _ _ _ _ _ _ (word-at h high) (word-at h low) (word-at h by)) none
    after-stands (Extend is_signed from w to i) a b k none = with_temp (k none) to _ _ (others.extend is_signed from _ _ w (word-at (k none) i))
    after-stands (Swap w to i) a b k none = with_temp (k none) to _ _ (others.swap w _ _ (word-at (k none) i))
    after-stands (Bit op w to i index) a b k none =
        let r = others.bit op w _ _ _ _ a.flags b.flags (word-at (k none) i) (word-at (k none) index) (k none).flags in
        with_result (k none) to _ _ _ _ r.0 r.1
    after-stands (Scan op w to i) a b k none =
        let r = others.scan op w _ _ (word-at (k none) i) in
        with_result (k none) to _ _ _ _ r.0 r.1
    after-stands (Elements moves w rep) a b k none =
        counted-stands a b _ _ moves w rep _ _ k (λ h. register-at h Rax) (λ h. count-stands R Byte s n laws spare miss rep a.registers b.registers h.registers) none
    after-stands (Same borrow w to) a b k none = itself-stands borrow a b to w k none
    after-stands (Choose c to i j) a b k none = chosen-stands a b to _ _ _ _ (holds c a.flags) (holds c b.flags) k (λ h. word-at h i) (λ h. word-at h j) (λ h. holds-stands c a.flags b.flags h.flags) none
    after-stands (Go None to) a b k none = with_goal (k none) _ _ (word-at (k none) to)
    after-stands (Go (Some c) to) a b k none = gone-stands a b _ _ (holds c a.flags) (holds c b.flags) k (λ h. word-at h to) (λ h. holds-stands c a.flags b.flags h.flags) none
    after-stands (micro.Trap kind) a b k none = with_ask (k none) (trap_of kind)
    after-stands System a b k none = with_ask (k none) _

    pub after_all-stands : (is : List Micro) (a : Running V) (b : Running U) → StandsUnlessStopped R s spare a b → StandsUnlessStopped R s spare (after_all s x here is a) (after_all n y here' is b)
    after_all-stands [] a b k = k
    after_all-stands (i ∷ is) a b k = after_all-stands is _ _ (after-stands i a b k)
