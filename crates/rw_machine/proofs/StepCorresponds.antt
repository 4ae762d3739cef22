-- A step of the first machine that doesn't stop has a step of the second for which it stands.
use Rattle.std.proofs.Common.{arith, ◌≡◌, ℕ, ◌%◌, List, [], ◌∷◌, Option, Some, None, Result, Ok, Err, Bool, true, false, cond, refl, sym, subst}
use Rattle.std.specs.Prelude.{pos, is_ok}
use Rattle.std.specs.List.{list_any}
use Rattle.rw_base.specs.declared.width.Width.TheVariants.{Q}
use Rattle.rw_base.specs.Width.{byte_count}
use Rattle.x86_insn.specs.declared.kinds.Reg.{Reg}
use Rattle.x86_insn.specs.declared.kinds.Reg.TheVariants.{Rax, Rsp}
use Rattle.x86_insn.specs.declared.instruction.Insn.{Insn}
use Rattle.x86_insn.specs.References.{reference_of}
use Rattle.x86_insn.specs.WellFormed.{code_of}
use Rattle.x86_meaning.specs.declared.operations.Micro.{Micro}
use Rattle.x86_meaning.specs.Meaning.{micro_of}
use Rattle.rw_domain.specs.declared.cause.Cause.{Cause}
use Rattle.rw_domain.specs.declared.flags.Flags.{Flags}
use Rattle.rw_domain.specs.declared.place.Place.{Place}
use Rattle.rw_domain.specs.declared.place.Access.TheVariants.{Read}
use Rattle.rw_domain.specs.Operators.{Operators}
use Rattle.rw_domain.specs.Stands.{FlagsStand, Both, OptionStands, KnownStands, ResultStands, OperatorsStand}
use Rattle.rw_domain.specs.OtherOperators.{OtherOperatorsStand}
use Rattle.rw_machine.specs.declared.ending.End.{End}
use Rattle.rw_machine.specs.declared.ending.End.TheVariants.{Returned, Trapped}
use Rattle.rw_machine.specs.declared.goal.Goal.{Goal}
use Rattle.rw_machine.specs.declared.goal.Goal.TheVariants.{At, Import, Finish}
use Rattle.rw_machine.specs.declared.running.Due.TheVariants.{Word, Elements}
use Rattle.rw_machine.specs.Program.{Program, Domains}
use Rattle.rw_machine.specs.Running.{Due, StringStep, Ask, Serve, Halt, Running, written_at, unknown_flags, register, bytes_from, elements_permitted, elements_written, after_all}
use Rattle.rw_machine.specs.Events.{Event, Reply, lost_to_system, lost_to_import}
use Rattle.rw_machine.specs.Step.{Machine, Outcome, Moved, Asks, Ended, Stopped, loses_flags, one_written, due_written, flags_forgotten, flags_left, row_forgotten, from_stack, stack_forgotten, all_put, registers_after_reply, raised_registers, first_running, fits_stack, swept_machine, settled_outcome, finished_outcome, returned_outcome_with, returned_outcome, placed_with, resolved_word, here_at, run_of, machine_after, machine_after_reply, replied_outcome, served_outcome, machine_after_import, return_to_outcome, return_from_outcome, import_outcome, entered_outcome, goal_of, reached_outcome, asked_outcome, decided_outcome, insn_outcome, step_outcome, step_of, reply_of}
use Rattle.rw_machine.specs.Operations.{takes_next, takes_reference}
use Rattle.rw_machine.specs.Stands.{Spare, RowsStand, Misses, PlacesMiss, ReplyStands, MachineStands, EndStands, OutcomeStands, GoalStands, EventStands, InsnStands, InsnFollows, ProgramsStand, DomainsStand, ElementsStand, DueStands, HereStands, RunningStands, StandsUnlessStopped, Room, frame_room, room_at_entry, room_at_goal, room_of_ask, room_of_insn, reply_room}
use Rattle.rw_machine.proofs.Lists.{get_both, set_both, drop_both, replicate_both}
use Rattle.rw_machine.proofs.Parts.{register-stands, bytes-stand, bytes-counted}
use Rattle.rw_machine.proofs.Spare.{Reached, places-reached, range-stands, written-stands}
use Rattle.rw_machine.proofs.StringSteps.{written-stand}
use Rattle.rw_machine.proofs.Correspond.{after_all-stands}
use Rattle.rw_machine.proofs.RepliedMemory.{forgotten-row-stands, answered-memory-stands, frame-stands}
use Rattle.rw_machine.proofs.EventsStand.{import-event-stands, event-stands}

-- ---- what a step leaves

module _ {V U E F : Type 0} (R : V → U → Type 0) (Byte : E → F → Type 0) (s : Operators V E) (n : Operators U F) (laws : OperatorsStand R Byte s n) (spare : Spare F) (miss : PlacesMiss spare s) where
  -- a string step writes what stands, as each of its elements is permitted
  elements-stand : (x : List (List E)) (y : List (List F)) → RowsStand Byte spare x y → (st : StringStep V) (i : ℕ) (a b : V) (su : StringStep U) (j : ℕ) (v w : U) → ElementsStand R s st i a b su j v w
      → RowsStand Byte spare (elements_written s st i x a b) (elements_written n su j y v w)
  elements-stand x y rows st i a b su j v w h = by_answer (elements_permitted s st i a b) refl h.permitted
    where
      by_answer : (o : Result (V × V) Cause) → elements_permitted s st i a b ≡ o → is_ok o ≡ true → RowsStand Byte spare (elements_written s st i x a b) (elements_written n su j y v w)
      by_answer (Ok p) e ok =
          subst (λ k. RowsStand Byte spare (elements_written s st i x a b) (elements_written n su k y v w)) h.count
          (subst (λ m. RowsStand Byte spare (elements_written s st i x a b) (elements_written n (record su { moves = m }) i y v w)) h.moves
          (subst (λ z. RowsStand Byte spare (elements_written s st i x a b) (elements_written n (record su { moves = st.moves; width = z }) i y v w)) h.width
          (written-stand R Byte s n laws spare miss st.moves st.width st.word su.word h.word i x y rows a v b w h.source h.target p e)))
      by_answer (Err c) e ok = cc

  one-stands : (x : List (List E)) (y : List (List F)) → RowsStand Byte spare x y → (d : Due V) (e : Due U) → DueStands R s spare d e → RowsStand Byte spare (one_written s x d) (one_written n y e)
  one-stands x y rows (Word p v a) (Word q w b) h =
      subst (λ z. RowsStand Byte spare (one_written s x (Word p v a)) (written_at y q (bytes_from n (byte_count z) 0 b))) h.1
      (subst (λ z. RowsStand Byte spare (one_written s x (Word p v a)) (written_at y z (bytes_from n (byte_count v) 0 b))) h.0
      (written-stands Byte spare x y rows p _ _ (bytes-stand R Byte s n laws (byte_count v) 0 a b h.2) (subst (Misses spare p) (sym (bytes-counted n (byte_count v) 0 b)) h.3)))
  one-stands x y rows (Word p v a) (Elements su j v' w) h = absurd h
  one-stands x y rows (Elements st i a b) (Word q w c) h = absurd h
  one-stands x y rows (Elements st i a b) (Elements su j v w) h = elements-stand x y rows st i a b su j v w h

  due-stands : (x : List (List E)) (y : List (List F)) → RowsStand Byte spare x y → (ds : List (Due V)) (es : List (Due U)) → Both (DueStands R s spare) ds es → RowsStand Byte spare (due_written s x ds) (due_written n y es)
  due-stands x y rows [] [] h = rows
  due-stands x y rows [] (e ∷ es) h = absurd h
  due-stands x y rows (d ∷ ds) [] h = absurd h
  due-stands x y rows (d ∷ ds) (e ∷ es) h = due-stands (one_written s x d) (one_written n y e) (one-stands x y rows d e h.0) ds es h.1

  forgotten-flags : (t : Bool) (f g : Flags) → FlagsStand f g → FlagsStand (cond t unknown_flags f) g
  forgotten-flags false f g h = h
  forgotten-flags true f g h = record { cf = tt; zf = tt; sf = tt; of = tt; pf = tt }

  flags-forgotten-stand : (f g : Flags) → FlagsStand f g → FlagsStand (flags_forgotten s f) (flags_forgotten n g)
  flags-forgotten-stand f g h = subst (λ t. FlagsStand (flags_forgotten s f) (cond t unknown_flags g)) (sym laws.keeps) (forgotten-flags s.forgets f g h)

  -- flags that the second loses are kept there
  lost-stands : (t u : Bool) (f g : Flags) → FlagsStand f g → FlagsStand (flags_forgotten s f) (flags_forgotten n g) → FlagsStand f (flags_forgotten n g) → FlagsStand (flags_forgotten s f) g
      → FlagsStand (cond t (flags_forgotten s f) f) (cond u (flags_forgotten n g) g)
  lost-stands false false f g h both second first = h
  lost-stands false true f g h both second first = second
  lost-stands true false f g h both second first = first
  lost-stands true true f g h both second first = both

  flags-stand : {A T : Type 0} (i : Insn A) (j : Insn T) (f g : Flags) → FlagsStand f g → FlagsStand (flags_left s i f) (flags_left n j g)
  flags-stand i j f g h =
      lost-stands (loses_flags i) (loses_flags j) f g h (flags-forgotten-stand f g h)
      (subst (λ t. FlagsStand f (cond t unknown_flags g)) (sym laws.keeps) h) (forgotten-flags s.forgets f g h)

  forgotten-by : (t : Bool) → s.forgets ≡ t → (x : List (List E)) (y : List (List F)) → RowsStand Byte spare x y → (p : Result Place Cause) → RowsStand Byte spare (cond t (row_forgotten s x p) x) y
  forgotten-by false e x y rows p = rows
  forgotten-by true e x y rows p = forgotten-row-stands R Byte s n laws spare e x y rows p

  stack-stands : (a : List V) (b : List U) (x : List (List E)) (y : List (List F)) → RowsStand Byte spare x y → RowsStand Byte spare (stack_forgotten s a x) (stack_forgotten n b y)
  stack-stands a b x y rows =
      subst (λ t. RowsStand Byte spare (stack_forgotten s a x) (cond t (row_forgotten n y (from_stack n b 128)) y)) (sym laws.keeps)
      (forgotten-by s.forgets refl x y rows (from_stack s a 128))

  begun-stands : (a : List V) (b : List U) (f g : Flags) → Both R a b → FlagsStand f g → RunningStands R s spare (first_running s a f) (first_running n b g)
  begun-stands a b f g h k = record {
    temps = replicate_both R 8 _ _ (laws.undef Q);
    registers = h;
    flags = k;
    due = tt;
    goal = tt;
    ask = refl;
    goes_on = refl;
  }

  put-stands : (ks : List Reg) (us : List V) (vs : List U) (a : List V) (b : List U) → Both R us vs → Both R a b → Both R (all_put s ks us a) (all_put n ks vs b)
  put-stands [] us vs a b words h = h
  put-stands (k ∷ ks) us vs a b words h =
      put-stands ks _ _ _ _ (drop_both R 1 us vs words) (set_both R _ _ (get_both R _ _ (laws.undef Q) us vs 0 words) a b (code_of k) h)

  answered-registers-stand : (lost : List Reg) (r : Reply V E) (q : Reply U F) → R r.result q.result → Both R r.scratch q.scratch → (a : List V) (b : List U) → Both R a b → Both R (registers_after_reply s lost r a) (registers_after_reply n lost q b)
  answered-registers-stand lost r q result scratch a b h = put-stands lost r.scratch q.scratch _ _ scratch (set_both R _ _ result a b (code_of Rax) h)

  raised-stands : (a : List V) (b : List U) → Both R a b → Both R (raised_registers s a) (raised_registers n b)
  raised-stands a b h =
      set_both R _ _ (laws.sum (Some (register s a Rsp)) (Some (register n b Rsp)) None None (pos 8) (register-stands R Byte s n laws a b h Rsp) tt) a b (code_of Rsp) h

  -- ---- the rules at the end of a step

  module _ {D T P O : Type 0} (Laid : D → T → Type 0) where
    swept-stands : (Near : P → O → Type 0) (m : Machine D V E P) (o : Machine T U F O) → MachineStands R Byte spare Laid Near m o → MachineStands R Byte spare Laid Near (swept_machine s m) (swept_machine n o)
    swept-stands Near m o h = record {
      registers = h.registers;
      flags = h.flags;
      memory = stack-stands m.registers o.registers m.memory o.memory h.memory;
      placed = h.placed;
      point = h.point;
    }

    fits-stands : (Near : P → O → Type 0) (m : Machine D V E P) (o : Machine T U F O) → MachineStands R Byte spare Laid Near m o → fits_stack s m.registers ≡ true → fits_stack n o.registers ≡ true
    fits-stands Near m o h e = laws.stack_fits _ _ (register-stands R Byte s n laws m.registers o.registers h.registers Rsp) e

    module _ (Named : ℕ → ℕ → Type 0) (Near : P → O → Type 0) where
      abbrev Same : Machine D V E P → Machine T U F O → Type 0
      Same m o = MachineStands R Byte spare Laid Near m o

      abbrev AtEnd : Machine D V E P → Machine T U F O → Type 0
      AtEnd m o = EndStands R Byte spare Named Laid Near m o

      abbrev Comes : Outcome D V E P → Outcome T U F O → Type 0
      Comes a b = OutcomeStands R Byte spare Named Laid Near a b

      unless_low : (t u : Bool) (a : Outcome D V E P) (b : Outcome T U F O) (x y : Cause) → (t ≡ true → u ≡ true) → Comes a b → Comes (cond t a (Stopped x)) (cond u b (Stopped y))
      unless_low false u a b x y f h = tt
      unless_low true true a b x y f h = h
      unless_low true false a b x y f h = absurd (let e : false ≡ true = f refl in cc)

      pub settled-stands : (m : Machine D V E P) (o : Machine T U F O) → MachineStands R Byte spare Laid Near m o → OutcomeStands R Byte spare Named Laid Near (settled_outcome s m) (settled_outcome n o)
      settled-stands m o h = unless_low (fits_stack s m.registers) (fits_stack n o.registers) _ _ _ _ (fits-stands Near m o h) (swept-stands Near m o h)

      pub finished-stands : (m : Machine D V E P) (o : Machine T U F O) → EndStands R Byte spare Named Laid Near m o → (z : End) → OutcomeStands R Byte spare Named Laid Near (finished_outcome s m z) (finished_outcome n o z)
      finished-stands m o h z = unless_low (fits_stack s m.registers) (fits_stack n o.registers) _ _ _ _ (fits-stands (λ p q. Unit {0}) m o h) (refl, swept-stands (λ p q. Unit {0}) m o h)

      with-number : (m : Machine D V E P) (o : Machine T U F O) → AtEnd m o → (x y : Option ℕ) → KnownStands x y → Comes (returned_outcome_with s m x) (returned_outcome_with n o y)
      with-number m o h None y k = tt
      with-number m o h (Some x) y k = subst (λ z. Comes (returned_outcome_with s m (Some x)) (returned_outcome_with n o z)) (sym k) (finished-stands m o h (Returned (x % 256)))

      pub returned-stands : (m : Machine D V E P) (o : Machine T U F O) → EndStands R Byte spare Named Laid Near m o → OutcomeStands R Byte spare Named Laid Near (returned_outcome s m) (returned_outcome n o)
      returned-stands m o h = with-number m o h _ _ (laws.number Q _ _ (register-stands R Byte s n laws m.registers o.registers h.registers Rax))

-- ---- whether a step asks

abbrev pub asks : {D V C P : Type 0} → Outcome D V C P → Bool
asks (Moved m) = false
asks (Asks e) = true
asks (Ended m z) = false
asks (Stopped c) = false

module _ {V C : Type 0} (ops : Operators V C) {D P : Type 0} where
  no_ask : (t : Bool) (a : Outcome D V C P) (c : Cause) → asks a ≡ false → asks (cond t a (Stopped c)) ≡ false
  no_ask false a c e = refl
  no_ask true a c e = e

  settled-never : (m : Machine D V C P) → asks (settled_outcome ops m) ≡ false
  settled-never m = no_ask (fits_stack ops m.registers) _ _ refl

  finished-never : (m : Machine D V C P) (z : End) → asks (finished_outcome ops m z) ≡ false
  finished-never m z = no_ask (fits_stack ops m.registers) _ _ refl

  with-never : (m : Machine D V C P) (o : Option ℕ) → asks (returned_outcome_with ops m o) ≡ false
  with-never m None = refl
  with-never m (Some k) = finished-never m (Returned (k % 256))

  returned-never : (m : Machine D V C P) → asks (returned_outcome ops m) ≡ false
  returned-never m = with-never m (ops.number Q (register ops m.registers Rax))

-- ---- the step

-- Left ties the data after the step: those from before it where the first machine doesn't ask, else those that the answers
-- leave. Near' ties the points after it.
module _ {D T V U E F A G P O : Type 0} (R : V → U → Type 0) (Byte : E → F → Type 0) (spare : Spare F) (Named : ℕ → ℕ → Type 0) (Laid Left : D → T → Type 0) (Near Near' : P → O → Type 0)
    (S : Domains D V E) (N : Domains T U F) (c : Program P A V) (d : Program O G U) (programs : ProgramsStand R Named Near Near' c d) where
  abbrev Behind : Machine D V E P → Machine T U F O → Type 0
  Behind m o = MachineStands R Byte spare Left Near' m o

  abbrev AtLast : Machine D V E P → Machine T U F O → Type 0
  AtLast m o = EndStands R Byte spare Named Left Near' m o

  abbrev Follows : Outcome D V E P → Outcome T U F O → Type 0
  Follows a b = OutcomeStands R Byte spare Named Left Near' a b

  -- two answers, or none, for a room that depends on the end
  abbrev pub Answers : (Option End → Room) → D → T → Option (Reply V E) → Option (Reply U F) → Type 0
  Answers room x y r q = OptionStands (λ a b. ReplyStands R Byte spare (room a.ending) a b × Left (placed_with S x a.fresh) (placed_with N y b.fresh)) r q

  module _ (s : Operators V E) (n : Operators U F) (laws : OperatorsStand R Byte s n) (others : OtherOperatorsStand R s n) (miss : PlacesMiss spare s) where
    resolved-stands : (direct : Bool) (a : Option A) (b : Option G) → OptionStands (λ x y. R (c.resolve x direct) (d.resolve y direct)) a b → R (resolved_word S s c a direct) (resolved_word N n d b direct)
    resolved-stands direct None None h = laws.undef Q
    resolved-stands direct None (Some b) h = absurd h
    resolved-stands direct (Some a) None h = absurd h
    resolved-stands direct (Some a) (Some b) h = h

    -- a word that is taken by the one list, and so by the other
    taken-stands : (f : Micro → Bool) (is js : List Micro) → is ≡ js → (a : V) (b : U) → (list_any f is ≡ true → R a b) → R (cond (list_any f is) a (s.undef Q)) (cond (list_any f js) b (n.undef Q))
    taken-stands f is js e a b h = subst (λ ms. R (cond (list_any f is) a (s.undef Q)) (cond (list_any f ms) b (n.undef Q))) e (by_test (list_any f is) h)
      where
        by_test : (t : Bool) → (t ≡ true → R a b) → R (cond t a (s.undef Q)) (cond t b (n.undef Q))
        by_test true h = h refl
        by_test false h = laws.undef Q

    here-stands : (p : P) (q : O) (i : Insn A) (j : Insn G) → InsnStands R Near' c d p q i j → HereStands R (here_at S s c p i) (here_at N n d q j)
    here-stands p q i j h = record {
      next = taken-stands takes_next (micro_of i) (micro_of j) h.micro _ _ h.address;
      direct = taken-stands (takes_reference true) (micro_of i) (micro_of j) h.micro _ _ (λ taken. resolved-stands true (reference_of i) (reference_of j) (h.reference true taken));
      indirect = taken-stands (takes_reference false) (micro_of i) (micro_of j) h.micro _ _ (λ taken. resolved-stands false (reference_of i) (reference_of j) (h.reference false taken));
    }

    module _ (m : Machine D V E P) (o : Machine T U F O) (Where : P → O → Type 0) (h : MachineStands R Byte spare Laid Where m o) where
      runs-stand : (i : Insn A) (j : Insn G) → InsnStands R Near' c d m.point o.point i j → StandsUnlessStopped R s spare (run_of S s c m i) (run_of N n d o j)
      runs-stand i j k =
          subst (λ ms. StandsUnlessStopped R s spare (run_of S s c m i) (after_all n o.memory (here_at N n d o.point j) ms (first_running n o.registers o.flags))) k.micro
          (after_all-stands R Byte s n laws spare miss others m.memory o.memory h.memory _ _ (here-stands m.point o.point i j k) (micro_of i) _ _
          (λ _. begun-stands R Byte s n laws spare miss m.registers o.registers m.flags o.flags h.registers h.flags))

      -- after an instruction, with any data
      left-stands : (X : D → T → Type 0) → X m.placed o.placed → (i : Insn A) (j : Insn G) (x : Running V) (y : Running U) → RunningStands R s spare x y → (Near : P → O → Type 0) (p : P) (q : O) → Near p q
          → MachineStands R Byte spare X Near (machine_after S s c m i x p) (machine_after N n d o j y q)
      left-stands X placed i j x y k Near p q near = record {
        registers = k.registers;
        flags = flags-stand R Byte s n laws spare miss i j x.flags y.flags k.flags;
        memory = due-stands R Byte s n laws spare miss m.memory o.memory h.memory x.due y.due k.due;
        placed = placed;
        point = near;
      }

      -- ---- an answered system call

      unplaced : (a : Machine D V E P) (b : Machine T U F O) → Behind a b → AtLast a b
      unplaced a b h = record { registers = h.registers; flags = h.flags; memory = h.memory; placed = h.placed; point = tt }

      replied-stands : Near' (c.next m.point) (d.next o.point) → (r : Reply V E) (q : Reply U F) → ReplyStands R Byte spare None r q → Left (placed_with S m.placed r.fresh) (placed_with N o.placed q.fresh)
          → Behind (machine_after_reply S s c m r) (machine_after_reply N n d o q)
      replied-stands next r q k laid = record {
        registers = answered-registers-stand R Byte s n laws spare miss lost_to_system r q k.result k.scratch m.registers o.registers h.registers;
        flags = h.flags;
        memory = answered-memory-stands R Byte s n laws spare m.memory o.memory h.memory r q k;
        placed = laid;
        point = next;
      }

      answered-stands : Near' (c.next m.point) (d.next o.point) → (r : Reply V E) (q : Reply U F) → ReplyStands R Byte spare None r q → Left (placed_with S m.placed r.fresh) (placed_with N o.placed q.fresh)
          → (z : Option End) → Follows (replied_outcome S s c (machine_after_reply S s c m r) z) (replied_outcome N n d (machine_after_reply N n d o q) z)
      answered-stands next r q k laid None = settled-stands R Byte s n laws spare miss Left Named Near' _ _ (replied-stands next r q k laid)
      answered-stands next r q k laid (Some z) = (refl, unplaced _ _ (replied-stands next r q k laid))

      served-stands : Near' (c.next m.point) (d.next o.point) → (r : Option (Reply V E)) (q : Option (Reply U F)) → Answers (λ e. None) m.placed o.placed r q
          → (x : Result (Event V) Cause) (y : Result (Event U) Cause) → ResultStands (EventStands R Named) x y → Follows (served_outcome S s c m r x) (served_outcome N n d o q y)
      served-stands next r q k (Err e) y g = tt
      served-stands next r q k (Ok e) (Err f) g = absurd g
      served-stands next None None k (Ok e) (Ok f) g = g
      served-stands next None (Some q) k (Ok e) (Ok f) g = absurd k
      served-stands next (Some r) None k (Ok e) (Ok f) g = absurd k
      served-stands next (Some r) (Some q) k (Ok e) (Ok f) g =
          subst (λ z. Follows (served_outcome S s c m (Some r) (Ok e)) (replied_outcome N n d (machine_after_reply N n d o q) z)) k.0.ending (answered-stands next r q k.0 k.1 r.ending)

      -- ---- an answered import; the machines are those after the call or the jump

      imported-stands : (r : Reply V E) (q : Reply U F) → Left (placed_with S m.placed r.fresh) (placed_with N o.placed q.fresh) → (a : List V) (b : List U) → Both R a b → ReplyStands R Byte spare (frame_room s a m.memory) r q → (Near : P → O → Type 0) (p : P) (p' : O) → Near p p'
          → MachineStands R Byte spare Left Near (machine_after_import S s c m r a p) (machine_after_import N n d o q b p')
      imported-stands r q laid a b words k Near p p' near = record {
        registers = answered-registers-stand R Byte s n laws spare miss lost_to_import r q k.result k.scratch a b words;
        flags = flags-forgotten-stand R Byte s n laws spare miss m.flags o.flags h.flags;
        memory = frame-stands R Byte s n laws spare miss a b m.memory o.memory h.memory r q k;
        placed = laid;
        point = near;
      }

      returned-to-stands : (r : Reply V E) (q : Reply U F) → Left (placed_with S m.placed r.fresh) (placed_with N o.placed q.fresh) → ReplyStands R Byte spare (frame_room s (raised_registers s m.registers) m.memory) r q
          → (g : Result (Goal P) Cause) (f : Result (Goal O) Cause) → ResultStands (GoalStands Named Near') g f → Follows (return_to_outcome S s c m r g) (return_to_outcome N n d o q f)
      returned-to-stands r q laid k (Err e) f g = tt
      returned-to-stands r q laid k (Ok (At p)) (Ok (At p')) g =
          settled-stands R Byte s n laws spare miss Left Named Near' _ _ (imported-stands r q laid _ _ (raised-stands R Byte s n laws spare miss m.registers o.registers h.registers) k Near' p p' g)
      returned-to-stands r q laid k (Ok (At p)) (Ok (Import j)) g = absurd g
      returned-to-stands r q laid k (Ok (At p)) (Ok Finish) g = absurd g
      returned-to-stands r q laid k (Ok (At p)) (Err e) g = absurd g
      returned-to-stands r q laid k (Ok (Import i)) f g = tt
      returned-to-stands r q laid k (Ok Finish) (Ok (At p')) g = absurd g
      returned-to-stands r q laid k (Ok Finish) (Ok (Import j)) g = absurd g
      returned-to-stands r q laid k (Ok Finish) (Ok Finish) g =
          returned-stands R Byte s n laws spare miss Left Named Near' _ _ (imported-stands r q laid _ _ (raised-stands R Byte s n laws spare miss m.registers o.registers h.registers) k (λ p q. Unit {0}) m.point o.point tt)
      returned-to-stands r q laid k (Ok Finish) (Err e) g = absurd g

      returned-from-stands : (r : Reply V E) (q : Reply U F) → Left (placed_with S m.placed r.fresh) (placed_with N o.placed q.fresh) → ReplyStands R Byte spare (frame_room s (raised_registers s m.registers) m.memory) r q
          → (x y : Result Place Cause) → ResultStands (Reached spare 8) x y → Follows (return_from_outcome S s c m r x) (return_from_outcome N n d o q y)
      returned-from-stands r q laid k (Err e) y g = tt
      returned-from-stands r q laid k (Ok p) (Err e) g = absurd g
      returned-from-stands r q laid k (Ok p) (Ok p') g =
          subst (λ z. Follows (return_from_outcome S s c m r (Ok p)) (return_from_outcome N n d o q (Ok z))) g.0
          (returned-to-stands r q laid k _ _ (programs.target _ _ (laws.join Q _ _ (range-stands Byte spare m.memory o.memory h.memory p 8 g.1))))

      import-answered-stands : (r : Reply V E) (q : Reply U F) → Left (placed_with S m.placed r.fresh) (placed_with N o.placed q.fresh) → (z : Option End) → ReplyStands R Byte spare (room_at_entry s m z) r q
          → Follows (import_outcome S s c m r z) (import_outcome N n d o q z)
      import-answered-stands r q laid None k =
          returned-from-stands r q laid k _ _
          (places-reached spare 8 _ _ (laws.place _ _ 8 Read (omega arith) (register-stands R Byte s n laws m.registers o.registers h.registers Rsp)) (miss (register s m.registers Rsp) 8 Read))
      import-answered-stands r q laid (Some z) k = (refl, imported-stands r q laid m.registers o.registers h.registers k (λ p q. Unit {0}) m.point o.point tt)

      entered-stands : (i j : ℕ) → Named i j → (r : Option (Reply V E)) (q : Option (Reply U F)) → Answers (room_at_entry s m) m.placed o.placed r q → Follows (entered_outcome S s c m i r) (entered_outcome N n d o j q)
      entered-stands i j named None None k = import-event-stands R Byte s n laws spare miss Named m.registers o.registers h.registers m.memory o.memory h.memory i j named
      entered-stands i j named None (Some q) k = absurd k
      entered-stands i j named (Some r) None k = absurd k
      entered-stands i j named (Some r) (Some q) k =
          subst (λ z. Follows (import_outcome S s c m r r.ending) (import_outcome N n d o q z)) k.0.ending (import-answered-stands r q k.1 r.ending k.0)

    module _ (m : Machine D V E P) (o : Machine T U F O) (h : MachineStands R Byte spare Laid Near m o) where
      reached-stands : (r : Option (Reply V E)) (q : Option (Reply U F)) (i : Insn A) (j : Insn G) (x : Running V) (y : Running U) → RunningStands R s spare x y
          → (g : Result (Goal P) Cause) (f : Result (Goal O) Cause) → ResultStands (GoalStands Named Near') g f → Answers (λ e. room_at_goal S s c m e i x g) m.placed o.placed r q
          → (asks (reached_outcome S s c m None i x g) ≡ false → Left m.placed o.placed) → Follows (reached_outcome S s c m r i x g) (reached_outcome N n d o q j y f)
      reached-stands r q i j x y k (Err e) f g replies kept = tt
      reached-stands r q i j x y k (Ok (At p)) (Ok (At p')) g replies kept =
          let laid = kept (settled-never s (machine_after S s c m i x p)) in
          settled-stands R Byte s n laws spare miss Left Named Near' _ _ (left-stands m o Near h Left laid i j x y k Near' p p' g)
      reached-stands r q i j x y k (Ok (At p)) (Ok (Import l)) g replies kept = absurd g
      reached-stands r q i j x y k (Ok (At p)) (Ok Finish) g replies kept = absurd g
      reached-stands r q i j x y k (Ok (At p)) (Err e) g replies kept = absurd g
      reached-stands r q i j x y k (Ok (Import w)) (Ok (At p')) g replies kept = absurd g
      reached-stands r q i j x y k (Ok (Import w)) (Ok (Import l)) g replies kept =
          entered-stands _ _ Near (left-stands m o Near h Laid h.placed i j x y k Near m.point o.point h.point) w l g r q replies
      reached-stands r q i j x y k (Ok (Import w)) (Ok Finish) g replies kept = absurd g
      reached-stands r q i j x y k (Ok (Import w)) (Err e) g replies kept = absurd g
      reached-stands r q i j x y k (Ok Finish) (Ok (At p')) g replies kept = absurd g
      reached-stands r q i j x y k (Ok Finish) (Ok (Import l)) g replies kept = absurd g
      reached-stands r q i j x y k (Ok Finish) (Ok Finish) g replies kept =
          let laid = kept (returned-never s (machine_after S s c m i x m.point)) in
          returned-stands R Byte s n laws spare miss Left Named Near' _ _ (left-stands m o Near h Left laid i j x y k (λ p q. Unit {0}) m.point o.point tt)
      reached-stands r q i j x y k (Ok Finish) (Err e) g replies kept = absurd g

      goal-stands : (p : P) (p' : O) → Near' (c.next p) (d.next p') → (x : Option V) (y : Option U) → OptionStands R x y → ResultStands (GoalStands Named Near') (goal_of S s c p x) (goal_of N n d p' y)
      goal-stands p p' next None None k = next
      goal-stands p p' next None (Some y) k = absurd k
      goal-stands p p' next (Some x) None k = absurd k
      goal-stands p p' next (Some x) (Some y) k = programs.target x y k

      relaid : Left m.placed o.placed → AtLast m o
      relaid laid = record { registers = h.registers; flags = h.flags; memory = h.memory; placed = laid; point = tt }

      asked-stands : (r : Option (Reply V E)) (q : Option (Reply U F)) (i : Insn A) (j : Insn G) → Near' (c.next m.point) (d.next o.point) → (x : Running V) (y : Running U) → RunningStands R s spare x y
          → (z : Option Ask) → Answers (λ e. room_of_ask S s c m e i x z) m.placed o.placed r q → (asks (asked_outcome S s c m None i x z) ≡ false → Left m.placed o.placed)
          → Follows (asked_outcome S s c m r i x z) (asked_outcome N n d o q j y z)
      asked-stands r q i j next x y k None replies kept = reached-stands r q i j x y k _ _ (goal-stands m.point o.point next x.goal y.goal k.goal) replies kept
      asked-stands r q i j next x y k (Some (Halt kind)) replies kept =
          finished-stands R Byte s n laws spare miss Left Named Near' m o (relaid (kept (finished-never s m (Trapped kind)))) (Trapped kind)
      asked-stands r q i j next x y k (Some Serve) replies kept =
          served-stands m o Near h next r q replies _ _ (event-stands R Byte s n laws spare miss Named m.registers o.registers h.registers m.memory o.memory h.memory)

      decided-stands : (r : Option (Reply V E)) (q : Option (Reply U F)) (i : Insn A) (j : Insn G) → Near' (c.next m.point) (d.next o.point) → (x : Running V) (y : Running U) → StandsUnlessStopped R s spare x y
          → Answers (λ e. room_of_ask S s c m e i x x.ask) m.placed o.placed r q → (z : Option Cause) → x.cause ≡ z → (asks (decided_outcome S s c m None i x z) ≡ false → Left m.placed o.placed)
          → Follows (decided_outcome S s c m r i x z) (decided_outcome N n d o q j y y.cause)
      decided-stands r q i j next x y k replies (Some e) stopped kept = tt
      decided-stands r q i j next x y k replies None none kept =
          let runs = k none in
          subst (λ z. Follows (asked_outcome S s c m r i x x.ask) (decided_outcome N n d o q j y z)) (sym runs.goes_on)
          (subst (λ z. Follows (asked_outcome S s c m r i x x.ask) (asked_outcome N n d o q j y z)) runs.ask (asked-stands r q i j next x y runs x.ask replies kept))

      done-stands : (r : Option (Reply V E)) (q : Option (Reply U F)) (i : Option (Insn A)) (j : Option (Insn G)) → InsnFollows R Near' c d m.point o.point i j
          → Answers (λ e. room_of_insn S s c m e i) m.placed o.placed r q → (asks (insn_outcome S s c m None i) ≡ false → Left m.placed o.placed)
          → Follows (insn_outcome S s c m r i) (insn_outcome N n d o q j)
      done-stands r q None j f replies kept = tt
      done-stands r q (Some i) None f replies kept = absurd f
      done-stands r q (Some i) (Some j) f replies kept = decided-stands r q i j f.next (run_of S s c m i) (run_of N n d o j) (runs-stand m o Near h i j f) replies _ refl kept

  module _ (domains : DomainsStand R Byte spare Laid S N) (m : Machine D V E P) (o : Machine T U F O) (h : MachineStands R Byte spare Laid Near m o) where
    -- the law of steps, with and without an answer
    pub stepped-stands : (r : Option (Reply V E)) (q : Option (Reply U F)) → OptionStands (λ a b. ReplyStands R Byte spare (reply_room S c m a.ending) a b × Left (placed_with S m.placed a.fresh) (placed_with N o.placed b.fresh)) r q
        → (asks (step_of S c m) ≡ false → Left m.placed o.placed) → OutcomeStands R Byte spare Named Left Near' (step_outcome S c m r) (step_outcome N d o q)
    stepped-stands r q replies kept =
        let stand = domains m.placed o.placed h.placed in
        done-stands (S.over m.placed) (N.over o.placed) stand.0 stand.1 stand.2 m o h r q (c.insn m.point) (d.insn o.point) (programs.insn m.point o.point h.point) replies kept

module _ {D T V U E F A G P O : Type 0} (R : V → U → Type 0) (Byte : E → F → Type 0) (spare : Spare F) (Named : ℕ → ℕ → Type 0) (Laid : D → T → Type 0) (Near Near' : P → O → Type 0)
    (S : Domains D V E) (N : Domains T U F) (domains : DomainsStand R Byte spare Laid S N) (c : Program P A V) (d : Program O G U) (programs : ProgramsStand R Named Near Near' c d) (m : Machine D V E P) (o : Machine T U F O) (h : MachineStands R Byte spare Laid Near m o) where
  pub step-stands : OutcomeStands R Byte spare Named Laid Near' (step_of S c m) (step_of N d o)
  step-stands = stepped-stands R Byte spare Named Laid Laid Near Near' S N c d programs domains m o h None None tt (λ _. h.placed)

  pub reply-stands : (r : Reply V E) (q : Reply U F) → ReplyStands R Byte spare (reply_room S c m r.ending) r q → Laid (placed_with S m.placed r.fresh) (placed_with N o.placed q.fresh) → OutcomeStands R Byte spare Named Laid Near' (reply_of S c m r) (reply_of N d o q)
  reply-stands r q stands laid = stepped-stands R Byte spare Named Laid Laid Near Near' S N c d programs domains m o h (Some r) (Some q) (stands, laid) (λ _. h.placed)
