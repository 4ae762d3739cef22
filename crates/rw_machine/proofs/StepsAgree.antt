-- Two machines of one program that agree on what a step reads take the same step, and agree after it.
use Rattle.std.proofs.Common.{◌≡◌, ℕ, ◌%◌, List, [], ◌∷◌, length, Option, Some, None, Result, Ok, Err, Bool, true, false, cond, refl, sym, ap, subst, ◌∙◌, arith, inl, inr, ⊎_elim, if◌then◌else◌}
use Rattle.std.specs.Prelude.{negsuc, pos, ◌&&◌}
use Rattle.std.specs.List.{Contains}
use Rattle.std.proofs.lemmas.List.Elements.{Contains-append_left, Contains-append_right, Contains-append_cases}
use Rattle.rw_base.specs.declared.width.Width.TheVariants.{Q}
use Rattle.x86_insn.specs.declared.kinds.Reg.{Reg}
use Rattle.x86_insn.specs.declared.kinds.Reg.TheVariants.{Rax, Rcx, Rdx, Rsp, Rsi, Rdi, R8, R9, R10, R11}
use Rattle.x86_insn.specs.declared.instruction.Insn.{Insn}
use Rattle.x86_insn.specs.WellFormed.{code_of, is_instruction}
use Rattle.x86_meaning.specs.declared.sets.Flag.{Flag}
use Rattle.x86_meaning.specs.declared.operations.Micro.{Micro}
use Rattle.x86_meaning.specs.declared.operations.Micro.TheVariants.{System}
use Rattle.x86_meaning.specs.Meaning.{micro_of}
use Rattle.x86_meaning.specs.Sets.{all_flags}
use Rattle.x86_meaning.specs.Registers.{reads_of, writes_whole_of}
use Rattle.x86_meaning.specs.Flags.{flags_read_of, flags_written_of}
use Rattle.x86_meaning.specs.Effects.{fetched, put_whole, gathered, settled, flags_by}
use Rattle.x86_meaning.specs.Typing.{no_widths}
use Rattle.x86_meaning.proofs.RegisterLaws.{fetched-micro, whole-micro}
use Rattle.x86_meaning.proofs.FlagLaws.{needed-micro, settled-micro}
use Rattle.x86_meaning.proofs.Typed.{micro-typed}
use Rattle.rw_domain.specs.declared.cause.Cause.{Cause}
use Rattle.rw_domain.specs.declared.flags.Flags.{Flags}
use Rattle.rw_domain.specs.declared.place.Place.{Place}
use Rattle.rw_domain.specs.declared.place.Access.TheVariants.{Read}
use Rattle.rw_domain.specs.Operators.{Operators}
use Rattle.rw_machine.specs.declared.ending.End.{End}
use Rattle.rw_machine.specs.declared.ending.End.TheVariants.{Returned, Trapped}
use Rattle.rw_machine.specs.declared.goal.Goal.{Goal}
use Rattle.rw_machine.specs.declared.goal.Goal.TheVariants.{At, Import, Finish}
use Rattle.rw_machine.specs.Program.{Program, Domains, GivesInstructions}
use Rattle.rw_machine.specs.declared.running.Ask.{Ask}
use Rattle.rw_machine.specs.declared.running.Ask.TheVariants.{Serve, Halt}
use Rattle.rw_machine.specs.Running.{Running, range_at, unknown_flags, register, after_all}
use Rattle.rw_machine.specs.Events.{Event, Reply, lost_to_system, lost_to_import, system_event, import_event}
use Rattle.rw_machine.specs.Step.{Machine, Outcome, Stopped, loses_flags, due_written, flags_forgotten, flags_left, row_forgotten, memory_after_reply, all_put, registers_after_reply, raised_registers, first_running, fits_stack, swept_machine, settled_outcome as settled_machine, finished_outcome, returned_outcome_with, returned_outcome, placed_with, here_at, run_of, machine_after, machine_after_reply, replied_outcome, served_outcome, machine_after_import, return_to_outcome, return_from_outcome, import_outcome, goal_of, reached_outcome, asked_outcome, decided_outcome, insn_outcome, step_outcome}
use Rattle.rw_machine.specs.Agree.{flag_of, SameWord, SameFlag, Agree, SameOrOneOf, SameFlagOrOneOf, AgreeStill}
use Rattle.rw_machine.specs.SameSteps.{read_to_go, insn_reads, step_reads, insn_writes, insn_reads_flags, flags_after, insn_sets_flags, SameOutcome}
use Rattle.rw_machine.proofs.FlagUse.{UsesFlags}
use Rattle.rw_machine.proofs.SameWords.{same-or, same-count, same-after, same-written, only, nowhere}
use Rattle.rw_machine.proofs.Follows.{micro-follows}
use Rattle.rw_machine.proofs.RunsAgree.{serves, GoesOn, dues-written, RunsAgree, put_after, set_after, in-put, in-set, after_all-alike}

module _ {V C : Type 0} (ops : Operators V C) where
  -- ---- registers that an answer writes

  put-same : (ks : List Reg) (words : List V) (a b : List V) → length a ≡ length b → (r : Reg) → SameWord r a b → SameWord r (all_put ops ks words a) (all_put ops ks words b)
  put-same [] words a b n r h = h
  put-same (k ∷ ks) words a b n r h = put-same ks _ _ _ (same-count a b (code_of k) _ _ n) r (same-after a b k r _ _ n (λ _. refl) h)

  put-count : (ks : List Reg) (words : List V) (a b : List V) → length a ≡ length b → length (all_put ops ks words a) ≡ length (all_put ops ks words b)
  put-count [] words a b n = n
  put-count (k ∷ ks) words a b n = put-count ks _ _ _ (same-count a b (code_of k) _ _ n)

  put-there : (ks : List Reg) (words : List V) (a b : List V) → length a ≡ length b → (r : Reg) → Contains ks r → SameWord r (all_put ops ks words a) (all_put ops ks words b)
  put-there [] words a b n r c = nowhere r c
  put-there (k ∷ ks) words a b n r c =
      ⊎_elim (λ d. put-same ks _ _ _ (same-count a b (code_of k) _ _ n) r (same-written a b k r _ _ n refl (only k r d)))
      (λ d. put-there ks _ _ _ (same-count a b (code_of k) _ _ n) r d) (Contains-append_cases (k ∷ []) ks r c)

  module _ (lost : List Reg) (reply : Reply V C) (a b : List V) (n : length a ≡ length b) where
    answered-count : length (registers_after_reply ops lost reply a) ≡ length (registers_after_reply ops lost reply b)
    answered-count = put-count lost reply.scratch _ _ (same-count a b (code_of Rax) reply.result reply.result n)

    answered-same : (r : Reg) → SameWord r a b → SameWord r (registers_after_reply ops lost reply a) (registers_after_reply ops lost reply b)
    answered-same r h = put-same lost reply.scratch _ _ (same-count a b (code_of Rax) reply.result reply.result n) r (same-after a b Rax r _ _ n (λ _. refl) h)

    answered-there : (r : Reg) → Contains (Rax ∷ lost) r → SameWord r (registers_after_reply ops lost reply a) (registers_after_reply ops lost reply b)
    answered-there r c =
        ⊎_elim (λ d. put-same lost reply.scratch _ _ (same-count a b (code_of Rax) reply.result reply.result n) r (same-written a b Rax r _ _ n refl (only Rax r d)))
        (λ d. put-there lost reply.scratch _ _ (same-count a b (code_of Rax) reply.result reply.result n) r d) (Contains-append_cases (Rax ∷ []) lost r c)

  -- ---- flags that are forgotten

  forgotten-same : (x : Flag) (f g : Flags) → SameFlag x f g → SameFlag x (flags_forgotten ops f) (flags_forgotten ops g)
  forgotten-same x f g e = by ops.forgets
    where
      by : (t : Bool) → flag_of x (cond t unknown_flags f) ≡ flag_of x (cond t unknown_flags g)
      by true = refl
      by false = e

  left-same : {R : Type 0} (i : Insn R) (x : Flag) (f g : Flags) → SameFlag x f g → SameFlag x (flags_left ops i f) (flags_left ops i g)
  left-same i x f g e = by (loses_flags i)
    where
      by : (t : Bool) → flag_of x (cond t (flags_forgotten ops f) f) ≡ flag_of x (cond t (flags_forgotten ops g) g)
      by true = forgotten-same x f g e
      by false = e

  -- ---- events

  abbrev at : List V → Reg → V
  at l r = register ops l r

  same-at : (a b : List V) (r : Reg) → SameWord r a b → register ops a r ≡ register ops b r
  same-at a b r e = same-or a b (code_of r) (ops.undef Q) e

  -- an event has the words of some registers, which stand at their codes
  system-same : (a b : List V) (memory : List (List C)) → ((r : Reg) → Contains (Rax ∷ Rdi ∷ Rsi ∷ Rdx ∷ R10 ∷ R8 ∷ R9 ∷ []) r → SameWord r a b) → system_event ops a memory ≡ system_event ops b memory
  system-same a b memory h =
      let e0 = same-at a b Rax (h Rax (0, omega arith, refl)) in
      let e1 = same-at a b Rdi (h Rdi (1, omega arith, refl)) in
      let e2 = same-at a b Rsi (h Rsi (2, omega arith, refl)) in
      let e3 = same-at a b Rdx (h Rdx (3, omega arith, refl)) in
      let e4 = same-at a b R10 (h R10 (4, omega arith, refl)) in
      let e5 = same-at a b R8 (h R8 (5, omega arith, refl)) in
      let e6 = same-at a b R9 (h R9 (6, omega arith, refl)) in
      λ k. system_event ops (e0 k ∷ ops.undef Q ∷ e3 k ∷ ops.undef Q ∷ ops.undef Q ∷ ops.undef Q ∷ e2 k ∷ e1 k ∷ e5 k ∷ e6 k ∷ e4 k ∷ []) memory

  import-same : (a b : List V) (memory : List (List C)) (symbol : ℕ) → ((r : Reg) → Contains (Rdi ∷ Rsi ∷ Rdx ∷ Rcx ∷ R8 ∷ R9 ∷ []) r → SameWord r a b) → import_event ops a memory symbol ≡ import_event ops b memory symbol
  import-same a b memory symbol h =
      let e0 = same-at a b Rdi (h Rdi (0, omega arith, refl)) in
      let e1 = same-at a b Rsi (h Rsi (1, omega arith, refl)) in
      let e2 = same-at a b Rdx (h Rdx (2, omega arith, refl)) in
      let e3 = same-at a b Rcx (h Rcx (3, omega arith, refl)) in
      let e4 = same-at a b R8 (h R8 (4, omega arith, refl)) in
      let e5 = same-at a b R9 (h R9 (5, omega arith, refl)) in
      λ k. import_event ops (ops.undef Q ∷ e3 k ∷ e2 k ∷ ops.undef Q ∷ ops.undef Q ∷ ops.undef Q ∷ e1 k ∷ e0 k ∷ e4 k ∷ e5 k ∷ []) memory symbol

  -- ---- the rules at the end of a step

  module _ {D P : Type 0} (on : Reg → Type 0) (and_on : Flag → Type 0) (x y : Machine D V C P) (h : Agree on and_on x y) where
    stack-at : register ops x.registers Rsp ≡ register ops y.registers Rsp
    stack-at = same-at x.registers y.registers Rsp h.stack

    swept-agree : Agree on and_on (swept_machine ops x) (swept_machine ops y)
    swept-agree = record {
      count = h.count;
      stack = h.stack;
      registers = h.registers;
      flags = h.flags;
      memory = λ k. cond ops.forgets (row_forgotten ops (h.memory k) (ops.place (ops.sum (Some (stack-at k)) None (negsuc 128)) 1 Read)) (h.memory k);
      placed = h.placed;
      point = h.point;
    }

    fits-same : fits_stack ops x.registers ≡ fits_stack ops y.registers
    fits-same = ap ops.stack_fits stack-at

    module _ (Next Last : Machine D V C P → Machine D V C P → Type 0) where
      unless-low : (s t : Bool) (a b : Outcome D V C P) (c : Cause) → s ≡ t → SameOutcome Next Last a b → SameOutcome Next Last (cond s a (Stopped c)) (cond t b (Stopped c))
      unless-low true true a b c e k = k
      unless-low true false a b c e k = absurd (cc)
      unless-low false true a b c e k = absurd (cc)
      unless-low false false a b c e k = refl

      settled-same : Next (swept_machine ops x) (swept_machine ops y) → SameOutcome Next Last (settled_machine ops x) (settled_machine ops y)
      settled-same k = unless-low _ _ _ _ _ fits-same k

      finished-same : (z : End) → Last (swept_machine ops x) (swept_machine ops y) → SameOutcome Next Last (finished_outcome ops x z) (finished_outcome ops y z)
      finished-same z k = unless-low _ _ _ _ _ fits-same (refl, k)

      with-number : (n : Option ℕ) → Last (swept_machine ops x) (swept_machine ops y) → SameOutcome Next Last (returned_outcome_with ops x n) (returned_outcome_with ops y n)
      with-number None k = refl
      with-number (Some n) k = finished-same (Returned (n % 256)) k

      returned-same : SameWord Rax x.registers y.registers → Last (swept_machine ops x) (swept_machine ops y) → SameOutcome Next Last (returned_outcome ops x) (returned_outcome ops y)
      returned-same e k =
          subst (λ z. SameOutcome Next Last (returned_outcome ops x) (returned_outcome_with ops y z)) (ap (ops.number Q) (same-at x.registers y.registers Rax e)) (with-number _ k)

-- what two machines agree on
pub weaker : {D V C P : Type 0} {on on' : Reg → Type 0} {and_on and_on' : Flag → Type 0} (x y : Machine D V C P) → ((r : Reg) → on' r → on r) → ((f : Flag) → and_on' f → and_on f) → Agree on and_on x y → Agree on' and_on' x y
weaker x y p q h = record {
  count = h.count;
  stack = h.stack;
  registers = λ r k. h.registers r (p r k);
  flags = λ f k. h.flags f (q f k);
  memory = h.memory;
  placed = h.placed;
  point = h.point;
}

module _ {D V C P R : Type 0} (dom : Domains D V C) (ops : Operators V C) (prog : Program P R V) where
  -- ---- an answered import; the machines are those after the call or the jump

  module _ (on : Reg → Type 0) (and_on : Flag → Type 0) (x y : Machine D V C P) (h : Agree on and_on x y) (reply : Reply V C) where
    imported-agree : (a b : List V) → length a ≡ length b → ((r : Reg) → SameWord r x.registers y.registers → SameWord r a b) → (p q : P) → p ≡ q → Agree on and_on (machine_after_import dom ops prog x reply a p) (machine_after_import dom ops prog y reply b q)
    imported-agree a b n e p q point =
        let stack = same-at ops a b Rsp (e Rsp h.stack) in
        record {
          count = answered-count ops lost_to_import reply a b n;
          stack = answered-same ops lost_to_import reply a b n Rsp (e Rsp h.stack);
          registers = λ r k. answered-same ops lost_to_import reply a b n r (e r (h.registers r k));
          flags = λ f k. forgotten-same ops f x.flags y.flags (h.flags f k);
          memory = λ k. cond ops.forgets (row_forgotten ops (memory_after_reply ops reply (h.memory k)) (ops.place (ops.sum (Some (stack k)) None (negsuc 0)) 1 Read)) (memory_after_reply ops reply (h.memory k));
          placed = ap (λ d. placed_with dom d reply.fresh) h.placed;
          point = point;
        }

    raised-same : (r : Reg) → SameWord r x.registers y.registers → SameWord r (raised_registers ops x.registers) (raised_registers ops y.registers)
    raised-same r e =
        same-after x.registers y.registers Rsp r _ _ h.count (λ s. ap (λ z. ops.sum (Some z) None (pos 8)) (same-at ops x.registers y.registers Rsp s)) e

    raised-count : length (raised_registers ops x.registers) ≡ length (raised_registers ops y.registers)
    raised-count = same-count x.registers y.registers (code_of Rsp) _ _ h.count

    back-agree : (p q : P) → p ≡ q → Agree on and_on (machine_after_import dom ops prog x reply (raised_registers ops x.registers) p) (machine_after_import dom ops prog y reply (raised_registers ops y.registers) q)
    back-agree = imported-agree _ _ raised-count raised-same

    module _ (Last : Machine D V C P → Machine D V C P → Type 0) (last : (n o : Machine D V C P) → Agree on and_on n o → Last n o) where
      abbrev Come : Outcome D V C P → Outcome D V C P → Type 0
      Come n o = SameOutcome (Agree on and_on) Last n o

      returned-to-same : (g : Result (Goal P) Cause) → Come (return_to_outcome dom ops prog x reply g) (return_to_outcome dom ops prog y reply g)
      returned-to-same (Err c) = refl
      returned-to-same (Ok (At p)) =
          let k = back-agree p p refl in settled-same ops on and_on _ _ k (Agree on and_on) Last (swept-agree ops on and_on _ _ k)
      returned-to-same (Ok (Import symbol)) = refl
      returned-to-same (Ok Finish) =
          let k = back-agree x.point y.point h.point in
          returned-same ops on and_on _ _ k (Agree on and_on) Last (answered-there ops lost_to_import reply _ _ raised-count Rax (0, omega arith, refl)) (last _ _ (swept-agree ops on and_on _ _ k))

      returned-from-same : (p : Result Place Cause) → Come (return_from_outcome dom ops prog x reply p) (return_from_outcome dom ops prog y reply p)
      returned-from-same (Err c) = refl
      returned-from-same (Ok p) =
          subst (λ z. Come (return_from_outcome dom ops prog x reply (Ok p)) (return_to_outcome dom ops prog y reply (prog.target (ops.join Q (range_at z p 8))))) h.memory (returned-to-same _)

      import-answered-same : (z : Option End) → Come (import_outcome dom ops prog x reply z) (import_outcome dom ops prog y reply z)
      import-answered-same None =
          subst (λ z. Come (import_outcome dom ops prog x reply None) (return_from_outcome dom ops prog y reply (ops.place z 8 Read))) (stack-at ops on and_on x y h) (returned-from-same _)
      import-answered-same (Some ending) = (refl, last _ _ (imported-agree x.registers y.registers h.count (λ r e. e) x.point y.point h.point))

  -- ---- a step of a machine, and of the same machine with other registers and flags

  module _ (uses : UsesFlags ops) (m : Machine D V C P) (a : List V) (f : Flags) (count : length m.registers ≡ length a) (stack : SameWord Rsp m.registers a) where
    abbrev n : Machine D V C P
    n = record m { registers = a; flags = f }

    abbrev on : Reg → Type 0
    on r = SameWord r m.registers a

    abbrev and_on : Flag → Type 0
    and_on x = SameFlag x m.flags f

    abbrev Last : Machine D V C P → Machine D V C P → Type 0
    Last x y = AgreeStill m n [] [] x y

    pub begun-agree : RunsAgree ops on and_on [] [] (first_running ops m.registers m.flags) (first_running ops a f)
    begun-agree = record {
      temps = refl;
      eight = refl;
      count = count;
      registers = λ r k. k;
      put = λ go r c. nowhere r c;
      flags = λ x k. k;
      set = λ go x c. nowhere x c;
      due = tt;
      goal = refl;
      ask = refl;
      cause = refl;
      quiet = refl;
    }

    before : Last m n
    before = record {
      count = count;
      stack = stack;
      registers = λ r k. ⊎_elim (λ e. e) (λ c. nowhere r c) k;
      flags = λ x k. ⊎_elim (λ e. e) (λ c. nowhere x c) k;
      memory = refl;
      placed = refl;
      point = refl;
    }

    module _ (i : Insn R) where
      abbrev Next : Machine D V C P → Machine D V C P → Type 0
      Next x y = AgreeStill m n (writes_whole_of i) (flags_after ops.forgets i) x y

      abbrev Comes : Outcome D V C P → Outcome D V C P → Type 0
      Comes x y = SameOutcome (AgreeStill m n (writes_whole_of i) (flags_after ops.forgets i)) (AgreeStill m n [] []) x y

      last : (x y : Machine D V C P) → Next x y → Last x y
      last x y h = weaker x y (λ r k. ⊎_elim (λ e. inl e) (λ c. nowhere r c) k) (λ g k. ⊎_elim (λ e. inl e) (λ c. nowhere g c) k) h

      module _ (ws : List Reg) (xs : List Flag) (r s : Running V) (h : RunsAgree ops on and_on ws xs r s) (all : (k : Reg) → Contains (writes_whole_of i) k → Contains ws k) (all_set : (x : Flag) → Contains (flags_written_of i) x → Contains xs x) where
        -- a flag that is set, or that is forgotten in both
        lost-same : (x : Flag) → (Contains (flags_written_of i) x → SameFlag x r.flags s.flags) → Contains (flags_after ops.forgets i) x → SameFlag x (flags_left ops i r.flags) (flags_left ops i s.flags)
        lost-same x set c = by ops.forgets (loses_flags i) c
          where
            by : (forgets loses : Bool) → Contains (if forgets && loses then all_flags else flags_written_of i) x → flag_of x (cond loses (cond forgets unknown_flags r.flags) r.flags) ≡ flag_of x (cond loses (cond forgets unknown_flags s.flags) s.flags)
            by true true c = refl
            by true false c = set c
            by false true c = set c
            by false false c = set c

        left-agree : GoesOn r → (p : P) → Next (machine_after dom ops prog m i r p) (machine_after dom ops prog n i s p)
        left-agree go p = record {
          count = h.count;
          stack = h.registers Rsp stack;
          registers = λ k. ⊎_elim (λ e. h.registers k e) (λ c. h.put go k (all k c));
          flags = λ x. ⊎_elim (λ e. left-same ops i x r.flags s.flags (h.flags x e)) (λ c. lost-same x (λ d. h.set go x (all_set x d)) c);
          memory = dues-written ops r.due s.due h.due m.memory;
          placed = refl;
          point = refl;
        }

        reached-same : (reply : Option (Reply V C)) → GoesOn r → (g : Result (Goal P) Cause) → ((k : Reg) → Contains (read_to_go g) k → on k) → Comes (reached_outcome dom ops prog m reply i r g) (reached_outcome dom ops prog n reply i s g)
        reached-same reply go (Err c) reads = refl
        reached-same reply go (Ok (At p)) reads =
            let k = left-agree go p in settled-same ops _ _ _ _ k Next Last (swept-agree ops _ _ _ _ k)
        reached-same reply go (Ok Finish) reads =
            let k = left-agree go m.point in
            returned-same ops _ _ _ _ k Next Last (h.registers Rax (reads Rax (0, omega arith, refl))) (last _ _ (swept-agree ops _ _ _ _ k))
        reached-same None go (Ok (Import symbol)) reads = import-same ops r.registers s.registers (due_written ops m.memory r.due) symbol (λ k c. h.registers k (reads k c))
        reached-same (Some reply) go (Ok (Import symbol)) reads =
            import-answered-same (SameOrOneOf m n (writes_whole_of i)) (SameFlagOrOneOf m n (flags_after ops.forgets i)) _ _ (left-agree go m.point) reply Last last reply.ending

        asked-same : (reply : Option (Reply V C)) → r.cause ≡ None → (z : Option Ask) → r.ask ≡ z → ((k : Reg) → Contains (read_to_go (goal_of dom ops prog m.point r.goal)) k → on k)
            → Comes (asked_outcome dom ops prog m reply i r z) (asked_outcome dom ops prog n reply i s z)
        asked-same reply none None e reads =
            subst (λ z. Comes (asked_outcome dom ops prog m reply i r None) (reached_outcome dom ops prog n reply i s (goal_of dom ops prog m.point z))) h.goal (reached-same reply (e, none) _ reads)
        asked-same reply none (Some (Halt kind)) e reads = finished-same ops _ _ _ _ before Next Last (Trapped kind) (swept-agree ops _ _ _ _ before)
        asked-same reply none (Some Serve) e reads = absurd (let q = h.quiet in let t : serves (Some Serve) ≡ false = subst (λ z. serves z ≡ false) e q in cc)

        decided-same : (reply : Option (Reply V C)) → (z : Option Cause) → r.cause ≡ z → ((k : Reg) → Contains (read_to_go (goal_of dom ops prog m.point r.goal)) k → on k)
            → Comes (decided_outcome dom ops prog m reply i r z) (decided_outcome dom ops prog n reply i s z)
        decided-same reply (Some c) e reads = refl
        decided-same reply None e reads =
            subst (λ z. Comes (asked_outcome dom ops prog m reply i r r.ask) (asked_outcome dom ops prog n reply i s z)) h.ask (asked-same reply e r.ask refl reads)

        run-same : (reply : Option (Reply V C)) → ((k : Reg) → Contains (read_to_go (goal_of dom ops prog m.point r.goal)) k → on k)
            → Comes (decided_outcome dom ops prog m reply i r r.cause) (decided_outcome dom ops prog n reply i s s.cause)
        run-same reply reads = subst (λ z. Comes (decided_outcome dom ops prog m reply i r r.cause) (decided_outcome dom ops prog n reply i s z)) h.cause (decided-same reply r.cause refl reads)

      -- ---- a system call

      module _ (is : micro_of i ≡ System ∷ []) (keeps : loses_flags i ≡ false) where
        put-by-system : (k : Reg) → Contains (writes_whole_of i) k → Contains (Rax ∷ Rcx ∷ R11 ∷ []) k
        put-by-system k c = subst (λ ws. Contains ws k) (sym (whole-micro i) ∙ ap (gathered put_whole) is) c

        no-flags : (x : Flag) → Contains (flags_after ops.forgets i) x → Contains [] x
        no-flags x c = by ops.forgets (loses_flags i) keeps c
          where
            none : Contains (flags_written_of i) x → Contains [] x
            none c = subst (λ xs. Contains xs x) (sym (settled-micro None i) ∙ ap (flags_by settled None) is) c

            by : (forgets loses : Bool) → loses ≡ false → Contains (if forgets && loses then all_flags else flags_written_of i) x → Contains [] x
            by true true e c = absurd (cc)
            by true false e c = none c
            by false true e c = none c
            by false false e c = none c

        replied-agree : (reply : Reply V C) → Next (machine_after_reply dom ops prog m reply) (machine_after_reply dom ops prog n reply)
        replied-agree reply = record {
          count = answered-count ops lost_to_system reply m.registers a count;
          stack = answered-same ops lost_to_system reply m.registers a count Rsp stack;
          registers = λ k. ⊎_elim (λ e. answered-same ops lost_to_system reply m.registers a count k e) (λ c. answered-there ops lost_to_system reply m.registers a count k (put-by-system k c));
          flags = λ x. ⊎_elim (λ e. e) (λ c. nowhere x (no-flags x c));
          memory = refl;
          placed = refl;
          point = refl;
        }

        served-same : (reply : Option (Reply V C)) (e : Result (Event V) Cause) → Comes (served_outcome dom ops prog m reply e) (served_outcome dom ops prog n reply e)
        served-same reply (Err c) = refl
        served-same None (Ok e) = refl
        served-same (Some reply) (Ok e) = by reply.ending
          where
            by : (z : Option End) → Comes (replied_outcome dom ops prog (machine_after_reply dom ops prog m reply) z) (replied_outcome dom ops prog (machine_after_reply dom ops prog n reply) z)
            by None = let k = replied-agree reply in settled-same ops _ _ _ _ k Next Last (swept-agree ops _ _ _ _ k)
            by (Some ending) = (refl, last _ _ (replied-agree reply))

        abbrev run : List V → Flags → List Micro → Running V
        run l g ms = after_all ops m.memory (here_at dom ops prog m.point i) ms (first_running ops l g)

        system-insn-same : (reply : Option (Reply V C)) → ((k : Reg) → Contains (reads_of i) k → on k)
            → Comes (decided_outcome dom ops prog m reply i (run_of dom ops prog m i) (run_of dom ops prog m i).cause) (decided_outcome dom ops prog n reply i (run_of dom ops prog n i) (run_of dom ops prog n i).cause)
        system-insn-same reply reads =
            subst (λ ms. Comes (decided_outcome dom ops prog m reply i (run m.registers m.flags ms) (run m.registers m.flags ms).cause) (decided_outcome dom ops prog n reply i (run a f ms) (run a f ms).cause)) (sym is)
            (subst (λ z. Comes (served_outcome dom ops prog m reply (system_event ops m.registers m.memory)) (served_outcome dom ops prog n reply z))
            (system-same ops m.registers a m.memory (λ k c. reads k (subst (λ rs. Contains rs k) (sym (sym (fetched-micro i) ∙ ap (gathered fetched) is)) c))) (served-same reply _))

      -- ---- any instruction

      insn-same : is_instruction i ≡ true → (reply : Option (Reply V C)) → ((k : Reg) → Contains (reads_of i) k → on k) → ((k : Reg) → Contains (read_to_go (goal_of dom ops prog m.point (run_of dom ops prog m i).goal)) k → on k)
          → ((x : Flag) → Contains (flags_read_of i) x → and_on x) → Comes (insn_outcome dom ops prog m reply (Some i)) (insn_outcome dom ops prog n reply (Some i))
      insn-same formed reply reads goes needs =
          ⊎_elim (λ follows.
          run-same (put_after (micro_of i) []) (set_after None (micro_of i) []) _ _
          (after_all-alike ops uses on and_on m.memory (here_at dom ops prog m.point i) (micro_of i) None no_widths [] [] _ _ begun-agree
          (λ k c. reads k (subst (λ rs. Contains rs k) (fetched-micro i) c)) (λ x c. needs x (subst (λ xs. Contains xs x) (needed-micro None i) c)) (micro-typed no_widths i formed) follows tt)
          (λ k c. in-put (micro_of i) [] k (inr (subst (λ rs. Contains rs k) (sym (whole-micro i)) c)))
          (λ x c. in-set None (micro_of i) [] x (inr (subst (λ xs. Contains xs x) (sym (settled-micro None i)) c))) reply goes)
          (λ is. system-insn-same (ap micro_of is) (ap loses_flags is) reply reads) (micro-follows i formed)

-- two machines that differ in registers and flags alone
module _ {D V C P R : Type 0} (dom : Domains D V C) (uses : (d : D) → UsesFlags (dom.over d)) (prog : Program P R V) (formed : GivesInstructions prog) (m : Machine D V C P) where
  at-insn : (a : List V) (f : Flags) (reply : Option (Reply V C)) (i : Option (Insn R)) → prog.insn m.point ≡ i → Agree (λ r. Contains (insn_reads dom prog m i) r) (λ x. Contains (insn_reads_flags i) x) m (record m { registers = a; flags = f })
      → SameOutcome (AgreeStill m (record m { registers = a; flags = f }) (insn_writes i) (insn_sets_flags (dom.over m.placed).forgets i)) (AgreeStill m (record m { registers = a; flags = f }) [] [])
      (insn_outcome dom (dom.over m.placed) prog m reply i) (insn_outcome dom (dom.over m.placed) prog (record m { registers = a; flags = f }) reply i)
  at-insn a f reply None is h = refl
  at-insn a f reply (Some i) is h =
      insn-same dom (dom.over m.placed) prog (uses m.placed) m a f h.count h.stack i (formed m.point i is) reply
      (λ k c. h.registers k (Contains-append_left (reads_of i) _ k c)) (λ k c. h.registers k (Contains-append_right (reads_of i) _ k c)) h.flags

  pub stepped-same : (o : Machine D V C P) (reply : Option (Reply V C)) → Agree (λ r. Contains (step_reads dom prog m) r) (λ x. Contains (insn_reads_flags (prog.insn m.point)) x) m o
      → SameOutcome (AgreeStill m o (insn_writes (prog.insn m.point)) (insn_sets_flags (dom.over m.placed).forgets (prog.insn m.point))) (AgreeStill m o [] []) (step_outcome dom prog m reply) (step_outcome dom prog o reply)
  stepped-same o reply h =
      subst (λ p. SameOutcome (AgreeStill m p (insn_writes (prog.insn m.point)) (insn_sets_flags (dom.over m.placed).forgets (prog.insn m.point))) (AgreeStill m p [] []) (step_outcome dom prog m reply) (step_outcome dom prog p reply)) is
      (at-insn o.registers o.flags reply (prog.insn m.point) refl (record { count = h.count; stack = h.stack; registers = h.registers; flags = h.flags; memory = refl; placed = refl; point = refl }))
    where
      is : record m { registers = o.registers; flags = o.flags } ≡ o
      is = λ k. record { registers = o.registers; flags = o.flags; memory = h.memory k; placed = h.placed k; point = h.point k }
