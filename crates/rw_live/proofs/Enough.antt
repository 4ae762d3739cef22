-- Two machines that agree on what is live at a point take the same step, and agree on what is live at the next point.
use Rattle.std.proofs.Common.{◌≡◌, ℕ, List, [], ◌∷◌, Option, Some, None, Result, Ok, Bool, true, false, refl, sym, ap, subst, ◌∙◌, arith, ◌⊎◌, inl, inr, ⊎_elim, if◌then◌else◌}
use Rattle.std.specs.Prelude.{not, ◌||◌, ◌&&◌, ◌==◌, IsSomeAnd}
use Rattle.std.specs.Int.{bit_at}
use Rattle.std.specs.List.{Contains}
use Rattle.std.specs.Option.{option_map_or}
use Rattle.std.proofs.lemmas.Bool.{cases_eq}
use Rattle.std.proofs.lemmas.List.Elements.{Contains-append_cases}
use Rattle.x86_insn.specs.declared.kinds.Reg.{Reg}
use Rattle.x86_insn.specs.declared.kinds.Cond.{Cond}
use Rattle.x86_insn.specs.declared.kinds.Plain.TheVariants as plain
use Rattle.x86_insn.specs.declared.instruction.Insn.{Insn}
use Rattle.x86_insn.specs.declared.instruction.Insn.TheVariants as insn
use Rattle.x86_insn.specs.WellFormed.{code_of}
use Rattle.x86_meaning.specs.declared.sets.Flag.{Flag}
use Rattle.x86_meaning.specs.declared.sets.Flag.TheVariants.{Cf, Zf, Sf, Of, Pf}
use Rattle.x86_meaning.specs.Sets.{set_of, flag_code, flag_set, all_flags}
use Rattle.x86_meaning.specs.Registers.{reads_of, writes_whole_of}
use Rattle.x86_meaning.specs.Flags.{flags_written_of}
use Rattle.x86_meaning.proofs.MemberLaws.{register_members, flag_members}
use Rattle.rw_domain.specs.declared.cause.Cause.{Cause}
use Rattle.rw_domain.specs.Operators.{Operators}
use Rattle.rw_machine.specs.declared.goal.Goal.{Goal}
use Rattle.rw_machine.specs.declared.goal.Goal.TheVariants.{At, Import}
use Rattle.rw_machine.specs.Program.{Program, Domains, GivesInstructions}
use Rattle.rw_machine.specs.Events.{Reply}
use Rattle.rw_machine.specs.Step.{Machine, Outcome, Moved, Asks, Ended, Stopped, loses_flags, here_at, run_of, goal_of, step_outcome}
use Rattle.rw_machine.specs.Agree.{SameWord, SameFlag, Agree, SameFlagOrOneOf, AgreeStill}
use Rattle.rw_machine.specs.SameSteps.{read_to_go, goal_from, insn_reads, insn_writes, insn_reads_flags, flags_after, insn_sets_flags, SameOutcome}
use Rattle.rw_machine.proofs.FlagUse.{UsesFlags}
use Rattle.rw_machine.proofs.SameWords.{nowhere}
use Rattle.rw_machine.proofs.StepsAgree.{stepped-same}
use Rattle.rw_machine.proofs.GoalOf.{jump_with, insn-goal}
use Rattle.rw_machine.proofs.MovesTo.{Moves, stepped-moves}
use Rattle.rw_funcs.specs.Points.{Point, is_point, point_at}
use Rattle.rw_live.specs.Liveness.{is_system, is_trap, is_jump, target_of, jumps_out, reads_all, reads_all_flags, LeadsTo, IsPath, ReadsRegister, ReadsFlag, IsLive, IsFlagLive}
use Rattle.rw_live.specs.LiveSteps.{HasPoints, AgreeBehind, LiveStepsAgree}

-- ---- members, and outcomes

is-register-in : (rs : List Reg) (r : Reg) → Contains rs r ⊎ (Contains rs r → ⊥)
is-register-in rs r = ⊎_elim (λ e. inl ((register_members rs r).0 e)) (λ ne. inr (λ c. ne ((register_members rs r).1 c))) (cases_eq (bit_at (set_of rs) (code_of r)) 1)

is-flag-in : (xs : List Flag) (x : Flag) → Contains xs x ⊎ (Contains xs x → ⊥)
is-flag-in xs x = ⊎_elim (λ e. inl ((flag_members xs x).0 e)) (λ ne. inr (λ c. ne ((flag_members xs x).1 c))) (cases_eq (bit_at (flag_set xs) (flag_code x)) 1)

is-flag : (x : Flag) → Contains all_flags x
is-flag Cf = (0, omega arith, refl)
is-flag Zf = (1, omega arith, refl)
is-flag Sf = (2, omega arith, refl)
is-flag Of = (3, omega arith, refl)
is-flag Pf = (4, omega arith, refl)

outcome-map : {D V C P : Type 0} (Next Next' Last : Machine D V C P → Machine D V C P → Type 0) (To : P → Type 0) (a b : Outcome D V C P) → ((n q : Machine D V C P) → Next n q → To n.point → Next' n q)
    → Moves To a → SameOutcome Next Last a b → SameOutcome Next' Last a b
outcome-map Next Next' Last To (Moved n) (Moved q) f k h = f n q h k
outcome-map Next Next' Last To (Moved n) (Asks e) f k h = absurd h
outcome-map Next Next' Last To (Moved n) (Ended q z) f k h = absurd h
outcome-map Next Next' Last To (Moved n) (Stopped c) f k h = absurd h
outcome-map Next Next' Last To (Asks d) (Moved q) f k h = absurd h
outcome-map Next Next' Last To (Asks d) (Asks e) f k h = h
outcome-map Next Next' Last To (Asks d) (Ended q z) f k h = absurd h
outcome-map Next Next' Last To (Asks d) (Stopped c) f k h = absurd h
outcome-map Next Next' Last To (Ended n y) (Moved q) f k h = absurd h
outcome-map Next Next' Last To (Ended n y) (Asks e) f k h = absurd h
outcome-map Next Next' Last To (Ended n y) (Ended q z) f k h = h
outcome-map Next Next' Last To (Ended n y) (Stopped c) f k h = absurd h
outcome-map Next Next' Last To (Stopped d) (Moved q) f k h = absurd h
outcome-map Next Next' Last To (Stopped d) (Asks e) f k h = absurd h
outcome-map Next Next' Last To (Stopped d) (Ended q z) f k h = absurd h
outcome-map Next Next' Last To (Stopped d) (Stopped c) f k h = h

moves-anywhere : {D V C P : Type 0} (a : Outcome D V C P) → Moves (λ p. Unit {0}) a
moves-anywhere (Moved n) = tt
moves-anywhere (Asks e) = tt
moves-anywhere (Ended n z) = tt
moves-anywhere (Stopped c) = tt

less : {D V C P : Type 0} {on on' : Reg → Type 0} {and_on and_on' : Flag → Type 0} {x y : Machine D V C P} → ((r : Reg) → on' r → on r) → ((f : Flag) → and_on' f → and_on f) → Agree on and_on x y → Agree on' and_on' x y
less p q h = record {
  count = h.count;
  stack = h.stack;
  registers = λ r k. h.registers r (p r k);
  flags = λ f k. h.flags f (q f k);
  memory = h.memory;
  placed = h.placed;
  point = h.point;
}

-- ---- points

pub some-point : (points : List Point) (c : ℕ) (p : Point) → point_at points c ≡ Some p → is_point points c ≡ true
some-point [] c p e = cc
some-point (q ∷ qs) c p e = by (q.place == c) e (some-point qs c p)
  where
    by : (t : Bool) → (if t then Some q else point_at qs c) ≡ Some p → (point_at qs c ≡ Some p → is_point qs c ≡ true) → t || is_point qs c ≡ true
    by true e later = refl
    by false e later = later e

is-some : {X : Type 0} (o : Option X) (Q : X → Type 0) → IsSomeAnd o Q → (x : X) × (o ≡ Some x)
is-some None Q h = absurd h
is-some (Some x) Q h = (x, refl)

module _ (points : List Point) where
  -- where something is live there is a point
  pub path-point : (Reads Writes : Point → Type 0) (c : ℕ) (ds : List ℕ) → IsPath points Reads Writes c ds → is_point points c ≡ true
  path-point Reads Writes c [] h = let s = is-some (point_at points c) _ h in some-point points c s.0 s.1
  path-point Reads Writes c (d ∷ ds) h = let s = is-some (point_at points c) _ h.0 in some-point points c s.0 s.1

  module _ (c : ℕ) (p : Point) (is : point_at points c ≡ Some p) where
    live-read : (r : Reg) → ReadsRegister points r p → IsLive points c r
    live-read r h = ([], subst (λ o. IsSomeAnd o (λ q. ReadsRegister points r q)) (sym is) h)

    flag-read : (x : Flag) → ReadsFlag points x p → IsFlagLive points c x
    flag-read x h = ([], subst (λ o. IsSomeAnd o (λ q. ReadsFlag points x q)) (sym is) h)

    -- what is live behind the point is written there, or live before it
    live-before : (d : ℕ) (r : Reg) → LeadsTo points p d → IsLive points d r → IsLive points c r ⊎ Contains (writes_whole_of p.insn) r
    live-before d r leads h =
        ⊎_elim (λ written. inr written)
        (λ kept. inl (d ∷ h.0, (subst (λ o. IsSomeAnd o (λ q. (Contains (writes_whole_of q.insn) r → ⊥) × LeadsTo points q d)) (sym is) (kept, leads), h.1)))
        (is-register-in (writes_whole_of p.insn) r)

    flag-before : (d : ℕ) (x : Flag) → LeadsTo points p d → IsFlagLive points d x → IsFlagLive points c x ⊎ Contains (flags_written_of p.insn) x
    flag-before d x leads h =
        ⊎_elim (λ written. inr written)
        (λ kept. inl (d ∷ h.0, (subst (λ o. IsSomeAnd o (λ q. (Contains (flags_written_of q.insn) x → ⊥) × LeadsTo points q d)) (sym is) (kept, leads), h.1)))
        (is-flag-in (flags_written_of p.insn) x)

-- ---- instructions

system-is : {R : Type 0} (i : Insn R) → i ≡ insn.Syscall → is_system i ≡ true
system-is i e = ap is_system e

or-parts : (a b : Bool) → a || b ≡ false → (a ≡ false) × (b ≡ false)
or-parts false b e = (refl, e)
or-parts true b e = cc

not-true : (t : Bool) → not t ≡ false → t ≡ true
not-true true e = refl
not-true false e = cc

target-jump : {R : Type 0} (cond : Option Cond) (to : R) → target_of (jump_with cond to) ≡ Some to
target-jump None to = refl
target-jump (Some cond) to = refl

none-of : (a b c d : Bool) → a ≡ false → b ≡ false → c ≡ false → d ≡ false → not (a || (b || (c || d))) ≡ true
none-of a b c d ea eb ec ed = rw (ea, eb, ec, ed) refl

-- what a direct jump takes of its point is its target
direct-jump : {D V C P R : Type 0} (dom : Domains D V C) (ops : Operators V C) (prog : Program P R V) (p : P) (cond : Option Cond) (to : R) → (here_at dom ops prog p (jump_with cond to)).direct ≡ prog.resolve to true
direct-jump dom ops prog p None to = refl
direct-jump dom ops prog p (Some cond) to = refl

at-is-no-import : {P : Type 0} (p : P) (symbol : ℕ) → ◌≡◌ {A = Result (Goal P) Cause} (Ok (At p)) (Ok (Import symbol)) → ⊥
at-is-no-import p symbol e = cc

same-point : {P : Type 0} (p q : P) → ◌≡◌ {A = Result (Goal P) Cause} (Ok (At p)) (Ok (At q)) → p ≡ q
same-point p q e = cc

is-no-jump : {R : Type 0} (i : Insn R) → ((to : R) → i ≡ insn.Jmp to → ⊥) → is_jump i ≡ false
is-no-jump (insn.Jmp to) h = absurd (h to refl)
is-no-jump _ h = refl

module _ {D V C P : Type 0} (dom : Domains D V C) (prog : Program P ℕ V) (m : Machine D V C P) where
  -- a trap goes nowhere
  trap-asks : (i : Insn ℕ) → (run_of dom (dom.over m.placed) prog m i).ask ≡ None → is_trap i ≡ false
  trap-asks (insn.Plain plain.Ud2) e = cc
  trap-asks (insn.Plain plain.Int3) e = cc
  trap-asks (insn.Plain plain.Hlt) e = cc
  trap-asks (insn.Plain plain.Nop) e = refl
  trap-asks (insn.Plain plain.Pause) e = refl
  trap-asks (insn.Plain plain.Endbr64) e = refl
  trap-asks _ e = refl

module _ {D V C P : Type 0} (dom : Domains D V C) (uses : (d : D) → UsesFlags (dom.over d)) (forgets : (d : D) → (dom.over d).forgets ≡ true) (points : List Point) (at : ℕ → P) (prog : Program P ℕ V) (formed : GivesInstructions prog) (has : HasPoints points at prog)
    (m o : Machine D V C P) (c : ℕ) (p : Point) (there : m.point ≡ at c) (is : point_at points c ≡ Some p) (h : Agree (λ r. IsLive points c r) (λ x. IsFlagLive points c x) m o) where
  insn-there : prog.insn m.point ≡ Some p.insn
  insn-there = ap prog.insn there ∙ has.insn c p is

  reads-there : (r : Reg) → ReadsRegister points r p → SameWord r m.registers o.registers
  reads-there r k = h.registers r (live-read points c p is r k)

  -- the step, by its instruction
  by-insn : (reply : Option (Reply V C)) → ((r : Reg) → Contains (read_to_go (goal_from dom prog m p.insn)) r → SameWord r m.registers o.registers)
      → SameOutcome (AgreeStill m o (writes_whole_of p.insn) (flags_after (dom.over m.placed).forgets p.insn)) (AgreeStill m o [] []) (step_outcome dom prog m reply) (step_outcome dom prog o reply)
  by-insn reply goes =
      subst (λ i. SameOutcome (AgreeStill m o (insn_writes i) (insn_sets_flags (dom.over m.placed).forgets i)) (AgreeStill m o [] []) (step_outcome dom prog m reply) (step_outcome dom prog o reply)) insn-there
      (stepped-same dom uses prog formed m o reply
      (subst (λ i. Agree (λ r. Contains (insn_reads dom prog m i) r) (λ x. Contains (insn_reads_flags i) x) m o) (sym insn-there)
      (record {
        count = h.count;
        stack = h.stack;
        registers = λ r k. ⊎_elim (λ d. reads-there r (inr d)) (λ d. goes r d) (Contains-append_cases (reads_of p.insn) _ r k);
        flags = λ x k. h.flags x (flag-read points c p is x (inr k));
        memory = h.memory;
        placed = h.placed;
        point = h.point;
      })))

  -- ---- where all registers are live

  module _ (all : reads_all points p.insn ≡ true) where
    every-word : (r : Reg) → SameWord r m.registers o.registers
    every-word r = reads-there r (inl all)

    every-flag : (x : Flag) → SameFlagOrOneOf m o (flags_after (dom.over m.placed).forgets p.insn) x
    every-flag x =
        subst (λ t. SameFlag x m.flags o.flags ⊎ Contains (if t && loses_flags p.insn then all_flags else flags_written_of p.insn) x) (sym (forgets m.placed)) (by (loses_flags p.insn) (reads_all_flags points p.insn) refl all)
      where
        by : (loses others : Bool) → reads_all_flags points p.insn ≡ others → loses || others ≡ true → SameFlag x m.flags o.flags ⊎ Contains (if loses then all_flags else flags_written_of p.insn) x
        by true others e k = inr (is-flag x)
        by false true e k = inl (h.flags x (flag-read points c p is x (inl e)))
        by false false e k = cc

    agree-on-all : (n q : Machine D V C P) → AgreeStill m o (writes_whole_of p.insn) (flags_after (dom.over m.placed).forgets p.insn) n q → Agree (λ r. Unit {0}) (λ x. Unit {0}) n q
    agree-on-all n q k = less (λ r u. inl (every-word r)) (λ x u. every-flag x) k

    behind-all : (n q : Machine D V C P) → AgreeStill m o (writes_whole_of p.insn) (flags_after (dom.over m.placed).forgets p.insn) n q → Unit {0} → AgreeBehind points at p.insn n q
    behind-all n q k u = (less (λ r v. absurd v) (λ x v. absurd v) k, λ d e. less (λ r v. tt) (λ x v. tt) (agree-on-all n q k), λ v. agree-on-all n q k)

    with-all : (reply : Option (Reply V C)) → LiveStepsAgree points at p.insn m o (step_outcome dom prog m reply) (step_outcome dom prog o reply)
    with-all reply =
        outcome-map _ _ _ (λ q. Unit {0}) _ _ behind-all (moves-anywhere _) (by-insn reply (λ r k. every-word r))

  -- ---- where the step stays in the function

  module _ (some : reads_all points p.insn ≡ false) where
    loses-none : loses_flags p.insn ≡ false
    loses-none = (or-parts (loses_flags p.insn) _ some).0

    no-system : is_system p.insn ≡ false
    no-system = (or-parts (is_system p.insn) _ (or-parts (loses_flags p.insn) _ some).1).0

    stays-in : jumps_out points p.insn ≡ false
    stays-in = (or-parts (is_system p.insn) _ (or-parts (loses_flags p.insn) _ some).1).1

    target-in : (to : ℕ) → target_of p.insn ≡ Some to → is_point points to ≡ true
    target-in to e = not-true (is_point points to) (subst (λ t. option_map_or (λ u. not (is_point points u)) t false ≡ false) e stays-in)

    -- the goal is the next point, or the target
    abbrev Leads : Type 0
    Leads =
        ((goal_from dom prog m p.insn ≡ Ok (At (prog.next m.point))) × (is_jump p.insn ≡ false))
        ⊎ ((to : ℕ) × (target_of p.insn ≡ Some to) × (goal_from dom prog m p.insn ≡ Ok (At (at to))))

    leads : Leads
    leads =
        ⊎_elim (λ k. inl (ap (goal_of dom (dom.over m.placed) prog m.point) k.0, is-no-jump p.insn k.1)) (λ k. inr (jumps k.0.0 k.0.1 k.0.2 k.1)) (insn-goal (dom.over m.placed) m.memory _ p.insn m.registers m.flags loses-none)
      where
        jumps : (cond : Option Cond) (to : ℕ) → p.insn ≡ jump_with cond to → (run_of dom (dom.over m.placed) prog m p.insn).goal ≡ Some (here_at dom (dom.over m.placed) prog m.point p.insn).direct
            → (to : ℕ) × (target_of p.insn ≡ Some to) × (goal_from dom prog m p.insn ≡ Ok (At (at to)))
        jumps cond to same goal =
            let target : target_of p.insn ≡ Some to = ap target_of same ∙ target-jump cond to in (
              to,
              target,
              ap (goal_of dom (dom.over m.placed) prog m.point) goal ∙ ap (λ i. prog.target (here_at dom (dom.over m.placed) prog m.point i).direct) same ∙ ap prog.target (direct-jump dom (dom.over m.placed) prog m.point cond to) ∙ has.target to (target-in to target),
            )

    no-more : (r : Reg) → Contains (read_to_go (goal_from dom prog m p.insn)) r → SameWord r m.registers o.registers
    no-more r k = ⊎_elim (λ l. nowhere r (subst (λ g. Contains (read_to_go g) r) l.0 k)) (λ l. nowhere r (subst (λ g. Contains (read_to_go g) r) l.2 k)) leads

    no-import : (symbol : ℕ) → goal_from dom prog m p.insn ≡ Ok (Import symbol) → ⊥
    no-import symbol e = ⊎_elim (λ l. at-is-no-import _ symbol (sym l.0 ∙ e)) (λ l. at-is-no-import _ symbol (sym l.2 ∙ e)) leads

    -- where the machine goes on at a point of the function, that comes after this one
    abbrev To : P → Type 0
    To q = (d : ℕ) → q ≡ at d → is_point points d ≡ true → LeadsTo points p d

    comes-after : (run_of dom (dom.over m.placed) prog m p.insn).ask ≡ None → (q : P) → goal_from dom prog m p.insn ≡ Ok (At q) → To q
    comes-after ask q g d e there_d =
        ⊎_elim (λ l.
        let q_next : prog.next m.point ≡ q = same-point _ _ (sym l.0 ∙ g) in
        (there_d, inl (none-of (loses_flags p.insn) (is_system p.insn) (is_trap p.insn) (is_jump p.insn) loses-none no-system (trap-asks dom prog m p.insn ask) l.1, has.next c d p is (ap prog.next (sym there) ∙ q_next ∙ e))))
        (λ l.
        let q_to : at l.0 ≡ q = same-point _ _ (sym l.2 ∙ g) in
        (there_d, inr (l.1 ∙ ap Some (has.apart l.0 d (q_to ∙ e))))) leads

    set-there : (x : Flag) → Contains (flags_written_of p.insn) x → Contains (flags_after (dom.over m.placed).forgets p.insn) x
    set-there x k =
        subst (λ t. Contains (if t && loses_flags p.insn then all_flags else flags_written_of p.insn) x) (sym (forgets m.placed))
        (subst (λ l. Contains (if l then all_flags else flags_written_of p.insn) x) (sym loses-none) k)

    agree-behind : (n q : Machine D V C P) → AgreeStill m o (writes_whole_of p.insn) (flags_after (dom.over m.placed).forgets p.insn) n q → To n.point → AgreeBehind points at p.insn n q
    agree-behind n q k to = (
      less (λ r v. absurd v) (λ x v. absurd v) k,
      λ d e. less (λ r live. ⊎_elim (λ before. inl (h.registers r before)) (λ written. inr written) (live-before points c p is d r (to d e (path-point points _ _ d live.0 live.1)) live))
          (λ x live. ⊎_elim (λ before. inl (h.flags x before)) (λ written. inr (set-there x written)) (flag-before points c p is d x (to d e (path-point points _ _ d live.0 live.1)) live)) k,
      λ all. absurd (let f = some in cc),
    )

    with-some : (reply : Option (Reply V C)) → LiveStepsAgree points at p.insn m o (step_outcome dom prog m reply) (step_outcome dom prog o reply)
    with-some reply =
        outcome-map _ _ _ To _ _ agree-behind (stepped-moves dom uses prog formed m To reply p.insn insn-there (λ e. let t = system-is p.insn e in let f = no-system in cc) no-import comes-after) (by-insn reply no-more)

  pub live-same : (reply : Option (Reply V C)) → LiveStepsAgree points at p.insn m o (step_outcome dom prog m reply) (step_outcome dom prog o reply)
  live-same reply = by (reads_all points p.insn) refl
    where
      by : (t : Bool) → reads_all points p.insn ≡ t → LiveStepsAgree points at p.insn m o (step_outcome dom prog m reply) (step_outcome dom prog o reply)
      by true e = with-all e reply
      by false e = with-some e reply
