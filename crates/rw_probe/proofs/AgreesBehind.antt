-- Two machines over words that agree on what is live where they are take the same step, and agree on what is live where they come to.
use Rattle.std.proofs.Common.{◌≡◌, ℕ, List, [], Option, Some, None, Result, Ok, Bool, true, false, refl, sym, ap, subst, ◌∙◌, ◌⊎◌, inl, inr, ⊎_elim, is_some}
use Rattle.std.specs.Prelude.{◌||◌, not}
use Rattle.std.specs.Option.{option_map_or}
use Rattle.x86_insn.specs.declared.kinds.Reg.{Reg}
use Rattle.x86_insn.specs.declared.kinds.Cond.{Cond}
use Rattle.x86_insn.specs.declared.instruction.Insn.{Insn}
use Rattle.x86_insn.specs.declared.instruction.Insn.TheVariants as insn
use Rattle.x86_meaning.specs.declared.sets.Flag.{Flag}
use Rattle.rw_words.specs.declared.atom.Cell.{Cell}
use Rattle.rw_domain.specs.declared.cause.Cause.{Cause}
use Rattle.rw_domain.specs.Placed.{Placed}
use Rattle.rw_funcs.specs.Points.{Point, is_point, point_at}
use Rattle.rw_machine.specs.declared.goal.Goal.{Goal}
use Rattle.rw_machine.specs.declared.goal.Goal.TheVariants.{At, Import}
use Rattle.rw_machine.specs.Agree.{Agree, AgreeStill}
use Rattle.rw_machine.specs.Domains.{symbols}
use Rattle.rw_machine.specs.Events.{Reply}
use Rattle.rw_machine.specs.Program.{Program, GivesInstructions}
use Rattle.rw_machine.specs.SameSteps.{SameOutcome, goal_from}
use Rattle.rw_machine.specs.Step.{Machine, Outcome, Moved, Asks, Ended, Stopped, loses_flags, here_at, goal_of, run_of, step_outcome}
use Rattle.rw_machine.proofs.FlagUse.{symbols-use}
use Rattle.rw_machine.proofs.GoalOf.{insn-goal, jump_with}
use Rattle.rw_machine.proofs.MovesTo.{Moves, stepped-moves}
use Rattle.rw_live.specs.Liveness.{ReadsFlag, ReadsRegister, is_system, jumps_out, reads_all, target_of}
use Rattle.rw_live.specs.LiveSteps.{AgreeBehind, AgreeOnLive, HasPoints}
use Rattle.rw_live.proofs.Enough.{live-same, path-point}
use Rattle.rw_live.proofs.Within.{point-is-some}
use Rattle.rw_probe.specs.ProbedPrograms.{HasFunctions}

-- ---- where a step stays in its function

or-parts : (a b : Bool) → a || b ≡ false → (a ≡ false) × (b ≡ false)
or-parts false b e = (refl, e)
or-parts true b e = cc

not-true : (t : Bool) → not t ≡ false → t ≡ true
not-true true e = refl
not-true false e = cc

target-jump : {R : Type 0} (cond : Option Cond) (to : R) → target_of (jump_with cond to) ≡ Some to
target-jump None to = refl
target-jump (Some cond) to = refl

direct-jump : {P : Type 0} (prog : Program P ℕ (List Cell)) (placed : Placed) (p : P) (cond : Option Cond) (to : ℕ) → (here_at symbols (symbols.over placed) prog p (jump_with cond to)).direct ≡ prog.resolve to true
direct-jump prog placed p None to = refl
direct-jump prog placed p (Some cond) to = refl

at-is-no-import : {P : Type 0} (p : P) (symbol : ℕ) → ◌≡◌ {A = Result (Goal P) Cause} (Ok (At p)) (Ok (Import symbol)) → ⊥
at-is-no-import p symbol e = cc

same-point : {P : Type 0} (p q : P) → ◌≡◌ {A = Result (Goal P) Cause} (Ok (At p)) (Ok (At q)) → p ≡ q
same-point p q e = cc

module _ {P : Type 0} (points : List Point) (at : ℕ → P) (prog : Program P ℕ (List Cell)) (formed : GivesInstructions prog) (has : HasPoints points at prog) (m : Machine Placed (List Cell) Cell P) (c : ℕ) (p : Point)
    (there : m.point ≡ at c) (is : point_at points c ≡ Some p) (some : reads_all points p.insn ≡ false) where
  -- the next point, or one of the function
  abbrev pub Inside : P → Type 0
  Inside q = (q ≡ prog.next (at c)) ⊎ ((to : ℕ) × (is_point points to ≡ true) × (q ≡ at to))

  loses-none : loses_flags p.insn ≡ false
  loses-none = (or-parts (loses_flags p.insn) _ some).0

  no-system : is_system p.insn ≡ false
  no-system = (or-parts (is_system p.insn) _ (or-parts (loses_flags p.insn) _ some).1).0

  stays-in : jumps_out points p.insn ≡ false
  stays-in = (or-parts (is_system p.insn) _ (or-parts (loses_flags p.insn) _ some).1).1

  target-in : (to : ℕ) → target_of p.insn ≡ Some to → is_point points to ≡ true
  target-in to e = not-true (is_point points to) (subst (λ t. option_map_or (λ u. not (is_point points u)) t false ≡ false) e stays-in)

  insn-there : prog.insn m.point ≡ Some p.insn
  insn-there = ap prog.insn there ∙ has.insn c p is

  abbrev Leads : Type 0
  Leads = (goal_from symbols prog m p.insn ≡ Ok (At (prog.next m.point))) ⊎ ((to : ℕ) × (is_point points to ≡ true) × (goal_from symbols prog m p.insn ≡ Ok (At (at to))))

  leads : Leads
  leads =
      ⊎_elim (λ k. inl (ap (goal_of symbols (symbols.over m.placed) prog m.point) k.0)) (λ k. inr (jumps k.0.0 k.0.1 k.0.2 k.1))
      (insn-goal (symbols.over m.placed) m.memory (here_at symbols (symbols.over m.placed) prog m.point p.insn) p.insn m.registers m.flags loses-none)
    where
      jumps : (cond : Option Cond) (to : ℕ) → p.insn ≡ jump_with cond to → (run_of symbols (symbols.over m.placed) prog m p.insn).goal ≡ Some (here_at symbols (symbols.over m.placed) prog m.point p.insn).direct
          → (to : ℕ) × (is_point points to ≡ true) × (goal_from symbols prog m p.insn ≡ Ok (At (at to)))
      jumps cond to same goal =
          let inside = target-in to (ap target_of same ∙ target-jump cond to) in (
            to,
            inside,
            ap (goal_of symbols (symbols.over m.placed) prog m.point) goal ∙ ap (λ i. prog.target (here_at symbols (symbols.over m.placed) prog m.point i).direct) same
                ∙ ap prog.target (direct-jump prog m.placed m.point cond to) ∙ has.target to inside,
          )

  no-import : (symbol : ℕ) → goal_from symbols prog m p.insn ≡ Ok (Import symbol) → ⊥
  no-import symbol e = ⊎_elim (λ l. at-is-no-import _ symbol (sym l ∙ e)) (λ l. at-is-no-import _ symbol (sym l.2 ∙ e)) leads

  comes-to : (q : P) → goal_from symbols prog m p.insn ≡ Ok (At q) → Inside q
  comes-to q g = ⊎_elim (λ l. inl (sym (same-point _ _ (sym l ∙ g)) ∙ ap prog.next there)) (λ l. inr (l.0, l.1, sym (same-point _ _ (sym l.2 ∙ g)))) leads

  no-syscall : p.insn ≡ insn.Syscall → ⊥
  no-syscall e = let t : is_system p.insn ≡ true = ap is_system e in let f = no-system in cc

  pub moves-inside : (reply : Option (Reply (List Cell) Cell)) → Moves Inside (step_outcome symbols prog m reply)
  moves-inside reply = stepped-moves symbols symbols-use prog formed m Inside reply p.insn insn-there no-syscall no-import (λ ask q g. comes-to q g)

-- ---- what two outcomes come to

module _ {D V C P : Type 0} (Next Next' Last Last' : Machine D V C P → Machine D V C P → Type 0) (To : P → Type 0) (next : (n q : Machine D V C P) → Next n q → To n.point → Next' n q) (last : (n q : Machine D V C P) → Last n q → Last' n q) where
  same-map : (a b : Outcome D V C P) → Moves To a → SameOutcome Next Last a b → SameOutcome Next' Last' a b
  same-map (Moved n) (Moved q) k h = next n q h k
  same-map (Moved n) (Asks e) k h = absurd h
  same-map (Moved n) (Ended q z) k h = absurd h
  same-map (Moved n) (Stopped c) k h = absurd h
  same-map (Asks d) (Moved q) k h = absurd h
  same-map (Asks d) (Asks e) k h = h
  same-map (Asks d) (Ended q z) k h = absurd h
  same-map (Asks d) (Stopped c) k h = absurd h
  same-map (Ended n y) (Moved q) k h = absurd h
  same-map (Ended n y) (Asks e) k h = absurd h
  same-map (Ended n y) (Ended q z) k h = (h.0, last n q h.1)
  same-map (Ended n y) (Stopped c) k h = absurd h
  same-map (Stopped d) (Moved q) k h = absurd h
  same-map (Stopped d) (Asks e) k h = absurd h
  same-map (Stopped d) (Ended q z) k h = absurd h
  same-map (Stopped d) (Stopped c) k h = h

moves-anywhere : {D V C P : Type 0} (a : Outcome D V C P) → Moves (λ p. Unit {0}) a
moves-anywhere (Moved n) = tt
moves-anywhere (Asks e) = tt
moves-anywhere (Ended n z) = tt
moves-anywhere (Stopped c) = tt

pub less : {D V C P : Type 0} (on on' : Reg → Type 0) (and_on and_on' : Flag → Type 0) (x y : Machine D V C P) → ((r : Reg) → on' r → on r) → ((f : Flag) → and_on' f → and_on f) → Agree on and_on x y → Agree on' and_on' x y
less on on' and_on and_on' x y p q h = record {
  count = h.count;
  stack = h.stack;
  registers = λ r k. h.registers r (p r k);
  flags = λ f k. h.flags f (q f k);
  memory = h.memory;
  placed = h.placed;
  point = h.point;
}

-- ---- machines that agree where they are

-- on %rsp, memory and regions in any case
abbrev pub AgreeBeside : {P : Type 0} → Machine Placed (List Cell) Cell P → Machine Placed (List Cell) Cell P → Type 0
AgreeBeside s t = Agree (λ r. ⊥) (λ x. ⊥) s t

module _ {P : Type 0} (around : ℕ → List Point) (at : ℕ → P) where
  -- and at a point of a function on what is live there
  abbrev pub AgreeThere : Machine Placed (List Cell) Cell P → Machine Placed (List Cell) Cell P → Type 0
  AgreeThere s t = AgreeBeside s t × ((a : ℕ) → s.point ≡ at a → AgreeOnLive (around a) a s t)

  -- where there is no point nothing is live
  pub none-live : (points : List Point) (a : ℕ) (s t : Machine Placed (List Cell) Cell P) → is_point points a ≡ false → AgreeBeside s t → AgreeOnLive points a s t
  none-live points a s t none h =
      less _ _ _ _ s t
      (λ r live. let there = path-point points (ReadsRegister points r) _ a live.0 live.1 in absurd (let e : true ≡ false = sym there ∙ none in cc))
      (λ x live. let there = path-point points (ReadsFlag points x) _ a live.0 live.1 in absurd (let e : true ≡ false = sym there ∙ none in cc)) h

  module _ (prog : Program P ℕ (List Cell)) (functions : HasFunctions around at prog) (s t : Machine Placed (List Cell) Cell P) (h : AgreeThere s t) where
    module _ (a : ℕ) (p : Point) (there : s.point ≡ at a) (inside : is_point (around a) a ≡ true) (is : point_at (around a) a ≡ Some p) where
      all-there : (n q : Machine Placed (List Cell) Cell P) → Agree (λ r. Unit {0}) (λ x. Unit {0}) n q → AgreeThere n q
      all-there n q k = (less _ _ _ _ n q (λ r v. tt) (λ x v. tt) k, λ b e. less _ _ _ _ n q (λ r v. tt) (λ x v. tt) k)

      one-function : (b : ℕ) (q : P) → q ≡ at b → is_point (around b) b ≡ true → (q ≡ prog.next (at a)) ⊎ ((to : ℕ) × (is_point (around a) to ≡ true) × (q ≡ at to)) → around b ≡ around a
      one-function b q e inside_b moves =
          ⊎_elim (λ next. functions.next a b inside inside_b (sym next ∙ e))
          (λ to. functions.same a b (subst (λ d. is_point (around a) d ≡ true) ((functions.points a).apart to.0 b (sym to.2 ∙ e)) to.1)) moves

      inside-there : (n q : Machine Placed (List Cell) Cell P) → AgreeBehind (around a) at p.insn n q → (n.point ≡ prog.next (at a)) ⊎ ((to : ℕ) × (is_point (around a) to ≡ true) × (n.point ≡ at to)) → AgreeThere n q
      inside-there n q k moves = (k.0, λ b e. by_test b e (is_point (around b) b) refl)
        where
          by_test : (b : ℕ) → n.point ≡ at b → (t : Bool) → is_point (around b) b ≡ t → AgreeOnLive (around b) b n q
          by_test b e false none = none-live (around b) b n q none k.0
          by_test b e true inside_b = subst (λ points. AgreeOnLive points b n q) (sym (one-function b n.point e inside_b moves)) (k.1 b e)

      by-insn : (reply : Option (Reply (List Cell) Cell)) → SameOutcome AgreeThere AgreeBeside (step_outcome symbols prog s reply) (step_outcome symbols prog t reply)
      by-insn reply = by_test (reads_all (around a) p.insn) refl
        where
          live : SameOutcome (AgreeBehind (around a) at p.insn) (AgreeStill s t [] []) (step_outcome symbols prog s reply) (step_outcome symbols prog t reply)
          live = live-same symbols symbols-use (λ d. refl) (around a) at prog functions.formed (functions.points a) s t a p there is (h.1 a there) reply

          ended : (n q : Machine Placed (List Cell) Cell P) → AgreeStill s t [] [] n q → AgreeBeside n q
          ended n q k = less _ _ _ _ n q (λ r v. absurd v) (λ x v. absurd v) k

          by_test : (all : Bool) → reads_all (around a) p.insn ≡ all → SameOutcome AgreeThere AgreeBeside (step_outcome symbols prog s reply) (step_outcome symbols prog t reply)
          by_test true all =
              same-map (AgreeBehind (around a) at p.insn) AgreeThere (AgreeStill s t [] []) AgreeBeside (λ q. Unit {0}) (λ n q k u. all-there n q (k.2 all)) ended _ _ (moves-anywhere _) live
          by_test false some =
              same-map (AgreeBehind (around a) at p.insn) AgreeThere (AgreeStill s t [] []) AgreeBeside (Inside (around a) at prog functions.formed (functions.points a) s a p there is some) inside-there ended _ _
              (moves-inside (around a) at prog functions.formed (functions.points a) s a p there is some reply) live

    -- a point with an instruction is one of a function
    pub at-point : (i : Insn ℕ) → prog.insn s.point ≡ Some i → (a : ℕ) × (p : Point) × (s.point ≡ at a) × (is_point (around a) a ≡ true) × (point_at (around a) a ≡ Some p) × (p.insn ≡ i)
    at-point i e =
        let found = functions.each s.point i e in
        by (point_at (around found.0) found.0) refl (sym (point-is-some (around found.0) found.0) ∙ found.2)
      where
        by : (o : Option Point) → point_at (around (functions.each s.point i e).0) (functions.each s.point i e).0 ≡ o → is_some o ≡ true
            → (a : ℕ) × (p : Point) × (s.point ≡ at a) × (is_point (around a) a ≡ true) × (point_at (around a) a ≡ Some p) × (p.insn ≡ i)
        by None f g = cc
        by (Some p) f g =
            let found = functions.each s.point i e in
            let same : ◌≡◌ {A = Option (Insn ℕ)} (Some p.insn) (Some i) = sym ((functions.points found.0).insn found.0 p f) ∙ sym (ap prog.insn found.1) ∙ e in
            (found.0, p, found.1, found.2, f, (cc))

    pub step-agrees : (i : Insn ℕ) → prog.insn s.point ≡ Some i → (reply : Option (Reply (List Cell) Cell)) → SameOutcome AgreeThere AgreeBeside (step_outcome symbols prog s reply) (step_outcome symbols prog t reply)
    step-agrees i e reply = let found = at-point i e in by-insn found.0 found.1 found.2 found.3 found.4 reply
