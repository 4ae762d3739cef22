-- The law of n steps.
use Rattle.std.proofs.Common.{◌≡◌, ℕ, suc, ◌+◌, ◌*◌, List, [], ◌∷◌, ◌++◌, length, take, drop, Option, Some, None, Bool, true, false, refl, sym, ap, subst, ◌∙◌, arith, append_assoc, length-append}
use Rattle.std.specs.Prelude.{slice_get}
use Rattle.rw_words.specs.declared.atom.Atom.{Atom}
use Rattle.rw_words.specs.declared.atom.Cell.{Cell}
use Rattle.rw_words.specs.Addresses.{Addresses}
use Rattle.rw_domain.specs.Placed.{Placed}
use Rattle.rw_domain.specs.LaidOut.{WordStands, KnownByteStands}
use Rattle.rw_machine.specs.Program.{Program, Domains}
use Rattle.rw_machine.specs.Events.{Reply}
use Rattle.rw_machine.specs.Step.{Machine, placed_with}
use Rattle.rw_machine.specs.Stands.{Spare, MachineStands, ProgramsStand, DomainsStand}
use Rattle.rw_machine.specs.Domains.{symbols, numbers}
use Rattle.rw_machine.specs.Correspond.{RegionsCorrespond, ProgramsCorrespond, MachinesCorrespond}
use Rattle.rw_machine.proofs.StepLaw.{domains-stand}
use Rattle.rw_runs.specs.Runs.{Run, first_run, advance, made, total, entered, cost_at, all_added}
use Rattle.rw_runs.specs.RunStands.{RepliesStand, RunStands, RunFollows}
use Rattle.rw_runs.specs.Correspond.{WordsRun, NumbersRun, AllRepliesCorrespond, RunsCorrespond}
use Rattle.rw_runs.proofs.Lists.{get-front, front-taken, got-behind}
use Rattle.rw_runs.proofs.Made.{made-next}
use Rattle.rw_runs.proofs.Used.{made-used}
use Rattle.rw_runs.proofs.Counts.{total-counts}
use Rattle.rw_runs.proofs.Follows.{Uses, NextStands, advance-follows}
use Rattle.rw_runs.proofs.Blocks.{made-blocks, from-follows}

added-more : {D V C : Type 0} (dom : Domains D V C) (d : D) (rs qs : List (Reply V C)) → all_added dom d (rs ++ qs) ≡ all_added dom (all_added dom d rs) qs
added-more dom d [] qs = refl
added-more dom d (r ∷ rs) qs = added-more dom (placed_with dom d r.fresh) rs qs

module _ {D T V U E F A G P O : Type 0} (R : V → U → Type 0) (Byte : E → F → Type 0) (spare : Spare F) (Named : ℕ → ℕ → Type 0) (Laid : D → T → Type 0)
    (S : Domains D V E) (N : Domains T U F) (c : Program P A V) (d : Program O G U) (m : Machine D V E P) (o : Machine T U F O) (rs : List (Reply V E)) (qs : List (Reply U F)) where
  -- runs from the first machines and answers that stand, after so many steps of the first
  pub record Reached (Near : P → O → Type 0) (r : Run D V E P) (q : Run T U F O) : Type 0 where
    pub stands : RunStands R Byte spare Named Laid Near r q
    pub steps : ℕ
    pub first : made S c steps (first_run m rs) ≡ Some r
    pub used : Uses N (first_run o qs) r q 0

  pub begins : (Near : P → O → Type 0) → MachineStands R Byte spare Laid Near m o → Reached Near (first_run m rs) (first_run o qs)
  begins Near h = record {
    stands = record { machine = h; events = tt; ending = refl };
    steps = 0;
    first = refl;
    used = record { taken = []; answers = refl; count = refl; placed = refl };
  }

  module _ (answers : RepliesStand R Byte spare Laid S N c m rs o.placed qs) where
    -- answers that stand along a run stand next
    pub next-stands : (Near Near' : P → O → Type 0) (domains : DomainsStand R Byte spare Laid S N) (programs : ProgramsStand R Named Near Near' c d) (r : Run D V E P) (q : Run T U F O) → Reached Near r q
        → NextStands R Byte spare Named Laid Near Near' S N domains c d programs r q
    next-stands Near Near' domains programs r q h e a rest goes asked is =
        let mine = made-used S c m rs h.steps r h.first in
        let taken = h.used.taken in
        let count = h.used.count in
        let same : length r.events ≡ length h.used.taken = omega (arith, count) in
        let n = answers h.steps r e a h.first goes asked (get-front (length r.events) rs rest a (sym mine ∙ is)) in
        let there : slice_get (h.used.taken ++ q.answers) (length h.used.taken) ≡ Some n.0 = ap (λ xs. slice_get xs (length h.used.taken)) (sym h.used.answers) ∙ ap (slice_get qs) (sym same) ∙ n.1 in
        let front : take (length r.events) qs ≡ h.used.taken = ap (λ k. take k qs) same ∙ ap (take (length h.used.taken)) h.used.answers ∙ front-taken h.used.taken q.answers in
        let placed : all_added N o.placed (take (length r.events) qs) ≡ q.machine.placed = ap (all_added N o.placed) front ∙ sym h.used.placed in
        (n.0, drop 1 q.answers, got-behind h.used.taken q.answers n.0 there, n.2, subst (λ t. Laid (placed_with S r.machine.placed a.fresh) (placed_with N t n.0.fresh)) placed n.3)

    module _ (Near : P → O → Type 0) (domains : DomainsStand R Byte spare Laid S N) (programs : ProgramsStand R Named Near Near c d) where
      abbrev Here : Run D V E P → Run T U F O → Type 0
      Here r q = Reached Near r q

      uses-more : (r x : Run D V E P) (q y : Run T U F O) → Uses N (first_run o qs) r q 0 → Uses N q x y (length r.events) → Uses N (first_run o qs) x y 0
      uses-more r x q y h k =
          let before = h.count in
          let now = k.count in
          let size = length-append h.taken k.taken in
          record {
            taken = h.taken ++ k.taken;
            answers = h.answers ∙ ap (λ xs. h.taken ++ xs) k.answers ∙ sym (append_assoc h.taken k.taken y.answers);
            count = omega (arith, before, now, size);
            placed = k.placed ∙ ap (λ t. all_added N t k.taken) h.placed ∙ sym (added-more N o.placed h.taken k.taken);
          }

      one_step : (r : Run D V E P) (q : Run T U F O) → Here r q → (a : Option (Run D V E P)) (b : Option (Run T U F O)) → advance S c r ≡ a
          → RunFollows (λ x y. RunStands R Byte spare Named Laid Near x y × Uses N q x y (length r.events)) a b → RunFollows Here a b
      one_step r q h None b e g = tt
      one_step r q h (Some x) None e g = absurd g
      one_step r q h (Some x) (Some y) e g = record {
        stands = g.0;
        steps = suc h.steps;
        first = made-next S c h.steps (first_run m rs) r x h.first e;
        used = uses-more r x q y h.used g.1;
      }

      advance-reached : (r : Run D V E P) (q : Run T U F O) → Here r q → RunFollows Here (advance S c r) (advance N d q)
      advance-reached r q h =
          one_step r q h (advance S c r) (advance N d q) refl
          (advance-follows R Byte spare Named Laid Near Near S N domains c d programs r q h.stands (next-stands Near Near domains programs r q h))

      -- n steps of the first machine are n steps of the second, as nothing costs anything besides
      pub runs-stand : MachineStands R Byte spare Laid Near m o → (n : ℕ) (run : Run D V E P) → made S c n (first_run m rs) ≡ Some run
          → (other : Run T U F O) × (made N d (total S c (λ r. 0) n (first_run m rs)) (first_run o qs) ≡ Some other) × RunStands R Byte spare Named Laid Near run other
      runs-stand h n run e =
          let found = from-follows Here _ _ run (made-blocks S N c d Here (λ r. 0) advance-reached n (first_run m rs) (first_run o qs) (begins Near h)) e in
          (found.0, found.1, found.2.stands)

-- where nothing costs anything besides, there is one step for each
pub total-steps : {D V C P R : Type 0} (dom : Domains D V C) (prog : Program P R V) (run last : Run D V C P) (n : ℕ) → made dom prog n run ≡ Some last → total dom prog (λ r. 0) n run ≡ n
total-steps dom prog run last n e =
    let all : total dom prog (cost_at (λ p. false) 0) n run ≡ n + 0 * entered dom prog (λ p. false) n run = total-counts dom prog (λ p. false) 0 run n last e in
    let none : n + 0 * entered dom prog (λ p. false) n run ≡ n = grind arith in
    all ∙ none

pub runs-correspond : {P O A B : Type 0} (l : Addresses) (known : Atom → Bool) (named : ℕ → ℕ → Bool) (spare : Spare ℕ) (near : P → O → Bool) (c : Program P A (List Cell)) (d : Program O B ℕ)
    (m : Machine Placed (List Cell) Cell P) (o : Machine Placed ℕ ℕ O) (answers : List (Reply (List Cell) Cell)) (replies : List (Reply ℕ ℕ)) (n : ℕ) (run : WordsRun P)
    → ProgramsCorrespond l known named near near c d → MachinesCorrespond l known spare near m o → AllRepliesCorrespond l known spare c m answers o.placed replies → made symbols c n (first_run m answers) ≡ Some run
    → (other : NumbersRun O) × (made numbers d n (first_run o replies) ≡ Some other) × RunsCorrespond l known spare named near run other
runs-correspond l known named spare near c d m o answers replies n run programs machines stand e =
    let found = runs-stand (WordStands l known) (KnownByteStands l known) spare (λ i j. named i j ≡ true) (RegionsCorrespond l known spare) symbols numbers c d m o answers replies stand (λ p q. near p q ≡ true) (domains-stand l known spare) programs machines n run e in
    let steps = total-steps symbols c (first_run m answers) run n e in
    (found.0, subst (λ k. made numbers d k (first_run o replies) ≡ Some found.0) steps found.1, found.2)
