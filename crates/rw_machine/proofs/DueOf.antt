-- What small operations leave due: words have room in memory, and only string steps leave more than words.
use Rattle.std.proofs.Common.{◌≡◌, ℕ, map, length, List, [], ◌∷◌, Option, Some, None, Result, Ok, Err, Bool, true, false, refl, sym, ◌∙◌, subst}
use Rattle.std.specs.List.{list_any}
use Rattle.std.proofs.lemmas.Bool.{or_parts}
use Rattle.rw_base.specs.declared.width.Width.{Width}
use Rattle.rw_base.specs.Width.{byte_count}
use Rattle.x86_meaning.specs.declared.operations.Temp.{Temp}
use Rattle.x86_meaning.specs.declared.operations.Micro.{Micro}
use Rattle.x86_meaning.specs.declared.operations.Micro.TheVariants.{Get, Put, Num, Ref, Next, Sum, Load, Store, Alu, One, Shift, Mul, Div, Extend, Swap, Bit, Scan, Elements, Same, Choose, Go, System}
use Rattle.x86_meaning.specs.declared.operations.Micro.TheVariants as micro
use Rattle.rw_domain.specs.declared.cause.Cause.{Cause}
use Rattle.rw_domain.specs.declared.flags.Tri.{Tri}
use Rattle.rw_domain.specs.declared.flags.Tri.TheVariants.{Yes, No, Unknown}
use Rattle.rw_domain.specs.declared.flags.Flags.{Flags}
use Rattle.rw_domain.specs.declared.place.Access.TheVariants.{Read, Write}
use Rattle.rw_domain.specs.declared.place.Place.{Place}
use Rattle.rw_domain.specs.declared.place.Region.{Region}
use Rattle.rw_domain.specs.Operators.{Operators, PlacesInside}
use Rattle.rw_machine.specs.Conditions.{holds}
use Rattle.rw_machine.specs.Running.{Due, due_after, Running, Here, StringStep, temp, register, loaded_run, stored_run, computed_run, shifted_run, divided_run, with_itself, borrowed_run, chosen_run, goal_run, elements_of, elements_done, elements_permitted, element_count, after, after_all}
use Rattle.x86_insn.specs.declared.kinds.Reg.TheVariants.{Rax, Rsi, Rdi}
use Rattle.rw_machine.specs.Due.{FitsRows, FitRows, IsWord, AreWords, is_elements}
use Rattle.rw_machine.specs.Views.{IsLaidOut}
use Rattle.rw_machine.specs.declared.running.Due.TheVariants.{Word}
use Rattle.rw_machine.specs.declared.running.Due.TheVariants as due
use Rattle.rw_machine.proofs.RowLemmas.{placed-in-rows, range-along}

module _ {V C : Type 0} (ops : Operators V C) where
  computed-due : (r : Running V) (to : Temp) (w : Width) (a : Result (V × Flags) Cause) → (computed_run ops r to w a).due ≡ r.due
  computed-due r to w (Ok p) = refl
  computed-due r to w (Err c) = refl

  loaded-due : (memory : List (List C)) (r : Running V) (to : Temp) (w : Width) (a : Result Place Cause) → (loaded_run ops memory r to w a).due ≡ r.due
  loaded-due memory r to w (Ok p) = refl
  loaded-due memory r to w (Err c) = refl

  shifted-due : (r : Running V) (to : Temp) (w : Width) (sets : Bool) (a : Result (V × Flags) Cause) → (shifted_run ops r to w sets a).due ≡ r.due
  shifted-due r to w true (Ok p) = refl
  shifted-due r to w true (Err c) = refl
  shifted-due r to w false (Ok p) = refl
  shifted-due r to w false (Err c) = refl

  divided-due : (r : Running V) (q s : Temp) (w : Width) (a : Result (Option (V × V)) Cause) → (divided_run ops r q s w a).due ≡ r.due
  divided-due r q s w (Ok (Some p)) = refl
  divided-due r q s w (Ok None) = refl
  divided-due r q s w (Err c) = refl

  borrowed-due : (r : Running V) (to : Temp) (w : Width) (t : Tri) → (borrowed_run ops r to w t).due ≡ r.due
  borrowed-due r to w Yes = refl
  borrowed-due r to w No = refl
  borrowed-due r to w Unknown = refl

  itself-due : (borrow : Bool) (r : Running V) (to : Temp) (w : Width) → (with_itself ops borrow r to w).due ≡ r.due
  itself-due true r to w = borrowed-due r to w r.flags.cf
  itself-due false r to w = refl

  chosen-due : (r : Running V) (to : Temp) (a b : V) (t : Option Bool) → (chosen_run ops r to a b t).due ≡ r.due
  chosen-due r to a b (Some true) = refl
  chosen-due r to a b (Some false) = refl
  chosen-due r to a b None = refl

  gone-due : (r : Running V) (v : V) (t : Option Bool) → (goal_run ops r v t).due ≡ r.due
  gone-due r v (Some true) = refl
  gone-due r v (Some false) = refl
  gone-due r v None = refl

  module _ (rows : List (List C)) where
    -- what holds of what is due is kept, if stores and string steps keep it
    due-after : (P : List (Due V) → Type 0) (here : Here V) (m : Micro) (r : Running V)
        → ((w : Width) (v at : V) → P r.due → P (stored_run ops r w v (ops.place at (byte_count w) Write)).due)
        → (is_elements m ≡ true → (step : StringStep V) (rep : Bool) (n : Option ℕ) → P r.due → P (elements_of ops r step rep n).due)
        → P r.due → P (after ops rows here m r).due
    due-after P here (Get to w from) r s e h = h
    due-after P here (Put w to from) r s e h = h
    due-after P here (Num to w v) r s e h = h
    due-after P here (Ref to direct) r s e h = h
    due-after P here (micro.Canary to) r s e h = h
    due-after P here (Next to) r s e h = h
    due-after P here (Sum to base index disp) r s e h = h
    due-after P here (Load to w at) r s e h = subst P (sym (loaded-due rows r to w (ops.place (temp ops r at) (byte_count w) Read))) h
    due-after P here (Store w at from) r s e h = s w (temp ops r from) (temp ops r at) h
    due-after P here (Alu op w to a b) r s e h = subst P (sym (computed-due r to w (ops.alu op w (temp ops r a) (temp ops r b) r.flags))) h
    due-after P here (One op w to a) r s e h = h
    due-after P here (Shift op w to a count sets) r s e h = subst P (sym (shifted-due r to w sets (ops.shift op w (temp ops r a) (temp ops r count) r.flags))) h
    due-after P here (Mul is_signed w low high a b) r s e h = h
    due-after P here (Div is_signed w quotient rest high low by) r s e h =
        subst P (sym (divided-due r quotient rest w (ops.div is_signed w (temp ops r high) (temp ops r low) (temp ops r by)))) h
    due-after P here (Extend is_signed from w to a) r s e h = h
    due-after P here (Swap w to a) r s e h = h
    due-after P here (Bit op w to a index) r s e h = h
    due-after P here (Scan op w to a) r s e h = h
    due-after P here (Elements moves w rep) r s e h =
        e refl (record { moves = moves; width = w; word = register ops r.registers Rax }) rep (element_count ops rep r.registers) h
    due-after P here (Same borrow w to) r s e h = subst P (sym (itself-due borrow r to w)) h
    due-after P here (Choose cond to a b) r s e h = subst P (sym (chosen-due r to (temp ops r a) (temp ops r b) (holds cond r.flags))) h
    due-after P here (Go None to) r s e h = h
    due-after P here (Go (Some cond) to) r s e h = subst P (sym (gone-due r (temp ops r to) (holds cond r.flags))) h
    due-after P here (micro.Trap kind) r s e h = h
    due-after P here System r s e h = h

    -- of two that hold, and one more, the first two do
    after-placed : (ds : List (Due V)) (d : Due V) → FitRows rows ds → FitsRows rows d → FitRows rows (due_after ds d)
    after-placed [] d h k = (k, tt)
    after-placed (a ∷ []) d h k = (h.0, (k, tt))
    after-placed (a ∷ b ∷ ds) d h k = (h.0, (h.1.0, tt))

    after-words : (ds : List (Due V)) (d : Due V) → AreWords ds → IsWord d → AreWords (due_after ds d)
    after-words [] d h k = (k, tt)
    after-words (a ∷ []) d h k = (h.0, (k, tt))
    after-words (a ∷ b ∷ ds) d h k = (h.0, (h.1.0, tt))

    done-placed : (r : Running V) (step : StringStep V) (rep : Bool) (n : ℕ) (a : Result (V × V) Cause) → FitRows rows r.due → FitRows rows (elements_done ops r step rep n a).due
    done-placed r step rep n (Ok p) h = after-placed r.due _ h tt
    done-placed r step rep n (Err c) h = h

    elements-placed : (r : Running V) (step : StringStep V) (rep : Bool) (n : Option ℕ) → FitRows rows r.due → FitRows rows (elements_of ops r step rep n).due
    elements-placed r step rep None h = h
    elements-placed r step rep (Some n) h = done-placed r step rep n (elements_permitted ops step n (register ops r.registers Rsi) (register ops r.registers Rdi)) h

    module _ (regions : List Region) (inside : PlacesInside ops) (same : ops.regions ≡ regions) (laid : IsLaidOut regions rows) (here : Here V) where
      stored-placed : (r : Running V) (w : Width) (v at : V) (a : Result Place Cause) → a ≡ ops.place at (byte_count w) Write → FitRows rows r.due → FitRows rows (stored_run ops r w v a).due
      stored-placed r w v at (Ok p) e h = after-placed r.due _ h (placed-in-rows ops regions rows at (byte_count w) Write p inside same laid e)
      stored-placed r w v at (Err c) e h = h

      pub all-placed : (ms : List Micro) (r : Running V) → FitRows rows r.due → FitRows rows (after_all ops rows here ms r).due
      all-placed [] r h = h
      all-placed (m ∷ ms) r h =
          all-placed ms (after ops rows here m r)
          (due-after (λ d. FitRows rows d) here m r (λ w v at h. stored-placed r w v at (ops.place at (byte_count w) Write) refl h) (λ _. elements-placed r) h)

    -- only string steps leave more than words
    stored-word : (r : Running V) (w : Width) (v : V) (a : Result Place Cause) → AreWords r.due → AreWords (stored_run ops r w v a).due
    stored-word r w v (Ok p) h = after-words r.due _ h tt
    stored-word r w v (Err c) h = h

    pub all-words : (here : Here V) (ms : List Micro) (r : Running V) → list_any is_elements ms ≡ false → AreWords r.due → AreWords (after_all ops rows here ms r).due
    all-words here [] r none h = h
    all-words here (m ∷ ms) r none h =
        all-words here ms (after ops rows here m r) (or_parts (is_elements m) (list_any is_elements ms) none).1
        (due-after AreWords here m r (λ w v at h. stored-word r w v (ops.place at (byte_count w) Write) h) (λ yes step rep n h. absurd (no-elements m yes (or_parts (is_elements m) (list_any is_elements ms) none).0)) h)
      where
        no-elements : (m : Micro) → is_elements m ≡ true → is_elements m ≡ false → ⊥
        no-elements m a b = let e : true ≡ false = sym a ∙ b in cc

pub run-along : {V C : Type 0} (ops : Operators V C) (rows : List (List C)) (here here' : Here V) (list list' : List Micro) (r r' s : Running V) → here ≡ here' → list ≡ list' → r ≡ r'
    → s ≡ after_all ops rows here list r → s ≡ after_all ops rows here' list' r'
run-along ops rows here here' list list' r r' s h l e run = cc

-- rows of the same lengths have room for the same word
pub placed-along : {V C : Type 0} (rows rows' : List (List C)) (d : Due V) → map length rows' ≡ map length rows → FitsRows rows d → FitsRows rows' d
placed-along rows rows' (Word place width word) e h = range-along rows rows' place (byte_count width) e h
placed-along rows rows' (due.Elements step count source target) e h = tt
