-- String steps stand: their places, the addresses behind them, and memory after them.
use Rattle.std.proofs.Common.{◌≡◌, ◌≤◌, ℕ, zero, suc, List, [], length, drop, Some, None, Result, Ok, Err, Bool, true, false, cond, refl, ap, subst, ◌∙◌, arith}
use Rattle.std.specs.Prelude.{pos, slice_index_or}
use Rattle.std.proofs.lemmas.List.{length-take}
use Rattle.rw_base.specs.declared.width.Width.{Width}
use Rattle.rw_base.specs.declared.width.Width.TheVariants.{B, W, L, Q}
use Rattle.rw_base.specs.Width.{byte_count}
use Rattle.x86_insn.specs.declared.kinds.Reg.TheVariants.{Rcx, Rsi, Rdi}
use Rattle.x86_insn.specs.WellFormed.{code_of}
use Rattle.rw_domain.specs.declared.cause.Cause.{Cause}
use Rattle.rw_domain.specs.declared.place.Place.{Place}
use Rattle.rw_domain.specs.declared.place.Access.TheVariants.{Read, Write}
use Rattle.rw_domain.specs.Operators.{Operators}
use Rattle.rw_domain.specs.Stands.{Both, KnownStands, ResultStands, OperatorsStand}
use Rattle.rw_domain.specs.OtherOperators.{PairStands}
use Rattle.rw_machine.specs.Running.{StringStep, range_at, bytes_from, next_address, from_and_to, target_place, element_places, then_others, elements_permitted, element_written, elements_written, pointers_left, count_left, element_count}
use Rattle.rw_machine.specs.Stands.{Spare, Misses, PlacesMiss, RowsStand}
use Rattle.rw_machine.proofs.Lists.{set_both}
use Rattle.rw_machine.proofs.Parts.{register-stands, bytes-stand, bytes-counted}
use Rattle.rw_machine.proofs.Spare.{Reached, places-reached, misses-less, range-stands, written-stands}

pub some_bytes : (w : Width) → 1 ≤ byte_count w
some_bytes B = omega arith
some_bytes W = omega arith
some_bytes L = omega arith
some_bytes Q = omega arith

module _ {V U E F : Type 0} (R : V → U → Type 0) (Byte : E → F → Type 0) (s : Operators V E) (n : Operators U F) (laws : OperatorsStand R Byte s n) (spare : Spare F) (miss : PlacesMiss spare s) where
  -- two places, and what comes behind them
  abbrev BothReached : ℕ → Place × Place → Place × Place → Type 0
  BothReached len p q = (p ≡ q) × Misses spare p.0 len × Misses spare p.1 len

  from_and_to-stands : (len : ℕ) (a b c d : Result Place Cause) → ResultStands (Reached spare len) a c → ResultStands (Reached spare len) b d → ResultStands (BothReached len) (from_and_to s a b) (from_and_to n c d)
  from_and_to-stands len (Err e) b c d h k = tt
  from_and_to-stands len (Ok p) (Err e) c d h k = tt
  from_and_to-stands len (Ok p) (Ok q) (Err e) d h k = absurd h
  from_and_to-stands len (Ok p) (Ok q) (Ok r) (Err e) h k = absurd k
  from_and_to-stands len (Ok p) (Ok q) (Ok r) (Ok t) h k = (ap (λ z. (z, q)) h.0 ∙ ap (λ z. (r, z)) k.0, h.1, k.1)

  then_others-stands : {X Y : Type 0} (G : X → Y → Type 0) (len : ℕ) (a c : Result (Place × Place) Cause) (x : Result X Cause) (y : Result Y Cause) → ResultStands (BothReached len) a c → ResultStands G x y → ResultStands G (then_others s a x) (then_others n c y)
  then_others-stands G len (Err e) c x y h k = tt
  then_others-stands G len (Ok p) (Err e) x y h k = absurd h
  then_others-stands G len (Ok p) (Ok q) x y h k = k

  pub count-stands : (rep : Bool) (a : List V) (b : List U) → Both R a b → KnownStands (element_count s rep a) (element_count n rep b)
  count-stands false a b h = refl
  count-stands true a b h = laws.number Q _ _ (register-stands R Byte s n laws a b h Rcx)

  pointers-stand : (moves : Bool) (a : List V) (b : List U) (p : V × V) (q : U × U) → Both R a b → PairStands R p q → Both R (pointers_left s moves a p) (pointers_left n moves b q)
  pointers-stand true a b p q h k = set_both R _ _ k.1 _ _ (code_of Rdi) (set_both R _ _ k.0 a b (code_of Rsi) h)
  pointers-stand false a b p q h k = set_both R _ _ k.1 a b (code_of Rdi) h

  pub registers-left : (rep moves : Bool) (a : List V) (b : List U) (p : V × V) (q : U × U) → Both R a b → PairStands R p q → Both R (count_left s rep (pointers_left s moves a p)) (count_left n rep (pointers_left n moves b q))
  registers-left true moves a b p q h k = set_both R _ _ (laws.num Q 0) _ _ (code_of Rcx) (pointers-stand moves a b p q h k)
  registers-left false moves a b p q h k = pointers-stand moves a b p q h k

  module _ (moves : Bool) (w : Width) (a : V) (b : U) where
    abbrev first : StringStep V
    first = record { moves = moves; width = w; word = a }

    abbrev second : StringStep U
    second = record { moves = moves; width = w; word = b }

    on-stands : (x : V) (y : U) → R x y → R (next_address s first x) (next_address n second y)
    on-stands x y h = laws.sum (Some x) (Some y) None None (pos (byte_count w)) h tt

    target-stands : (y : V) (y' : U) → R y y' → ResultStands (Reached spare (byte_count w)) (target_place s first y) (target_place n second y')
    target-stands y y' h = places-reached spare (byte_count w) _ _ (laws.place y y' (byte_count w) Write (some_bytes w) h) (miss y (byte_count w) Write)

    source-stands : (t : Bool) (x : V) (x' : U) (y : V) (y' : U) → R x x' → R y y'
        → ResultStands (Reached spare (byte_count w)) (cond t (s.place x (byte_count w) Read) (target_place s first y)) (cond t (n.place x' (byte_count w) Read) (target_place n second y'))
    source-stands true x x' y y' h k = places-reached spare (byte_count w) _ _ (laws.place x x' (byte_count w) Read (some_bytes w) h) (miss x (byte_count w) Read)
    source-stands false x x' y y' h k = target-stands y y' k

    places-stand : (x : V) (x' : U) (y : V) (y' : U) → R x x' → R y y' → ResultStands (BothReached (byte_count w)) (element_places s first x y) (element_places n second x' y')
    places-stand x x' y y' h k = from_and_to-stands (byte_count w) _ _ _ _ (source-stands moves x x' y y' h k) (target-stands y y' k)

    pub permitted-stand : (k : ℕ) (x : V) (x' : U) (y : V) (y' : U) → R x x' → R y y'
        → ResultStands (PairStands R) (elements_permitted s (record { moves = moves; width = w; word = a }) k x y) (elements_permitted n (record { moves = moves; width = w; word = b }) k x' y')
    permitted-stand zero x x' y y' h k = (h, k)
    permitted-stand (suc i) x x' y y' h k =
        then_others-stands (PairStands R) (byte_count w) _ _ _ _ (places-stand x x' y y' h k)
        (permitted-stand i _ _ _ _ (on-stands x x' h) (on-stands y y' k))

    bytes-by : (t : Bool) (m : List (List E)) (o : List (List F)) → RowsStand Byte spare m o → R a b → (p : Place) → Misses spare p (byte_count w)
        → Both Byte (cond t (range_at m p (byte_count w)) (bytes_from s (byte_count w) 0 a)) (cond t (range_at o p (byte_count w)) (bytes_from n (byte_count w) 0 b))
    bytes-by true m o rows h p e = range-stands Byte spare m o rows p (byte_count w) e
    bytes-by false m o rows h p e = bytes-stand R Byte s n laws (byte_count w) 0 a b h

    few-bytes : (t : Bool) (o : List (List F)) (p : Place) → length (cond t (range_at o p (byte_count w)) (bytes_from n (byte_count w) 0 b)) ≤ byte_count w
    few-bytes true o p = let e = length-take (byte_count w) (drop p.offset (slice_index_or o p.region [])) in omega (arith, e)
    few-bytes false o p = let e = bytes-counted n (byte_count w) 0 b in omega (arith, e)

    -- where the elements are permitted, the first is, and the others are
    one-written : {X : Type 0} (m : List (List E)) (o : List (List F)) → RowsStand Byte spare m o → R a b → (p q : Result (Place × Place) Cause) → ResultStands (BothReached (byte_count w)) p q
        → (others : Result X Cause) (x : X) → then_others s p others ≡ Ok x → RowsStand Byte spare (element_written s first m p) (element_written n second o q) × (others ≡ Ok x)
    one-written m o rows h (Err e) q k others x done = cc
    one-written m o rows h (Ok p) (Err e) k others x done = absurd k
    one-written m o rows h (Ok p) (Ok q) k others x done = (
      subst (λ z. RowsStand Byte spare (element_written s first m (Ok p)) (element_written n second o (Ok z))) k.0
          (written-stands Byte spare m o rows p.1 _ _ (bytes-by moves m o rows h p.0 k.1)
          (misses-less spare p.1 (byte_count w) _ (few-bytes moves o p.0) k.2)),
      done,
    )

    pub written-stand : R a b → (k : ℕ) (m : List (List E)) (o : List (List F)) → RowsStand Byte spare m o → (x : V) (x' : U) (y : V) (y' : U) → R x x' → R y y'
        → (p : V × V) → elements_permitted s (record { moves = moves; width = w; word = a }) k x y ≡ Ok p
        → RowsStand Byte spare (elements_written s (record { moves = moves; width = w; word = a }) k m x y) (elements_written n (record { moves = moves; width = w; word = b }) k o x' y')
    written-stand r zero m o rows x x' y y' h k p done = rows
    written-stand r (suc i) m o rows x x' y y' h k p done =
        let one = one-written m o rows r (element_places s first x y) (element_places n second x' y') (places-stand x x' y y' h k)
        (elements_permitted s first i (next_address s first x) (next_address s first y)) p done in
        written-stand r i _ _ one.0 _ _ _ _ (on-stands x x' h) (on-stands y y' k) p one.1
