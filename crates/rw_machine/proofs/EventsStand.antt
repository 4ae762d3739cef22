-- Events stand, and what a machine needs for them.
use Rattle.std.proofs.Common.{arith, ◌≡◌, ℕ, zero, suc, List, [], ◌∷◌, Option, Some, None, Result, Ok, Err, Bool, true, false, cond, ◌==◌, ◌||◌, refl, sym, subst}
use Rattle.rw_base.specs.declared.width.Width.TheVariants.{B, Q}
use Rattle.x86_insn.specs.declared.kinds.Reg.TheVariants.{Rax, Rcx, Rdx, Rsi, Rdi, R8, R9, R10}
use Rattle.rw_domain.specs.declared.cause.Cause.{Cause}
use Rattle.rw_domain.specs.declared.cause.Cause.TheVariants.{ByteUnknown, NumberUnknown}
use Rattle.rw_domain.specs.declared.place.Place.{Place}
use Rattle.rw_domain.specs.declared.place.Access.TheVariants.{Read}
use Rattle.rw_domain.specs.Operators.{Operators}
use Rattle.rw_domain.specs.Stands.{Both, KnownStands, ResultStands, OperatorsStand}
use Rattle.rw_machine.specs.Running.{register}
use Rattle.rw_machine.specs.Events.{if_known, if_ok, option_cons, known_bytes, six_words, six_arguments, import_event, plain_event, event_at, event_of_length, event_of_write, event_of_number, system_event}
use Rattle.rw_machine.specs.Stands.{Spare, Misses, PlacesMiss, RowsStand, EventStands}
use Rattle.rw_machine.proofs.Spare.{places-reached, range-stands}
use Rattle.rw_machine.proofs.Parts.{register-stands}

-- a known number is needed
known-needed : {A X Y : Type 0} (G : X → Y → Type 0) (f : A → Result X Cause) (g : A → Result Y Cause) (c : Cause) → ((a : A) → ResultStands G (f a) (g a)) → (a b : Option A) → KnownStands a b → ResultStands G (if_known f c a) (if_known g c b)
known-needed G f g c each None b h = tt
known-needed G f g c each (Some a) b h = subst (λ z. ResultStands G (f a) (if_known g c z)) (sym h) (each a)

if_ok-stands : {A X Y : Type 0} (G : X → Y → Type 0) (M : A → Type 0) (f : A → Result X Cause) (g : A → Result Y Cause) → ((a : A) → M a → ResultStands G (f a) (g a)) → (a b : Result A Cause) → ResultStands (λ u v. (u ≡ v) × M u) a b → ResultStands G (if_ok f a) (if_ok g b)
if_ok-stands G M f g each (Err c) b h = tt
if_ok-stands G M f g each (Ok a) (Err d) h = absurd h
if_ok-stands G M f g each (Ok a) (Ok b) h = subst (λ z. ResultStands G (f a) (g z)) h.0 (each a h.1)

cons-stands : {T : Type 0} (a b : Option T) (x y : Option (List T)) → KnownStands a b → KnownStands x y → KnownStands (option_cons a x) (option_cons b y)
cons-stands None b x y h k = tt
cons-stands (Some a) b None y h k = tt
cons-stands (Some a) b (Some x) y h k = rw (h, k) refl

chosen-answer : {X Y : Type 0} (G : X → Y → Type 0) (t : Bool) (a b : Result X Cause) (c d : Result Y Cause) → ResultStands G a c → ResultStands G b d → ResultStands G (cond t a b) (cond t c d)
chosen-answer G true a b c d h k = h
chosen-answer G false a b c d h k = k

module _ {V U E F : Type 0} (R : V → U → Type 0) (Byte : E → F → Type 0) (s : Operators V E) (n : Operators U F) (laws : OperatorsStand R Byte s n) (spare : Spare F) (miss : PlacesMiss spare s) (Named : ℕ → ℕ → Type 0) where
  known_bytes-stand : (xs : List E) (ys : List F) → Both Byte xs ys → KnownStands (known_bytes s xs) (known_bytes n ys)
  known_bytes-stand [] [] h = refl
  known_bytes-stand [] (y ∷ ys) h = absurd h
  known_bytes-stand (x ∷ xs) [] h = absurd h
  known_bytes-stand (x ∷ xs) (y ∷ ys) h =
      cons-stands _ _ _ _ (laws.number B _ _ (laws.join B (x ∷ []) (y ∷ []) (h.0, tt))) (known_bytes-stand xs ys h.1)

  module _ (a : List V) (b : List U) (words : Both R a b) (x : List (List E)) (y : List (List F)) (rows : RowsStand Byte spare x y) where
    six-stand : Both R (six_words s a x) (six_words n b y)
    six-stand = (
      register-stands R Byte s n laws a b words Rdi,
      (
        register-stands R Byte s n laws a b words Rsi,
        (
          register-stands R Byte s n laws a b words Rdx,
          (register-stands R Byte s n laws a b words R10, (register-stands R Byte s n laws a b words R8, (register-stands R Byte s n laws a b words R9, tt))),
        ),
      ),
    )

    arguments-stand : Both R (six_arguments s a x) (six_arguments n b y)
    arguments-stand = (
      register-stands R Byte s n laws a b words Rdi,
      (
        register-stands R Byte s n laws a b words Rsi,
        (
          register-stands R Byte s n laws a b words Rdx,
          (register-stands R Byte s n laws a b words Rcx, (register-stands R Byte s n laws a b words R8, (register-stands R Byte s n laws a b words R9, tt))),
        ),
      ),
    )

    pub import-event-stands : (k j : ℕ) → Named k j → EventStands R Named (import_event s a x k) (import_event n b y j)
    import-event-stands k j named = record { call = named; words = arguments-stand; range = refl; bytes = refl }

    plain-stands : (k : ℕ) → EventStands R Named (plain_event s a x k) (plain_event n b y k)
    plain-stands k = record { call = refl; words = six-stand; range = refl; bytes = refl }

    at-stands : (len : ℕ) (p : Place) → Misses spare p len → ResultStands (EventStands R Named) (event_at s a x len p) (event_at n b y len p)
    at-stands len p e =
        known-needed (EventStands R Named) _ _ ByteUnknown (λ bytes. record { call = refl; words = six-stand; range = refl; bytes = refl })
        _ _ (known_bytes-stand _ _ (range-stands Byte spare x y rows p len e))

    length-by : (t : Bool) (len : ℕ) → (len == 0) ≡ t
        → ResultStands (EventStands R Named) (cond t (Ok (plain_event s a x 1)) (if_ok (event_at s a x len) (s.place (register s a Rsi) len Read))) (cond t (Ok (plain_event n b y 1)) (if_ok (event_at n b y len) (n.place (register n b Rsi) len Read)))
    length-by true len e = plain-stands 1
    length-by false zero e = cc
    length-by false (suc len) e =
        if_ok-stands (EventStands R Named) (λ p. Misses spare p (suc len)) _ _ (at-stands (suc len)) _ _
        (places-reached spare (suc len) _ _ (laws.place _ _ (suc len) Read (omega arith) (register-stands R Byte s n laws a b words Rsi)) (miss (register s a Rsi) (suc len) Read))

    length-stands : (len : ℕ) → ResultStands (EventStands R Named) (event_of_length s a x len) (event_of_length n b y len)
    length-stands len = length-by (len == 0) len refl

    write-stands : (d : ℕ) → ResultStands (EventStands R Named) (event_of_write s a x d) (event_of_write n b y d)
    write-stands d =
        chosen-answer (EventStands R Named) (d == 1 || d == 2) _ _ _ _
        (known-needed (EventStands R Named) _ _ NumberUnknown length-stands _ _ (laws.number Q _ _ (register-stands R Byte s n laws a b words Rdx)))
        (plain-stands 1)

    number-stands : (k : ℕ) → ResultStands (EventStands R Named) (event_of_number s a x k) (event_of_number n b y k)
    number-stands k =
        chosen-answer (EventStands R Named) (k == 1) _ _ _ _
        (known-needed (EventStands R Named) _ _ NumberUnknown write-stands _ _ (laws.number Q _ _ (register-stands R Byte s n laws a b words Rdi)))
        (plain-stands k)

    pub event-stands : ResultStands (EventStands R Named) (system_event s a x) (system_event n b y)
    event-stands = known-needed (EventStands R Named) _ _ NumberUnknown number-stands _ _ (laws.number Q _ _ (register-stands R Byte s n laws a b words Rax))
