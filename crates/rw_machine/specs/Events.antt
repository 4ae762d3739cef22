-- What a machine asks of its surroundings, and what it is answered.
use Rattle.std.specs.Prelude.{ℕ, List, [], ◌∷◌, Option, Some, None, Result, Ok, Err, ◌==◌, ◌||◌, if◌then◌else◌}
use Rattle.rw_base.specs.declared.width.Width.TheVariants.{B, Q}
use Rattle.x86_insn.specs.declared.kinds.Reg.{Reg}
use Rattle.x86_insn.specs.declared.kinds.Reg.TheVariants.{Rax, Rcx, Rdx, Rsi, Rdi, R8, R9, R10, R11}
use Rattle.rw_domain.specs.declared.cause.Cause.{Cause}
use Rattle.rw_domain.specs.declared.cause.Cause.TheVariants.{ByteUnknown, NumberUnknown}
use Rattle.rw_domain.specs.declared.place.Access.TheVariants.{Read}
use Rattle.rw_domain.specs.declared.place.Place.{Place}
use Rattle.rw_domain.specs.declared.place.Region.{Region}
use Rattle.rw_domain.specs.Operators.{Operators}
use Rattle.rw_machine.specs.declared.ending.End.{End}
use Rattle.rw_machine.specs.Running.{register, range_at}

-- a system call by its number, or a call of an imported symbol by its number
pub data Call : Type 0 where
  System : (number : ℕ) → Call
  Import : (symbol : ℕ) → Call

-- a call with its six words; for a write to descriptor 1 or 2 also the range of its bytes, where that isn't empty, and
-- these bytes
pub record Event (V : Type 0) : Type 0 where
  pub call : Call
  pub words : List V
  pub range : Option (Place × ℕ)
  pub bytes : List ℕ

-- an answer: the result, the words of the registers that are lost, bytes that are written, a fresh region with its
-- base, and the end, if the run ends
pub record Reply (V C : Type 0) : Type 0 where
  pub result : V
  pub scratch : List V
  pub writes : List (Place × List C)
  pub fresh : Option (Region × ℕ)
  pub ending : Option End

-- the registers that a system call loses, and those that a function may lose and doesn't answer in (System V AMD64 psABI,
-- A.2.1 and 3.2.1)
abbrev pub lost_to_system : List Reg
lost_to_system = Rcx ∷ R11 ∷ []

abbrev pub lost_to_import : List Reg
lost_to_import = Rcx ∷ Rdx ∷ Rsi ∷ Rdi ∷ R8 ∷ R9 ∷ R10 ∷ R11 ∷ []

abbrev pub if_known : {A T : Type 0} → (A → Result T Cause) → Cause → Option A → Result T Cause
if_known f c None = Err c
if_known f c (Some a) = f a

abbrev pub if_ok : {A T : Type 0} → (A → Result T Cause) → Result A Cause → Result T Cause
if_ok f (Err c) = Err c
if_ok f (Ok a) = f a

abbrev pub option_cons : {T : Type 0} → Option T → Option (List T) → Option (List T)
option_cons None o = None
option_cons (Some x) None = None
option_cons (Some x) (Some xs) = Some (x ∷ xs)

module _ {V C : Type 0} (ops : Operators V C) where
  -- the numbers of bytes, where each is one
  abbrev pub known_bytes : List C → Option (List ℕ)
  known_bytes [] = Some []
  known_bytes (c ∷ cs) = option_cons (ops.number B (ops.join B (c ∷ []))) (known_bytes cs)

  module _ (registers : List V) (memory : List (List C)) where
    abbrev pub six_words : List V
    six_words =
        register ops registers Rdi ∷ register ops registers Rsi ∷ register ops registers Rdx
        ∷ register ops registers R10 ∷ register ops registers R8 ∷ register ops registers R9 ∷ []

    -- the first six arguments of a function (System V AMD64 psABI, 3.2.3)
    abbrev pub six_arguments : List V
    six_arguments =
        register ops registers Rdi ∷ register ops registers Rsi ∷ register ops registers Rdx
        ∷ register ops registers Rcx ∷ register ops registers R8 ∷ register ops registers R9 ∷ []

    abbrev pub import_event : ℕ → Event V
    import_event symbol = record { call = Import symbol; words = six_arguments; range = None; bytes = [] }

    abbrev pub plain_event : ℕ → Event V
    plain_event n = record { call = System n; words = six_words; range = None; bytes = [] }

    abbrev pub event_at : ℕ → Place → Result (Event V) Cause
    event_at len p =
        if_known (λ bytes. Ok (record { call = System 1; words = six_words; range = Some (p, len); bytes = bytes })) ByteUnknown
        (known_bytes (range_at memory p len))

    abbrev pub event_of_length : ℕ → Result (Event V) Cause
    event_of_length len =
        if len == 0 then Ok (plain_event 1) else if_ok (event_at len) (ops.place (register ops registers Rsi) len Read)

    -- a write to a descriptor
    abbrev pub event_of_write : ℕ → Result (Event V) Cause
    event_of_write descriptor =
        if descriptor == 1 || descriptor == 2
        then if_known event_of_length NumberUnknown (ops.number Q (register ops registers Rdx))
        else Ok (plain_event 1)

    abbrev pub event_of_number : ℕ → Result (Event V) Cause
    event_of_number n =
        if n == 1 then if_known event_of_write NumberUnknown (ops.number Q (register ops registers Rdi)) else Ok (plain_event n)

    -- the event of a system call, whose number is in rax
    abbrev pub system_event : Result (Event V) Cause
    system_event = if_known event_of_number NumberUnknown (ops.number Q (register ops registers Rax))
