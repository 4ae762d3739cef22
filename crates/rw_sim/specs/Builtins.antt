-- The built-in answers to system calls and to imported functions, over any domain.
--
-- An answer looks first at the numbers that it needs, then at its ranges, then at the bytes that it reads, each in the order
-- of its parameters, and the first that isn't there stops the step. `puts` and `strlen` look at one byte after another, at
-- each first at its address and then at its value.
use Rattle.std.specs.Prelude.{ℕ, pos, zero, suc, ◌+◌, ◌-◌, ◌*◌, ◌%◌, ◌^◌, ◌==◌, ◌||◌, nat_le, min, max, if◌then◌else◌, List, [], ◌∷◌, ◌++◌, length, replicate, find, codes, bytes_eq, Bool, true, false, Option, Some, None, option_map, Result, Ok, Err, slice_index_or}
use Rattle.std.specs.Option.{option_map_or, option_and_then}
use Rattle.rw_base.specs.declared.width.Width.TheVariants.{B, Q}
use Rattle.rw_domain.specs.declared.cause.Cause.{Cause}
use Rattle.rw_domain.specs.declared.cause.Cause.TheVariants.{AddressOutside, ByteUnknown, NumberUnknown, Import}
use Rattle.rw_domain.specs.declared.place.Access.{Access}
use Rattle.rw_domain.specs.declared.place.Access.TheVariants.{Read, Write}
use Rattle.rw_domain.specs.declared.place.Place.{Place}
use Rattle.rw_domain.specs.Operators.{Operators}
use Rattle.rw_machine.specs.declared.ending.End.TheVariants.{Exited, Aborted}
use Rattle.rw_machine.specs.Events.{if_known, if_ok, option_cons}
use Rattle.rw_machine.specs.Running.{range_at, written_at, bytes_from}
use Rattle.rw_machine.specs.Rows.{byte_at}
use Rattle.rw_sim.specs.declared.builtin.Builtin.{Builtin}
use Rattle.rw_sim.specs.declared.builtin.Builtin.TheVariants as builtin
use Rattle.rw_sim.specs.Answers.{Answer, Ends, Gives, Allots, Sends, Takes, writes_of}

-- the functions that have an answer, by their names
abbrev pub names : List (List ℕ × Builtin)
names =
    (codes "puts", builtin.Puts) ∷ (codes "putchar", builtin.Putchar) ∷ (codes "write", builtin.Write) ∷ (codes "read", builtin.Read)
    ∷ (codes "exit", builtin.Exit) ∷ (codes "abort", builtin.Abort) ∷ (codes "__stack_chk_fail", builtin.Abort)
    ∷ (codes "malloc", builtin.Malloc) ∷ (codes "calloc", builtin.Calloc) ∷ (codes "free", builtin.Free)
    ∷ (codes "memcpy", builtin.Memcpy) ∷ (codes "memmove", builtin.Memcpy) ∷ (codes "memset", builtin.Memset)
    ∷ (codes "strlen", builtin.Strlen) ∷ []

unfoldable pub named : List ℕ → Option Builtin
named name = option_map (λ entry. entry.1) (find (λ entry. bytes_eq name entry.0) names)

-- a string has fewer bytes than there are addresses
abbrev pub longest : ℕ
longest = 2 ^ 64 - 1

-- one read takes at most so many bytes
abbrev pub read_limit : ℕ
read_limit = 65536

-- all fresh regions of a run together have at most so many bytes
abbrev pub fresh_limit : ℕ
fresh_limit = 67108864

-- the numbers that Linux gives to errors, as results: EBADF for a descriptor that the call doesn't take
abbrev pub bad_descriptor : ℕ
bad_descriptor = 2 ^ 64 - 9

-- and ENOSYS for a call that isn't there
abbrev pub no_such_call : ℕ
no_such_call = 2 ^ 64 - 38

-- what `read` and `write` of the C library give for such a descriptor
abbrev pub minus_one : ℕ
minus_one = 2 ^ 64 - 1

-- What is asked: the words of the call, of which the first three are parameters, and memory as the call finds it. For an
-- import that is called, the word to which it returns is already stored there. `fresh` is how many bytes the fresh regions
-- of the run have together so far.
module _ {V C : Type 0} (ops : Operators V C) where
  -- a word of the call; one that isn't there is undefined
  abbrev pub parameter : List V → ℕ → V
  parameter words k = slice_index_or words k (ops.undef Q)

  -- the number that a word has to be
  abbrev pub needed_number : V → Result ℕ Cause
  needed_number word = if_known Ok NumberUnknown (ops.number Q word)

  -- with the number of a word, if it has one, what comes then; and so with ranges and with the numbers of bytes
  abbrev pub with_number : {T : Type 0} → V → (ℕ → Result T Cause) → Result T Cause
  with_number word rest = if_ok rest (needed_number word)

  -- the place of a range that has to be permitted; one of no bytes is, and has no place
  abbrev pub needed_range : V → ℕ → Access → Result (Option Place) Cause
  needed_range start len access = if len == 0 then Ok None else if_ok (λ p. Ok (Some p)) (ops.place start len access)

  abbrev pub with_range : {T : Type 0} → V → ℕ → Access → (Option Place → Result T Cause) → Result T Cause
  with_range start len access rest = if_ok rest (needed_range start len access)

  -- the number of a byte, which is below 256
  abbrev pub byte_number : C → Option ℕ
  byte_number c = option_map (λ n. n % 256) (ops.number B (ops.join B (c ∷ [])))

  abbrev pub byte_numbers : List C → Option (List ℕ)
  byte_numbers [] = Some []
  byte_numbers (c ∷ cs) = option_cons (byte_number c) (byte_numbers cs)

  -- the numbers that bytes have to be
  abbrev pub needed_numbers : List C → Result (List ℕ) Cause
  needed_numbers bytes = if_known Ok ByteUnknown (byte_numbers bytes)

  abbrev pub with_numbers : {T : Type 0} → List C → (List ℕ → Result T Cause) → Result T Cause
  with_numbers bytes rest = if_ok rest (needed_numbers bytes)

  -- memory with the word to which a call returns, at its place, where the call has stored one
  abbrev pub call_memory : List (List C) → Option (Place × V) → List (List C)
  call_memory memory None = memory
  call_memory memory (Some s) = written_at memory s.0 (bytes_from ops 8 0 s.1)

  -- the bytes of a range, which has a place if it has a byte
  abbrev pub bytes_at : List (List C) → Option Place → ℕ → List C
  bytes_at memory None len = []
  bytes_at memory (Some p) len = range_at memory p len

  -- the number of the byte at an address: first the address counts, then the byte
  abbrev pub byte_at_address : List (List C) → V → Result ℕ Cause
  byte_at_address memory at = if_ok (λ p. if_known Ok ByteUnknown (option_and_then byte_number (byte_at memory p))) (ops.place at 1 Read)

  -- the bytes from an address on up to a zero byte, which is one of so many bytes
  unfoldable pub string_within : List (List C) → ℕ → V → Result (List ℕ) Cause
  string_within memory zero at = Err AddressOutside
  string_within memory (suc n) at =
      if_ok
      (λ b. if b == 0 then Ok [] else if_ok (λ bs. Ok (b ∷ bs)) (string_within memory n (ops.sum (Some at) None (pos 1))))
      (byte_at_address memory at)

  -- the bytes of a string, and how many they are
  unfoldable pub string_at : List (List C) → V → Result (List ℕ) Cause
  string_at memory at = string_within memory longest at

  abbrev pub string_length : List (List C) → V → Result ℕ Cause
  string_length memory at = if_ok (λ s. Ok (length s)) (string_at memory at)

  -- a number as a word of width Q
  abbrev pub number : ℕ → V
  number n = ops.num Q n

  module _ (memory : List (List C)) (words : List V) where
    -- read(descriptor, to, count), with the result for another descriptor than 0
    abbrev pub read_answer : ℕ → Result (Answer V C) Cause
    read_answer other =
        with_number (parameter words 0) (λ descriptor.
        if descriptor == 0
        then
        with_number (parameter words 2) (λ count.
        with_range (parameter words 1) (min count read_limit) Write (λ to.
        Ok (Takes (min count read_limit) to)))
        else Ok (Gives (number other) []))

    -- write(descriptor, from, count), with the result for another descriptor than 1 and 2
    abbrev pub write_answer : ℕ → Result (Answer V C) Cause
    write_answer other =
        with_number (parameter words 0) (λ descriptor.
        if descriptor == 1 || descriptor == 2
        then
        with_number (parameter words 2) (λ count.
        with_range (parameter words 1) count Read (λ from.
        with_numbers (bytes_at memory from count) (λ bytes.
        Ok (Sends descriptor bytes (number count)))))
        else Ok (Gives (number other) []))

    -- exit(status)
    abbrev pub exit_answer : Result (Answer V C) Cause
    exit_answer = with_number (parameter words 0) (λ status. Ok (Ends (Exited (status % 256))))

    -- putchar(c)
    abbrev pub putchar_answer : Result (Answer V C) Cause
    putchar_answer = with_number (parameter words 0) (λ c. Ok (Sends 1 (c % 256 ∷ []) (number (c % 256))))

    -- puts(s): the string and a line feed
    abbrev pub puts_answer : Result (Answer V C) Cause
    puts_answer = if_ok (λ s. Ok (Sends 1 (s ++ 10 ∷ []) (number (length s + 1)))) (string_at memory (parameter words 0))

    -- strlen(s)
    abbrev pub strlen_answer : Result (Answer V C) Cause
    strlen_answer = if_ok (λ n. Ok (Gives (number n) [])) (string_length memory (parameter words 0))

    -- memset(to, c, count)
    abbrev pub memset_answer : Result (Answer V C) Cause
    memset_answer =
        with_number (parameter words 1) (λ c.
        with_number (parameter words 2) (λ count.
        with_range (parameter words 0) count Write (λ to.
        Ok (Gives (parameter words 0) (writes_of to (replicate count (ops.split (ops.num B (c % 256)) 0)))))))

    -- memcpy(to, from, count), with the bytes as they were at the start
    abbrev pub memcpy_answer : Result (Answer V C) Cause
    memcpy_answer =
        with_number (parameter words 2) (λ count.
        with_range (parameter words 0) count Write (λ to.
        with_range (parameter words 1) count Read (λ from.
        Ok (Gives (parameter words 0) (writes_of to (bytes_at memory from count))))))

    -- a fresh region of a size, and of one byte where the size is 0; the result is 0 where the limit would be passed
    abbrev pub fresh_answer : ℕ → Bool → ℕ → Result (Answer V C) Cause
    fresh_answer fresh zeros size =
        if nat_le (fresh + max size 1) fresh_limit
        then Ok (Allots (record { size = max size 1; align = 16; writable = true; zero = zeros }))
        else Ok (Gives (number 0) [])

    -- malloc(size) and calloc(count, size)
    abbrev pub malloc_answer : ℕ → Result (Answer V C) Cause
    malloc_answer fresh = with_number (parameter words 0) (fresh_answer fresh false)

    abbrev pub calloc_answer : ℕ → Result (Answer V C) Cause
    calloc_answer fresh =
        with_number (parameter words 0) (λ count.
        with_number (parameter words 1) (λ size.
        fresh_answer fresh true (count * size)))

    -- a system call, by its number in Linux for x86-64: read, write, exit and exit_group
    unfoldable pub system_answer : ℕ → Result (Answer V C) Cause
    system_answer call =
        if call == 0 then read_answer bad_descriptor
        else if call == 1 then write_answer bad_descriptor
        else if call == 60 || call == 231 then exit_answer
        else Ok (Gives (number no_such_call) [])

    unfoldable pub builtin_answer : ℕ → Builtin → Result (Answer V C) Cause
    builtin_answer fresh builtin.Puts = puts_answer
    builtin_answer fresh builtin.Putchar = putchar_answer
    builtin_answer fresh builtin.Write = write_answer minus_one
    builtin_answer fresh builtin.Read = read_answer minus_one
    builtin_answer fresh builtin.Exit = exit_answer
    builtin_answer fresh builtin.Abort = Ok (Ends Aborted)
    builtin_answer fresh builtin.Malloc = malloc_answer fresh
    builtin_answer fresh builtin.Calloc = calloc_answer fresh
    builtin_answer fresh builtin.Free = Ok (Gives (number 0) [])
    builtin_answer fresh builtin.Memcpy = memcpy_answer
    builtin_answer fresh builtin.Memset = memset_answer
    builtin_answer fresh builtin.Strlen = strlen_answer

    -- an imported function, by its name; one that has no answer stops with the number of its symbol
    unfoldable pub import_answer : ℕ → ℕ → List ℕ → Result (Answer V C) Cause
    import_answer fresh symbol name = option_map_or (builtin_answer fresh) (named name) (Err (Import symbol))
