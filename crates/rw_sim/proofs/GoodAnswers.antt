-- What a built-in answer keeps to: its result is a word of width Q, its writes are in ranges that are permitted, its region has
-- a byte at least, and its end is a byte.
use Rattle.std.proofs.Common.{◌≡◌, ◌≤◌, ◌+◌, ◌*◌, ◌%◌, ◌^◌, ℕ, refl, subst, arith, lit<, Bool, true, false, List, [], length, replicate, drop, get_or, length-take, Option, Some, None, Result, Ok, Err}
use Rattle.std.proofs.lemmas.Nat.{mod_below}
use Rattle.std.specs.Prelude.{◌==◌, ◌||◌, min, max, nat_le, All, IfOk, if◌then◌else◌}
use Rattle.std.specs.Option.{option_map_or}
use Rattle.std.proofs.lemmas.Bool.{leb-true, eqb-true}
use Rattle.std.proofs.lemmas.List.{length-replicate}
use Rattle.std.proofs.lemmas.List.Elements.{All-nil, All-cons}
use Rattle.rw_base.specs.declared.width.Width.TheVariants.{B, Q}
use Rattle.rw_domain.specs.declared.cause.Cause.{Cause}
use Rattle.rw_domain.specs.declared.cause.Cause.TheVariants.{Import}
use Rattle.rw_domain.specs.declared.place.Access.TheVariants.{Read, Write}
use Rattle.rw_domain.specs.declared.place.Place.{Place}
use Rattle.rw_domain.specs.Operators.{Operators}
use Rattle.rw_machine.specs.Events.{if_ok}
use Rattle.rw_code.specs.Replies.{IsEnd}
use Rattle.rw_sim.specs.declared.builtin.Builtin.{Builtin}
use Rattle.rw_sim.specs.declared.builtin.Builtin.TheVariants as builtin
use Rattle.rw_sim.specs.Answers.{Answer, Ends, Gives, Allots, Sends, Takes, writes_of}
use Rattle.rw_sim.specs.Builtins.{parameter, number, needed_number, with_number, needed_range, with_range, needed_numbers, with_numbers, bytes_at, string_at, string_length, fresh_limit, read_limit, minus_one, bad_descriptor, no_such_call, read_answer, write_answer, exit_answer, putchar_answer, puts_answer, strlen_answer, memset_answer, memcpy_answer, fresh_answer, malloc_answer, calloc_answer, system_answer, builtin_answer, import_answer, named}

-- ---- what is so of each answer that comes

pub when_ok : {A T : Type 0} (P : T → Type 0) (r : Result A Cause) (f : A → Result T Cause) → ((a : A) → r ≡ Ok a → IfOk (f a) P) → IfOk (if_ok f r) P
when_ok P (Err c) f g = tt
when_ok P (Ok a) f g = g a refl

-- a write in a permitted range
abbrev pub AreGoodWrites : {C : Type 0} → (Place → ℕ → Type 0) → List (Place × List C) → Type 0
AreGoodWrites Permitted writes = All (λ w. Permitted w.0 (length w.1)) writes

-- a range that may have a place
abbrev pub IsGoodRange : (Place → ℕ → Type 0) → Option Place → ℕ → Type 0
IsGoodRange Permitted None len = len ≡ 0
IsGoodRange Permitted (Some p) len = Permitted p len

-- by any property of ranges and any property of words, where the fresh regions have so many bytes so far
abbrev pub IsGood : {V C : Type 0} → ℕ → (Place → ℕ → Type 0) → (V → Type 0) → Answer V C → Type 0
IsGood fresh Permitted Wide (Ends ending) = IsEnd (Some ending)
IsGood fresh Permitted Wide (Gives result writes) = Wide result × AreGoodWrites Permitted writes
IsGood fresh Permitted Wide (Allots region) = (1 ≤ region.size) × ((k : ℕ) × (region.align ≡ 2 ^ k)) × (fresh + region.size ≤ fresh_limit)
IsGood fresh Permitted Wide (Sends descriptor bytes result) = Wide result
IsGood fresh Permitted Wide (Takes limit to) = IsGoodRange Permitted to limit × (limit ≤ read_limit)

-- A place at which a write is permitted has the property, and so has one with fewer bytes; and so has the word of a number.
pub record AreKept {V C : Type 0} (ops : Operators V C) (Permitted : Place → ℕ → Type 0) (Wide : V → Type 0) : Type 0 where
  pub permitted : (a : V) (len : ℕ) (place : Place) → ops.place a len Write ≡ Ok place → Permitted place len
  pub less : (place : Place) (few len : ℕ) → few ≤ len → Permitted place len → Permitted place few
  pub numbers : (n : ℕ) → Wide (ops.num Q n)

module _ {V C : Type 0} (ops : Operators V C) (Permitted : Place → ℕ → Type 0) (Wide : V → Type 0) (kept : AreKept ops Permitted Wide) (fresh : ℕ) where
  abbrev Writes : List (Place × List C) → Type 0
  Writes writes = AreGoodWrites Permitted writes

  abbrev Range : Option Place → ℕ → Type 0
  Range to len = IsGoodRange Permitted to len

  abbrev Good : Answer V C → Type 0
  Good answer = IsGood fresh Permitted Wide answer

  range-good : (a : V) (len : ℕ) (to : Option Place) → needed_range ops a len Write ≡ Ok to → Range to len
  range-good a len to e = by (len == 0) refl e
    where
      placed : (r : Result Place Cause) → ops.place a len Write ≡ r → if_ok (λ p. Ok (Some p)) r ≡ Ok to → Range to len
      placed (Err c) is e = cc
      placed (Ok p) is e = subst (λ t. Range t len) (let same : Some p ≡ to = cc in same) (kept.permitted a len p is)

      by : (t : Bool) → (len == 0) ≡ t → (if t then Ok None else if_ok (λ p. Ok (Some p)) (ops.place a len Write)) ≡ Ok to → Range to len
      by true none e = subst (λ t. Range t len) (let same : None ≡ to = cc in same) (eqb-true len 0 none)
      by false some e = placed (ops.place a len Write) refl e

  pub writes-good : (to : Option Place) (len : ℕ) (bytes : List C) → length bytes ≤ len → Range to len → Writes (writes_of to bytes)
  writes-good None len bytes le good = All-nil (λ w. Permitted w.0 (length w.1))
  writes-good (Some p) len bytes le good = All-cons (λ w. Permitted w.0 (length w.1)) (p, bytes) [] (kept.less p (length bytes) len le good) (All-nil (λ w. Permitted w.0 (length w.1)))

  gives-number : (n : ℕ) → Good (Gives (number ops n) [])
  gives-number n = (kept.numbers n, All-nil (λ w. Permitted w.0 (length w.1)))

  range-short : (memory : List (List C)) (from : Option Place) (len : ℕ) → length (bytes_at ops memory from len) ≤ len
  range-short memory None len = omega arith
  range-short memory (Some p) len = let e = length-take len (drop p.offset (get_or memory p.region [])) in omega (arith, e)

  module _ (memory : List (List C)) (words : List V) (first : Wide (parameter ops words 0)) where
    read-good : (other : ℕ) → IfOk (read_answer ops memory words other) Good
    read-good other =
        when_ok Good (needed_number ops (parameter ops words 0)) _ (λ descriptor _. by (descriptor == 0))
      where
        by : (t : Bool) → IfOk (if t then with_number ops (parameter ops words 2) (λ count. with_range ops (parameter ops words 1) (min count read_limit) Write (λ to. Ok (Takes (min count read_limit) to))) else Ok (Gives (number ops other) [])) Good
        by true =
            when_ok Good (needed_number ops (parameter ops words 2)) _ (λ count _.
            when_ok Good (needed_range ops (parameter ops words 1) (min count read_limit) Write) _ (λ to is.
            (range-good (parameter ops words 1) (min count read_limit) to is, omega arith)))
        by false = gives-number other

    write-good : (other : ℕ) → IfOk (write_answer ops memory words other) Good
    write-good other =
        when_ok Good (needed_number ops (parameter ops words 0)) _ (λ descriptor _. by descriptor (descriptor == 1 || descriptor == 2))
      where
        by : (descriptor : ℕ) (t : Bool) → IfOk (if t then with_number ops (parameter ops words 2) (λ count. with_range ops (parameter ops words 1) count Read (λ from. with_numbers ops (bytes_at ops memory from count) (λ bytes. Ok (Sends descriptor bytes (number ops count))))) else Ok (Gives (number ops other) [])) Good
        by descriptor true =
            when_ok Good (needed_number ops (parameter ops words 2)) _ (λ count _.
            when_ok Good (needed_range ops (parameter ops words 1) count Read) _ (λ from _.
            when_ok Good (needed_numbers ops (bytes_at ops memory from count)) _ (λ bytes _.
            kept.numbers count)))
        by descriptor false = gives-number other

    exit-good : IfOk (exit_answer ops memory words) Good
    exit-good = when_ok Good (needed_number ops (parameter ops words 0)) _ (λ status _. mod_below status 256 (lit< tt))

    putchar-good : IfOk (putchar_answer ops memory words) Good
    putchar-good = when_ok Good (needed_number ops (parameter ops words 0)) _ (λ c _. kept.numbers (c % 256))

    puts-good : IfOk (puts_answer ops memory words) Good
    puts-good = when_ok Good (string_at ops memory (parameter ops words 0)) _ (λ s _. kept.numbers (length s + 1))

    strlen-good : IfOk (strlen_answer ops memory words) Good
    strlen-good = when_ok Good (string_length ops memory (parameter ops words 0)) _ (λ n _. gives-number n)

    memset-good : IfOk (memset_answer ops memory words) Good
    memset-good =
        when_ok Good (needed_number ops (parameter ops words 1)) _ (λ c _.
        when_ok Good (needed_number ops (parameter ops words 2)) _ (λ count _.
        when_ok Good (needed_range ops (parameter ops words 0) count Write) _ (λ to is.
        (first, writes-good to count (replicate count (ops.split (ops.num B (c % 256)) 0)) (let e = length-replicate count (ops.split (ops.num B (c % 256)) 0) in omega (arith, e)) (range-good (parameter ops words 0) count to is)))))

    memcpy-good : IfOk (memcpy_answer ops memory words) Good
    memcpy-good =
        when_ok Good (needed_number ops (parameter ops words 2)) _ (λ count _.
        when_ok Good (needed_range ops (parameter ops words 0) count Write) _ (λ to is.
        when_ok Good (needed_range ops (parameter ops words 1) count Read) _ (λ from _.
        (first, writes-good to count (bytes_at ops memory from count) (range-short memory from count) (range-good (parameter ops words 0) count to is)))))

    fresh-good : (zeros : Bool) (size : ℕ) → IfOk (fresh_answer ops memory words fresh zeros size) Good
    fresh-good zeros size = by (nat_le (fresh + max size 1) fresh_limit) refl
      where
        by : (t : Bool) → nat_le (fresh + max size 1) fresh_limit ≡ t → IfOk {E = Cause} (if t then Ok (Allots (record { size = max size 1; align = 16; writable = true; zero = zeros })) else Ok (Gives (number ops 0) [])) Good
        by true fits = let f = leb-true (fresh + max size 1) fresh_limit fits in (omega arith, (4, refl), omega (arith, f))
        by false _ = gives-number 0

    malloc-good : IfOk (malloc_answer ops memory words fresh) Good
    malloc-good = when_ok Good (needed_number ops (parameter ops words 0)) _ (λ size _. fresh-good false size)

    calloc-good : IfOk (calloc_answer ops memory words fresh) Good
    calloc-good =
        when_ok Good (needed_number ops (parameter ops words 0)) _ (λ count _.
        when_ok Good (needed_number ops (parameter ops words 1)) _ (λ size _.
        fresh-good true (count * size)))

    pub system-good : (call : ℕ) → IfOk (system_answer ops memory words call) Good
    unfolding system_answer
    system-good call = by (call == 0) (call == 1) (call == 60 || call == 231)
      where
        by : (a b c : Bool) → IfOk (if a then read_answer ops memory words bad_descriptor else if b then write_answer ops memory words bad_descriptor else if c then exit_answer ops memory words else Ok (Gives (number ops no_such_call) [])) Good
        by true b c = read-good bad_descriptor
        by false true c = write-good bad_descriptor
        by false false true = exit-good
        by false false false = gives-number no_such_call

    builtin-good : (b : Builtin) → IfOk (builtin_answer ops memory words fresh b) Good
    unfolding builtin_answer
    builtin-good builtin.Puts = puts-good
    builtin-good builtin.Putchar = putchar-good
    builtin-good builtin.Write = write-good minus_one
    builtin-good builtin.Read = read-good minus_one
    builtin-good builtin.Exit = exit-good
    builtin-good builtin.Abort = tt
    builtin-good builtin.Malloc = malloc-good
    builtin-good builtin.Calloc = calloc-good
    builtin-good builtin.Free = gives-number 0
    builtin-good builtin.Memcpy = memcpy-good
    builtin-good builtin.Memset = memset-good
    builtin-good builtin.Strlen = strlen-good

    pub import-good : (symbol : ℕ) (name : List ℕ) → IfOk (import_answer ops memory words fresh symbol name) Good
    unfolding import_answer
    import-good symbol name = by (named name)
      where
        by : (o : Option Builtin) → IfOk (option_map_or (builtin_answer ops memory words fresh) o (Err (Import symbol))) Good
        by None = tt
        by (Some b) = builtin-good b
