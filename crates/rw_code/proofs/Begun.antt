-- For each start, and wherever atoms lie, there is a machine over numbers that starts so.
use Rattle.std.proofs.Common.{◌≡◌, ℕ, zero, suc, ◌+◌, ◌-◌, ◌^◌, ◌/◌, ◌<◌, ◌≤◌, List, [], ◌∷◌, ◌++◌, map, replicate, length, Bool, true, false, All, refl, lit<, arith, if◌then◌else◌}
use Rattle.std.specs.Prelude.{codes, nat_lt, sum_by}
use Rattle.std.specs.List.{list_all}
use Rattle.std.proofs.Math.Nat.{mod-lt}
use Rattle.std.proofs.lemmas.Bool.{ltb-true, and_parts}
use Rattle.std.proofs.lemmas.List.Elements.{All-head, All-tail}
use Rattle.std.proofs.lemmas.List.Sums.{sum_by-cons}
use Rattle.rw_base.specs.declared.width.Width.TheVariants.{Q}
use Rattle.rw_words.specs.declared.atom.Atom.TheVariants.{Ptr, End}
use Rattle.rw_words.specs.declared.atom.Cell.{Cell}
use Rattle.rw_words.specs.declared.atom.Cell.TheVariants.{Num, Part, Undef}
use Rattle.rw_words.specs.Addresses.{Addresses, address_of, byte_of, CellsStand}
use Rattle.rw_words.specs.Laws.{HoldBytes}
use Rattle.rw_words.specs.Words.{atom_cells, number_cells, undefined_cells}
use Rattle.rw_words.proofs.WordLemmas.{atom-stands}
use Rattle.rw_domain.proofs.WordsStand.{any-stands, fitting-stands}
use Rattle.rw_domain.specs.Placed.{Placed}
use Rattle.rw_domain.specs.Stands.{Both}
use Rattle.rw_domain.specs.RegionsLaidOut.{ByteStands}
use Rattle.rw_machine.specs.Running.{unknown_flags}
use Rattle.rw_machine.specs.Step.{Machine}
use Rattle.rw_code.specs.Ground.{Ground}
use Rattle.rw_code.specs.Start.{Start, IsStart, all_words, word_count, arguments_number, stack_number, texts_offset, first_offset, first_size, environment_offset, hosted_offset, pointers, text_cells, zero_words, pointers_row, arguments_row, own_stack, hosted_stack, stack_row, own_registers, hosted_registers}
use Rattle.rw_code.specs.Mirrors.{Begins}

-- ---- a byte for which a cell stands

abbrev byte_for : Addresses → Cell → ℕ
byte_for l (Num b) = b
byte_for l (Part a i) = byte_of (address_of l a) i
byte_for l Undef = 0

-- the numbers among cells are bytes
abbrev IsByteCell : Cell → Type 0
IsByteCell (Num b) = b < 256
IsByteCell (Part a i) = Unit {0}
IsByteCell Undef = Unit {0}

abbrev AreBytes : List Cell → Type 0
AreBytes [] = Unit {0}
AreBytes (c ∷ cells) = IsByteCell c × AreBytes cells

cell-stands : (l : Addresses) (c : Cell) → IsByteCell c → ByteStands l c (byte_for l c)
cell-stands l (Num b) h = (refl, h)
cell-stands l (Part a i) h = (refl, mod-lt (address_of l a / 256 ^ i) (lit< tt))
cell-stands l Undef h = (tt, lit< tt)

row-stands : (l : Addresses) (cells : List Cell) → AreBytes cells → Both (ByteStands l) cells (map (byte_for l) cells)
row-stands l [] h = tt
row-stands l (c ∷ cells) h = (cell-stands l c h.0, row-stands l cells h.1)

-- ---- the rows of a start

append-bytes : (xs ys : List Cell) → AreBytes xs → AreBytes ys → AreBytes (xs ++ ys)
append-bytes [] ys h k = k
append-bytes (x ∷ xs) ys h k = (h.0, append-bytes xs ys h.1 k)

replicate-bytes : (n : ℕ) (c : Cell) → IsByteCell c → AreBytes (replicate n c)
replicate-bytes zero c h = tt
replicate-bytes (suc n) c h = (h, replicate-bytes n c h)

listed-bytes : (bytes : List ℕ) → All (λ b. b < 256) bytes → AreBytes (map Num bytes)
listed-bytes [] h = tt
listed-bytes (b ∷ bytes) h = (All-head (λ b. b < 256) b bytes h, listed-bytes bytes (All-tail (λ b. b < 256) b bytes h))

tested-bytes : (bytes : List ℕ) → list_all (λ b. nat_lt b 256) bytes ≡ true → AreBytes (map Num bytes)
tested-bytes [] h = tt
tested-bytes (b ∷ bytes) h = let parts = and_parts (nat_lt b 256) _ h in (ltb-true b 256 parts.0, tested-bytes bytes parts.1)

number-bytes : (n : ℕ) → AreBytes (number_cells Q n)
number-bytes n = (low 0, (low 1, (low 2, (low 3, (low 4, (low 5, (low 6, (low 7, tt))))))))
  where
    low : (i : ℕ) → byte_of n i < 256
    low i = mod-lt (n / 256 ^ i) (lit< tt)

pointers-bytes : (region at : ℕ) (words : List (List ℕ)) → AreBytes (pointers region at words)
pointers-bytes region at [] = tt
pointers-bytes region at (word ∷ words) = (tt, (tt, (tt, (tt, (tt, (tt, (tt, (tt, pointers-bytes region (at + length word + 1) words))))))))

held-bytes : (cells : List Cell) → HoldBytes cells → AreBytes cells
held-bytes [] h = tt
held-bytes (Num b ∷ cells) h = (h.0, held-bytes cells h.1)
held-bytes (Part a i ∷ cells) h = (tt, held-bytes cells h)
held-bytes (Undef ∷ cells) h = (tt, held-bytes cells h)

texts-bytes : (words : List (List ℕ)) → All (λ word. All (λ b. (0 < b) × (b < 256)) word) words → AreBytes (text_cells words)
texts-bytes [] h = tt
texts-bytes (word ∷ words) h =
    let first : All (λ b. (0 < b) × (b < 256)) word = All-head (λ word. All (λ b. (0 < b) × (b < 256)) word) word words h in
    append-bytes (map Num word) (Num 0 ∷ text_cells words) (listed-bytes word (λ k d within. (first k d within).1))
    (lit< tt, texts-bytes words (All-tail (λ word. All (λ b. (0 < b) × (b < 256)) word) word words h))

rows-stand : (l : Addresses) (rows more : List (List Cell)) (others : List (List ℕ)) → All HoldBytes rows → Both (Both (ByteStands l)) more others → Both (Both (ByteStands l)) (rows ++ more) (map (λ row. map (byte_for l) row) rows ++ others)
rows-stand l [] more others h k = k
rows-stand l (row ∷ rows) more others h k = (row-stands l row (held-bytes row (All-head HoldBytes row rows h)), rows-stand l rows more others (All-tail HoldBytes row rows h) k)

module _ (file_ground : Ground) (start : Start) (is : IsStart start) where
  own-bytes : AreBytes (own_stack file_ground start)
  own-bytes =
      let unknown : (n : ℕ) → AreBytes (replicate n Undef) = λ n. replicate-bytes n Undef tt in
      let behind = replicate (start.stack - (first_offset start + first_size start)) Undef in
      append-bytes (replicate (first_offset start) Undef ++ number_cells Q (word_count start) ++ pointers_row file_ground start ++ zero_words 4) behind
      (append-bytes (replicate (first_offset start) Undef ++ number_cells Q (word_count start) ++ pointers_row file_ground start) (zero_words 4)
      (append-bytes (replicate (first_offset start) Undef ++ number_cells Q (word_count start)) (pointers_row file_ground start)
      (append-bytes (replicate (first_offset start) Undef) (number_cells Q (word_count start)) (unknown (first_offset start)) (number-bytes (word_count start)))
      (pointers-bytes (arguments_number file_ground) (texts_offset start) (all_words start)))
      (replicate-bytes 32 (Num 0) (lit< tt)))
      (unknown (start.stack - (first_offset start + first_size start)))

  hosted-bytes : AreBytes (hosted_stack start)
  hosted-bytes = append-bytes (replicate (hosted_offset start) Undef) (atom_cells End) (replicate-bytes (hosted_offset start) Undef tt) (tt, (tt, (tt, (tt, (tt, (tt, (tt, (tt, tt))))))))

  stack-bytes : (t : Bool) → AreBytes (if t then hosted_stack start else own_stack file_ground start)
  stack-bytes true = hosted-bytes
  stack-bytes false = own-bytes

  arguments-bytes : AreBytes (arguments_row file_ground start)
  arguments-bytes =
      append-bytes (pointers_row file_ground start ++ zero_words 2) (text_cells (all_words start))
      (append-bytes (pointers_row file_ground start) (zero_words 2) (pointers-bytes (arguments_number file_ground) (texts_offset start) (all_words start)) (replicate-bytes 16 (Num 0) (lit< tt)))
      (append-bytes (map Num (codes "program")) (Num 0 ∷ text_cells start.words) (tested-bytes (codes "program") refl) (lit< tt, texts-bytes start.words is.bytes))

  -- a register of which nothing is known is 0
  unknown-stands : (l : Addresses) → CellsStand l (undefined_cells Q) 0
  unknown-stands l = any-stands l Q 0 (lit< tt)

  -- each word has a byte behind it at least
  counted : (words : List (List ℕ)) → length words ≤ sum_by (λ word. length word + 1) words
  counted [] = omega arith
  counted (word ∷ words) = let rest = counted words in let sum = sum_by-cons (λ word. length word + 1) word words in omega (arith, rest, sum)

  few : word_count start < 2 ^ 64
  few = let count = counted (all_words start) in let short = is.short in omega (arith, count, short)

  -- the numbers of the first registers
  own_numbers : Addresses → List ℕ
  own_numbers l = replicate 4 0 ++ address_of l (Ptr (stack_number file_ground) (first_offset start)) ∷ replicate 11 0

  hosted_numbers : Addresses → List ℕ
  hosted_numbers l =
      replicate 2 0 ++ address_of l (Ptr (arguments_number file_ground) (environment_offset start)) ∷ 0 ∷ address_of l (Ptr (stack_number file_ground) (hosted_offset start))
      ∷ 0 ∷ address_of l (Ptr (arguments_number file_ground) 0) ∷ word_count start ∷ replicate 8 0

  registers-stand : (l : Addresses) (t : Bool) → Both (CellsStand l) (if t then hosted_registers file_ground start else own_registers file_ground start) (if t then hosted_numbers l else own_numbers l)
  unfolding own_numbers hosted_numbers
  registers-stand l true =
      let u = unknown-stands l in (
        u,
        (
          u,
          (
            atom-stands l (Ptr (arguments_number file_ground) (environment_offset start)),
            (
              u,
              (
                atom-stands l (Ptr (stack_number file_ground) (hosted_offset start)),
                (
                  u,
                  (
                    atom-stands l (Ptr (arguments_number file_ground) 0),
                    (fitting-stands l Q (word_count start) few, (u, (u, (u, (u, (u, (u, (u, (u, tt))))))))),
                  ),
                ),
              ),
            ),
          ),
        ),
      )
  registers-stand l false =
      let u = unknown-stands l in
      (u, (u, (u, (u, (atom-stands l (Ptr (stack_number file_ground) (first_offset start)), (u, (u, (u, (u, (u, (u, (u, (u, (u, (u, (u, tt))))))))))))))))

  pub starts : {P : Type 0} (l : Addresses) (laid : Placed) (first : P) → All HoldBytes file_ground.contents → (machine : Machine Placed ℕ ℕ P) × Begins l file_ground start laid first machine
  starts l laid first contents = (
    record {
      registers = if file_ground.hosted then hosted_numbers l else own_numbers l;
      flags = unknown_flags;
      memory = map (λ row. map (byte_for l) row) file_ground.contents
          ++ map (byte_for l) (replicate file_ground.counters (Num 0)) ∷ map (byte_for l) (stack_row file_ground start) ∷ map (byte_for l) (arguments_row file_ground start) ∷ map (byte_for l) (map Num start.canary) ∷ [];
      placed = laid;
      point = first;
    },
    record {
      registers = registers-stand l file_ground.hosted;
      flags = record { cf = tt; zf = tt; sf = tt; of = tt; pf = tt };
      memory =
          rows-stand l file_ground.contents (replicate file_ground.counters (Num 0) ∷ stack_row file_ground start ∷ arguments_row file_ground start ∷ map Num start.canary ∷ []) _ contents (
            row-stands l (replicate file_ground.counters (Num 0)) (replicate-bytes file_ground.counters (Num 0) (lit< tt)),
            (row-stands l (stack_row file_ground start) (stack-bytes file_ground.hosted), (row-stands l (arguments_row file_ground start) arguments-bytes, (row-stands l (map Num start.canary) (listed-bytes start.canary is.canary_bytes), tt))),
          );
      placed = refl;
      point = refl;
    },
  )
