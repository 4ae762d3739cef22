-- The words of a start and of lawful answers have only atoms that have an address.
use Rattle.std.proofs.Common.{◌≡◌, ◌==◌, ℕ, zero, suc, ◌+◌, ◌-◌, List, [], ◌∷◌, ◌++◌, length, map, replicate, get_or, Bool, true, false, All, Contains, refl, sym, subst, if◌then◌else◌}
use Rattle.std.specs.Prelude.{not}
use Rattle.std.proofs.lemmas.Bool.{eq-eqb}
use Rattle.std.proofs.lemmas.List.Elements.{All-head, All-tail, All-filter}
use Rattle.std.proofs.lemmas.List.Folds.{list_any_at}
use Rattle.rw_base.specs.declared.width.Width.TheVariants.{Q}
use Rattle.rw_words.specs.declared.atom.Atom.{Atom}
use Rattle.rw_words.specs.declared.atom.Atom.TheVariants.{Ptr, End}
use Rattle.rw_words.specs.declared.atom.Cell.{Cell}
use Rattle.rw_words.specs.declared.atom.Cell.TheVariants.{Num, Undef}
use Rattle.rw_words.specs.Addresses.{Addresses, CellsStand}
use Rattle.rw_words.specs.Words.{number_cells, atom_cells, undefined_cells}
use Rattle.rw_domain.specs.declared.place.Place.{Place}
use Rattle.rw_domain.specs.Placed.{Placed}
use Rattle.rw_domain.specs.Stands.{Both}
use Rattle.rw_domain.specs.RegionsLaidOut.{ByteStands}
use Rattle.rw_domain.specs.LaidOut.{KnownCell, KnownCells, WordStands, KnownByteStands}
use Rattle.rw_domain.proofs.KnownWords.{known-numbers, known-undefined, known-atom}
use Rattle.rw_machine.specs.Program.{Program, Domains}
use Rattle.rw_machine.specs.Events.{Call, Reply}
use Rattle.rw_machine.specs.Step.{Machine}
use Rattle.rw_machine.specs.Stands.{Spare, Room, is_under, writes_outside, WriteStands, ReplyStands, reply_room}
use Rattle.rw_machine.specs.Domains.{symbols}
use Rattle.rw_funcs.specs.Points.{is_one_of}
use Rattle.rw_runs.specs.RunStands.{RepliesStand}
use Rattle.rw_code.specs.Ground.{Ground}
use Rattle.rw_code.specs.Known.{Labels, has_address}
use Rattle.rw_code.specs.Replies.{IsWrite, IsLawful, AreLawful, lost_to}
use Rattle.rw_code.specs.Start.{Start, pointers, text_cells, zero_words, pointers_row, arguments_row, own_stack, hosted_stack, stack_row, own_registers, hosted_registers, arguments_number, stack_number, first_offset, first_size, hosted_offset, environment_offset, texts_offset, all_words, word_count, words_start}

-- ---- words whose atoms have an address

module _ (l : Addresses) (known : Atom → Bool) where
  abbrev pub AllKnown : List (List Cell) → Type 0
  AllKnown [] = Unit {0}
  AllKnown (word ∷ words) = KnownCells known word × AllKnown words

  pub words-known : (xs : List (List Cell)) (ys : List ℕ) → AllKnown xs → Both (CellsStand l) xs ys → Both (WordStands l known) xs ys
  words-known [] [] h s = tt
  words-known [] (y ∷ ys) h s = s
  words-known (x ∷ xs) [] h s = s
  words-known (x ∷ xs) (y ∷ ys) h s = (record { cells = s.0; atoms = h.0 }, words-known xs ys h.1 s.1)

  pub bytes-known : (xs : List Cell) (ys : List ℕ) → KnownCells known xs → Both (ByteStands l) xs ys → Both (KnownByteStands l known) xs ys
  bytes-known [] [] h s = tt
  bytes-known [] (y ∷ ys) h s = s
  bytes-known (x ∷ xs) [] h s = s
  bytes-known (x ∷ xs) (y ∷ ys) h s = (record { cell = s.0.0; byte = s.0.1; atom = h.0 }, bytes-known xs ys h.1 s.1)

  pub rows-known : (xs : List (List Cell)) (ys : List (List ℕ)) → AllKnown xs → Both (Both (ByteStands l)) xs ys → Both (Both (KnownByteStands l known)) xs ys
  rows-known [] [] h s = tt
  rows-known [] (y ∷ ys) h s = s
  rows-known (x ∷ xs) [] h s = s
  rows-known (x ∷ xs) (y ∷ ys) h s = (bytes-known x y h.0 s.0, rows-known xs ys h.1 s.1)

  known-append : (xs ys : List Cell) → KnownCells known xs → KnownCells known ys → KnownCells known (xs ++ ys)
  known-append [] ys h k = k
  known-append (x ∷ xs) ys h k = (h.0, known-append xs ys h.1 k)

  known-replicate : (n : ℕ) (c : Cell) → KnownCell known c → KnownCells known (replicate n c)
  known-replicate zero c h = tt
  known-replicate (suc n) c h = (h, known-replicate n c h)

  known-bytes : (bytes : List ℕ) → KnownCells known (map Num bytes)
  known-bytes [] = tt
  known-bytes (b ∷ bytes) = (tt, known-bytes bytes)

-- ---- the start

module _ (l : Addresses) (labels : Labels) where
  abbrev Known : List Cell → Type 0
  Known cells = KnownCells (has_address labels) cells

  pointers-known : (region at : ℕ) (words : List (List ℕ)) → Known (pointers region at words)
  pointers-known region at [] = tt
  pointers-known region at (word ∷ words) =
      known-append l (has_address labels) (atom_cells (Ptr region at)) (pointers region (at + length word + 1) words) (known-atom l (has_address labels) (Ptr region at) refl)
      (pointers-known region (at + length word + 1) words)

  joined : (xs ys : List Cell) → Known xs → Known ys → Known (xs ++ ys)
  joined xs ys h k = known-append l (has_address labels) xs ys h k

  text-known : (words : List (List ℕ)) → Known (text_cells words)
  text-known [] = tt
  text-known (word ∷ words) = known-append l (has_address labels) (map Num word) (Num 0 ∷ text_cells words) (known-bytes l (has_address labels) word) (tt, text-known words)

  rows-joined : (xs ys : List (List Cell)) → All (KnownCells (has_address labels)) xs → AllKnown l (has_address labels) ys → AllKnown l (has_address labels) (xs ++ ys)
  rows-joined [] ys h k = k
  rows-joined (x ∷ xs) ys h k = (All-head (KnownCells (has_address labels)) x xs h, rows-joined xs ys (All-tail (KnownCells (has_address labels)) x xs h) k)

  zeros : (n : ℕ) → Known (replicate n (Num 0))
  zeros n = known-replicate l (has_address labels) n (Num 0) tt

  unknown : (n : ℕ) → Known (replicate n Undef)
  unknown n = known-replicate l (has_address labels) n Undef tt

  pointer : (r o : ℕ) → Known (atom_cells (Ptr r o))
  pointer r o = known-atom l (has_address labels) (Ptr r o) refl

  module _ (file_ground : Ground) (start : Start) where
    row : Known (pointers_row file_ground start)
    row = pointers-known (arguments_number file_ground) (texts_offset start) (all_words start)

    arguments : Known (arguments_row file_ground start)
    arguments =
        joined (pointers_row file_ground start ++ zero_words 2) (text_cells (all_words start)) (joined (pointers_row file_ground start) (zero_words 2) row (zeros 16)) (text-known (all_words start))

    own : Known (own_stack file_ground start)
    own =
        joined (replicate (first_offset start) Undef ++ number_cells Q (word_count start) ++ pointers_row file_ground start ++ zero_words 4) (replicate (start.stack - (first_offset start + first_size start)) Undef)
        (joined (replicate (first_offset start) Undef ++ number_cells Q (word_count start) ++ pointers_row file_ground start) (zero_words 4)
        (joined (replicate (first_offset start) Undef ++ number_cells Q (word_count start)) (pointers_row file_ground start)
        (joined (replicate (first_offset start) Undef) (number_cells Q (word_count start)) (unknown (first_offset start)) (known-numbers l (has_address labels) Q (word_count start))) row) (zeros 32))
        (unknown (start.stack - (first_offset start + first_size start)))

    hosted : Known (hosted_stack start)
    hosted = joined (replicate (hosted_offset start) Undef) (atom_cells End) (unknown (hosted_offset start)) (known-atom l (has_address labels) End refl)

    stack : (t : Bool) → Known (if t then hosted_stack start else own_stack file_ground start)
    stack true = hosted
    stack false = own

    registers : (t : Bool) → AllKnown l (has_address labels) (if t then hosted_registers file_ground start else own_registers file_ground start)
    registers true =
        let u : Known (undefined_cells Q) = known-undefined l (has_address labels) Q in (
          u,
          (
            u,
            (
              pointer (arguments_number file_ground) (environment_offset start),
              (
                u,
                (
                  pointer (stack_number file_ground) (hosted_offset start),
                  (
                    u,
                    (
                      pointer (arguments_number file_ground) 0,
                      (known-numbers l (has_address labels) Q (word_count start), (u, (u, (u, (u, (u, (u, (u, (u, tt))))))))),
                    ),
                  ),
                ),
              ),
            ),
          ),
        )
    registers false =
        let u : Known (undefined_cells Q) = known-undefined l (has_address labels) Q in
        (u, (u, (u, (u, (pointer (stack_number file_ground) (first_offset start), (u, (u, (u, (u, (u, (u, (u, (u, (u, (u, (u, tt))))))))))))))))

    pub start-known : All (KnownCells (has_address labels)) file_ground.contents
        → AllKnown l (has_address labels) (words_start file_ground start).registers × AllKnown l (has_address labels) (words_start file_ground start).memory
    start-known h = (
      registers file_ground.hosted,
      rows-joined file_ground.contents (replicate file_ground.counters (Num 0) ∷ stack_row file_ground start ∷ arguments_row file_ground start ∷ map Num start.canary ∷ []) h
          (zeros file_ground.counters, (stack file_ground.hosted, (arguments, (known-bytes l (has_address labels) start.canary, tt)))),
    )

-- ---- lawful answers

pub one-known : (numbers : List ℕ) (n : ℕ) → Contains numbers n → is_one_of numbers n ≡ true
one-known numbers n h = list_any_at (λ m. m == n) numbers h.0 n h.1 (eq-eqb _ n h.2)

module _ (l : Addresses) (labels : Labels) (spare : Spare ℕ) (room : Room) where
  abbrev known : Atom → Bool
  known = has_address labels

  all-outside : (placed : Placed) (us : List (Place × List Cell)) → All (IsWrite labels placed) us → All (IsWrite labels placed) (writes_outside room us)
  all-outside placed us h = All-filter (λ u. not (is_under room u)) (IsWrite labels placed) us h

  writes-known : (placed : Placed) (us : List (Place × List Cell)) (vs : List (Place × List ℕ)) → All (IsWrite labels placed) us
      → Both (WriteStands (ByteStands l) spare) us vs → Both (WriteStands (KnownByteStands l (has_address labels)) spare) us vs
  writes-known placed [] [] h s = tt
  writes-known placed [] (v ∷ vs) h s = s
  writes-known placed (u ∷ us) [] h s = s
  writes-known placed (u ∷ us) (v ∷ vs) h s =
      let write : IsWrite labels placed u = All-head (IsWrite labels placed) u us h in (
        record { place = s.0.place; bytes = bytes-known l (has_address labels) u.1 v.1 write.cells s.0.bytes; misses = s.0.misses },
        writes-known placed us vs (All-tail (IsWrite labels placed) u us h) s.1,
      )

  undefined-known : (n : ℕ) → AllKnown l (has_address labels) (replicate n (undefined_cells Q))
  undefined-known zero = tt
  undefined-known (suc n) = (known-undefined l (has_address labels) Q, undefined-known n)

  -- the undefined byte stands for whatever is written into the room
  under-known : (bytes : List ℕ) → All (λ b. (a : Cell) × ByteStands l a b) bytes → All (λ b. (a : Cell) × KnownByteStands l (has_address labels) a b) bytes
  under-known bytes h = λ k d inside. (Undef, record { cell = tt; byte = (h k d inside).1.1; atom = tt })

  reply-known : (placed : Placed) (call : Call) (r : Reply (List Cell) Cell) (q : Reply ℕ ℕ) → IsLawful labels placed call r → ReplyStands (CellsStand l) (ByteStands l) spare room r q
      → ReplyStands (WordStands l (has_address labels)) (KnownByteStands l (has_address labels)) spare room r q
  reply-known placed call r q lawful s = record {
    result = record { cells = s.result; atoms = lawful.cells };
    scratch = words-known l (has_address labels) r.scratch q.scratch (subst (AllKnown l (has_address labels)) (sym lawful.scratch) (undefined-known (length (lost_to call)))) s.scratch;
    writes = writes-known placed (writes_outside room r.writes) (writes_outside room q.writes) (all-outside placed r.writes lawful.writes) s.writes;
    under = λ k d inside is. under-known (get_or q.writes k d).1 (s.under k d inside is);
    fresh = s.fresh;
    ending = s.ending;
  }

-- lawful answers for which others stand along a run, with words that have addresses
pub answers-known : {P A T : Type 0} (l : Addresses) (labels : Labels) (spare : Spare ℕ) (Laid : Placed → T → Type 0) (N : Domains T ℕ ℕ) (c : Program P A (List Cell)) (m : Machine Placed (List Cell) Cell P) (t : T) (rs : List (Reply (List Cell) Cell)) (qs : List (Reply ℕ ℕ))
    → AreLawful labels c m rs → RepliesStand (CellsStand l) (ByteStands l) spare Laid symbols N c m rs t qs
    → RepliesStand (WordStands l (has_address labels)) (KnownByteStands l (has_address labels)) spare Laid symbols N c m rs t qs
answers-known l labels spare Laid N c m t rs qs lawful stand =
    λ k run event r made goes asked is.
    let n = stand k run event r made goes asked is in
    (n.0, n.1, reply-known l labels spare (reply_room symbols c run.machine r.ending) run.machine.placed event.call r n.0 (lawful k run event r made goes asked is) n.2, n.3)
