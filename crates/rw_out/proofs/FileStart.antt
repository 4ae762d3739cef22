-- A start of a file leaves room for the probe that saves a register on the stack, and lawful answers write to no counters.
use Rattle.std.proofs.Common.{◌≡◌, ◌≢◌, ℕ, negsuc, zero, suc, ◌+◌, ◌-◌, ◌*◌, ◌^◌, ◌<◌, ◌≤◌, List, [], ◌∷◌, ◌++◌, length, map, take, drop, replicate, All, Some, None, Ok, Err, Bool, true, false, cond, ◌==◌, refl, sym, ap, ◌∙◌, arith, if◌then◌else◌, append_assoc, length-append}
use Rattle.std.specs.Prelude.{slice_get, slice_index_or, sum_by}
use Rattle.std.specs.Option.{option_map, unwrap_or}
use Rattle.std.proofs.lemmas.Bool.{eqb-true}
use Rattle.std.proofs.lemmas.List.{length-replicate}
use Rattle.std.proofs.lemmas.List.Sums.{sum_by-cons}
use Rattle.rw_base.specs.declared.width.Width.TheVariants.{Q}
use Rattle.rw_words.specs.declared.atom.Atom.TheVariants.{Ptr, End}
use Rattle.rw_words.specs.declared.atom.Cell.{Cell}
use Rattle.rw_words.specs.declared.atom.Cell.TheVariants.{Num, Undef}
use Rattle.rw_words.specs.Kinds.{kind_of}
use Rattle.rw_words.specs.Words.{atom_cells, number_cells, undefined_cells}
use Rattle.rw_domain.specs.declared.cause.Cause.TheVariants.{NotWritable}
use Rattle.rw_domain.specs.declared.place.Access.TheVariants.{Write}
use Rattle.rw_domain.specs.declared.place.Place.{Place}
use Rattle.rw_domain.specs.declared.place.Region.{Region}
use Rattle.rw_domain.specs.Placed.{Placed}
use Rattle.rw_domain.specs.NumberPlaces.{accessed_place}
use Rattle.rw_domain.specs.Symbols.{kind_place, word_sum}
use Rattle.rw_machine.specs.Step.{Machine}
use Rattle.rw_code.specs.declared.point.FilePoint.{FilePoint}
use Rattle.rw_code.specs.Ground.{Ground}
use Rattle.rw_code.proofs.Example.{tested-all}
use Rattle.rw_code.specs.Start.{IsStart, Start, all_words, arguments_number, arguments_row, pointers, texts_offset, first_offset, first_rows, first_size, hosted_offset, hosted_registers, hosted_stack, own_registers, own_stack, pointers_row, regions_of, stack_number, stack_row, start_regions, word_count, words_start, zero_words}
use Rattle.rw_probe.specs.Forgetting.{HasFreeRoom, HasStack}
use Rattle.rw_probe.specs.ProbedRuns.{StartsProbed}
use Rattle.rw_probe.proofs.Room.{is-pointed, lowered}

-- eight of many equal items
eight-of : {A : Type 0} (x : A) (a k : ℕ) (rest : List A) → take 8 (drop a (replicate (a + (k + 8)) x ++ rest)) ≡ replicate 8 x
eight-of x zero k rest =
    let n : zero + (k + 8) ≡ suc (suc (suc (suc (suc (suc (suc (suc k))))))) = omega arith in
    ap (λ m. take 8 (replicate m x ++ rest)) n
eight-of x (suc a) k rest =
    let n : suc a + (k + 8) ≡ suc (a + (k + 8)) = omega arith in ap (λ m. take 8 (drop (suc a) (replicate m x ++ rest))) n ∙ eight-of x a k rest

eight-among : {A : Type 0} (x : A) (a n : ℕ) (rest : List A) → a + 8 ≤ n → take 8 (drop a (replicate n x ++ rest)) ≡ replicate 8 x
eight-among x a n rest h =
    let sum : n ≡ a + (n - (a + 8) + 8) = omega (arith, h) in
    ap (λ m. take 8 (drop a (replicate m x ++ rest))) sum ∙ eight-of x a (n - (a + 8)) rest

-- the item behind others
pub at-behind : {A : Type 0} (xs ys : List A) (k : ℕ) → slice_get (xs ++ ys) (length xs + k) ≡ slice_get ys k
at-behind [] ys k = let n : length {A = ℕ} [] + k ≡ k = omega arith in ap (slice_get ys) n
at-behind (x ∷ xs) ys k = let n : suc (length xs) + k ≡ suc (length xs + k) = omega arith in ap (slice_get (x ∷ (xs ++ ys))) n ∙ at-behind xs ys k

row-behind : {A : Type 0} (xs ys : List A) (k : ℕ) (d : A) → slice_index_or (xs ++ ys) (length xs + k) d ≡ slice_index_or ys k d
row-behind [] ys k d = let n : length {A = ℕ} [] + k ≡ k = omega arith in ap (λ m. slice_index_or ys m d) n
row-behind (x ∷ xs) ys k d = let n : suc (length xs) + k ≡ suc (length xs + k) = omega arith in ap (λ m. slice_index_or (x ∷ (xs ++ ys)) m d) n ∙ row-behind xs ys k d

-- each word has a byte behind it at least
counted : (words : List (List ℕ)) → length words ≤ sum_by (λ word. length word + 1) words
counted [] = omega arith
counted (word ∷ words) = let rest = counted words in let sum = sum_by-cons (λ word. length word + 1) word words in omega (arith, rest, sum)

-- a pointer for each word
pointers-size : (region at : ℕ) (words : List (List ℕ)) → length (pointers region at words) ≡ 8 * length words
pointers-size region at [] = omega arith
pointers-size region at (word ∷ words) = let rest = pointers-size region (at + length word + 1) words in omega (arith, rest)

module _ (file_ground : Ground) (start : Start) (is : IsStart start) where
  few : 8 * (word_count start + 5) ≤ 32808
  few = let count = counted (all_words start) in let short = is.short in omega (arith, count, short)

  -- where %rsp points
  abbrev offset_by : Bool → ℕ
  offset_by true = hosted_offset start
  offset_by false = first_offset start

  offset-high : (t : Bool) → (256 ≤ offset_by t) × (offset_by t ≤ start.stack)
  offset-high true = let least = is.least in (omega (arith, least), omega (arith, least))
  offset-high false = let least = is.least in let size = few in (omega (arith, least, size), omega (arith, least, size))

  abbrev registers_by : Bool → List (List Cell)
  registers_by t = cond t (hosted_registers file_ground start) (own_registers file_ground start)

  pointer-by : (t : Bool) → slice_index_or (registers_by t) 4 (undefined_cells Q) ≡ atom_cells (Ptr (stack_number file_ground) (offset_by t))
  pointer-by true = refl
  pointer-by false = refl

  count-by : (t : Bool) → length (registers_by t) ≡ 16
  count-by true = refl
  count-by false = refl

  wide-by : (t : Bool) → All (λ word. length word ≡ 8) (registers_by t)
  wide-by true = tested-all (λ word. length word == 8) (λ word. length word ≡ 8) (λ word h. eqb-true (length word) 8 h) (hosted_registers file_ground start) refl
  wide-by false = tested-all (λ word. length word == 8) (λ word. length word ≡ 8) (λ word h. eqb-true (length word) 8 h) (own_registers file_ground start) refl

  abbrev row_by : Bool → List Cell
  row_by t = cond t (hosted_stack start) (own_stack file_ground start)

  -- what stands in the row behind the cells below %rsp
  abbrev own_rest : List Cell
  own_rest = number_cells Q (word_count start) ++ (pointers_row file_ground start ++ (zero_words 4 ++ replicate (start.stack - (first_offset start + first_size start)) Undef))

  own-parts : own_stack file_ground start ≡ replicate (first_offset start) Undef ++ own_rest
  own-parts =
      let first = replicate (first_offset start) Undef in
      let count = number_cells Q (word_count start) in
      let row = pointers_row file_ground start in
      let last = replicate (start.stack - (first_offset start + first_size start)) Undef in
      append_assoc (((first ++ count) ++ row)) (zero_words 4) last ∙ append_assoc (first ++ count) row (zero_words 4 ++ last) ∙ append_assoc first count (row ++ (zero_words 4 ++ last))

  unknown-by : (t : Bool) → take 8 (drop (offset_by t - 136) (row_by t)) ≡ replicate 8 Undef
  unknown-by true = let high = (offset-high true).0 in eight-among Undef (hosted_offset start - 136) (hosted_offset start) (atom_cells End) (omega (arith, high))
  unknown-by false =
      let high = (offset-high false).0 in
      ap (λ row. take 8 (drop (first_offset start - 136) row)) own-parts ∙ eight-among Undef (first_offset start - 136) (first_offset start) own_rest (omega (arith, high))

  long-by : (t : Bool) → start.stack ≤ length (row_by t)
  long-by true =
      let least = is.least in
      let front = length-append (replicate (hosted_offset start) Undef) (atom_cells End) in
      let filled = length-replicate (hosted_offset start) Undef in
      omega (arith, least, front, filled)
  long-by false =
      let size = few in
      let least = is.least in
      let same = ap length own-parts in
      let last = replicate (start.stack - (first_offset start + first_size start)) Undef in
      let a = length-append (replicate (first_offset start) Undef) own_rest in
      let b = length-replicate (first_offset start) Undef in
      let c = length-append (number_cells Q (word_count start)) (pointers_row file_ground start ++ (zero_words 4 ++ last)) in
      let d = length-append (pointers_row file_ground start) (zero_words 4 ++ last) in
      let e = pointers-size (arguments_number file_ground) (texts_offset start) (all_words start) in
      let f = length-append (zero_words 4) last in
      let g = length-replicate (start.stack - (first_offset start + first_size start)) Undef in
      let n : length (number_cells Q (word_count start)) ≡ 8 = refl in
      let z : length (zero_words 4) ≡ 32 = refl in
      omega (arith, size, least, same, a, b, c, d, e, f, g, n, z)

  -- ---- the whole

  module _ (rows : length file_ground.contents ≡ length file_ground.regions) (holes : All (λ hole. hole.region ≢ stack_number file_ground) file_ground.holes) where
    abbrev m : Machine Placed (List Cell) Cell FilePoint
    m = words_start file_ground start

    abbrev stack : Region
    stack = record { size = start.stack; align = 4096; writable = true; zero = false }

    abbrev offset : ℕ
    offset = offset_by file_ground.hosted

    abbrev saved : Place
    saved = record { region = stack_number file_ground; offset = offset - 136 }

    stack-there : slice_get (regions_of file_ground start) (stack_number file_ground) ≡ Some stack
    stack-there = at-behind file_ground.regions (start_regions file_ground start) 1

    row-there : slice_index_or (first_rows file_ground start) (stack_number file_ground) [] ≡ row_by file_ground.hosted
    row-there = ap (λ n. slice_index_or (first_rows file_ground start) (n + 1) []) (sym rows) ∙ row-behind file_ground.contents _ 1 []

    small : start.stack < 2 ^ 64
    small = let most = is.most in omega (arith, most)

    has-stack : HasStack (words_start file_ground start) (stack_number file_ground) stack
    has-stack = record {
      before = omega arith;
      region = stack-there;
      writable = refl;
      small = small;
      whole = holes;
      range = record {
        region =
            let others = replicate file_ground.counters (Num 0) ∷ stack_row file_ground start ∷ arguments_row file_ground start ∷ map Num start.canary ∷ [] in
            let both = length-append file_ground.contents others in
            let four : length others ≡ 4 = refl in
            omega (arith, both, rows, four);
        bytes = let long = long-by file_ground.hosted in let same = ap length row-there in omega (arith, long, same);
      };
    }

    has-room : HasFreeRoom (words_start file_ground start) saved
    has-room =
        let high = (offset-high file_ground.hosted).0 in
        let low = (offset-high file_ground.hosted).1 in
        let fits = small in
        record {
          below =
              ap (λ cells. kind_place (regions_of file_ground start) file_ground.holes (kind_of (word_sum (Some cells) None (negsuc 135))) 8 Write) (pointer-by file_ground.hosted)
              ∙ ap (λ k. kind_place (regions_of file_ground start) file_ground.holes k 8 Write) (lowered (stack_number file_ground) offset 136 18446744073709551480 (omega (arith, high)) (omega (arith, low, fits)) refl)
              ∙ ap (accessed_place (regions_of file_ground start) Write) (is-pointed (regions_of file_ground start) file_ground.holes (stack_number file_ground) (offset - 136) 8 stack stack-there holes (omega (arith, low, high)))
              ∙ ap (λ g. if unwrap_or (option_map (λ region. region.writable) g) false then Ok saved else Err NotWritable) stack-there;
          unknown = ap (λ row. take 8 (drop (offset - 136) row)) row-there ∙ unknown-by file_ground.hosted;
        }

    pub starts-probed : StartsProbed (words_start file_ground start)
    starts-probed = record {
      words = record { count = count-by file_ground.hosted; wide = wide-by file_ground.hosted };
      number = stack_number file_ground;
      stack = stack;
      has_stack = has-stack;
      saved = saved;
      room = has-room;
    }
