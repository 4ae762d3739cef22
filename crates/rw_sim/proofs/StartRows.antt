-- What memory holds at the start of a program, when the first words are written.
use Rattle.std.proofs.Common.{◌≡◌, ◌≤◌, ◌<◌, ℕ, suc, zero, ◌+◌, ◌*◌, ◌-◌, ◌/◌, Bool, true, false, cond, List, [], ◌∷◌, ◌++◌, length, map, take, drop, set, get_or, replicate, sum_by, slice_get, Some, refl, sym, ◌∙◌, ap, subst, arith, length-append, append_assoc}
use Rattle.std.proofs.lemmas.List.{get_or-append-add, length-map, length-replicate}
use Rattle.std.proofs.lemmas.Option.{slice_get-get_or, slice_get_within, get_or_from_slice_get}
use Rattle.rw_base.specs.declared.width.Width.TheVariants.{Q}
use Rattle.rw_words.specs.declared.atom.Atom.TheVariants.{End}
use Rattle.rw_words.specs.declared.atom.Cell.{Cell}
use Rattle.rw_words.specs.declared.atom.Cell.TheVariants.{Num, Undef}
use Rattle.rw_words.specs.Words.{atom_cells, number_cells}
use Rattle.rw_domain.specs.declared.place.Region.{Region}
use Rattle.rw_domain.specs.declared.place.Place.{Place}
use Rattle.rw_domain.specs.Operators.{IsInside}
use Rattle.rw_machine.specs.Running.{row_written, written_at}
use Rattle.rw_machine.specs.Views.{HasRange}
use Rattle.rw_code.specs.Ground.{Ground}
use Rattle.rw_code.specs.Start.{Start, IsStart, all_words, word_count, words_size, texts_offset, start_regions, regions_of, pointers_row, text_cells, zero_words, arguments_number, arguments_row, first_size, first_offset, own_stack, hosted_offset, hosted_stack, stack_row, first_rows}
use Rattle.rw_sim.specs.Start.{stack_offset, own_words, stack_words, loaded_rows}
use Rattle.rw_sim.proofs.WrittenRows.{among-equal, behind}
use Rattle.rw_sim.proofs.WordCells.{count-le, pointers-length, texts-length}

-- ---- places behind the first regions and rows

pub get-behind : {X : Type 0} (front rest : List X) (n j : ℕ) (x : X) → length front ≡ n → slice_get rest j ≡ Some x → slice_get (front ++ rest) (n + j) ≡ Some x
get-behind front rest n j x e got =
    let within = slice_get_within rest j x got in
    let all = length-append front rest in
    slice_get-get_or (front ++ rest) (n + j) x (omega (arith, e, within, all))
    ∙ ap Some (subst (λ m. get_or (front ++ rest) (m + j) x ≡ get_or rest j x) e (get_or-append-add front rest j x) ∙ get_or_from_slice_get rest j x x got)

pub inside-behind : (front rest : List Region) (n j o len : ℕ) (r : Region) → length front ≡ n → slice_get rest j ≡ Some r → o + len ≤ r.size → IsInside (front ++ rest) (record { region = n + j; offset = o }) len
inside-behind front rest n j o len r e got le = (r, get-behind front rest n j r e got, le)

pub range-behind : {C : Type 0} (front rest : List (List C)) (n j o len : ℕ) (row : List C) → length front ≡ n → slice_get rest j ≡ Some row → o + len ≤ length row → HasRange (front ++ rest) (record { region = n + j; offset = o }) len
range-behind front rest n j o len row e got le =
    let at = get-behind front rest n j row e got in
    record {
      region = slice_get_within (front ++ rest) (n + j) row at;
      bytes = subst (λ r. o + len ≤ length r) (sym (get_or_from_slice_get (front ++ rest) (n + j) row [] at)) le;
    }

-- cells that are written over all of equal cells
pub over-equal : {C : Type 0} (n : ℕ) (u : C) (cells : List C) → length cells ≡ n → row_written (replicate n u) 0 cells ≡ cells
over-equal n u cells e =
    among-equal n 0 u cells (omega (arith, e))
    ∙ (let none : n - (0 + length cells) ≡ 0 = omega (arith, e) in ap (λ k. cells ++ replicate k u) none)
    ∙ append-none cells
  where
    append-none : {X : Type 0} (xs : List X) → xs ++ [] ≡ xs
    append-none [] = refl
    append-none (x ∷ xs) = ap (λ ys. x ∷ ys) (append-none xs)

module _ (file_ground : Ground) (start : Start) (is : IsStart start) where
  few : word_count start ≤ 4096
  few = let all = count-le (all_words start) in let short = is.short in omega (arith, all, short)

  -- ---- lengths

  pub own-length : length (own_words file_ground start) ≡ first_size start
  own-length =
      let first = length-append (number_cells Q (word_count start) ++ pointers_row file_ground start) (zero_words 4) in
      let then = length-append (number_cells Q (word_count start)) (pointers_row file_ground start) in
      let words = pointers-length (arguments_number file_ground) (texts_offset start) (all_words start) in
      omega (arith, first, then, words)

  pub arguments-length : length (arguments_row file_ground start) ≡ texts_offset start + words_size start
  arguments-length =
      let first = length-append (pointers_row file_ground start ++ zero_words 2) (text_cells (all_words start)) in
      let then = length-append (pointers_row file_ground start) (zero_words 2) in
      let words = pointers-length (arguments_number file_ground) (texts_offset start) (all_words start) in
      let texts = texts-length (all_words start) in
      omega (arith, first, then, words, texts)

  own-fits : first_offset start + first_size start ≤ start.stack
  own-fits = let most = few in let least = is.least in omega (arith, most, least)

  pub stack-fits : stack_offset file_ground start + length (stack_words file_ground start) ≤ start.stack
  stack-fits = by file_ground.hosted
    where
      by : (t : Bool) → cond t (hosted_offset start) (first_offset start) + length (cond t (atom_cells End) (own_words file_ground start)) ≤ start.stack
      by true = let least = is.least in omega (arith, least)
      by false = let long = own-length in let fits = own-fits in omega (arith, long, fits)

  -- ---- the rows

  stack-written : row_written (replicate start.stack Undef) (stack_offset file_ground start) (stack_words file_ground start) ≡ stack_row file_ground start
  stack-written = by file_ground.hosted
    where
      by : (t : Bool) → row_written (replicate start.stack Undef) (cond t (hosted_offset start) (first_offset start)) (cond t (atom_cells End) (own_words file_ground start)) ≡ cond t (hosted_stack start) (own_stack file_ground start)
      by true =
          let least = is.least in
          let none : start.stack - (hosted_offset start + 8) ≡ 0 = omega (arith, least) in
          among-equal start.stack (hosted_offset start) Undef (atom_cells End) (omega (arith, least))
          ∙ ap (λ k. replicate (hosted_offset start) Undef ++ (atom_cells End ++ replicate k Undef)) none
      by false =
          let long = own-length in
          let fits = own-fits in
          let rest : start.stack - (first_offset start + length (own_words file_ground start)) ≡ start.stack - (first_offset start + first_size start) = ap (λ n. start.stack - (first_offset start + n)) long in
          among-equal start.stack (first_offset start) Undef (own_words file_ground start) (omega (arith, long, fits))
          ∙ ap (λ k. replicate (first_offset start) Undef ++ (own_words file_ground start ++ replicate k Undef)) rest
          ∙ sym (append_assoc front (own_words file_ground start) behind_it)
          ∙ ap (λ xs. xs ++ behind_it) (sym (append_assoc front (count ++ words) (zero_words 4)) ∙ ap (λ xs. xs ++ zero_words 4) (sym (append_assoc front count words)))
        where
          front : List Cell
          front = replicate (first_offset start) Undef

          count : List Cell
          count = number_cells Q (word_count start)

          words : List Cell
          words = pointers_row file_ground start

          behind_it : List Cell
          behind_it = replicate (start.stack - (first_offset start + first_size start)) Undef

  -- the number of the first region behind those of the file, which are those of the contents
  module _ (n : ℕ) (same : length file_ground.contents ≡ n) where
    pub stack_there : List (List Cell)
    stack_there =
        file_ground.contents ++ replicate file_ground.counters (Num 0) ∷ stack_row file_ground start ∷ replicate (texts_offset start + words_size start) Undef ∷ replicate 8 Undef ∷ []

    pub arguments_there : List (List Cell)
    arguments_there = file_ground.contents ++ replicate file_ground.counters (Num 0) ∷ stack_row file_ground start ∷ arguments_row file_ground start ∷ replicate 8 Undef ∷ []

    pub with-stack : written_at (loaded_rows file_ground start) (record { region = n + 1; offset = stack_offset file_ground start }) (stack_words file_ground start) ≡ stack_there
    unfolding stack_there
    with-stack =
        behind file_ground.contents _ n 1 (stack_offset file_ground start) (stack_words file_ground start) same
        ∙ ap (λ row. file_ground.contents ++ replicate file_ground.counters (Num 0) ∷ row ∷ replicate (texts_offset start + words_size start) Undef ∷ replicate 8 Undef ∷ []) stack-written

    pub with-arguments : written_at stack_there (record { region = n + 2; offset = 0 }) (arguments_row file_ground start) ≡ arguments_there
    unfolding stack_there arguments_there
    with-arguments =
        behind file_ground.contents _ n 2 0 (arguments_row file_ground start) same
        ∙ ap (λ row. file_ground.contents ++ replicate file_ground.counters (Num 0) ∷ stack_row file_ground start ∷ row ∷ replicate 8 Undef ∷ []) (over-equal _ Undef (arguments_row file_ground start) arguments-length)

    pub with-canary : written_at arguments_there (record { region = n + 3; offset = 0 }) (map Num start.canary) ≡ first_rows file_ground start
    unfolding arguments_there
    with-canary =
        behind file_ground.contents _ n 3 0 (map Num start.canary) same
        ∙ ap (λ row. file_ground.contents ++ replicate file_ground.counters (Num 0) ∷ stack_row file_ground start ∷ arguments_row file_ground start ∷ row ∷ []) (over-equal 8 Undef (map Num start.canary) (length-map start.canary Num ∙ is.canary))

    pub stack-range : HasRange (loaded_rows file_ground start) (record { region = n + 1; offset = stack_offset file_ground start }) (length (stack_words file_ground start))
    stack-range =
        range-behind file_ground.contents _ n 1 _ _ (replicate start.stack Undef) same refl
        (subst (λ k. stack_offset file_ground start + length (stack_words file_ground start) ≤ k) (sym (length-replicate start.stack Undef)) stack-fits)

    pub arguments-range : HasRange stack_there (record { region = n + 2; offset = 0 }) (length (arguments_row file_ground start))
    unfolding stack_there
    arguments-range =
        let long = arguments-length in
        let room = length-replicate (texts_offset start + words_size start) Undef in
        range-behind file_ground.contents _ n 2 0 _ (replicate (texts_offset start + words_size start) Undef) same refl (omega (arith, long, room))

    pub canary-range : HasRange arguments_there (record { region = n + 3; offset = 0 }) (length (map Num start.canary))
    unfolding arguments_there
    canary-range =
        let long = length-map start.canary Num in
        let eight = is.canary in
        range-behind file_ground.contents _ n 3 0 _ (replicate 8 Undef) same refl (omega (arith, long, eight))

  module _ (n : ℕ) (same : length file_ground.regions ≡ n) where
    pub stack-inside : IsInside (regions_of file_ground start) (record { region = n + 1; offset = stack_offset file_ground start }) (length (stack_words file_ground start))
    stack-inside = inside-behind file_ground.regions (start_regions file_ground start) n 1 _ _ _ same refl stack-fits

    pub arguments-inside : IsInside (regions_of file_ground start) (record { region = n + 2; offset = 0 }) (length (arguments_row file_ground start))
    arguments-inside = let long = arguments-length in inside-behind file_ground.regions (start_regions file_ground start) n 2 0 _ _ same refl (omega (arith, long))

    pub canary-inside : IsInside (regions_of file_ground start) (record { region = n + 3; offset = 0 }) (length (map Num start.canary))
    canary-inside = let long = length-map start.canary Num in let eight = is.canary in inside-behind file_ground.regions (start_regions file_ground start) n 3 0 _ _ same refl (omega (arith, long, eight))
