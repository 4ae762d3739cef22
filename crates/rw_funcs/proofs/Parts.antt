-- A part of a list of notes that is written anew.
use Rattle.std.proofs.Common.{◌≡◌, ℕ, ◌+◌, ◌-◌, ◌<◌, ◌≤◌, List, [], ◌++◌, length, take, drop, get_or, Option, None, Contains, All, sym, ap, subst, ◌∙◌, arith, inl, inr, length-take, length-drop, length-append}
use Rattle.std.proofs.Math.ListN.{get_or-append}
use Rattle.std.specs.Option.{option_map_or}
use Rattle.std.proofs.lemmas.Bool.{cases_lt}
use Rattle.std.specs.declared.result.Result.{Result}
use Rattle.std.specs.declared.result.Result.TheVariants.{Ok, Err}
use Rattle.std.specs.Prelude.{OnOk, replicate}
use Rattle.std.proofs.lemmas.List.{get_or-append-add, get_or-drop, get_or-replicate, get_or-take, length-replicate}
use Rattle.std.proofs.lemmas.List.{with_items_is}
use Rattle.std.proofs.lemmas.List.Elements.{All-contains, All-weaker}
use Rattle.std.specs.Vec.{with_items}
use borrow.Rule.Slice.PartMut.{put_mid, mid_of}
use Rattle.rw_funcs.specs.declared.code.CodeSection.{CodeSection}
use Rattle.rw_funcs.specs.declared.insn_facts.InsnFacts.{InsnFacts}
use Rattle.rw_funcs.specs.Found.{AreNotes, HasFactsFrom, HasMarks, HasMarksFrom, IsNotedFrom}
use Rattle.rw_funcs.specs.Notes.{facts_of, no_facts, noted_or}
use Rattle.rw_elf.specs.declared.section.Section.{Section}
use Rattle.rw_funcs.specs.Points.{Point, points, point_at}
use Rattle.rw_funcs.proofs.PointFacts.{IsPointIn, points-are, point_at-append, point_at-before, point_at-none}

-- ---- what stands at a place of the whole

module _ {A : Type 0} (note : Point → A) (none : A) where
  get_or-before : (a n : ℕ) (xs ys : List A) (k : ℕ) → k < a → a ≤ length xs → get_or (put_mid a n xs ys) k none ≡ get_or xs k none
  get_or-before a n xs ys k low fits =
      let size = length-take a xs in
      get_or-append (take a xs) (ys ++ drop n (drop a xs)) none k (omega (arith, size, low, fits)) ∙ get_or-take a xs k none low

  from_part : (a n : ℕ) (xs ys : List A) (j : ℕ) → a ≤ length xs → get_or (put_mid a n xs ys) (a + j) none ≡ get_or (ys ++ drop n (drop a xs)) j none
  from_part a n xs ys j fits =
      let size = length-take a xs in
      let same : length (take a xs) ≡ a = omega (arith, size, fits) in
      ap (λ m. get_or (take a xs ++ (ys ++ drop n (drop a xs))) (m + j) none) (sym same) ∙ get_or-append-add (take a xs) (ys ++ drop n (drop a xs)) j none

  get_or-inside : (a n : ℕ) (xs ys : List A) (j : ℕ) → j < length ys → a ≤ length xs → get_or (put_mid a n xs ys) (a + j) none ≡ get_or ys j none
  get_or-inside a n xs ys j low fits = from_part a n xs ys j fits ∙ get_or-append ys (drop n (drop a xs)) none j low

  get_or-behind : (a n : ℕ) (xs ys : List A) (j : ℕ) → length ys ≡ n → a ≤ length xs → get_or (put_mid a n xs ys) (a + (n + j)) none ≡ get_or xs (a + (n + j)) none
  get_or-behind a n xs ys j same fits =
      from_part a n xs ys (n + j) fits
      ∙ ap (λ m. get_or (ys ++ drop n (drop a xs)) (m + j) none) (sym same)
      ∙ get_or-append-add ys (drop n (drop a xs)) j none
      ∙ get_or-drop n (drop a xs) j none
      ∙ get_or-drop a xs (n + j) none

  get_or-mid : (a n : ℕ) (xs : List A) (j : ℕ) → j < n → get_or (mid_of a n xs) j none ≡ get_or xs (a + j) none
  get_or-mid a n xs j low = get_or-take n (drop a xs) j none low ∙ get_or-drop a xs j none

  -- ---- notes of points before a part, and of the part's points

  note-of : (n : A) (ps : List Point) (a : ℕ) (o : Option Point) → point_at ps a ≡ o → noted_or note n ps a ≡ option_map_or note o n
  note-of n ps a o e = ap (λ z. option_map_or note z n) e

  pub part-noted : (before ps : List Point) (addr start n size : ℕ) (xs ys : List A) → length xs ≡ size → length ys ≡ n → addr ≤ start → start + n ≤ addr + size
      → ((k : ℕ) → k < size → get_or xs k none ≡ noted_or note none before (addr + k))
      → IsNotedFrom note none (mid_of (start - addr) n xs) ys start ps
      → All (λ p. p.place < start) before
      → All (λ p. start ≤ p.place) ps
      → All (λ p. p.place < start + n) ps
      → (k : ℕ) → k < size → get_or (put_mid (start - addr) n xs ys) k none ≡ noted_or note none (before ++ ps) (addr + k)
  part-noted before ps addr start n size xs ys whole part low high old new behind from up_to k within =
      elim (cases_lt k (start - addr)) [
        | inl ahead ↦ get_or-before (start - addr) n xs ys k ahead (omega (arith, whole, low, high)) ∙ kept (λ p in_ps same. let one = All-contains (λ (p : Point). start ≤ p.place) ps p from in_ps in omega (arith, one, same, ahead, low))
        | inr reached ↦
            elim (cases_lt k (start - addr + n)) [
              | inl inside ↦ inside_part (k - (start - addr)) (omega (arith, reached)) (omega (arith, reached, inside))
              | inr past ↦ behind_part (k - (start - addr + n)) (omega (arith, reached, past))
            ]
      ]
    where
      -- where none of the new points is, the old notes stand
      kept : ((p : Point) → Contains ps p → p.place ≡ addr + k → ⊥) → get_or xs k none ≡ noted_or note none (before ++ ps) (addr + k)
      kept apart = old k within ∙ ap (λ o. option_map_or note o none) (sym (point_at-before before ps (addr + k) (point_at-none ps (addr + k) apart)))

      inside_part : (j : ℕ) → k ≡ start - addr + j → j < n → get_or (put_mid (start - addr) n xs ys) k none ≡ noted_or note none (before ++ ps) (addr + k)
      inside_part j is below =
          let place : start + j ≡ addr + k = omega (arith, is, low) in
          let absent : point_at before (addr + k) ≡ None = point_at-none before (addr + k) (λ p in_before same. let one = All-contains (λ (p : Point). p.place < start) before p behind in_before in omega (arith, one, same, is, low)) in
          let was : get_or (mid_of (start - addr) n xs) j none ≡ none = get_or-mid (start - addr) n xs j below ∙ ap (λ i. get_or xs i none) (sym is) ∙ old k within ∙ note-of none before (addr + k) None absent in
          ap (λ i. get_or (put_mid (start - addr) n xs ys) i none) is
          ∙ get_or-inside (start - addr) n xs ys j (omega (arith, part, below)) (omega (arith, whole, low, high))
          ∙ new.exact j (omega (arith, part, below))
          ∙ ap (λ m. noted_or note m ps (start + j)) was
          ∙ ap (noted_or note none ps) place
          ∙ ap (λ o. option_map_or note o none) (sym (point_at-append before ps (addr + k) absent))

      behind_part : (j : ℕ) → k ≡ start - addr + (n + j) → get_or (put_mid (start - addr) n xs ys) k none ≡ noted_or note none (before ++ ps) (addr + k)
      behind_part j is =
          ap (λ i. get_or (put_mid (start - addr) n xs ys) i none) is
          ∙ get_or-behind (start - addr) n xs ys j part (omega (arith, whole, low, high))
          ∙ ap (λ i. get_or xs i none) (sym is)
          ∙ kept (λ p in_ps same. let one = All-contains (λ (p : Point). p.place < start + n) ps p up_to in_ps in omega (arith, one, same, is, low))

  put-length : (a n : ℕ) (xs ys : List A) → length ys ≡ n → a + n ≤ length xs → length (put_mid a n xs ys) ≡ length xs
  put-length a n xs ys same fits =
      let front = length-take a xs in
      let rest = length-drop n (drop a xs) in
      let back = length-drop a xs in
      let two = length-append ys (drop n (drop a xs)) in
      let all = length-append (take a xs) (ys ++ drop n (drop a xs)) in
      omega (arith, front, rest, back, two, all, same, fits)

  pub part-kept : (before : List Point) (s : Section) (code : List ℕ) (start : ℕ) (xs ys : List A) (n : ℕ) → n ≡ length code → length ys ≡ n
      → AreNotes note none before s xs → All (λ p. p.place < start) before → s.addr ≤ start → start + length code ≤ s.addr + s.size
      → IsNotedFrom note none (mid_of (start - s.addr) n xs) ys start (points (length code) start code)
      → AreNotes note none (before ++ points (length code) start code) s (put_mid (start - s.addr) n xs ys)
  part-kept before s code start xs ys n count part is behind low high new =
      let whole = is.size in
      let points_in : All (IsPointIn start code) (points (length code) start code) = points-are (length code) start code in
      record {
        size = put-length (start - s.addr) n xs ys part (omega (arith, whole, low, high, count)) ∙ whole;
        exact =
            part-noted before (points (length code) start code) s.addr start n s.size xs ys whole part low (omega (arith, high, count)) is.exact new behind
            (All-weaker (IsPointIn start code) (λ p. start ≤ p.place) (λ p at. at.low) (points (length code) start code) points_in)
            (All-weaker (IsPointIn start code) (λ p. p.place < start + n) (λ p at. let high = at.high in let some = at.some in omega (arith, high, some, count)) (points (length code) start code) points_in);
      }

-- a list that has the same at each place has the notes of no points
pub no-notes : {A : Type 0} (note : Point → A) (none : A) (s : Section) (list : List A) → list ≡ replicate s.size none → AreNotes note none [] s list
no-notes note none s list e = record {
  size = ap length e ∙ length-replicate s.size none;
  exact = λ k within. ap (λ l. get_or l k none) e ∙ get_or-replicate s.size k none none within;
}

pub on_ok_both : {T E P Q R : Type 0} (r : Result T E) → (P → Q → R) → OnOk r P → OnOk r Q → OnOk r R
on_ok_both (Ok v) f p q = f p q
on_ok_both (Err e) f p q = tt

-- a code section of which a part is written anew
pub part-marked : (before : List Point) (c : CodeSection) (code : List ℕ) (start : ℕ) (xs ys : List ℕ) (fs gs : List InsnFacts) (n : ℕ) → n ≡ length code → xs ≡ c.marks.items → fs ≡ c.facts.items → length ys ≡ n → length gs ≡ n
    → HasMarks before c → All (λ p. p.place < start) before → c.section.addr ≤ start → start + length code ≤ c.section.addr + c.section.size
    → HasMarksFrom (mid_of (start - c.section.addr) n xs) ys start (points (length code) start code)
    → HasFactsFrom (mid_of (start - c.section.addr) n fs) gs start (points (length code) start code)
    → HasMarks (before ++ points (length code) start code) (record { section = c.section; bytes = c.bytes; marks = with_items c.marks (put_mid (start - c.section.addr) n xs ys); facts = with_items c.facts (put_mid (start - c.section.addr) n fs gs) })
part-marked before c code start xs ys fs gs n count items noted part others is behind low high new more =
    let marks = part-kept (λ p. p.len) 0 before c.section code start xs ys n count part (subst (AreNotes (λ p. p.len) 0 before c.section) (sym items) is.marks) behind low high new in
    let facts = part-kept (λ p. facts_of p.insn) no_facts before c.section code start fs gs n count others (subst (AreNotes (λ p. facts_of p.insn) no_facts before c.section) (sym noted) is.facts) behind low high more in
    record {
      marks = subst (AreNotes (λ p. p.len) 0 (before ++ points (length code) start code) c.section) (sym (with_items_is c.marks (put_mid (start - c.section.addr) n xs ys) (marks.size ∙ sym is.marks.size ∙ sym c.marks.ok.0))) marks;
      facts = subst (AreNotes (λ p. facts_of p.insn) no_facts (before ++ points (length code) start code) c.section) (sym (with_items_is c.facts (put_mid (start - c.section.addr) n fs gs) (facts.size ∙ sym is.facts.size ∙ sym c.facts.ok.0))) facts;
    }
