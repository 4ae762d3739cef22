-- Distances by what was laid out are those of the layout.
use Rattle.std.proofs.Common.{◌≡◌, ℕ, ◌+◌, ◌-◌, ◌%◌, ◌^◌, ◌*◌, ◌<◌, All, Bool, true, false, List, [], ◌∷◌, Option, Some, None, inl, take, drop, refl, sym, ap, subst, ◌∙◌, arith}
use Rattle.std.specs.Prelude.{ℤ, Contains, slice_get, option_and_then, not, ◌==◌, ◌||◌, nat_le, nat_lt}
use Rattle.std.specs.Option.{option_map}
use Rattle.std.proofs.lemmas.Bool.{eqb-true, eq-eqb, leb-false, ltb-true}
use Rattle.std.proofs.lemmas.Int.{of_z-to_z}
use Rattle.std.specs.Int.{w64, cast_signed as to_z, cast_unsigned as of_z}
use Rattle.std.proofs.lemmas.List.{take-append-drop}
use Rattle.std.proofs.lemmas.List.Elements.{Contains-append_left, Contains-push}
use Rattle.x86_insn.specs.declared.instruction.Insn.{Insn}
use Rattle.x86_insn.specs.References.{reference_of, map_references}
use Rattle.x86_insn.proofs.Referring.{reference_mapped}
use Rattle.asm_items.specs.declared.item.Item.{Item}
use Rattle.asm_items.specs.declared.item.Item.TheVariants.{Ins, Label, LongDiff}
use Rattle.asm_items.specs.declared.item.Label as label_type
use Rattle.asm_items.specs.declared.item.Label.TheVariants as label
use Rattle.asm_items.specs.declared.item.NameId.{NameId}
use Rattle.asm_items.specs.declared.item.Sym.{Sym}
use Rattle.asm_items.specs.declared.item.Sym.TheVariants as syms
use Rattle.asm_items.specs.Formed.{is_item}
use Rattle.asm_items.specs.Layout.{Layout, distance, symbol_at}
use Rattle.asm_items.specs.Lines.{Items, counters_number, symbols_in, used_names}
use Rattle.asm_items.specs.Named.{map_sym, name_of, named}
use Rattle.rw_layout.specs.Checks.{IsDefined, IsProgram, UsesDefined}
use Rattle.rw_layout.specs.Looked.{IsFarAt, IsFarLine, IsFirstFar, at_offset, between, distance_in, join, referred, symbol_in, with_symbol}
use Rattle.rw_layout.specs.NameTable.{name_used, symbol_name}
use Rattle.rw_layout.specs.Places.{IsLaidBy, Laid, address_in}
use Rattle.rw_layout.specs.OutOfReach.{IsOutOfReach}
use Rattle.rw_layout.specs.Program.{IsText, Numbered, shown}
use Rattle.rw_layout.specs.Reach.{Distance, HasDistance, IsFar, distance_of, is_in_reach}
use Rattle.rw_layout.specs.Rule.{layout_of}
use Rattle.rw_layout.specs.declared.laying.Order.{Order}
use Rattle.rw_layout.proofs.Defined.{named-line}
use Rattle.rw_layout.proofs.Lines.{shown-at, item-formed}
use Rattle.x86_insn.proofs.Listed.{to_list}
use Rattle.rw_layout.proofs.NameFacts.{used-append}
use Rattle.rw_layout.proofs.UseFacts.{insn-references, use-more, used-within}

stable : (o : Option ℕ) (v : ℕ) → ((o ≡ Some v → ⊥) → ⊥) → o ≡ Some v
stable None v h = absurd (h (λ e. cc))
stable (Some b) v h = by_test (b == v) refl
  where
    by_test : (t : Bool) → (b == v) ≡ t → Some b ≡ Some v
    by_test true e = ap Some (eqb-true b v e)
    by_test false e = absurd (h (λ same. let equal : b ≡ v = cc in let yes = eq-eqb b v equal in cc))

mod-again : (to from : ℕ) → distance to (from % 2 ^ 64) ≡ distance to from
mod-again to from = let again : (from % 2 ^ 64) % 2 ^ 64 ≡ from % 2 ^ 64 = omega arith in ap (λ n. (to % 2 ^ 64 + 2 ^ 64 - n) % 2 ^ 64) again

far-small : (b : ℕ) → is_in_reach b ≡ false → b < 2 ^ 64
far-small b e = by_tests (nat_lt b (2 ^ 31)) (nat_le (2 ^ 64 - 2 ^ 31) b) refl refl
  where
    by_tests : (t u : Bool) → nat_lt b (2 ^ 31) ≡ t → nat_le (2 ^ 64 - 2 ^ 31) b ≡ u → b < 2 ^ 64
    by_tests true u f g = let small = ltb-true b (2 ^ 31) f in omega (arith, small)
    by_tests false true f g =
        let one = ap (λ t. t || nat_le (2 ^ 64 - 2 ^ 31) b) f in
        let yes : is_in_reach b ≡ true = one ∙ g in cc
    by_tests false false f g = let small = leb-false (2 ^ 64 - 2 ^ 31) b g in omega (arith, small)

pub signed-again : (b : ℕ) (z : ℤ) → is_in_reach b ≡ false → z ≡ to_z w64 b → to_z w64 (of_z w64 z) ≡ to_z w64 b
signed-again b z far e = ap (λ y. to_z w64 (of_z w64 y)) e ∙ ap (to_z w64) (of_z-to_z w64 b (far-small b far))

pub far-again : (laid : Laid) (counters : ℕ) (items : List (Item NameId)) (s : Sym NameId) (z : ℤ) → IsFirstFar laid counters items s z → IsFirstFar laid counters items s (to_z w64 (of_z w64 z))
far-again laid counters items s z (q, bytes, far, z_is, before) =
    (q, bytes, far, ap (λ y. to_z w64 (of_z w64 y)) z_is ∙ ap (to_z w64) (of_z-to_z w64 bytes (far-small bytes far.far)), before)

module _ (text : Numbered) (is : IsText text) (program : IsProgram (shown text)) (order : Order) (gap : ℕ) (sizes : List ℕ) (laid : Laid) (by : IsLaidBy (shown text) text.names (layout_of (shown text) order gap sizes) laid) where
  abbrev items : Items
  items = shown text

  abbrev layout : Layout
  layout = layout_of items order gap sizes

  abbrev f : Sym NameId → Sym (List ℕ)
  f = map_sym (name_of text.names)

  abbrev counters : ℕ
  counters = counters_number items

  label-found : (l : label_type.Label) → ((Contains items (Label l) → ⊥) → ⊥) → address_in laid l ≡ Some (layout.label l)
  label-found l h = stable (address_in laid l) (layout.label l) (λ no. h (λ at. no (by.labels l at)))

  module _ (q : ℕ) (item : Item NameId) (here : slice_get text.items q ≡ Some item) where
    good : is_item (named text.names item) ≡ true
    good = item-formed items q (named text.names item) is.formed (shown-at text.names text.items q item here)

    defined : (UsesDefined items (named text.names item) → ⊥) → ⊥
    defined fails = program.defined q (named text.names item, shown-at text.names text.items q item here, fails)

    used : (id : NameId) → name_used item ≡ Some id → Contains (used_names items) (name_of text.names id)
    used id e =
        let more = use-more text.names text.items q item here good id e in
        let last = Contains-push (used_names (take q items)) (name_of text.names id) in
        let some : Contains (used_names (take (q + 1) items)) (name_of text.names id) = subst (λ ns. Contains ns (name_of text.names id)) (sym more) last in
        let all = Contains-append_left (used_names (take (q + 1) items)) (used_names (drop (q + 1) items)) (name_of text.names id) some in
        subst (λ ns. Contains ns (name_of text.names id)) (sym (used-append (take (q + 1) items) (drop (q + 1) items)) ∙ ap used_names (take-append-drop (q + 1) items)) all

    symbol-found : (s : Sym NameId) → ((IsDefined items (f s) → ⊥) → ⊥) → ((id : NameId) (o : ℕ) → s ≡ syms.Named id o → name_used item ≡ Some id) → symbol_in laid counters s ≡ Some (symbol_at items layout (f s))
    symbol-found (syms.Code a) h named_by =
        let none : layout.label (label.Code a) + 0 ≡ layout.label (label.Code a) = omega arith in
        ap (λ o. at_offset o 0) (label-found (label.Code a) h) ∙ ap (λ n. Some (n % 2 ^ 64)) none
    symbol-found (syms.Section n o) h named_by = ap (λ a. at_offset a o) (label-found (label.Section n) h)
    symbol-found (syms.Named id o) h named_by =
        let uses = named_by id o refl in
        ap (λ a. at_offset (join a) o) (by.names_at id (used-within text.names item id good uses) (inl (used id uses)))
    symbol-found (syms.Counter k) h named_by = ap (λ a. at_offset a (8 * k)) (by.regions counters (omega arith))

  -- a distance with the symbol that the text shows
  abbrev as_shown : Option (Sym NameId × ℕ) → Option Distance
  as_shown None = None
  as_shown (Some d) = Some (record { symbol = f d.0; bytes = d.1 })

  insn-distance : (q : ℕ) (i : Insn (Sym NameId)) → slice_get text.items q ≡ Some (Ins i) → as_shown (distance_in laid counters q (Ins i)) ≡ distance_of items layout q (named text.names (Ins i))
  insn-distance q i here = by_reference (reference_of i) refl
    where
      j : Insn (Sym (List ℕ))
      j = map_references f i

      line : slice_get items q ≡ Some (Ins j)
      line = shown-at text.names text.items q (Ins i) here

      shown_distance : Option (Sym (List ℕ)) → Option Distance
      shown_distance o = option_map (λ r. record { symbol = r; bytes = distance (symbol_at items layout r) (layout.insn q + 8) }) o

      by_reference : (o : Option (Sym NameId)) → reference_of i ≡ o → as_shown (distance_in laid counters q (Ins i)) ≡ distance_of items layout q (named text.names (Ins i))
      by_reference None e = ap (λ o. as_shown (referred laid counters q o)) e ∙ sym (ap shown_distance (reference_mapped f i ∙ ap (option_map f) e))
      by_reference (Some s) e =
          let one : symbols_in (Ins j) ≡ f s ∷ [] = insn-references text.names i (good q (Ins i) here) ∙ ap (λ o. to_list (option_map f o)) e in
          let is_defined : (IsDefined items (f s) → ⊥) → ⊥ = λ no. defined q (Ins i) here (λ all. no (subst (λ rs. All (IsDefined items) rs) one all 0 (f s) (omega arith))) in
          let names_it : (id : NameId) (o : ℕ) → s ≡ syms.Named id o → name_used (Ins i) ≡ Some id = λ id o g. ap (option_and_then symbol_name) (e ∙ ap Some g) in
          let to = symbol-found q (Ins i) here s is_defined names_it in
          let from = by.insns q j line in
          ap (λ o. as_shown (referred laid counters q o)) e ∙ ap (λ t. as_shown (with_symbol s (between t (at_offset (slice_get laid.addresses q) 8)))) to
          ∙ ap (λ a. as_shown (with_symbol s (between (Some (symbol_at items layout (f s))) (at_offset a 8)))) from
          ∙ ap (λ d. Some (record { symbol = f s; bytes = d })) (mod-again (symbol_at items layout (f s)) (layout.insn q + 8))
          ∙ sym (ap shown_distance (reference_mapped f i ∙ ap (option_map f) e))

  same-distance : (q : ℕ) (item : Item NameId) → slice_get text.items q ≡ Some item → as_shown (distance_in laid counters q item) ≡ distance_of items layout q (named text.names item)
  same-distance q (Ins i) here = insn-distance q i here
  same-distance q (LongDiff code table) here =
      let to = label-found (label.Code code) (λ no. defined q (LongDiff code table) here (λ both. no both.0)) in
      let from = label-found (label.Table table) (λ no. defined q (LongDiff code table) here (λ both. no both.1)) in
      ap (λ t. as_shown (with_symbol (syms.Code code) (between t (address_in laid (label.Table table))))) to ∙ ap (λ t. as_shown (with_symbol (syms.Code code) (between (Some (layout.label (label.Code code))) t))) from
  same-distance q _ here = refl

  pub far-shown : (q : ℕ) (s : Sym NameId) (bytes : ℕ) → IsFarAt laid counters text.items q s bytes → HasDistance items layout q (record { symbol = f s; bytes = bytes }) × (not (is_in_reach bytes) ≡ true)
  far-shown q s bytes far =
      ((named text.names far.item, shown-at text.names text.items q far.item far.here, sym (same-distance q far.item far.here) ∙ ap as_shown far.has), ap not far.far)

  pub far-line : (q : ℕ) → IsFar items layout q → IsFarLine laid counters text.items q
  far-line q (d, (shown_item, shown_here, has), far) =
      let line = named-line text.names text.items q shown_item shown_here in
      by_distance line.0 line.1 (distance_in laid counters q line.0) refl (same-distance q line.0 line.1 ∙ ap (distance_of items layout q) line.2 ∙ has)
    where
      reached : (b : Bool) → not b ≡ true → b ≡ false
      reached true h = cc
      reached false h = refl

      by_distance : (item : Item NameId) → slice_get text.items q ≡ Some item → (o : Option (Sym NameId × ℕ)) → distance_in laid counters q item ≡ o → as_shown o ≡ Some d → IsFarLine laid counters text.items q
      by_distance item here None e g = cc
      by_distance item here (Some (s, b)) e g =
          let same : b ≡ d.bytes = bytes_are (record { symbol = f s; bytes = b }) d g in
          (s, b, record { item = item; here = here; has = e; far = ap is_in_reach same ∙ reached (is_in_reach d.bytes) far })
        where
          bytes_are : (x y : Distance) → Some x ≡ Some y → x.bytes ≡ y.bytes
          bytes_are x y e = cc

  pub far-first : (s : Sym NameId) (z : ℤ) → IsFirstFar laid counters text.items s z → IsOutOfReach text.names items layout s z
  far-first s z (q, bytes, far, z_is, before) =
      let line = far-shown q s bytes far in
      record {
        line = q;
        distance = record { symbol = f s; bytes = bytes };
        first = record { here = (record { symbol = f s; bytes = bytes }, line.0, line.1); before = λ p less is_far. before p less (far-line p is_far) };
        has = line.0;
        symbol_is = refl;
        far_is = z_is;
      }

  pub none-far : ((q : ℕ) → IsFarLine laid counters text.items q → ⊥) → (q : ℕ) → IsFar items layout q → ⊥
  none-far none q is_far = none q (far-line q is_far)
