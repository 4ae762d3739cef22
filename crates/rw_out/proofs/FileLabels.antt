-- Each point of any file has a label in its text, with whatever probes, and an address of its own where the text is laid out.
use Rattle.std.proofs.Common.{◌≡◌, ℕ, ◌+◌, ◌^◌, ◌≤◌, List, ◌∷◌, Option, Some, true, sym, ap, ◌∙◌, arith}
use Rattle.std.specs.Prelude.{slice_get}
use Rattle.asm_items.specs.declared.item.Item.{Item}
use Rattle.asm_items.specs.declared.item.Item.TheVariants.{Label, Ins}
use Rattle.asm_items.specs.declared.item.Label.TheVariants as label
use Rattle.asm_items.specs.Lines.{Items}
use Rattle.asm_items.specs.Layout.{Layout, Extent, IsLayout}
use Rattle.asm_items.proofs.Laid.{one-insn}
use Rattle.rw_funcs.specs.Points.{is_point, file_points}
use Rattle.rw_runs.proofs.Lists.{get-front}
use Rattle.rw_code.specs.Start.{Start}
use Rattle.rw_code.proofs.PrintedTargets.{label-address, insn-behind}
use Rattle.rw_out.specs.Items.{Probes, items_with}
use Rattle.rw_out.specs.Simulates.{IsTextLayout}
use Rattle.rw_data.proofs.Clean.{IsClean}
use Rattle.rw_out.proofs.FilePlaces.{LabelAt, point-place, label-there}

-- the text of a file has a label for each of its points
pub point-label : (file : List ℕ) (probes : Probes) → IsClean file → (a : ℕ) → is_point (file_points file) a ≡ true → (q : ℕ) × LabelAt (items_with file probes) a q
point-label file probes clean a h =
    let found = point-place file probes clean a h in
    (found.0, label-there file probes (items_with file probes) a found.0 found.1)

module _ (items : Items) (regions : List Extent) (names : List (List ℕ)) (layout : Layout) (is : IsLayout items regions names layout) where
  address-within : (a q : ℕ) → LabelAt items a q → (4096 ≤ layout.label (label.Code a)) × (layout.label (label.Code a) ≤ 2 ^ 47)
  address-within a q at =
      let address = label-address items regions names layout is q (label.Code a) at.insn at.rest at.lines in
      let bounds = is.insns_laid.bounds (q + 1) at.insn (insn-behind items regions names layout is q (label.Code a) at.insn at.rest at.lines) in
      let least = bounds.0 in
      let most = bounds.1 in
      (omega (arith, least, address), omega (arith, most, address))

  same-label : (a b : ℕ) → ◌≡◌ {A = Option (Item (List ℕ))} (Some (Label (label.Code a))) (Some (Label (label.Code b))) → a ≡ b
  same-label a b e = cc

  addresses-apart : (a q b p : ℕ) → LabelAt items a q → LabelAt items b p → layout.label (label.Code a) ≡ layout.label (label.Code b) → a ≡ b
  addresses-apart a q b p at bt e =
      let first = label-address items regions names layout is q (label.Code a) at.insn at.rest at.lines in
      let second = label-address items regions names layout is p (label.Code b) bt.insn bt.rest bt.lines in
      let behind : q + 1 ≡ p + 1 = one-insn items regions names layout is (q + 1) (p + 1) at.insn bt.insn
      (insn-behind items regions names layout is q (label.Code a) at.insn at.rest at.lines) (insn-behind items regions names layout is p (label.Code b) bt.insn bt.rest bt.lines) (sym first ∙ e ∙ second) in
      let same : q ≡ p = omega (arith, behind) in
      same-label a b (sym (get-front q items (Ins at.insn ∷ at.rest) (Label (label.Code a)) at.lines) ∙ ap (slice_get items) same ∙ get-front p items (Ins bt.insn ∷ bt.rest) (Label (label.Code b)) bt.lines)

-- where the text of a file is laid out, its points have addresses of their own
module _ (file : List ℕ) (probes : Probes) (clean : IsClean file) (start : Start) (layout : Layout) (is : IsTextLayout file (items_with file probes) start layout) where
  pub code-lies : (c : ℕ) → is_point (file_points file) c ≡ true → (4096 ≤ layout.label (label.Code c)) × (layout.label (label.Code c) ≤ 2 ^ 47)
  code-lies c h = let at = point-label file probes clean c h in address-within (items_with file probes) _ _ layout is c at.0 at.1

  pub codes-lie-apart : (c d : ℕ) → is_point (file_points file) c ≡ true → is_point (file_points file) d ≡ true → layout.label (label.Code c) ≡ layout.label (label.Code d) → c ≡ d
  codes-lie-apart c d g h e =
      let at = point-label file probes clean c g in
      let bt = point-label file probes clean d h in addresses-apart (items_with file probes) _ _ layout is c at.0 d bt.0 at.1 bt.1 e
