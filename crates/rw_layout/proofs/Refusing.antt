-- The refusal of a line by a check.
use Rattle.std.proofs.Common.{◌≡◌, ℕ, ◌+◌, refl, sym, subst, inl, inr}
use Rattle.rw_base.specs.declared.fault.Fault.TheVariants.{BadText}
use Rattle.rw_base.specs.declared.fault.Refusal.{Refusal}
use Rattle.rw_base.specs.declared.fault.Refusal.TheVariants as refusal
use Rattle.asm_items.specs.Lines.{Items}
use Rattle.rw_layout.specs.Checks.{IsMisplaced, IsRepeated, UsesUndefined, PassesLimit, Nowhere, IsFirstAt, IsRefusedAt, Refuses}

module _ (items : Items) (told : Refusal) (p : ℕ) (is : told ≡ refusal.Fault (BadText (p + 1))) where
  refused : IsRefusedAt items p → Refuses items told
  refused h = subst (Refuses items) (sym is) (p, refl, h)

  pub refused-order : IsFirstAt (IsMisplaced items) p → Refuses items told
  refused-order h = refused (inl h)

  module _ (ordered : Nowhere (IsMisplaced items)) where
    pub refused-repeated : IsFirstAt (IsRepeated items) p → Refuses items told
    refused-repeated h = refused (inr (inl (ordered, h)))

    pub refused-undefined : Nowhere (IsRepeated items) → IsFirstAt (UsesUndefined items) p → Refuses items told
    refused-undefined once h = refused (inr (inr (inl (ordered, once, h))))

    pub refused-oversize : Nowhere (IsRepeated items) → Nowhere (UsesUndefined items) → IsFirstAt (PassesLimit items) p → Refuses items told
    refused-oversize once defined h = refused (inr (inr (inr (ordered, once, defined, h))))
