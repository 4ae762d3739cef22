-- The refusal of a program whose layout has a distance out of reach.
use Rattle.std.specs.Prelude.{◌≡◌, ℕ, ℤ, List}
use Rattle.asm_items.specs.declared.item.NameId.{NameId}
use Rattle.asm_items.specs.declared.item.Sym.{Sym}
use Rattle.asm_items.specs.Layout.{Layout}
use Rattle.asm_items.specs.Lines.{Items}
use Rattle.asm_items.specs.Named.{map_sym, name_of}
use Rattle.rw_layout.specs.Checks.{IsFirstAt}
use Rattle.rw_layout.specs.Reach.{Distance, HasDistance, IsFar, signed}
use Rattle.rw_layout.specs.declared.reach.LayoutError.{LayoutError}
use Rattle.rw_layout.specs.declared.reach.LayoutError.TheVariants.{OutOfReach, Memory}

-- the first line in the order of the text that has a distance out of reach has this one, of this symbol
pub record IsOutOfReach (names : List (List ℕ)) (items : Items) (layout : Layout) (symbol : Sym NameId) (far : ℤ) : Type 0 where
  pub line : ℕ
  pub distance : Distance
  pub first : IsFirstAt (IsFar items layout) line
  pub has : HasDistance items layout line distance
  pub symbol_is : distance.symbol ≡ map_sym (name_of names) symbol
  pub far_is : far ≡ signed distance.bytes

-- what a layout that isn't handed out is refused for: that, or want of memory
abbrev pub RefusesLayout : List (List ℕ) → Items → Layout → LayoutError → Type 0
RefusesLayout names items layout (OutOfReach symbol far) = IsOutOfReach names items layout symbol far
RefusesLayout names items layout Memory = Unit {0}
