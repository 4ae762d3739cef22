-- The text of a file in a mode, as bytes.
use Rattle.std.specs.Prelude.{◌≡◌, ℕ, List}
use Rattle.asm_items.specs.Formed.{AreItems}
use Rattle.asm_print.specs.Text.{text_of}
use Rattle.asm_items.specs.Lines.{Items}
use Rattle.rw_probe.specs.declared.leaders.Mode.{Mode}
use Rattle.rw_out.specs.Simulates.{Simulates}

-- The bytes are the text of a list of items, and every list of items of which they are the text simulates the file. There is one such
-- list: equal texts are of equal lists.
pub record IsRewritten (file : List ℕ) (mode : Mode) (text : List ℕ) : Type 0 where
  pub written : (items : Items) × AreItems items × (text_of items ≡ text)
  pub simulates : (items : Items) → AreItems items → text_of items ≡ text → Simulates file mode items
