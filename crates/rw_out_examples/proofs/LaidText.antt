-- A layout of a text, by the tests of layouts, where its items and names are known.
use Rattle.std.proofs.Common.{◌≡◌, ℕ, List, true, sym, subst}
use Rattle.asm_items.specs.Lines.{Items}
use Rattle.asm_items.specs.Layout.{IsLayout, Layout}
use Rattle.asm_items.proofs.LaidByTests.{laid-by-tests, passes}
use Rattle.rw_code.specs.Printed.{text_extents}
use Rattle.rw_code.specs.Start.{Start}
use Rattle.rw_out.specs.Simulates.{names_of, IsTextLayout}

pub text-by-tests : (file : List ℕ) (items known : Items) (names : List (List ℕ)) (start : Start) (layout : Layout) → items ≡ known → names_of file known ≡ names
    → passes known (text_extents known layout start) names layout ≡ true → IsTextLayout file items start layout
text-by-tests file items known names start layout items-are names-are h =
    subst (λ xs. IsTextLayout file xs start layout) (sym items-are)
    (subst (λ ns. IsLayout known (text_extents known layout start) ns layout) (sym names-are) (laid-by-tests known (text_extents known layout start) names layout h))
