-- The starts of functions, of their symbols and of their ranges.
use Rattle.std.proofs.Common.{◌≡◌, ℕ, ◌+◌, ◌<◌, List, [], ◌∷◌, length, get_or, map, None, refl, ap, ◌∙◌}
use Rattle.std.specs.Prelude.{◌==◌, ◌||◌}
use Rattle.std.specs.List.{list_any}
use Rattle.std.proofs.lemmas.List.{get_or-map}
use Rattle.std.proofs.lemmas.List.Elements.{Contains-get_or}
use Rattle.rw_base.specs.Rules.{first}
use Rattle.rw_elf.specs.declared.symbol.Symbol.{Symbol}
use Rattle.rw_elf.specs.Symbols.{null_symbol}
use Rattle.rw_elf.specs.Tables.{elf_rules}
use Rattle.rw_funcs.specs.declared.function.Function.{Function}
use Rattle.rw_funcs.specs.Found.{found_rules, IsCodeOf}
use Rattle.rw_funcs.specs.Functions.{end_of, function_at, functions_of, kept_functions, starts_at}
use Rattle.rw_funcs.proofs.Facts.{code_length}
use Rattle.rw_funcs.proofs.FunctionsOf.{clean-functions, no_function, nth-index}

pub starts-are : (a : ℕ) (list : List Symbol) → list_any (λ f. f.span.start == a) (map function_at list) ≡ list_any (starts_at a) list
starts-are a [] = refl
starts-are a (f ∷ list) = ap (λ b. (f.value == a) || b) (starts-are a list)

-- where the code of a function ends
pub code-end : (bytes : List ℕ) (list : List Function) → list ≡ functions_of bytes → first (elf_rules bytes) ≡ None → first (found_rules bytes) ≡ None → (i : ℕ) (code : List ℕ) → i < length list → IsCodeOf bytes (get_or list i no_function) code
    → (get_or list i no_function).span.start + length code ≡ end_of (get_or (kept_functions bytes) i null_symbol)
code-end bytes list is file found i code within of =
    let low = nth-index bytes list is i within in
    let f : Symbol = get_or (kept_functions bytes) i null_symbol in
    let there = Contains-get_or (kept_functions bytes) i null_symbol low in
    let same : get_or list i no_function ≡ function_at (get_or (kept_functions bytes) i null_symbol) = ap (λ l. get_or l i no_function) is ∙ get_or-map function_at (kept_functions bytes) i null_symbol no_function low in
    let size = ap length (of.exact f there same) ∙ code_length bytes f file (clean-functions bytes found) there in
    ap (λ g. g.span.start + length code) same ∙ ap (λ n. (get_or (kept_functions bytes) i null_symbol).value + n) size
