-- The sets over the nodes of a function are those of its points.
use Rattle.std.proofs.Common.{◌≡◌, ℕ, zero, suc, ◌-◌, ◌<◌, ◌≤◌, List, [], ◌∷◌, length, map, get_or, Some, refl, sym, ap, subst, ◌∙◌, arith, lit<}
use Rattle.std.specs.Prelude.{true, ◌↔◌, slice_get, Option, Contains, ◌+◌, ◌^◌, None}
use Rattle.std.specs.List.{AllPairs}
use Rattle.std.proofs.lemmas.Option.{get_or_from_slice_get}
use Rattle.rw_base.specs.declared.span.Span.{Span}
use Rattle.x86_insn.specs.declared.kinds.Reg.{Reg}
use Rattle.x86_insn.specs.declared.kinds.Reg.TheVariants.{Rax, Rcx, Rdx, Rbx, Rsp, Rbp, Rsi, Rdi, R8, R9, R10, R11, R12, R13, R14, R15}
use Rattle.x86_insn.specs.WellFormed.{code_of}
use Rattle.x86_meaning.specs.declared.sets.Flag.{Flag}
use Rattle.x86_meaning.specs.declared.sets.Flag.TheVariants.{Cf, Zf, Sf, Of, Pf}
use Rattle.x86_meaning.specs.Sets.{flag_code}
use Rattle.rw_elf.specs.declared.symbol.Symbol.{Symbol}
use Rattle.rw_funcs.specs.declared.function.Function.{Function}
use Rattle.rw_funcs.specs.Functions.{end_of, function_at, functions_of, kept_functions}
use Rattle.rw_funcs.specs.Points.{Point}
use Rattle.rw_live.specs.declared.graph.Node.{Node}
use Rattle.rw_base.specs.Rules.{first}
use Rattle.rw_elf.specs.Tables.{elf_rules}
use Rattle.rw_funcs.specs.Found.{found_rules}
use Rattle.rw_funcs.specs.Points.{is_point, file_points}
use Rattle.rw_live.specs.Liveness.{IsLive, IsFlagLive, IsPath}
use Rattle.rw_live.specs.NodePaths.{Has, ComputesLiveness}
use Rattle.rw_live.specs.Nodes.{points_in, nodes_in, reads_by, writes_by, AreOffsets, AreNodes}
use Rattle.rw_live.specs.Lives.{HasAt}
use Rattle.rw_live.proofs.Within.{point-inside}
use Rattle.rw_live.proofs.Apart.{range-apart, range-some, function-small}
use Rattle.rw_live.proofs.SamePaths.{live-from-node, node-from-live}
use Rattle.rw_live.proofs.NodesMade.{are-nodes, reads-register, reads-flag, writes-register, writes-flag}

pub code-below : (r : Reg) → code_of r < 32
code-below Rax = lit< tt
code-below Rcx = lit< tt
code-below Rdx = lit< tt
code-below Rbx = lit< tt
code-below Rsp = lit< tt
code-below Rbp = lit< tt
code-below Rsi = lit< tt
code-below Rdi = lit< tt
code-below R8 = lit< tt
code-below R9 = lit< tt
code-below R10 = lit< tt
code-below R11 = lit< tt
code-below R12 = lit< tt
code-below R13 = lit< tt
code-below R14 = lit< tt
code-below R15 = lit< tt

pub flag-below : (x : Flag) → 16 + flag_code x < 32
flag-below Cf = lit< tt
flag-below Zf = lit< tt
flag-below Sf = lit< tt
flag-below Of = lit< tt
flag-below Pf = lit< tt

sets-are : (points : List Point) (start : ℕ) (offsets : List ℕ) (Reads Writes : Point → Type 0) (b : ℕ) (nodes : ℕ → Option Node) (sets : List ℕ) → b < 32 → AllPairs (λ x y. x < y) offsets → AreNodes points start offsets Reads Writes b nodes → ComputesLiveness nodes sets
    → (c : ℕ) → HasAt offsets sets start c b ↔ ((ds : List ℕ) × IsPath points Reads Writes c ds)
sets-are points start offsets Reads Writes b nodes sets lt ascend are h c = (
  λ k. live-from-node points start offsets Reads Writes b nodes are c k.0 k.1 ((h k.0 b lt).0 k.2),
  λ k. let n = node-from-live points start offsets Reads Writes b nodes are ascend c k in (n.0, n.1, (h n.0 b lt).1 n.2),
)

module _ (bytes : List ℕ) (span : Span) (offsets sets : List ℕ) (low : span.start ≤ span.end) (are : AreOffsets (points_in bytes span) span.start (span.end - span.start) offsets) (clean : first (elf_rules bytes) ≡ None) (rules : first (found_rules bytes) ≡ None) (h : ComputesLiveness (nodes_in (points_in bytes span) span.start offsets) sets) where
  inside : (c : ℕ) → is_point (points_in bytes span) c ≡ true → (span.start ≤ c) × (c < span.start + (span.end - span.start))
  inside c e = let p = point-inside span (file_points bytes) c e in let high = p.1 in (p.0, omega (arith, low, high))

  of-nodes : (Reads Writes : Point → Type 0) (b : ℕ) → ((q : Point) → Has (reads_by (points_in bytes span) q.insn) b ↔ Reads q) → ((q : Point) → Has (writes_by q.insn) b ↔ Writes q)
      → AreNodes (points_in bytes span) span.start offsets Reads Writes b (nodes_in (points_in bytes span) span.start offsets)
  of-nodes Reads Writes b reads writes =
      are-nodes (points_in bytes span) span.start (span.end - span.start) offsets are (range-apart bytes clean rules span) (range-some bytes clean rules span) Reads Writes b reads writes inside

  pub registers-are : (c : ℕ) (r : Reg) → HasAt offsets sets span.start c (code_of r) ↔ IsLive (points_in bytes span) c r
  registers-are c r = sets-are (points_in bytes span) span.start offsets _ _ (code_of r) _ sets (code-below r) are.ascend (of-nodes _ _ (code_of r) (reads-register (points_in bytes span) r) (writes-register r)) h c

  pub flags-are : (c : ℕ) (x : Flag) → HasAt offsets sets span.start c (16 + flag_code x) ↔ IsFlagLive (points_in bytes span) c x
  flags-are c x = sets-are (points_in bytes span) span.start offsets _ _ (16 + flag_code x) _ sets (flag-below x) are.ascend (of-nodes _ _ (16 + flag_code x) (reads-flag (points_in bytes span) x) (writes-flag x)) h c

-- ---- the function with a number

spans-ordered : (symbols : List Symbol) (f : ℕ) (d : Function) → f < length (map function_at symbols) → (get_or (map function_at symbols) f d).span.start ≤ (get_or (map function_at symbols) f d).span.end
spans-ordered [] f d lt = absurd (omega (arith, lt))
spans-ordered (s ∷ symbols) zero d lt = omega arith
spans-ordered (s ∷ symbols) (suc f) d lt = spans-ordered symbols f d (omega (arith, lt))

pub span-ordered : (bytes : List ℕ) (list : List Function) (f : ℕ) (d : Function) → list ≡ functions_of bytes → f < length (functions_of bytes) → (get_or list f d).span.start ≤ (get_or list f d).span.end
span-ordered bytes list f d e lt =
    subst (λ l. (get_or l f d).span.start ≤ (get_or l f d).span.end) (sym e) (spans-ordered (kept_functions bytes) f d lt)

spans-small : (symbols : List Symbol) (f : ℕ) (d : Function) → ((s : Symbol) → Contains symbols s → end_of s - s.value ≤ 16777216) → f < length (map function_at symbols) → (get_or (map function_at symbols) f d).span.end - (get_or (map function_at symbols) f d).span.start < 2 ^ 32
spans-small [] f d small lt = absurd (omega (arith, lt))
spans-small (s ∷ symbols) zero d small lt = let most = small s (0, omega arith, refl) in omega (arith, most)
spans-small (s ∷ symbols) (suc f) d small lt = spans-small symbols f d (λ t h. small t (suc h.0, (let low = h.1 in omega (arith, low)), h.2)) (omega (arith, lt))

pub span-small : (bytes : List ℕ) (list : List Function) (f : ℕ) (d : Function) → first (elf_rules bytes) ≡ None → first (found_rules bytes) ≡ None → list ≡ functions_of bytes → f < length (functions_of bytes) → (get_or list f d).span.end - (get_or list f d).span.start < 2 ^ 32
span-small bytes list f d clean rules e lt =
    subst (λ l. (get_or l f d).span.end - (get_or l f d).span.start < 2 ^ 32) (sym e) (spans-small (kept_functions bytes) f d (λ s h. function-small bytes clean rules s h) lt)

pub that-function : (bytes : List ℕ) (list : List Function) (f : ℕ) (d g : Function) → list ≡ functions_of bytes → slice_get (functions_of bytes) f ≡ Some g → get_or list f d ≡ g
that-function bytes list f d g e there = ap (λ l. get_or l f d) e ∙ get_or_from_slice_get (functions_of bytes) f g d there
