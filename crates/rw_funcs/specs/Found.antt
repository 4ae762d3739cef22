-- What is kept of the functions of a file: its code sections with their bytes, and a mark for each of these.
use Rattle.std.specs.Prelude.{◌≡◌, ℕ, ◌+◌, ◌<◌, List, ◌++◌, Bool, ◌&&◌, ◌≤◌, true, nat_le, nat_lt, length, map, All, Contains, None, slice_index_or}
use Rattle.std.specs.List.{AllPairs, range_with_len}
use Rattle.rw_base.specs.Rules.{Rule, first}
use Rattle.rw_elf.specs.declared.section.Section.{Section}
use Rattle.rw_elf.specs.declared.symbol.Symbol.{Symbol}
use Rattle.rw_elf.specs.Places.{EndsBefore, section_bytes}
use Rattle.rw_elf.specs.Tables.{IsNameIn, elf_rules, code_sections}
use Rattle.rw_funcs.specs.declared.code.CodeSection.{CodeSection}
use Rattle.rw_funcs.specs.declared.function.Function.{Function}
use Rattle.rw_funcs.specs.Functions.{code_of_symbol, entry_of, function_at, function_rules, functions_of, is_hosted, kept_functions}
use Rattle.rw_funcs.specs.declared.insn_facts.InsnFacts.{InsnFacts}
use Rattle.rw_funcs.specs.Notes.{facts_of, length_or, no_facts, noted_or}
use Rattle.rw_funcs.specs.Points.{Point, file_points, point_rules}

-- the rules of the phases functions and instructions
abbrev pub found_rules : List ℕ → List Rule
found_rules bytes = function_rules bytes ++ point_rules bytes

-- the marks of a section: for each of its bytes the length of the point at its address, else 0
unfoldable pub marks_of : List Point → Section → List ℕ
marks_of ps s = map (λ k. length_or 0 ps (s.addr + k)) (range_with_len 0 s.size)

-- a list has what is noted of each byte of a section
pub record AreNotes {A : Type 0} (note : Point → A) (none : A) (ps : List Point) (s : Section) (list : List A) : Type 0 where
  pub size : length list ≡ s.size
  pub exact : (k : ℕ) → k < s.size → slice_index_or list k none ≡ noted_or note none ps (s.addr + k)

-- a section that is kept has the marks and the facts of some points
pub record HasMarks (ps : List Point) (c : CodeSection) : Type 0 where
  pub marks : AreNotes (λ p. p.len) 0 ps c.section c.marks.items
  pub facts : AreNotes (λ p. facts_of p.insn) no_facts ps c.section c.facts.items

-- what is noted of bytes from a start on: what was noted before, but where there is a point
pub record IsNotedFrom {A : Type 0} (note : Point → A) (none : A) (before after : List A) (start : ℕ) (ps : List Point) : Type 0 where
  pub exact : (k : ℕ) → k < length after → slice_index_or after k none ≡ noted_or note (slice_index_or before k none) ps (start + k)

abbrev pub HasMarksFrom : List ℕ → List ℕ → ℕ → List Point → Type 0
HasMarksFrom before after start ps = IsNotedFrom (λ p. p.len) 0 before after start ps

abbrev pub HasFactsFrom : List InsnFacts → List InsnFacts → ℕ → List Point → Type 0
HasFactsFrom before after start ps = IsNotedFrom (λ p. facts_of p.insn) no_facts before after start ps

-- the code sections of a file, with their bytes
pub record HasSectionsOf (bytes : List ℕ) (code : List CodeSection) : Type 0 where
  pub list : map (λ c. c.section) code ≡ code_sections bytes
  pub stored : All (λ c. c.bytes.items ≡ section_bytes bytes c.section) code

-- the address is one of the section's
abbrev pub lies_in : ℕ → CodeSection → Bool
lies_in a c = nat_le c.section.addr a && nat_lt a (c.section.addr + c.section.size)

-- sections by address, none of which begins before the one before it ends
abbrev pub AreApart : List CodeSection → Type 0
AreApart code = AllPairs (λ c d. EndsBefore c.section d.section) code

-- the one function ends at or below where the other begins
abbrev pub FollowsOn : Function → Function → Type 0
FollowsOn f g = f.span.end ≤ g.span.start

-- the code section is one of the file's, with its bytes, has the address, and has the marks of the file's points
pub record IsCodeAt (bytes : List ℕ) (a : ℕ) (c : CodeSection) : Type 0 where
  pub one_of : Contains (code_sections bytes) c.section
  pub stored : c.bytes.items ≡ section_bytes bytes c.section
  pub has : lies_in a c ≡ true
  pub marked : HasMarks (file_points bytes) c

-- no code section of the file has the address
pub record IsOutside (bytes : List ℕ) (a : ℕ) : Type 0 where
  pub never : (s : Section) → Contains (code_sections bytes) s → (nat_le s.addr a && nat_lt a (s.addr + s.size)) ≡ true → ⊥

-- the code is that of the function, if the function is one of the file's
pub record IsCodeOf (bytes : List ℕ) (function : Function) (code : List ℕ) : Type 0 where
  pub exact : (f : Symbol) → Contains (kept_functions bytes) f → function ≡ function_at f → code ≡ code_of_symbol bytes f

-- the file has no fault in these phases, and these are its code sections, its functions, whether a C library starts it, and
-- its entry
pub record AreFunctionsOf (bytes : List ℕ) (code : List CodeSection) (list : List Function) (hosted : Bool) (entry : ℕ) : Type 0 where
  pub clean_file : first (elf_rules bytes) ≡ None
  pub clean : first (found_rules bytes) ≡ None
  pub sections : HasSectionsOf bytes code
  pub marked : All (HasMarks (file_points bytes)) code
  pub functions : list ≡ functions_of bytes
  pub names : All (λ f. IsNameIn bytes f.name) list
  pub started : hosted ≡ is_hosted bytes
  pub entered : entry ≡ entry_of bytes
