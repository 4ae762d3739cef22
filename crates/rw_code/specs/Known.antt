-- Which atoms have an address wherever the file is placed or its text is laid out.
use Rattle.std.specs.Prelude.{ℕ, List, Bool, true}
use Rattle.std.specs.List.{list_any}
use Rattle.rw_funcs.specs.Points.{is_one_of}
use Rattle.rw_words.specs.declared.atom.Atom.{Atom}
use Rattle.rw_words.specs.declared.atom.Atom.TheVariants.{Ptr, Code, Past, Import, End, Diff}
use Rattle.rw_words.specs.Words.{same_atom}

-- the addresses of the points of a file, the starts of its functions, the numbers of the symbols that it imports, and the
-- distances that the words of its jump tables hold
pub record Labels : Type 0 where
  pub points : List ℕ
  pub starts : List ℕ
  pub imports : List ℕ
  pub distances : List Atom

-- A pointer into any region of the run, also one that an answer brings later; a point; the past of a function; an imported
-- symbol; the end; and a distance of a jump table.
abbrev pub has_address : Labels → Atom → Bool
has_address labels (Ptr r o) = true
has_address labels (Code c) = is_one_of labels.points c
has_address labels (Past s) = is_one_of labels.starts s
has_address labels (Import i) = is_one_of labels.imports i
has_address labels End = true
has_address labels (Diff c r o) = list_any (λ d. same_atom d (Diff c r o)) labels.distances
