-- Where the words of the symbolic machine lead, and where the numbers do for which they stand.
use Rattle.std.proofs.Common.{◌≡◌, ℕ, List, Bool, true, false, cond, refl, sym, subst}
use Rattle.std.specs.Prelude.{Result, Ok, Err}
use Rattle.rw_words.specs.declared.atom.Atom.{Atom}
use Rattle.rw_words.specs.declared.atom.Atom.TheVariants.{Ptr, Code, Import, End, Diff}
use Rattle.rw_words.specs.declared.atom.Atom.TheVariants as atom
use Rattle.rw_words.specs.declared.atom.Cell.{Cell}
use Rattle.rw_words.specs.declared.kind.Kind.{Kind}
use Rattle.rw_words.specs.declared.kind.Kind.TheVariants.{Number, Whole, Mixed}
use Rattle.rw_words.specs.Addresses.{Addresses, address_of}
use Rattle.rw_words.specs.Kinds.{kind_of, KindStands}
use Rattle.rw_words.proofs.WordLemmas.{kind-stands}
use Rattle.rw_domain.specs.declared.cause.Cause.{Cause}
use Rattle.rw_domain.specs.declared.cause.Cause.TheVariants.{TargetNoPoint}
use Rattle.rw_domain.specs.Stands.{ResultStands}
use Rattle.rw_domain.specs.LaidOut.{WordStands}
use Rattle.rw_domain.proofs.KnownWords.{KnownKind, kind-known}
use Rattle.rw_funcs.specs.Points.{is_one_of, is_point, file_points}
use Rattle.rw_machine.specs.declared.goal.Goal.{Goal}
use Rattle.rw_machine.specs.declared.goal.Goal.TheVariants as goal
use Rattle.rw_machine.specs.Stands.{GoalStands}
use Rattle.rw_code.specs.declared.point.FilePoint.{FilePoint}
use Rattle.rw_code.specs.declared.point.FilePoint.TheVariants.{At}
use Rattle.rw_code.specs.Ground.{Ground}
use Rattle.rw_code.specs.Imports.{imports_of, is_copied}
use Rattle.rw_code.specs.Known.{has_address}
use Rattle.rw_code.specs.File.{labels_of, atom_goal, kind_goal}

module _ {P : Type 0} (l : Addresses) (file : List ℕ) (file_ground : Ground) (Named : ℕ → ℕ → Type 0) (Near : FilePoint → P → Type 0) (target : ℕ → Result (Goal P) Cause) where
  abbrev pub Leads : Result (Goal FilePoint) Cause → Result (Goal P) Cause → Type 0
  Leads a b = ResultStands (GoalStands Named Near) a b

  -- The address of a point leads to a place near it, that of an imported symbol that isn't copied to a symbol of its name, and
  -- that of the end out of the run.
  module _ (to_point : (c : ℕ) → is_point (file_points file) c ≡ true → Leads (Ok (goal.At (At c))) (target (address_of l (Code c))))
      (to_import : (i : ℕ) → is_one_of (imports_of file) i ≡ true → is_copied file i ≡ false → Leads (Ok (goal.Import i)) (target (address_of l (Import i)))) (to_end : Leads (Ok goal.Finish) (target (address_of l End))) where
    code-leads : (c : ℕ) (t : Bool) → is_point (file_points file) c ≡ t → Leads (cond t (Ok (goal.At (At c))) (Err TargetNoPoint)) (target (address_of l (Code c)))
    code-leads c true h = to_point c h
    code-leads c false h = tt

    import-leads : (i : ℕ) → is_one_of (imports_of file) i ≡ true → (t : Bool) → is_copied file i ≡ t → Leads (cond t (Err TargetNoPoint) (Ok (goal.Import i))) (target (address_of l (Import i)))
    import-leads i known true h = tt
    import-leads i known false h = to_import i known h

    atom-leads : (a : Atom) → has_address (labels_of file file_ground) a ≡ true → Leads (atom_goal (file_points file) (is_copied file) a) (target (address_of l a))
    atom-leads (Ptr r o) known = tt
    atom-leads (Code c) known = code-leads c (is_point (file_points file) c) refl
    atom-leads (atom.Past s) known = tt
    atom-leads (Import i) known = import-leads i known (is_copied file i) refl
    atom-leads End known = to_end
    atom-leads (Diff c r o) known = tt

    kind-leads : (k : Kind) (n : ℕ) → KnownKind l (has_address (labels_of file file_ground)) k → KindStands l k n → Leads (kind_goal (file_points file) (is_copied file) k) (target n)
    kind-leads (Number v) n known e = tt
    kind-leads (Whole a) n known e = subst (λ z. Leads (atom_goal (file_points file) (is_copied file) a) (target z)) (sym e) (atom-leads a known)
    kind-leads Mixed n known e = tt

    pub word-leads : (a : List Cell) (n : ℕ) → WordStands l (has_address (labels_of file file_ground)) a n → Leads (kind_goal (file_points file) (is_copied file) (kind_of a)) (target n)
    word-leads a n h = kind-leads (kind_of a) n (kind-known l (has_address (labels_of file file_ground)) a h.atoms) (kind-stands l a n h.cells)
