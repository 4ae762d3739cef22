-- The bytes at addresses of a file that breaks no rule are as many as were asked for.
use Rattle.std.proofs.Common.{◌≡◌, ℕ, ◌+◌, ◌-◌, ◌≤◌, cond, Bool, true, false, List, length, filter, slice_get, slice_range, Option, Some, None, Contains, refl, sym, ap, ◌∙◌, arith, length-take, length-drop}
use Rattle.std.proofs.lemmas.Bool.Decides.{nat_tests}
use Rattle.std.proofs.lemmas.Option.{slice_get_within, get_or_from_slice_get}
use Rattle.std.specs.Option.{option_and_then}
use Rattle.rw_base.specs.Rules.{first}
use Rattle.rw_elf.specs.declared.section.Section.{Section}
use Rattle.rw_elf.specs.Places.{Covers, bytes_at, bytes_from, bytes_in, covers, section_around, stores}
use Rattle.rw_elf.specs.Section.{sections}
use Rattle.rw_elf.specs.Sections.{has_bytes, is_placed}
use Rattle.rw_elf.specs.Tables.{elf_rules}
use Rattle.rw_elf.proofs.Around.{covers-parts, filter_contains, filter_tests}
use Rattle.rw_elf.proofs.Clean.{clean_stored}

range-length : (bytes : List ℕ) (at n : ℕ) → at + n ≤ length bytes → length (slice_range bytes at (at + n)) ≡ n
range-length bytes at n h = simp (length-take, length-drop) (omega arith)

stored-parts : (s : Section) (a n : ℕ) → stores s a n ≡ true → (has_bytes s ≡ true) × (a + n ≤ s.addr + s.size)
stored-parts s a n h = grind (arith, nat_tests)

pub bytes_at-length : (bytes : List ℕ) (a n : ℕ) (word : List ℕ) → first (elf_rules bytes) ≡ None → bytes_at bytes a n ≡ Some word → length word ≡ n
unfolding section_around
bytes_at-length bytes a n word clean h = by_section (slice_get (filter (covers a) (sections bytes)) 0) refl h
  where
    by_stored : (s : Section) → (is_placed s ≡ true) × Covers a s → Contains (sections bytes) s → (t : Bool) → stores s a n ≡ t → ◌≡◌ {A = Option (List ℕ)} (cond t (Some (bytes_from bytes s a n)) None) (Some word) → length word ≡ n
    by_stored s on here false none g = absurd (cc)
    by_stored s on here true some g =
        let same : bytes_from bytes s a n ≡ word = cc in
        let parts = stored-parts s a n some in
        let low = on.1.0 in
        let high = parts.1 in
        let inside = clean_stored bytes s clean here on.0 parts.0 in
        ap length (sym same) ∙ range-length bytes (s.offset + (a - s.addr)) n (omega (arith, low, high, inside))

    by_section : (o : Option Section) → slice_get (filter (covers a) (sections bytes)) 0 ≡ o → option_and_then (bytes_in bytes a n) o ≡ Some word → length word ≡ n
    by_section None found g = absurd (cc)
    by_section (Some s) found g =
        let first : Contains (filter (covers a) (sections bytes)) s = (0, slice_get_within (filter (covers a) (sections bytes)) 0 s found, get_or_from_slice_get (filter (covers a) (sections bytes)) 0 s s found) in
        by_stored s (covers-parts a s (filter_tests (covers a) (sections bytes) s first)) (filter_contains (covers a) (sections bytes) s first) (stores s a n) refl g
