-- The probes that a plan keeps are those of its file.
use Rattle.std.proofs.Common.{◌≡◌, ℕ, zero, suc, ◌<◌, ◌==◌, Bool, true, false, List, [], ◌∷◌, length, Option, Some, None, refl, sym, ap, subst, ◌∙◌, arith}
use Rattle.std.specs.Prelude.{MatchOption, option_and_then, option_map, position, slice_get, slice_index_or}
use Rattle.std.proofs.lemmas.Option.{slice_get-map}
use Rattle.std.specs.List.{list_any}
use Rattle.std.specs.Option.{option_or}
use Rattle.std.proofs.lemmas.List.{length-map}
use Rattle.std.proofs.lemmas.List.Quantifiers.{position-Some}
use Rattle.rw_base.specs.Rules.{first}
use Rattle.asm_items.proofs.Numbers.{absent, present}
use Rattle.rw_base.proofs.First.{first_append}
use Rattle.rw_funcs.specs.Found.{found_rules}
use Rattle.rw_funcs.specs.Functions.{function_rules}
use Rattle.rw_funcs.specs.Points.{point_rules}
use Rattle.rw_data.proofs.Clean.{IsClean}
use Rattle.rw_probe.specs.declared.form.Probe.{Probe}
use Rattle.rw_probe.specs.declared.leaders.Mode.{Mode}
use Rattle.rw_probe.specs.Leaders.{is_leader, leaders_of}
use Rattle.rw_probe.proofs.LeaderFacts.{leaders-are, leaders-few}
use Rattle.rw_out.specs.Choosing.{AreBytesOf}
use Rattle.rw_out.specs.Kept.{AreFew, forms_of, probe_of_byte, probes_by}
use Rattle.rw_out.specs.Probed.{AreProbes, counted, probes_of}

pub probes-are : (file : List ℕ) (mode : Mode) (leaders bytes : List ℕ) → leaders ≡ leaders_of file mode → probes_by leaders bytes ≡ probes_of file mode (forms_of bytes)
probes-are file mode leaders bytes is = ap (λ ls. probes_by ls bytes) is

-- ---- there are few, since leaders are points and these are no more than the bytes of code

counted-number : (forms : List Probe) (o : Option ℕ) (k : ℕ) (form : Probe) → option_and_then (counted forms) o ≡ Some (k, form) → o ≡ Some k
counted-number forms None k form e = absurd (cc)
counted-number forms (Some n) k form e = by (slice_get forms n) e
  where
    by : (o : Option Probe) → option_map {U = ℕ × Probe} (λ f. (n, f)) o ≡ Some (k, form) → Some n ≡ Some k
    by None g = absurd (cc)
    by (Some f) g = ap (option_map {U = ℕ} (λ (x : ℕ × Probe). x.0)) g

found-clean : (file : List ℕ) → IsClean file → first (found_rules file) ≡ None
found-clean file clean = first_append (function_rules file) (point_rules file) ∙ (ap (λ o. option_or o (first (point_rules file))) clean.functions ∙ clean.points)

module _ (file : List ℕ) (mode : Mode) (clean : IsClean file) where
  pub few-probes : (forms : List Probe) → AreFew (probes_of file mode forms)
  few-probes forms = record {
    counters = leaders-few file mode clean.elf (found-clean file clean);
    numbers = λ a k form e. (position-Some (λ leader. leader == a) (leaders_of file mode) k 0 (counted-number forms (position (λ leader. leader == a) (leaders_of file mode)) k form e)).0;
  }

  pub few-counters : (leaders bytes : List ℕ) → leaders ≡ leaders_of file mode → AreFew (probes_by leaders bytes)
  few-counters leaders bytes is = subst AreFew (sym (probes-are file mode leaders bytes is)) (few-probes (forms_of bytes))

-- ---- they are its own

pub are-probes : (file : List ℕ) (mode : Mode) (leaders bytes : List ℕ) → leaders ≡ leaders_of file mode → AreBytesOf file leaders bytes → AreProbes file mode (forms_of bytes)
are-probes file mode leaders bytes is are = record {
  count = length-map bytes probe_of_byte ∙ (are.count ∙ ap length is);
  each = λ k a form h g. are.each k a form (ap (λ ls. slice_get ls k) is ∙ h) g;
}

-- ---- they stand exactly at the leaders

is-there : (forms : List Probe) (n : ℕ) → n < length forms → (o : Option Probe) → slice_get forms n ≡ o → (form : Probe) × (o ≡ Some form)
is-there forms n h (Some form) e = (form, refl)
is-there forms n h None e = absurd (missing forms n h e)
  where
    missing : (fs : List Probe) (k : ℕ) → k < length fs → slice_get fs k ≡ None → ⊥
    missing [] k low g = omega (arith, low)
    missing (f ∷ fs) zero low g = cc
    missing (f ∷ fs) (suc k) low g = missing fs k (omega (arith, low)) g

module _ (file : List ℕ) (mode : Mode) (clean : IsClean file) (forms : List Probe) (are : AreProbes file mode forms) (c : ℕ) where
  same : list_any (λ leader. leader == c) (leaders_of file mode) ≡ is_leader file mode c
  same = leaders-are file mode c clean.elf (found-clean file clean) clean.tables

  abbrev IsLeader : Bool → Type 0
  IsLeader t = is_leader file mode c ≡ t

  by-place : (o : Option ℕ) → position (λ leader. leader == c) (leaders_of file mode) ≡ o → MatchOption (option_and_then (counted forms) o) (IsLeader false) (λ _. IsLeader true)
  by-place None e = sym same ∙ absent (λ leader. leader == c) (leaders_of file mode) e
  by-place (Some n) e =
      let low = (position-Some (λ leader. leader == c) (leaders_of file mode) n 0 e).0 in
      let count = are.count in
      let form = is-there forms n (omega (arith, low, count)) (slice_get forms n) refl in
      subst (λ (o : Option Probe). MatchOption {T = ℕ × Probe} (option_map {U = ℕ × Probe} (λ f. (n, f)) o) (IsLeader false) (λ _. IsLeader true)) (sym form.1)
      (sym same ∙ (present (λ leader. leader == c) (leaders_of file mode) n e).0)

  pub leader-at : (o : Option (ℕ × Probe)) → (probes_of file mode forms).at c ≡ o → MatchOption o (IsLeader false) (λ _. IsLeader true)
  leader-at o e = subst (λ x. MatchOption x (IsLeader false) (λ _. IsLeader true)) e (by-place (position (λ leader. leader == c) (leaders_of file mode)) refl)

-- ---- what is read of them

pub item-at : (xs : List ℕ) (n x : ℕ) → n < length xs → x ≡ slice_index_or xs n x → slice_get xs n ≡ Some x
item-at [] n x low e = absurd (omega (arith, low))
item-at (y ∷ xs) zero x low e = ap (λ z. Some z) (sym e)
item-at (y ∷ xs) (suc n) x low e = item-at xs n x (omega (arith, low)) e

pub counted-at : (bytes : List ℕ) (number byte : ℕ) → slice_get bytes number ≡ Some byte → counted (forms_of bytes) number ≡ Some (number, probe_of_byte byte)
counted-at bytes number byte item = ap (option_map {U = ℕ × Probe} (λ form. (number, form))) (slice_get-map probe_of_byte bytes number ∙ ap (option_map probe_of_byte) item)

-- ---- without bytes there are as many counters, and no probe

pub bare-few : (leaders bytes : List ℕ) → AreFew (probes_by leaders bytes) → AreFew (probes_by leaders [])
bare-few leaders bytes few = record { counters = few.counters; numbers = λ a k form e. absurd (none (position (λ leader. leader == a) leaders) k form e) }
  where
    none : (o : Option ℕ) (k : ℕ) (form : Probe) → option_and_then (counted (forms_of [])) o ≡ Some (k, form) → ⊥
    none None k form e = cc
    none (Some n) k form e = cc
