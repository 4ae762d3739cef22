-- There is one list of items of a file in a mode, since each leader has one probe.
use Rattle.std.proofs.Common.{◌≡◌, ℕ, zero, suc, ◌<◌, List, [], ◌∷◌, length, Some, sym, ap, ◌∙◌, arith, refl}
use Rattle.std.specs.Prelude.{slice_get}
use Rattle.asm_items.specs.Lines.{Items}
use Rattle.rw_probe.specs.declared.form.Probe.{Probe}
use Rattle.rw_probe.specs.declared.leaders.Mode.{Mode}
use Rattle.rw_probe.specs.declared.leaders.Mode.TheVariants.{Nothing}
use Rattle.rw_probe.specs.Leaders.{leaders_of}
use Rattle.rw_probe.proofs.OneProbe.{same-probe}
use Rattle.rw_out.specs.Items.{items_of, items_with}
use Rattle.rw_out.specs.Probed.{AreItemsOf, AreProbes, points_around, probes_of}
use Rattle.rw_out.proofs.FileProbes.{probes-none}

-- lists of one length that agree at each place are one
same-list : {A : Type 0} (xs ys : List A) → length xs ≡ length ys → ((k : ℕ) (x y : A) → slice_get xs k ≡ Some x → slice_get ys k ≡ Some y → x ≡ y) → xs ≡ ys
same-list [] [] size each = refl
same-list [] (y ∷ ys) size each = absurd (omega (arith, size))
same-list (x ∷ xs) [] size each = absurd (omega (arith, size))
same-list (x ∷ xs) (y ∷ ys) size each = ap (λ z. z ∷ xs) (each 0 x y refl refl) ∙ ap (λ zs. y ∷ zs) (same-list xs ys (omega (arith, size)) (λ k a b e f. each (suc k) a b e f))

-- a place of a list has an item
has-item : {A : Type 0} (xs : List A) (k : ℕ) → k < length xs → (x : A) × (slice_get xs k ≡ Some x)
has-item [] k low = absurd (omega (arith, low))
has-item (x ∷ xs) zero low = (x, refl)
has-item (x ∷ xs) (suc k) low = has-item xs k (omega (arith, low))

within : {A : Type 0} (xs : List A) (k : ℕ) (x : A) → slice_get xs k ≡ Some x → k < length xs
within [] k x e = cc
within (y ∷ xs) zero x e = omega arith
within (y ∷ xs) (suc k) x e = let rest = within xs k x e in omega (arith, rest)

pub one-forms : (file : List ℕ) (mode : Mode) (forms others : List Probe) → AreProbes file mode forms → AreProbes file mode others → forms ≡ others
one-forms file mode forms others are also = same-list forms others (are.count ∙ sym also.count) each
  where
    each : (k : ℕ) (x y : Probe) → slice_get forms k ≡ Some x → slice_get others k ≡ Some y → x ≡ y
    each k x y e f =
        let low = within forms k x e in
        let count = are.count in
        let leader = has-item (leaders_of file mode) k (omega (arith, low, count)) in
        same-probe (points_around file leader.0) leader.0 x y (are.each k leader.0 x leader.1 e) (also.each k leader.0 y leader.1 f)

pub one-list : (file : List ℕ) (mode : Mode) (items others : Items) → AreItemsOf file mode items → AreItemsOf file mode others → items ≡ others
one-list file mode items others are also =
    are.are_items ∙ ap (λ forms. items_with file (probes_of file mode forms)) (one-forms file mode are.forms also.forms are.are_probes also.are_probes) ∙ sym also.are_items

pub list-alone : (file : List ℕ) (items : Items) → AreItemsOf file Nothing items → items ≡ items_of file
list-alone file items are = are.are_items ∙ ap (items_with file) (probes-none file are.forms)
