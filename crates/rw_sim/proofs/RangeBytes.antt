-- The bytes of a range and their numbers, one more at a time.
use Rattle.std.proofs.Common.{◌≡◌, ◌≤◌, ℕ, suc, zero, ◌+◌, List, [], ◌∷◌, ◌++◌, take, drop, slice_get, get_or, Option, Some, None, refl, ◌∙◌, ap, arith, length-take}
use Rattle.std.proofs.lemmas.List.{take_more, take_all}
use Rattle.std.proofs.lemmas.Option.{slice_get_within, get_or_from_slice_get}
use Rattle.rw_domain.specs.declared.place.Place.{Place}
use Rattle.rw_domain.specs.Operators.{Operators}
use Rattle.rw_machine.specs.Events.{option_cons}
use Rattle.rw_machine.specs.Running.{range_at}
use Rattle.rw_sim.specs.Builtins.{byte_number, byte_numbers}

pub front-more : {C : Type 0} (xs : List C) (i : ℕ) (c : C) → slice_get xs i ≡ Some c → take (i + 1) xs ≡ take i xs ++ c ∷ []
front-more xs i c e = take_more xs i c (slice_get_within xs i c e) ∙ ap (λ y. take i xs ++ y ∷ []) (get_or_from_slice_get xs i c c e)

-- a range has no more bytes than it is long
pub range-whole : {C : Type 0} (memory : List (List C)) (p : Place) (len n : ℕ) → len ≤ n → take n (range_at memory p len) ≡ range_at memory p len
range-whole memory p len n le = take_all n (range_at memory p len) (let e = length-take len (drop p.offset (get_or memory p.region [])) in omega (arith, le, e))

module _ {V C : Type 0} (ops : Operators V C) where
  one-more : (rest more : Option (List ℕ)) (o : Option ℕ) (ns : List ℕ) (n : ℕ) → ((ms : List ℕ) → rest ≡ Some ms → more ≡ Some (ms ++ n ∷ [])) → option_cons o rest ≡ Some ns → option_cons o more ≡ Some (ns ++ n ∷ [])
  one-more rest more None ns n then_more e = cc
  one-more None more (Some m) ns n then_more e = cc
  one-more (Some ms) more (Some m) ns n then_more e = ap (option_cons (Some m)) (then_more ms refl) ∙ ap (λ l. Some (l ++ n ∷ [])) (some-same e)
    where
      some-same : {a b : List ℕ} → Some a ≡ Some b → a ≡ b
      some-same e = cc

  numbers-append : (xs : List C) (c : C) (ns : List ℕ) (n : ℕ) → byte_numbers ops xs ≡ Some ns → byte_number ops c ≡ Some n → byte_numbers ops (xs ++ c ∷ []) ≡ Some (ns ++ n ∷ [])
  numbers-append [] c ns n e f = ap (λ o. option_cons o (Some [])) f ∙ ap (λ ms. Some (ms ++ n ∷ [])) (some-same e)
    where
      some-same : {a b : List ℕ} → Some a ≡ Some b → a ≡ b
      some-same e = cc
  numbers-append (x ∷ xs) c ns n e f =
      one-more (byte_numbers ops xs) (byte_numbers ops (xs ++ c ∷ [])) (byte_number ops x) ns n (λ ms er. numbers-append xs c ms n er f) e

  -- one more byte that is a number
  pub numbers-more : (xs : List C) (i : ℕ) (c : C) (ns : List ℕ) (n : ℕ) → slice_get xs i ≡ Some c → byte_number ops c ≡ Some n → byte_numbers ops (take i xs) ≡ Some ns → byte_numbers ops (take (i + 1) xs) ≡ Some (ns ++ n ∷ [])
  numbers-more xs i c ns n got f e = ap (byte_numbers ops) (front-more xs i c got) ∙ numbers-append (take i xs) c ns n e f

  -- one byte that isn't
  pub numbers-none : (xs : List C) (i : ℕ) (c : C) → slice_get xs i ≡ Some c → byte_number ops c ≡ None → byte_numbers ops xs ≡ None
  numbers-none [] i c got f = cc
  numbers-none (x ∷ xs) zero c got f = ap (λ o. option_cons o (byte_numbers ops xs)) (ap (byte_number ops) (some-same got) ∙ f)
    where
      some-same : {a b : C} → Some a ≡ Some b → a ≡ b
      some-same e = cc
  numbers-none (x ∷ xs) (suc i) c got f = ap (option_cons (byte_number ops x)) (numbers-none xs i c got f) ∙ with_none (byte_number ops x)
    where
      with_none : (o : Option ℕ) → option_cons o None ≡ None
      with_none None = refl
      with_none (Some n) = refl
