-- What an instruction writes has room in memory.
use Rattle.std.proofs.Common.{◌≡◌, ℕ, suc, List, take, Result, Ok, Err, true, if◌then◌else◌, refl, ◌∙◌, ap}
use Rattle.rw_base.specs.declared.width.Width.{Width}
use Rattle.rw_base.specs.declared.width.Width.TheVariants.{B, W, L, Q}
use Rattle.rw_base.specs.Width.{byte_count}
use Rattle.rw_domain.specs.Eight.{eight_of}
use Rattle.rw_domain.specs.declared.cause.Cause.{Cause}
use Rattle.rw_domain.specs.declared.place.Access.TheVariants.{Read, Write}
use Rattle.rw_domain.specs.declared.place.Place.{Place}
use Rattle.rw_domain.specs.declared.place.Region.{Region}
use Rattle.rw_domain.specs.Operators.{Operators, PlacesInside}
use Rattle.rw_machine.specs.Running.{bytes_from, StringStep, from_and_to, target_place, element_places, element_written, elements_written, next_address}
use Rattle.rw_machine.specs.Views.{HasRange, IsLaidOut, eight_bytes}
use Rattle.rw_machine.proofs.RowLemmas.{placed-in-rows}

module _ {V C : Type 0} (ops : Operators V C) where
  from-and-to : (a b : Result Place Cause) (p q : Place) → Ok (p, q) ≡ from_and_to ops a b → (Ok p ≡ a) × (Ok q ≡ b)
  from-and-to (Err c) b p q e = cc
  from-and-to (Ok x) (Err c) p q e = cc
  from-and-to (Ok x) (Ok y) p q e =
      let h : ◌≡◌ {A = Place × Place} (p, q) (x, y) = cc in (ap (λ (z : Place × Place). Ok z.0) h, ap (λ (z : Place × Place). Ok z.1) h)

  module _ (regions : List Region) (rows : List (List C)) (inside : PlacesInside ops) (same : ops.regions ≡ regions) (laid : IsLaidOut regions rows) where
    -- both places of an element have room
    pub element-target : (step : StringStep V) (source target : V) (p q : Place) → Ok (p, q) ≡ element_places ops step source target → HasRange rows q (byte_count step.width)
    element-target step source target p q e =
        placed-in-rows ops regions rows target (byte_count step.width) Write q inside same laid
        (from-and-to (if step.moves then ops.place source (byte_count step.width) Read else target_place ops step target) (target_place ops step target) p q e).1

    pub element-source : (step : StringStep V) (source target : V) (p q : Place) → Ok (p, q) ≡ element_places ops step source target → step.moves ≡ true → HasRange rows p (byte_count step.width)
    element-source step source target p q e moves =
        placed-in-rows ops regions rows source (byte_count step.width) Read p inside same laid
        ((from-and-to (if step.moves then ops.place source (byte_count step.width) Read else target_place ops step target) (target_place ops step target) p q e).0
        ∙ ap (λ t. if t then ops.place source (byte_count step.width) Read else target_place ops step target) moves)

-- one more element is written
pub written-next : {V C : Type 0} (ops : Operators V C) (step : StringStep V) (n m : ℕ) (rows rows' : List (List C)) (source target source' target' : V) → n ≡ suc m
    → rows' ≡ element_written ops step rows (element_places ops step source target) → source' ≡ next_address ops step source → target' ≡ next_address ops step target
    → elements_written ops step m rows' source' target' ≡ elements_written ops step n rows source target
written-next ops step n m rows rows' source target source' target' e er es et = rw (e, er, es, et) refl

-- the low bytes of a word
pub low_bytes : {V C : Type 0} (ops : Operators V C) (w : Width) (v : V) → take (byte_count w) (eight_of (eight_bytes ops 0 v)) ≡ bytes_from ops (byte_count w) 0 v
low_bytes ops B v = refl
low_bytes ops W v = refl
low_bytes ops L v = refl
low_bytes ops Q v = refl
