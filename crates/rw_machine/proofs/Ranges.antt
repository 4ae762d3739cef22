-- Places inside regions, where memory is laid out as the regions are.
use Rattle.std.proofs.Common.{ℕ, List, [], length, ◌≡◌, ◌<◌, sym, ◌∙◌, ap, subst, slice_index_or, Result, Ok, arith}
use Rattle.std.proofs.lemmas.List.{get_or-map, length-map}
use Rattle.std.proofs.lemmas.Option.{slice_get_within, get_or_from_slice_get}
use Rattle.rw_domain.specs.declared.cause.Cause.{Cause}
use Rattle.rw_domain.specs.declared.place.Access.{Access}
use Rattle.rw_domain.specs.declared.place.Place.{Place}
use Rattle.rw_domain.specs.declared.place.Region.{Region}
use Rattle.rw_domain.specs.Operators.{Operators, IsInside, PlacesInside}
use Rattle.rw_machine.specs.Views.{IsLaidOut, HasRange}

pub has_range : {C : Type 0} (regions : List Region) (rows : List (List C)) (p : Place) (len : ℕ) → IsLaidOut regions rows → IsInside regions p len → HasRange rows p len
has_range regions rows p len laid (region, there, within) =
    let k = p.region in
    let sizes = λ (r : Region). r.size in
    let below : k < length regions = slice_get_within regions k region there in
    let count : length rows ≡ length regions = sym (length-map rows length) ∙ (ap length laid ∙ length-map regions sizes) in
    let below' : k < length rows = omega (arith, below, count) in
    let size : length (slice_index_or rows k []) ≡ region.size =
    sym (get_or-map length rows k [] 0 below') ∙ (ap (λ z. slice_index_or z k 0) laid ∙ (get_or-map sizes regions k region 0 below ∙ ap sizes (get_or_from_slice_get regions k region region there))) in
    record { region = below'; bytes = omega (arith, size, within) }

-- where an access of n bytes is permitted, there are as many bytes
pub permitted_range : {V C : Type 0} (ops : Operators V C) → PlacesInside ops → (rows : List (List C)) → IsLaidOut ops.regions rows
    → (at : V) (len n : ℕ) (access : Access) (p : Place) (answer : Result Place Cause) → n ≡ len → answer ≡ ops.place at n access → answer ≡ Ok p → HasRange rows p len
permitted_range ops inside rows laid at len n access p answer same is ok =
    has_range ops.regions rows p len laid (inside at len access p (subst (λ k. ops.place at k access ≡ Ok p) same (sym is ∙ ok)))
