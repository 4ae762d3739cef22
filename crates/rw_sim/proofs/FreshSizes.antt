-- The regions that came during a run, when one more comes.
use Rattle.std.proofs.Common.{◌≡◌, ◌≤◌, ◌<◌, ◌+◌, ◌-◌, ◌^◌, ℕ, [], ◌∷◌, ◌++◌, length, map, drop, Option, Some, None, refl, sym, ap, subst, ◌∙◌, arith, length-append}
use Rattle.std.specs.Prelude.{IfSome}
use Rattle.std.proofs.lemmas.List.{map-append, drop-append-le, drop_all}
use Rattle.rw_domain.specs.declared.place.Region.{Region}
use Rattle.rw_domain.specs.Operators.{Operators}
use Rattle.rw_domain.specs.Placed.{Placed, with_region}
use Rattle.rw_machine.specs.State.{domain_over}
use Rattle.rw_machine.specs.Step.{placed_with}
use Rattle.rw_sim.specs.declared.fresh.Fresh.{Fresh}
use Rattle.rw_sim.specs.Asking.{fresh_sizes}
use Rattle.rw_sim.specs.FreshRegions.{Counts, Grows, HasRoom}

pub none-fresh : (placed : Placed) → placed.canary + 1 ≡ length placed.regions → fresh_sizes placed ≡ []
none-fresh placed e = ap (map (λ (region : Region). region.size)) (drop_all (placed.canary + 1) placed.regions (omega (arith, e)))

one-fresh : (placed : Placed) (region : Region) (base : ℕ) → placed.canary < length placed.regions → fresh_sizes (with_region placed region base) ≡ fresh_sizes placed ++ region.size ∷ []
one-fresh placed region base low =
    ap (map (λ (r : Region). r.size)) (drop-append-le (placed.canary + 1) placed.regions (region ∷ []) (omega (arith, low)))
    ∙ map-append (λ (r : Region). r.size) (drop (placed.canary + 1) placed.regions) (region ∷ [])

room-more : (placed : Placed) (region : Region) (base bytes now : ℕ) → HasRoom placed bytes → 1 ≤ region.size → now ≡ bytes + region.size → HasRoom (with_region placed region base) now
room-more placed region base bytes now room some e =
    let longer : length (placed.regions ++ region ∷ []) ≡ length placed.regions + length (region ∷ []) = length-append placed.regions (region ∷ []) in
    let one : length (region ∷ []) ≡ 1 = refl in
    record { canary = let low = room.canary in omega (arith, low, longer, one); regions = let few = room.regions in omega (arith, few, longer, one, some, e) }

-- what is kept of the regions, with that of a reply
pub record IsKept (fresh : Fresh) (placed : Placed) : Type 0 where
  pub counts : Counts fresh (fresh_sizes placed)
  pub room : HasRoom placed fresh.bytes

pub kept-grown : {V C : Type 0} (over : Placed → Operators V C) (placed : Placed) (old new : Fresh) (region : Option (Region × ℕ)) → IsKept old placed
    → IfSome region (λ f. (1 ≤ f.0.size) × (old.bytes + f.0.size ≤ 67108864)) → Grows old new region → IsKept new (placed_with (domain_over over) placed region)
kept-grown over placed old new None kept fits e = subst (λ f. IsKept f placed) (sym e) kept
kept-grown over placed old new (Some f) kept fits grows =
    record {
      counts = subst (λ sizes. Counts new sizes) (sym (one-fresh placed f.0 f.1 kept.room.canary)) (grows.1 (fresh_sizes placed) kept.counts);
      room = room-more placed f.0 f.1 old.bytes new.bytes kept.room fits.0 grows.0;
    }

-- there is room for the region of a reply
pub kept-fits : (placed : Placed) (fresh : Fresh) (f : Region × ℕ) → IsKept fresh placed → 1 ≤ f.0.size → fresh.bytes + f.0.size ≤ 67108864 → length placed.regions + 1 < 2 ^ 32 - 1
kept-fits placed fresh f kept some fits = let few = kept.room.regions in omega (arith, few, some, fits)
