-- An answer whose writes all stand also stands where more writes would have room.
use Rattle.std.proofs.Common.{◌≡◌, ◌+◌, List, [], ◌∷◌, length, Some, None, Bool, true, false, cond, refl, ap, subst, ◌∙◌}
use Rattle.std.specs.Prelude.{All, not, ◌&&◌, nat_eq, nat_le}
use Rattle.std.proofs.lemmas.List.Elements.{All-nil, All-cons}
use Rattle.rw_domain.specs.declared.place.Place.{Place}
use Rattle.rw_domain.specs.Stands.{Both}
use Rattle.rw_machine.specs.Events.{Reply}
use Rattle.rw_machine.specs.Stands.{Spare, Room, is_under, writes_outside, WriteStands, ReplyStands}
use Rattle.rw_machine.proofs.RepliedMemory.{outside-none}
use Rattle.rw_machine.proofs.Lists.{same_length}

module _ {V U E F : Type 0} (R : V → U → Type 0) (Byte : E → F → Type 0) (spare : Spare F) (room : Room) where
  abbrev Writes : List (Place × List E) → List (Place × List F) → Type 0
  Writes us vs = Both (WriteStands Byte spare) us vs

  abbrev Known : Place × List F → Type 0
  Known v = is_under room v ≡ true → All (λ b. (a : E) × Byte a b) v.1

  -- one room has both writes or none
  same-side : (room : Room) (p q : Place) (us : List E) (vs : List F) → p ≡ q → length us ≡ length vs → is_under room (p, us) ≡ is_under room (q, vs)
  same-side None p q us vs place size = refl
  same-side (Some r) p q us vs place size =
      ap (λ z. nat_eq z.region r.0 && nat_le (z.offset + length us) r.1) place ∙ ap (λ k. nat_eq q.region r.0 && nat_le (q.offset + k) r.1) size

  chosen : (t u : Bool) → t ≡ u → (us us' : List (Place × List E)) (vs vs' : List (Place × List F)) → Writes us vs → Writes us' vs' → Writes (cond t us us') (cond u vs vs')
  chosen true true e us us' vs vs' h k = h
  chosen true false e us us' vs vs' h k = cc
  chosen false true e us us' vs vs' h k = cc
  chosen false false e us us' vs vs' h k = k

  both-outside : (us : List (Place × List E)) (vs : List (Place × List F)) → Writes us vs → Writes (writes_outside room us) (writes_outside room vs)
  both-outside [] [] h = tt
  both-outside [] (v ∷ vs) h = absurd h
  both-outside (u ∷ us) [] h = absurd h
  both-outside (u ∷ us) (v ∷ vs) h =
      chosen (not (is_under room u)) (not (is_under room v)) (ap not (same-side room u.0 v.0 u.1 v.1 h.0.place (same_length Byte u.1 v.1 h.0.bytes))) _ _ _ _
      (h.0, both-outside us vs h.1) (both-outside us vs h.1)

  known-bytes : (us : List E) (vs : List F) → Both Byte us vs → All (λ b. (a : E) × Byte a b) vs
  known-bytes [] [] h = All-nil (λ b. (a : E) × Byte a b)
  known-bytes [] (v ∷ vs) h = absurd h
  known-bytes (u ∷ us) [] h = absurd h
  known-bytes (u ∷ us) (v ∷ vs) h = All-cons (λ b. (a : E) × Byte a b) v vs (u, h.0) (known-bytes us vs h.1)

  all-known : (us : List (Place × List E)) (vs : List (Place × List F)) → Writes us vs → All Known vs
  all-known [] [] h = All-nil Known
  all-known [] (v ∷ vs) h = absurd h
  all-known (u ∷ us) [] h = absurd h
  all-known (u ∷ us) (v ∷ vs) h = All-cons Known v vs (λ e. known-bytes u.1 v.1 h.0.bytes) (all-known us vs h.1)

  pub with-room : (r : Reply V E) (q : Reply U F) → ReplyStands R Byte spare None r q → ReplyStands R Byte spare room r q
  with-room r q k =
      let all : Writes r.writes q.writes = subst (λ vs. Writes r.writes vs) (outside-none q.writes) (subst (λ us. Writes us (writes_outside None q.writes)) (outside-none r.writes) k.writes) in
      record {
        result = k.result;
        scratch = k.scratch;
        writes = both-outside r.writes q.writes all;
        under = all-known r.writes q.writes all;
        fresh = k.fresh;
        ending = k.ending;
      }
