-- What is known of a condition is so where the flags are known.
use Rattle.std.proofs.Common.{Option, Some, None, Bool, true, false, refl, ap}
use Rattle.x86_insn.specs.declared.kinds.Cond.{Cond}
use Rattle.x86_insn.specs.declared.kinds.Cond.TheVariants as cond
use Rattle.rw_domain.specs.declared.flags.Tri.{Tri}
use Rattle.rw_domain.specs.declared.flags.Tri.TheVariants.{Yes, No, Unknown}
use Rattle.rw_domain.specs.declared.flags.Flags.{Flags}
use Rattle.rw_domain.specs.Stands.{FlagStands, FlagsStand, KnownStands}
use Rattle.rw_machine.specs.Conditions.{known_value, opposite, either, differ, holds}

pub known-stands : (x y : Tri) → FlagStands x y → KnownStands (known_value x) (known_value y)
known-stands Yes y h = ap known_value h
known-stands No y h = ap known_value h
known-stands Unknown y h = tt

opposite-stands : (x y : Option Bool) → KnownStands x y → KnownStands (opposite x) (opposite y)
opposite-stands None y h = tt
opposite-stands (Some true) y h = ap opposite h
opposite-stands (Some false) y h = ap opposite h

either-stands : (a b x y : Option Bool) → KnownStands a x → KnownStands b y → KnownStands (either a b) (either x y)
either-stands None b x y h k = tt
either-stands (Some a) None x y h k = tt
either-stands (Some true) (Some b) x y h k = rw (h, k) refl
either-stands (Some false) (Some b) x y h k = rw (h, k) refl

differ-stands : (a b x y : Option Bool) → KnownStands a x → KnownStands b y → KnownStands (differ a b) (differ x y)
differ-stands None b x y h k = tt
differ-stands (Some a) None x y h k = tt
differ-stands (Some true) (Some true) x y h k = rw (h, k) refl
differ-stands (Some true) (Some false) x y h k = rw (h, k) refl
differ-stands (Some false) (Some b) x y h k = rw (h, k) refl

pub holds-stands : (c : Cond) (f g : Flags) → FlagsStand f g → KnownStands (holds c f) (holds c g)
holds-stands cond.O f g h = known-stands f.of g.of h.of
holds-stands cond.No f g h = opposite-stands _ _ (known-stands f.of g.of h.of)
holds-stands cond.B f g h = known-stands f.cf g.cf h.cf
holds-stands cond.Ae f g h = opposite-stands _ _ (known-stands f.cf g.cf h.cf)
holds-stands cond.E f g h = known-stands f.zf g.zf h.zf
holds-stands cond.Ne f g h = opposite-stands _ _ (known-stands f.zf g.zf h.zf)
holds-stands cond.Be f g h = either-stands _ _ _ _ (known-stands f.cf g.cf h.cf) (known-stands f.zf g.zf h.zf)
holds-stands cond.A f g h = opposite-stands _ _ (either-stands _ _ _ _ (known-stands f.cf g.cf h.cf) (known-stands f.zf g.zf h.zf))
holds-stands cond.S f g h = known-stands f.sf g.sf h.sf
holds-stands cond.Ns f g h = opposite-stands _ _ (known-stands f.sf g.sf h.sf)
holds-stands cond.P f g h = known-stands f.pf g.pf h.pf
holds-stands cond.Np f g h = opposite-stands _ _ (known-stands f.pf g.pf h.pf)
holds-stands cond.L f g h = differ-stands _ _ _ _ (known-stands f.sf g.sf h.sf) (known-stands f.of g.of h.of)
holds-stands cond.Ge f g h = opposite-stands _ _ (differ-stands _ _ _ _ (known-stands f.sf g.sf h.sf) (known-stands f.of g.of h.of))
holds-stands cond.Le f g h = either-stands _ _ _ _ (known-stands f.zf g.zf h.zf) (differ-stands _ _ _ _ (known-stands f.sf g.sf h.sf) (known-stands f.of g.of h.of))
holds-stands cond.G f g h = opposite-stands _ _ (either-stands _ _ _ _ (known-stands f.zf g.zf h.zf) (differ-stands _ _ _ _ (known-stands f.sf g.sf h.sf) (known-stands f.of g.of h.of)))
