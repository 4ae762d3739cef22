-- Conditions on flags (Intel SDM, volume 2, appendix B.1.4). One needs every flag that it names.
use Rattle.std.specs.Prelude.{Bool, true, false, Option, Some, None}
use Rattle.x86_insn.specs.declared.kinds.Cond.{Cond}
use Rattle.x86_insn.specs.declared.kinds.Cond.TheVariants as cond
use Rattle.rw_domain.specs.declared.flags.Tri.{Tri}
use Rattle.rw_domain.specs.declared.flags.Tri.TheVariants.{Yes, No, Unknown}
use Rattle.rw_domain.specs.declared.flags.Flags.{Flags}

abbrev pub known_value : Tri → Option Bool
known_value Yes = Some true
known_value No = Some false
known_value Unknown = None

abbrev pub opposite : Option Bool → Option Bool
opposite (Some true) = Some false
opposite (Some false) = Some true
opposite None = None

-- one of two holds, and they differ
abbrev pub either : Option Bool → Option Bool → Option Bool
either None b = None
either (Some a) None = None
either (Some true) (Some b) = Some true
either (Some false) (Some b) = Some b

abbrev pub differ : Option Bool → Option Bool → Option Bool
differ None b = None
differ (Some a) None = None
differ (Some true) (Some b) = opposite (Some b)
differ (Some false) (Some b) = Some b

abbrev pub holds : Cond → Flags → Option Bool
holds cond.O f = known_value f.of
holds cond.No f = opposite (known_value f.of)
holds cond.B f = known_value f.cf
holds cond.Ae f = opposite (known_value f.cf)
holds cond.E f = known_value f.zf
holds cond.Ne f = opposite (known_value f.zf)
holds cond.Be f = either (known_value f.cf) (known_value f.zf)
holds cond.A f = opposite (either (known_value f.cf) (known_value f.zf))
holds cond.S f = known_value f.sf
holds cond.Ns f = opposite (known_value f.sf)
holds cond.P f = known_value f.pf
holds cond.Np f = opposite (known_value f.pf)
holds cond.L f = differ (known_value f.sf) (known_value f.of)
holds cond.Ge f = opposite (differ (known_value f.sf) (known_value f.of))
holds cond.Le f = either (known_value f.zf) (differ (known_value f.sf) (known_value f.of))
holds cond.G f = opposite (either (known_value f.zf) (differ (known_value f.sf) (known_value f.of)))
