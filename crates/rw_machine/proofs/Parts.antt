-- Words of registers, their bytes and their parts stand.
use Rattle.std.proofs.Common.{◌≡◌, ℕ, zero, suc, ◌+◌, List, length, ◌++◌, replicate, refl, ap}
use Rattle.std.specs.Prelude.{slice_index_or}
use Rattle.rw_base.specs.declared.width.Width.{Width}
use Rattle.rw_base.specs.declared.width.Width.TheVariants.{B, W, L, Q}
use Rattle.rw_base.specs.Width.{byte_count}
use Rattle.x86_insn.specs.declared.kinds.Reg.{Reg}
use Rattle.x86_insn.specs.declared.kinds.Reg8.{Reg8}
use Rattle.x86_insn.specs.declared.kinds.Reg8.TheVariants.{Low, High}
use Rattle.x86_insn.specs.WellFormed.{code_of}
use Rattle.x86_meaning.specs.declared.operations.Temp.{Temp}
use Rattle.rw_domain.specs.Operators.{Operators}
use Rattle.rw_domain.specs.Stands.{Both, OperatorsStand}
use Rattle.rw_machine.specs.Running.{register, bytes_from, zero_byte, part, put_low, put_part}
use Rattle.rw_machine.proofs.Lists.{get_both, join_both, replicate_both}

pub bytes-counted : {V C : Type 0} (ops : Operators V C) (k i : ℕ) (v : V) → length (bytes_from ops k i v) ≡ k
bytes-counted ops zero i v = refl
bytes-counted ops (suc k) i v = ap suc (bytes-counted ops k (i + 1) v)

module _ {V U E F : Type 0} (R : V → U → Type 0) (Byte : E → F → Type 0) (s : Operators V E) (n : Operators U F) (laws : OperatorsStand R Byte s n) where
  pub temp-stands : (a : List V) (b : List U) → Both R a b → (t : Temp) → R (slice_index_or a t.0 (s.undef Q)) (slice_index_or b t.0 (n.undef Q))
  temp-stands a b h t = get_both R _ _ (laws.undef Q) a b t.0 h

  pub register-stands : (a : List V) (b : List U) → Both R a b → (k : Reg) → R (register s a k) (register n b k)
  register-stands a b h k = get_both R _ _ (laws.undef Q) a b (code_of k) h

  pub bytes-stand : (k i : ℕ) (v : V) (w : U) → R v w → Both Byte (bytes_from s k i v) (bytes_from n k i w)
  bytes-stand zero i v w h = tt
  bytes-stand (suc k) i v w h = (laws.split v w i h, bytes-stand k (i + 1) v w h)

  pub zero-stands : Byte (zero_byte s) (zero_byte n)
  zero-stands = laws.split _ _ 0 (laws.num B 0)

  pub part-stands : (w : Width) (from : Reg8) (v : V) (x : U) → R v x → R (part s w from v) (part n w from x)
  part-stands w (Low k) v x h = laws.join w _ _ (bytes-stand (byte_count w) 0 v x h)
  part-stands w (High k) v x h = laws.join w _ _ (bytes-stand (byte_count w) 1 v x h)

  put_low-stands : (w : Width) (old v : V) (old' v' : U) → R old old' → R v v' → R (put_low s w old v) (put_low n w old' v')
  put_low-stands B old v old' v' h k = laws.join Q _ _ (join_both Byte (bytes_from s 1 0 v) (bytes_from n 1 0 v') (bytes_from s 7 1 old) (bytes_from n 7 1 old') (bytes-stand 1 0 v v' k) (bytes-stand 7 1 old old' h))
  put_low-stands W old v old' v' h k = laws.join Q _ _ (join_both Byte (bytes_from s 2 0 v) (bytes_from n 2 0 v') (bytes_from s 6 2 old) (bytes_from n 6 2 old') (bytes-stand 2 0 v v' k) (bytes-stand 6 2 old old' h))
  put_low-stands L old v old' v' h k = laws.join Q _ _ (join_both Byte (bytes_from s 4 0 v) (bytes_from n 4 0 v') (replicate 4 (zero_byte s)) (replicate 4 (zero_byte n)) (bytes-stand 4 0 v v' k) (replicate_both Byte 4 _ _ zero-stands))
  put_low-stands Q old v old' v' h k = laws.join Q _ _ (bytes-stand 8 0 v v' k)

  pub put_part-stands : (w : Width) (to : Reg8) (old v : V) (old' v' : U) → R old old' → R v v' → R (put_part s w to old v) (put_part n w to old' v')
  put_part-stands w (Low _) old v old' v' h k = put_low-stands w old v old' v' h k
  put_part-stands w (High _) old v old' v' h k =
      laws.join Q _ _
      (join_both Byte (bytes_from s 1 0 old) (bytes_from n 1 0 old') (bytes_from s 1 0 v ++ bytes_from s 6 2 old) (bytes_from n 1 0 v' ++ bytes_from n 6 2 old') (bytes-stand 1 0 old old' h)
      (join_both Byte (bytes_from s 1 0 v) (bytes_from n 1 0 v') (bytes_from s 6 2 old) (bytes_from n 6 2 old') (bytes-stand 1 0 v v' k) (bytes-stand 6 2 old old' h)))
