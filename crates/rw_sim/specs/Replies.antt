-- The reply by which a machine carries out a built-in answer, and the registers that it loses.
use Rattle.std.specs.Prelude.{ℕ, List, [], length, map, replicate, Option, Some, None}
use Rattle.rw_base.specs.declared.width.Width.TheVariants.{B, Q}
use Rattle.x86_insn.specs.declared.kinds.Reg.{Reg}
use Rattle.rw_domain.specs.declared.place.Place.{Place}
use Rattle.rw_domain.specs.declared.place.Region.{Region}
use Rattle.rw_domain.specs.Operators.{Operators}
use Rattle.rw_machine.specs.declared.ending.End.{End}
use Rattle.rw_machine.specs.Events.{Reply, lost_to_system, lost_to_import}
use Rattle.rw_sim.specs.declared.callee.Callee.{Callee}
use Rattle.rw_sim.specs.declared.callee.Callee.TheVariants as callee
use Rattle.rw_sim.specs.Answers.{Answer, Ends, Gives, Allots, Sends, Takes, writes_of}

-- the registers that a call loses
abbrev pub lost_to : Callee → List Reg
lost_to callee.System = lost_to_system
lost_to callee.Import = lost_to_import

module _ {V C : Type 0} (ops : Operators V C) where
  -- nothing is known of the registers that a call loses
  abbrev pub lost_words : Callee → List V
  lost_words callee = replicate (length (lost_to callee)) (ops.undef Q)

  -- bytes that are numbers
  abbrev pub number_bytes : List ℕ → List C
  number_bytes numbers = map (λ n. ops.split (ops.num B n) 0) numbers

  -- a reply to a call
  abbrev pub reply_with : Callee → V → List (Place × List C) → Option (Region × ℕ) → Option End → Reply V C
  reply_with callee result writes fresh ending =
      record { result = result; scratch = lost_words callee; writes = writes; fresh = fresh; ending = ending }

  -- the address of the first byte of a fresh region, with the base of that region, and the bytes that were taken from the
  -- source, for an answer that takes some
  module _ (callee : Callee) (first : V × ℕ) (taken : List ℕ) where
    abbrev pub reply_of_answer : Answer V C → Reply V C
    -- of the result of a run that ends nothing is known
    reply_of_answer (Ends ending) = reply_with callee (ops.undef Q) [] None (Some ending)
    reply_of_answer (Gives result writes) = reply_with callee result writes None None
    reply_of_answer (Allots region) = reply_with callee first.0 [] (Some (region, first.1)) None
    -- when the bytes are written
    reply_of_answer (Sends descriptor bytes result) = reply_with callee result [] None None
    -- how many bytes were taken, and these bytes at the place
    reply_of_answer (Takes limit to) = reply_with callee (ops.num Q (length taken)) (writes_of to (number_bytes taken)) None None
