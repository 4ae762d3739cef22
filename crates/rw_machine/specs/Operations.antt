-- Which small operations are of one kind.
use Rattle.std.specs.Prelude.{Bool, true, false, not}
use Rattle.x86_meaning.specs.declared.operations.Micro.{Micro}
use Rattle.x86_meaning.specs.declared.operations.Micro.TheVariants.{Get, Put, Num, Ref, Canary, Next, Sum, Load, Store, Alu, One, Shift, Mul, Div, Extend, Swap, Bit, Scan, Elements}

-- parts of registers, constants and addresses
abbrev pub is_move : Micro → Bool
is_move (Get _ _ _) = true
is_move (Put _ _ _) = true
is_move (Num _ _ _) = true
is_move (Ref _ _) = true
is_move (Canary _) = true
is_move (Next _) = true
is_move (Sum _ _ _ _) = true
is_move _ = false

-- memory
abbrev pub is_access : Micro → Bool
is_access (Load _ _ _) = true
is_access (Store _ _ _) = true
is_access (Elements _ _ _) = true
is_access _ = false

-- sums, products and quotients
abbrev pub is_arithmetic : Micro → Bool
is_arithmetic (Alu _ _ _ _ _) = true
is_arithmetic (One _ _ _ _) = true
is_arithmetic (Mul _ _ _ _ _ _) = true
is_arithmetic (Div _ _ _ _ _ _ _) = true
is_arithmetic _ = false

-- bits and bytes of a word
abbrev pub is_of_bits : Micro → Bool
is_of_bits (Shift _ _ _ _ _ _) = true
is_of_bits (Extend _ _ _ _ _) = true
is_of_bits (Swap _ _ _) = true
is_of_bits (Bit _ _ _ _ _) = true
is_of_bits (Scan _ _ _ _) = true
is_of_bits _ = false

-- the word of the next point
abbrev pub takes_next : Micro → Bool
takes_next (Next _) = true
takes_next _ = false

-- the word of the reference, as a direct target or as an address
abbrev pub takes_reference : Bool → Micro → Bool
takes_reference true (Ref _ direct) = direct
takes_reference false (Ref _ direct) = not direct
takes_reference _ _ = false
