-- Rows of bytes of words.
use Rattle.std.proofs.Common.{ℕ, zero, suc, List, [], ◌∷◌, ◌≡◌, refl, ap, subst, take, length, slice_index_or}
use Rattle.rw_base.specs.declared.width.Width.{Width}
use Rattle.rw_base.specs.declared.width.Width.TheVariants.{B, W, L, Q}
use Rattle.rw_base.specs.Width.{byte_count}
use Rattle.rw_domain.specs.Eight.{eight_of}
use Rattle.rw_machine.specs.Views.{eight_read}

-- the first n values
abbrev listed : {C : Type 0} → ℕ → (ℕ → C) → List C
listed zero f = []
listed (suc n) f = f 0 ∷ listed n (λ i. f (suc i))

listed-read : {C : Type 0} (bytes : List C) (other : C) → listed (length bytes) (λ i. slice_index_or bytes i other) ≡ bytes
listed-read [] other = refl
listed-read (b ∷ bytes) other = ap (λ z. b ∷ z) (listed-read bytes other)

pub bytes_read : {C : Type 0} (w : Width) (bytes : List C) (other : C) → length bytes ≡ byte_count w → take (byte_count w) (eight_of (eight_read bytes other)) ≡ bytes
bytes_read B bytes other h = subst (λ n. listed n (λ i. slice_index_or bytes i other) ≡ bytes) h (listed-read bytes other)
bytes_read W bytes other h = subst (λ n. listed n (λ i. slice_index_or bytes i other) ≡ bytes) h (listed-read bytes other)
bytes_read L bytes other h = subst (λ n. listed n (λ i. slice_index_or bytes i other) ≡ bytes) h (listed-read bytes other)
bytes_read Q bytes other h = subst (λ n. listed n (λ i. slice_index_or bytes i other) ≡ bytes) h (listed-read bytes other)
