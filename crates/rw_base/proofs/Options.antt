-- What is known of a value that may be absent.
use Rattle.std.proofs.Common.{◌≡◌, Bool, true, false, cond, Option, Some, None, option_map, refl}

-- nothing stands where a test fails
pub cond_none : {A : Type 0} (test : Bool) (x : A) → cond test (Some x) None ≡ None → test ≡ false
cond_none true x e = cc
cond_none false x e = refl

-- an image is absent where its value is
pub option_map-none : {A B : Type 0} (f : A → B) (o : Option A) → option_map f o ≡ None → o ≡ None
option_map-none f None e = refl
option_map-none f (Some x) e = cc
