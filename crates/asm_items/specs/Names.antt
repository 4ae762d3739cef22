-- Lists of names.
use Rattle.std.specs.Prelude.{◌≡◌, ◌≢◌, ℕ, List, [], ◌∷◌, ◌++◌, map, if◌then◌else◌, Vec, position}
use Rattle.std.specs.List.{AllPairs, list_any, position_or_len}
use Rattle.std.specs.Map.{lookup}
use Rattle.std.specs.Str.{bytes_eq}

-- the names with this one last, unless an equal one is among them
abbrev pub with_name : List (List ℕ) → List ℕ → List (List ℕ)
with_name names name = if list_any (bytes_eq name) names then names else names ++ name ∷ []

-- the number of the first equal name, or of the next
abbrev pub place_of : List (List ℕ) → List ℕ → ℕ
place_of names name = position_or_len (bytes_eq name) names

abbrev pub name_texts : {A : Type 0} → List (Vec ℕ A) → List (List ℕ)
name_texts names = map (λ name. name.items) names

-- the entries give each name its number
abbrev pub IsNumbered : {A : Type 0} → List (Vec ℕ A × ℕ) → List (List ℕ) → Type 0
IsNumbered entries names = (name : List ℕ) → lookup (λ key. bytes_eq name key.items) entries ≡ position (bytes_eq name) names

-- no two of the names are equal
abbrev pub AreDistinct : List (List ℕ) → Type 0
AreDistinct names = AllPairs (λ a b. a ≢ b) names
