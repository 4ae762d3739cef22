-- What a text names is looked for among those whose names begin, or end, as the text does.
use Rattle.std.proofs.Common.{◌≡◌, ℕ, ◌-◌, Bool, true, false, cond, eqb, ◌&&◌, ◌||◌, Some, None, List, [], ◌∷◌, length, get_or, refl, sym, ap, ◌∙◌}
use Rattle.std.specs.List.{list_all, filter, find}
use Rattle.std.specs.Str.{bytes_eq}
use Rattle.std.specs.Cmp.Lexicographic.{bytes_decides}
use Rattle.std.proofs.lemmas.Bool.{and_parts, false≢true}
use Rattle.rw_base.specs.Name.{is_digit}
use Rattle.rw_base.specs.declared.width.Width.{Width}
use Rattle.x86_insn.specs.declared.kinds.Reg8.{Reg8}
use Rattle.asm_print.specs.declared.spelling.Form.{Form}
use Rattle.asm_print.specs.Forms.{named_registers, reg_named, Kind, is_kind, form_kind, all_forms, form_named}
use Rattle.asm_print.specs.Words.{reg_name, mnemonic}

module _ {A : Type 0} (p : A → Bool) where
  kept-step : (x : A) (xs ys : List A) (t u : Bool) → p x ≡ t → (t ≡ true → u ≡ true) → find p xs ≡ find p ys → find p (x ∷ xs) ≡ find p (cond u (x ∷ ys) ys)
  kept-step x xs ys t true e h k = ap (cond (p x) (Some x)) k
  kept-step x xs ys true false e h k = absurd (false≢true (h refl))
  kept-step x xs ys false false e h k = ap (λ b. cond b (Some x) (find p xs)) e ∙ k

  -- a search looks only at those that pass a test of all that it may find
  pub find-filter : (q : A → Bool) → ((x : A) → p x ≡ true → q x ≡ true) → (xs : List A) → find p xs ≡ find p (filter q xs)
  find-filter q h [] = refl
  find-filter q h (x ∷ xs) = kept-step x xs (filter q xs) (p x) (q x) refl (h x) (find-filter q h xs)

  none-step : (x : A) (xs : List A) (t : Bool) → p x ≡ t → (t ≡ true → ⊥) → find p xs ≡ None → find p (x ∷ xs) ≡ None
  none-step x xs true e h k = absurd (h refl)
  none-step x xs false e h k = ap (λ b. cond b (Some x) (find p xs)) e ∙ k

  -- a search finds nothing where each element has what all that it may find lack
  pub find-none : (q : A → Bool) → ((x : A) → p x ≡ true → q x ≡ false) → (xs : List A) → list_all q xs ≡ true → find p xs ≡ None
  find-none q h [] all = refl
  find-none q h (x ∷ xs) all =
      let both = and_parts (q x) (list_all q xs) all in
      none-step x xs (p x) refl (λ e. false≢true (sym (h x e) ∙ both.0)) (find-none q h xs both.1)

-- ---- registers

abbrev pub last_of : List ℕ → ℕ
last_of text = get_or text (length text - 1) 0

-- a byte that ends a register's name
abbrev pub ends_name : ℕ → Bool
ends_name b = is_digit b || eqb b 108 || eqb b 120 || eqb b 112 || eqb b 105 || eqb b 98 || eqb b 119 || eqb b 100 || eqb b 104

abbrev name_of : Width × Reg8 → List ℕ
name_of x = reg_name x.0 x.1

module _ (text : List ℕ) where
  -- the name that is found is the text
  same-last : (q : ℕ → Bool) (b : Bool) → q (last_of text) ≡ b → (x : Width × Reg8) → bytes_eq text (name_of x) ≡ true → q (last_of (name_of x)) ≡ b
  same-last q b h x e = ap (λ t. q (last_of t)) (sym ((bytes_decides text (name_of x)).0 e)) ∙ h

  pub register-among : (q : ℕ → Bool) (table : List (Width × Reg8)) → filter (λ x. q (last_of (name_of x))) named_registers ≡ table → q (last_of text) ≡ true → find (λ x. bytes_eq text (reg_name x.0 x.1)) table ≡ reg_named text
  unfolding reg_named
  register-among q table e h =
      sym (find-filter (λ x. bytes_eq text (name_of x)) (λ x. q (last_of (name_of x))) (same-last q true h) named_registers ∙ ap (find (λ x. bytes_eq text (name_of x))) e)

  pub no-register : (q : ℕ → Bool) → list_all (λ x. q (last_of (name_of x))) named_registers ≡ true → q (last_of text) ≡ false → None ≡ reg_named text
  unfolding reg_named
  no-register q all h = sym (find-none (λ x. bytes_eq text (name_of x)) (λ x. q (last_of (name_of x))) (same-last q false h) named_registers all)

-- ---- forms

abbrev pub first_of : List ℕ → ℕ
first_of text = get_or text 0 0

-- a byte that begins a mnemonic
abbrev pub begins_mnemonic : ℕ → Bool
begins_mnemonic b = eqb b 97 || eqb b 98 || eqb b 99 || eqb b 100 || eqb b 101 || eqb b 104 || eqb b 105 || eqb b 106 || eqb b 108 || eqb b 109 || eqb b 110 || eqb b 111 || eqb b 112 || eqb b 114 || eqb b 115 || eqb b 116 || eqb b 117 || eqb b 120

module _ (text : List ℕ) (kind : Kind) where
  abbrev is_form : Form → Bool
  is_form form = bytes_eq text (mnemonic form) && is_kind kind (form_kind form)

  same-first : (q : ℕ → Bool) (b : Bool) → q (first_of text) ≡ b → (form : Form) → is_form form ≡ true → q (first_of (mnemonic form)) ≡ b
  same-first q b h form e = ap (λ t. q (first_of t)) (sym ((bytes_decides text (mnemonic form)).0 (and_parts (bytes_eq text (mnemonic form)) (is_kind kind (form_kind form)) e).0)) ∙ h

  pub form-among : (q : ℕ → Bool) (table : List Form) → filter (λ form. q (first_of (mnemonic form))) all_forms ≡ table → q (first_of text) ≡ true → find is_form table ≡ form_named text kind
  unfolding form_named
  form-among q table e h = sym (find-filter is_form (λ form. q (first_of (mnemonic form))) (same-first q true h) all_forms ∙ ap (find is_form) e)

  pub no-form : (q : ℕ → Bool) → list_all (λ form. q (first_of (mnemonic form))) all_forms ≡ true → q (first_of text) ≡ false → None ≡ form_named text kind
  unfolding form_named
  no-form q all h = sym (find-none is_form (λ form. q (first_of (mnemonic form))) (same-first q false h) all_forms all)
