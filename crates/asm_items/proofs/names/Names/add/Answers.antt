use Rattle.std.proofs.Common.{◌≡◌, true, false, cond, sym, ◌∙◌, ap, ◌++◌, ◌∷◌, [], length, arith, ◌<◌, subst}
use Rattle.std.specs.List.{list_any, position_or_len}
use Rattle.std.specs.Str.{bytes_eq}
use Rattle.std.proofs.lemmas.List.{length-map}
use Rattle.asm_items.specs.Names.{with_name, name_texts, IsNumbered, AreDistinct}
use Rattle.asm_items.proofs.Numbers.{present, absent, place-none, numbered-more, texts-more, distinct-more}
use Rattle.asm_items.proofs.names.Names.add.Goals as goal

pub returns-in-Some-clause-names : goal.returns-in-Some-clause-names
returns-in-Some-clause-names c =
    let name = c.args.name.now in
    let s = c.args.self.now in
    let held = name_texts c.self.inside.texts.items in
    let among : list_any (bytes_eq name) held ≡ true = (present (bytes_eq name) held _ (sym (c.self.invariant.1 name) ∙ sym c.in-Some.ensures.value)).0 in
    sym (ap (λ b. cond b s (s ++ name ∷ [])) (ap (list_any (bytes_eq name)) (sym c.self.view_is) ∙ among))

pub returns-clause-number : goal.returns-clause-number
returns-clause-number c =
    let name = c.args.name.now in
    let held = name_texts c.self.inside.texts.items in
    let none : list_any (bytes_eq name) held ≡ false = absent (bytes_eq name) held (sym (c.self.invariant.1 name) ∙ sym c.in_default.ensures.value) in
    c.len-number.ensures ∙ c.self.inside.texts.ok.0 ∙ sym (length-map c.self.inside.texts.items (λ x. x.items)) ∙ sym (place-none (bytes_eq name) held none) ∙ ap (position_or_len (bytes_eq name)) c.self.view_is

pub returns-clause-names : goal.returns-clause-names
returns-clause-names c =
    let name = c.args.name.now in
    let s = c.args.self.now in
    let held = name_texts c.self.inside.texts.items in
    let none : list_any (bytes_eq name) held ≡ false = absent (bytes_eq name) held (sym (c.self.invariant.1 name) ∙ sym c.in_default.ensures.value) in
    ap name_texts (c.push_reserved.ensures.items ∙ ap (λ l. l ++ c.in_ok-text.text ∷ []) c.in_ok-reserve.ensures.items)
    ∙ texts-more c.in_ok-text.text [] [] c.self.inside.texts.items
    ∙ ap (λ t. held ++ t ∷ []) c.in_ok-text.ensures.items
    ∙ sym (ap (λ b. cond b held (held ++ name ∷ [])) none)
    ∙ ap (λ l. with_name l name) c.self.view_is

pub invariant_of-self-2 : goal.invariant_of-self-2
invariant_of-self-2 c =
    let name = c.args.name.now in
    let key = c.in_ok-key.key in
    let held = name_texts c.self.inside.texts.items in
    let spelled : key.items ≡ name = c.in_ok-key.ensures.items in
    let none : list_any (bytes_eq name) held ≡ false = absent (bytes_eq name) held (sym (c.self.invariant.1 name) ∙ sym c.in_default.ensures.value) in
    let more : name_texts c.push_reserved.new.self.items ≡ held ++ key.items ∷ [] =
    ap name_texts (c.push_reserved.ensures.items ∙ ap (λ l. l ++ c.in_ok-text.text ∷ []) c.in_ok-reserve.ensures.items)
    ∙ texts-more c.in_ok-text.text [] [] c.self.inside.texts.items
    ∙ ap (λ t. held ++ t ∷ []) (c.in_ok-text.ensures.items ∙ sym spelled) in
    let fewer : length c.self.inside.texts.items < 4294967295 = subst (λ n. n < 4294967295) (ap length (sym c.self.view_is) ∙ length-map c.self.inside.texts.items (λ x. x.items)) c.requires in
    let counted : c.len-number.result ≡ length held = c.len-number.ensures ∙ c.self.inside.texts.ok.0 ∙ sym (length-map c.self.inside.texts.items (λ x. x.items)) in (
      omega arith,
      subst (λ l. IsNumbered c.insert.new.self.entries l) (sym more)
          (numbered-more key c.self.inside.numbers.entries c.insert.new.self.entries held c.len-number.result c.in_ok-insert.ensures.updates.3 c.in_ok-insert.ensures.updates.1 c.self.invariant.1
          (subst (λ l. list_any (bytes_eq l) held ≡ false) (sym spelled) none) counted),
      subst AreDistinct (sym more) (distinct-more held key.items c.self.invariant.2 (subst (λ l. list_any (bytes_eq l) held ≡ false) (sym spelled) none)),
    )
