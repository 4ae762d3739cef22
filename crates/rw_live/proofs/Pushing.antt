-- The jumps to a node are added one by one.
use Rattle.std.proofs.Common.{◌≡◌, ◌≢◌, ◌<◌, ◌≤◌, ◌+◌, ◌++◌, ◌∷◌, [], ℕ, List, Option, Some, None, true, length, get_or, Contains, sym, ap, subst, ◌∙◌, arith, inl, inr}
use Rattle.std.specs.Prelude.{slice_get}
use Rattle.std.specs.List.Sorted.{IsNonDecreasingBy}
use Rattle.std.proofs.lemmas.Bool.{cases_eq, cases_lt}
use Rattle.std.proofs.lemmas.List.Elements.{Contains-push, Contains-append_left}
use Rattle.std.proofs.lemmas.Option.{slice_get-get_or}
use Rattle.rw_live.specs.declared.graph.Jump.{Jump}
use Rattle.rw_live.specs.Work.{has_node}
use Rattle.rw_live.proofs.NodeLaws.{some_same}
use Rattle.rw_live.proofs.WorkLaws.{has_node-added, has_node-kept}

-- so many of the jumps were looked at
pub record Pushed (jumps : List Jump) (from to at : ℕ) (old work : List ℕ) : Type 0 where
  pub kept : (c : ℕ) → has_node old c ≡ true → has_node work c ≡ true
  pub added : (k : ℕ) (j : Jump) → k < at → slice_get jumps k ≡ Some j → j.to ≡ to → from ≤ j.from → has_node work j.from ≡ true
  pub above : (k : ℕ) (j : Jump) → at ≤ k → slice_get jumps k ≡ Some j → to ≤ j.to

module _ (jumps : List Jump) (from to at : ℕ) (old work : List ℕ) (pushed : Pushed jumps from to at old work) where
  pub pushed-one : (i : Jump) → slice_get jumps at ≡ Some i → Pushed jumps from to (at + 1) old (work ++ i.from ∷ [])
  pushed-one i here = record {
    kept = λ c h. has_node-kept work i.from c (pushed.kept c h);
    added = λ k j low e same is. elim (cases_eq k at) [
      | inl q ↦ (let one : i ≡ j = some_same (sym here ∙ ap (slice_get jumps) (sym q) ∙ e) in subst (λ (m : Jump). has_node (work ++ i.from ∷ []) m.from ≡ true) one (has_node-added work i.from))
      | inr o ↦ has_node-kept work i.from j.from (pushed.added k j (omega (arith, low, o)) e same is)
    ];
    above = λ k j low e. pushed.above k j (omega (arith, low)) e;
  }

  pub pushed-none : (i : Jump) → slice_get jumps at ≡ Some i → i.from < from → Pushed jumps from to (at + 1) old work
  pushed-none i here below = record {
    kept = pushed.kept;
    added = λ k j low e same is. elim (cases_eq k at) [
      | inl q ↦ (let one : i.from ≡ j.from = ap (λ (m : Jump). m.from) (some_same (sym here ∙ ap (slice_get jumps) (sym q) ∙ e)) in absurd (omega (arith, one, below, is)))
      | inr o ↦ pushed.added k j (omega (arith, low, o)) e same is
    ];
    above = λ k j low e. pushed.above k j (omega (arith, low)) e;
  }

  -- where the next leads elsewhere, or there is none, all were looked at
  pub pushed-all : IsNonDecreasingBy (λ j. j.to) jumps → (at < length jumps → (i : Jump) → slice_get jumps at ≡ Some i → i.to ≢ to) → (c : ℕ) → from ≤ c → Contains jumps (record { from = c; to = to }) → has_node work c ≡ true
  pushed-all ascend elsewhere c low has =
      let jump : Jump = record { from = c; to = to } in
      let there : slice_get jumps has.0 ≡ Some (record { from = c; to = to }) = slice_get-get_or jumps has.0 (record { from = c; to = to }) has.1 ∙ ap Some has.2 in
      let inside = has.1 in
      elim (cases_lt has.0 at) [
        | inl before ↦ pushed.added has.0 (record { from = c; to = to }) before there (omega arith) low
        | inr behind ↦
            let within : at < length jumps = omega (arith, behind, inside) in
            let i : Jump = get_or jumps at (record { from = c; to = to }) in
            let here : slice_get jumps at ≡ Some (get_or jumps at (record { from = c; to = to })) = slice_get-get_or jumps at (record { from = c; to = to }) within in
            let least = pushed.above at (get_or jumps at (record { from = c; to = to })) (omega arith) here in
            let most = ascend at has.0 (record { from = c; to = to }) behind has.1 in
            let end : (get_or jumps has.0 (record { from = c; to = to })).to ≡ to = ap (λ (m : Jump). m.to) has.2 in
            absurd (elsewhere within (get_or jumps at (record { from = c; to = to })) here (omega (arith, least, most, end)))
      ]

-- ---- all jumps, node by node

module _ (jump_at : ℕ → Option ℕ) (jumps : List Jump) (c : ℕ) (listed : (k d : ℕ) → k < c → jump_at k ≡ Some d → Contains jumps (record { from = k; to = d })) where
  pub listed-one : (to : ℕ) → jump_at c ≡ Some to → (k d : ℕ) → k < c + 1 → jump_at k ≡ Some d → Contains (jumps ++ record { from = c; to = to } ∷ []) (record { from = k; to = d })
  listed-one to here k d low leads =
      elim (cases_eq k c) [
        | inl q ↦ (let same : to ≡ d = some_same (sym here ∙ ap jump_at (sym q) ∙ leads) in subst (λ (j : Jump). Contains (jumps ++ record { from = c; to = to } ∷ []) j) (λ i. record { from = sym q i; to = same i }) (Contains-push jumps (record { from = c; to = to })))
        | inr o ↦ Contains-append_left jumps (record { from = c; to = to } ∷ []) (record { from = k; to = d }) (listed k d (omega (arith, low, o)) leads)
      ]

  pub listed-none : jump_at c ≡ None → (k d : ℕ) → k < c + 1 → jump_at k ≡ Some d → Contains jumps (record { from = k; to = d })
  listed-none none k d low leads =
      elim (cases_eq k c) [
        | inl q ↦ (let clash : None ≡ Some d = sym none ∙ ap jump_at (sym q) ∙ leads in absurd (cc))
        | inr o ↦ listed k d (omega (arith, low, o)) leads
      ]
