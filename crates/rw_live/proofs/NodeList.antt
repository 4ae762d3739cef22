-- The nodes of a function in a list.
use Rattle.std.proofs.Common.{◌≡◌, ℕ, zero, suc, ◌+◌, ◌<◌, List, [], ◌∷◌, ◌++◌, length, get_or, Option, Some, None, true, refl, sym, ap, subst, ◌∙◌, arith, inl, inr}
use Rattle.std.specs.Prelude.{slice_get, option_and_then, option_map, is_some, IsSome, ◌^◌}
use Rattle.std.proofs.lemmas.Bool.{cases_eq, cases_lt}
use Rattle.std.proofs.lemmas.List.{length_push}
use Rattle.std.proofs.lemmas.Option.{slice_get_past, slice_get-get_or}
use Rattle.x86_insn.specs.declared.instruction.Insn.{Insn}
use Rattle.rw_funcs.specs.Points.{Point, point_at, insn_at}
use Rattle.rw_live.specs.declared.graph.Node.{Node}
use Rattle.rw_live.specs.Nodes.{AreOffsets, node_of, nodes_in}
use Rattle.rw_live.specs.Work.{IsGraph}
use Rattle.rw_live.proofs.NodesMade.{made-node, next-behind}
use Rattle.rw_live.proofs.Within.{point-is-some}

-- ---- a list with one more item

at-end : (xs : List Node) (x : Node) → slice_get (xs ++ x ∷ []) (length xs) ≡ Some x
at-end [] x = refl
at-end (y ∷ xs) x = at-end xs x

before-end : (xs : List Node) (x : Node) (k : ℕ) → k < length xs → slice_get (xs ++ x ∷ []) k ≡ slice_get xs k
before-end [] x k low = absurd (omega (arith, low))
before-end (y ∷ xs) x zero low = refl
before-end (y ∷ xs) x (suc k) low = before-end xs x k (omega (arith, low))

-- the list has the first nodes
pub record Lists (nodes : ℕ → Option Node) (count : ℕ) (list : List Node) : Type 0 where
  pub so_many : length list ≡ count
  pub each : (k : ℕ) → k < count → slice_get list k ≡ nodes k

pub lists-more : (nodes : ℕ → Option Node) (count : ℕ) (list : List Node) → Lists nodes count list → (x : Node) → nodes count ≡ Some x → Lists nodes (count + 1) (list ++ x ∷ [])
lists-more nodes count list lists x here =
    let same = lists.so_many in
    record {
      so_many = (let more = length_push list x in omega (arith, more, same));
      each = λ k low. elim (cases_eq k count) [
        | inl e ↦ ap (slice_get (list ++ x ∷ [])) (e ∙ sym same) ∙ at-end list x ∙ sym (ap nodes e ∙ here)
        | inr o ↦ before-end list x k (omega (arith, low, o, same)) ∙ lists.each k (omega (arith, low, o))
      ];
    }

module _ (points : List Point) (start size : ℕ) (offsets : List ℕ) (are : AreOffsets points start size offsets) where
  -- a number below all has a node
  pub a-node : (c : ℕ) → c < length offsets → IsSome (nodes_in points start offsets c)
  a-node c within = by (point_at points (start + get_or offsets c 0)) refl (sym (point-is-some points (start + get_or offsets c 0)) ∙ are.are_points c 0 within)
    where
      by : (p : Option Point) → point_at points (start + get_or offsets c 0) ≡ p → is_some p ≡ true → IsSome (nodes_in points start offsets c)
      by None e g = cc
      by (Some p) e g = subst IsSome (sym (made-node points start offsets c (get_or offsets c 0) p.insn p.len (slice_get-get_or offsets c 0 within) (ap (option_map (λ r. (r.insn, r.len))) e))) refl

  module _ (count : ℕ) (whole : count ≡ length offsets) (list : List Node) (lists : Lists (nodes_in points start offsets) count list) where
    -- the list has them all
    pub lists-all : (c : ℕ) → slice_get list c ≡ nodes_in points start offsets c
    lists-all c =
        elim (cases_lt c (length offsets)) [
          | inl low ↦ lists.each c (omega (arith, whole, low))
          | inr high ↦
              let same = lists.so_many in
              slice_get_past list c (omega (arith, same, whole, high))
              ∙ sym (ap (λ x. option_map (λ (e : ℕ × Insn ℕ × ℕ). node_of points start offsets c e.0 e.1 e.2) (option_and_then (λ o. option_map (λ (d : Insn ℕ × ℕ). (o, d.0, d.1)) (insn_at points (start + o))) x)) (slice_get_past offsets c high))
        ]

    pub lists-graph : size < 2 ^ 32 → IsGraph list
    lists-graph small = record {
      next = λ c d n at next. next-behind points start offsets c d n (sym (lists-all c) ∙ at) next;
      few = (let same = lists.so_many in let few = are.few in omega (arith, same, whole, few, small));
    }
