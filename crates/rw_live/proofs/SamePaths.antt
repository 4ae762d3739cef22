-- The paths over the nodes of a function are those over its points.
use Rattle.std.proofs.Common.{◌≡◌, ◌<◌, ℕ, ◌+◌, List, [], ◌∷◌, Option, Some, sym, subst, ap, ◌∙◌}
use Rattle.std.specs.Prelude.{slice_get}
use Rattle.std.specs.List.{AllPairs}
use Rattle.rw_funcs.specs.Points.{Point, point_at}
use Rattle.rw_live.specs.declared.graph.Node.{Node}
use Rattle.rw_live.specs.Liveness.{LeadsTo, IsPath}
use Rattle.rw_live.specs.NodePaths.{Has, NodeLeadsTo, IsNodePath, IsLiveAt}
use Rattle.rw_live.specs.Nodes.{AreNodes, number_of}
use Rattle.rw_live.proofs.NodeLaws.{some_is, some_has, some_same}
use Rattle.rw_live.proofs.Offsets.{number-found, number-at}

module _ (points : List Point) (start : ℕ) (offsets : List ℕ) (Reads Writes : Point → Type 0) (b : ℕ) (nodes : ℕ → Option Node) (are : AreNodes points start offsets Reads Writes b nodes) where
  from-node : (ds : List ℕ) (k : ℕ) → IsNodePath nodes b k ds → (o : ℕ) × (slice_get offsets k ≡ Some o) × ((es : List ℕ) × IsPath points Reads Writes (start + o) es)
  from-node [] k h =
      let n = some_is (nodes k) (λ n. Has n.reads b) h in
      let is = are.each k n.0 n.1 in
      (is.0, is.2, ([], some_has (point_at points (start + is.0)) Reads is.1 is.3 (is.4.reads.0 n.2)))
  from-node (d ∷ ds) k h =
      let n = some_is (nodes k) (λ n. (Has n.writes b → ⊥) × NodeLeadsTo n d) h.0 in
      let is = are.each k n.0 n.1 in
      let rest = from-node ds d h.1 in
      let leads = (is.4.leads d).0 n.2.1 in
      let same : leads.0 ≡ rest.0 = some_same (sym leads.1 ∙ rest.1) in
      let to : LeadsTo points is.1 (start + rest.0) = subst (λ o. LeadsTo points is.1 (start + o)) same leads.2 in
      (is.0, is.2, ((start + rest.0) ∷ rest.2.0, (some_has (point_at points (start + is.0)) (λ p. (Writes p → ⊥) × LeadsTo points p (start + rest.0)) is.1 is.3 ((λ w. n.2.0 (is.4.writes.1 w)), to), rest.2.1)))

  to-node : (ds : List ℕ) (c : ℕ) → IsPath points Reads Writes c ds → (k : ℕ) × (o : ℕ) × (slice_get offsets k ≡ Some o) × (start + o ≡ c) × IsLiveAt nodes k b
  to-node [] c h =
      let p = some_is (point_at points c) Reads h in
      let is = are.all_there c p.0 p.1 in
      (is.0, is.1, is.3, is.4, ([], some_has (nodes is.0) (λ n. Has n.reads b) is.2 is.5 (is.6.reads.1 p.2)))
  to-node (d ∷ ds) c h =
      let p = some_is (point_at points c) (λ p. (Writes p → ⊥) × LeadsTo points p d) h.0 in
      let is = are.all_there c p.0 p.1 in
      let rest = to-node ds d h.1 in
      let leads : NodeLeadsTo is.2 rest.0 = (is.6.leads rest.0).1 (rest.1, rest.2, subst (λ a. LeadsTo points p.0 a) (sym rest.3) p.2.1) in
      (is.0, is.1, is.3, is.4, (rest.0 ∷ rest.4.0, (some_has (nodes is.0) (λ n. (Has n.writes b → ⊥) × NodeLeadsTo n rest.0) is.2 is.5 ((λ w. p.2.0 (is.6.writes.0 w)), leads), rest.4.1)))

  -- what is live at the node of an address is live there
  pub live-from-node : (c k : ℕ) → number_of start offsets c ≡ Some k → IsLiveAt nodes k b → (ds : List ℕ) × IsPath points Reads Writes c ds
  live-from-node c k number h =
      let found = number-found start offsets c k number in
      let path = from-node h.0 k h.1 in
      let same : path.0 ≡ found.0 = some_same (sym path.1 ∙ found.1) in
      subst (λ a. (ds : List ℕ) × IsPath points Reads Writes a ds) (ap (λ o. start + o) same ∙ found.2) path.2

  pub node-from-live : AllPairs (λ x y. x < y) offsets → (c : ℕ) → ((ds : List ℕ) × IsPath points Reads Writes c ds) → (k : ℕ) × (number_of start offsets c ≡ Some k) × IsLiveAt nodes k b
  node-from-live ascend c h =
      let node = to-node h.0 c h.1 in
      (node.0, number-at start offsets ascend c node.0 node.1 node.2 node.3, node.4)
