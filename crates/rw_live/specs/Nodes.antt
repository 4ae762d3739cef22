-- The nodes of a function: one for each of its points, by ascending address.
use Rattle.std.specs.Prelude.{◌≡◌, ◌↔◌, ◌≤◌, ◌<◌, ℕ, suc, ◌+◌, ◌*◌, ◌-◌, ◌^◌, ◌==◌, List, length, filter, Bool, Option, Some, None, option_map, option_and_then, if◌then◌else◌, ◌&&◌, nat_le, nat_lt, true, slice_get, All, Contains}
use Rattle.std.specs.List.{AllPairs, position}
use Rattle.rw_base.specs.declared.span.Span.{Span}
use Rattle.x86_insn.specs.declared.instruction.Insn.{Insn}
use Rattle.x86_meaning.specs.Sets.{set_of, flag_set}
use Rattle.x86_meaning.specs.Registers.{reads_of, writes_whole_of}
use Rattle.x86_meaning.specs.Flags.{flags_read_of, flags_written_of}
use Rattle.rw_funcs.specs.Points.{Point, is_point, point_at, insn_at, file_points}
use Rattle.rw_live.specs.declared.graph.Node.{Node}
use Rattle.rw_live.specs.declared.nodes.Body.{Body}
use Rattle.rw_live.specs.Liveness.{target_of, goes_on, reads_all, reads_all_flags, LeadsTo}
use Rattle.rw_live.specs.NodePaths.{Has, NodeLeadsTo}

abbrev pub in_span : Span → ℕ → Bool
in_span span a = nat_le span.start a && nat_lt a span.end

-- the points of a file in the range of a function
abbrev pub points_within : Span → List Point → List Point
points_within span points = filter (λ p. in_span span p.place) points

-- the points of a function with a range, in a file
abbrev pub points_in : List ℕ → Span → List Point
points_in bytes span = points_within span (file_points bytes)

-- ---- what is live, as one set: bit n is the register of code n, and bit 16 + n the flag of code n

abbrev pub both : ℕ → ℕ → ℕ
both registers flags = registers + 65536 * flags

abbrev pub reads_by : List Point → Insn ℕ → ℕ
reads_by points i = both (if reads_all points i then 65535 else set_of (reads_of i)) (if reads_all_flags points i then 31 else flag_set (flags_read_of i))

abbrev pub writes_by : Insn ℕ → ℕ
writes_by i = both (set_of (writes_whole_of i)) (flag_set (flags_written_of i))

-- ---- points by number

-- the offsets from a start of the points of so many bytes
pub record AreOffsets (points : List Point) (start size : ℕ) (offsets : List ℕ) : Type 0 where
  pub ascend : AllPairs (λ x y. x < y) offsets
  pub below : All (λ o. o < size) offsets
  pub are_points : All (λ o. is_point points (start + o) ≡ true) offsets
  pub all_there : (o : ℕ) → o < size → is_point points (start + o) ≡ true → Contains offsets o
  pub few : length offsets ≤ size

-- the number of the point at an address
abbrev pub number_of : ℕ → List ℕ → ℕ → Option ℕ
number_of start offsets a = position (λ o. start + o == a) offsets

-- so many offsets are below one
pub record CountsBelow (offsets : List ℕ) (offset n : ℕ) : Type 0 where
  pub below : (k o : ℕ) → k < n → slice_get offsets k ≡ Some o → o < offset
  pub above : (k o : ℕ) → n ≤ k → slice_get offsets k ≡ Some o → offset ≤ o

-- ---- nodes by number

abbrev pub jump_of : ℕ → List ℕ → Insn ℕ → Option ℕ
jump_of start offsets i = option_and_then (number_of start offsets) (target_of i)

-- the next number, if a path goes on there from number c, whose instruction ends at an offset
abbrev pub next_of : List ℕ → ℕ → ℕ → Insn ℕ → Option ℕ
next_of offsets c end i = option_and_then (λ o. if goes_on i && (o == end) then Some (suc c) else None) (slice_get offsets (suc c))

module _ (points : List Point) (start : ℕ) (offsets : List ℕ) where
  -- the offset, the instruction and its length
  abbrev pub insn_with : ℕ → Option (ℕ × Insn ℕ × ℕ)
  insn_with c = option_and_then (λ o. option_map (λ d. (o, d.0, d.1)) (insn_at points (start + o))) (slice_get offsets c)

  abbrev pub node_of : ℕ → ℕ → Insn ℕ → ℕ → Node
  node_of c o i len = record {
    reads = reads_by points i;
    writes = writes_by i;
    next = next_of offsets c (o + len) i;
    jump = jump_of start offsets i;
  }

  abbrev pub nodes_in : ℕ → Option Node
  nodes_in c = option_map (λ e. node_of c e.0 e.1 e.2) (insn_with c)

-- the same of a function
abbrev pub nodes_of : Body → ℕ → Option Node
nodes_of body c = nodes_in (points_in body.funcs.now body.span) body.span.start body.offsets.now c

pub record IsBody (body : Body) : Type 0 where
  pub ordered : body.span.start ≤ body.span.end
  pub few : body.span.end - body.span.start < 2 ^ 32
  pub offsets : AreOffsets (points_in body.funcs.now body.span) body.span.start (body.span.end - body.span.start) body.offsets.now

-- ---- nodes of points, for one element b of their sets

module _ (points : List Point) (start : ℕ) (offsets : List ℕ) (Reads Writes : Point → Type 0) (b : ℕ) where
  pub record IsNode (p : Point) (n : Node) : Type 0 where
    pub reads : Has n.reads b ↔ Reads p
    pub writes : Has n.writes b ↔ Writes p
    pub leads : (d : ℕ) → NodeLeadsTo n d ↔ ((o : ℕ) × (slice_get offsets d ≡ Some o) × LeadsTo points p (start + o))

  pub record AreNodes (nodes : ℕ → Option Node) : Type 0 where
    pub each : (k : ℕ) (n : Node) → nodes k ≡ Some n → (o : ℕ) × (p : Point) × (slice_get offsets k ≡ Some o) × (point_at points (start + o) ≡ Some p) × IsNode p n
    pub all_there : (c : ℕ) (p : Point) → point_at points c ≡ Some p → (k : ℕ) × (o : ℕ) × (n : Node) × (slice_get offsets k ≡ Some o) × (start + o ≡ c) × (nodes k ≡ Some n) × IsNode p n
