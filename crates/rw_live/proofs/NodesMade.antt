-- The nodes of a function, for each register and each flag.
use Rattle.std.proofs.Common.{lit<, ◌≡◌, ℕ, suc, ◌+◌, ◌-◌, ◌<◌, ◌≤◌, ◌==◌, List, [], ◌∷◌, get_or, Option, Some, None, Bool, true, false, refl, sym, ap, subst, ◌∙◌, arith, ◌⊎◌, inl, inr, ⊎_elim, if◌then◌else◌, Contains}
use Rattle.std.specs.Prelude.{◌↔◌, ◌&&◌, slice_get, option_and_then, option_map, ◌^◌}
use Rattle.std.specs.Int.{bit_at}
use Rattle.std.specs.List.{AllPairs}
use Rattle.std.proofs.lemmas.Bool.{cases_lt, cases_eq, eqb-true, and_parts}
use Rattle.std.proofs.lemmas.Bool.Decides.{nat_tests}
use Rattle.std.proofs.lemmas.Nat.{or_of_16}
use Rattle.std.proofs.lemmas.Option.{slice_get_within, slice_get-get_or, get_or_from_slice_get, cond_some}
use Rattle.x86_insn.specs.declared.instruction.Insn.{Insn}
use Rattle.x86_insn.specs.declared.kinds.Reg.{Reg}
use Rattle.x86_insn.specs.declared.kinds.Reg.TheVariants.{Rax, Rcx, Rdx, Rbx, Rsp, Rbp, Rsi, Rdi, R8, R9, R10, R11, R12, R13, R14, R15}
use Rattle.x86_insn.specs.WellFormed.{code_of}
use Rattle.x86_meaning.specs.declared.sets.Flag.{Flag}
use Rattle.x86_meaning.specs.declared.sets.Flag.TheVariants.{Cf, Zf, Sf, Of, Pf}
use Rattle.x86_meaning.specs.Sets.{set_of, flag_set, flag_code}
use Rattle.x86_meaning.specs.Registers.{reads_of, writes_whole_of}
use Rattle.x86_meaning.specs.Flags.{flags_read_of, flags_written_of}
use Rattle.x86_meaning.proofs.MemberLaws.{register_members, flag_members}
use Rattle.rw_funcs.specs.Points.{Point, is_point, point_at, insn_at}
use Rattle.rw_live.specs.declared.graph.Node.{Node}
use Rattle.rw_live.specs.Liveness.{target_of, goes_on, reads_all, reads_all_flags, LeadsTo, ReadsRegister, ReadsFlag}
use Rattle.rw_live.specs.NodePaths.{Has, NodeLeadsTo}
use Rattle.rw_live.specs.Nodes.{AreOffsets, IsNode, AreNodes, both, reads_by, writes_by, number_of, jump_of, next_of, insn_with, node_of, nodes_in}
use Rattle.rw_live.proofs.NodeLaws.{some_same}
use Rattle.rw_live.proofs.Offsets.{number-found, number-at}
use Rattle.rw_live.proofs.Within.{insn-point, point-is-some}

-- no point begins inside another
abbrev pub AreApart : List Point → Type 0
AreApart points = (c d : ℕ) (p q : Point) → point_at points c ≡ Some p → point_at points d ≡ Some q → c < d → c + p.len ≤ d

-- ---- where a path goes on

next-parts : (offsets : List ℕ) (c end d : ℕ) (i : Insn ℕ) → next_of offsets c end i ≡ Some d → (goes_on i ≡ true) × (d ≡ suc c) × (slice_get offsets d ≡ Some end)
next-parts offsets c end d i h = by (slice_get offsets (suc c)) refl h
  where
    by : (o : Option ℕ) → slice_get offsets (suc c) ≡ o → option_and_then (λ x. if goes_on i && (x == end) then Some (suc c) else None) o ≡ Some d → (goes_on i ≡ true) × (d ≡ suc c) × (slice_get offsets d ≡ Some end)
    by None e g = cc
    by (Some x) e g =
        let parts = cond_some (goes_on i && (x == end)) (suc c) d g in
        let tests = and_parts (goes_on i) (x == end) parts.0 in
        (tests.0, sym parts.1, ap (slice_get offsets) (sym parts.1) ∙ e ∙ ap Some (eqb-true x end tests.1))

-- it goes on at the next number
pub next-behind : (points : List Point) (start : ℕ) (offsets : List ℕ) (c d : ℕ) (n : Node) → nodes_in points start offsets c ≡ Some n → n.next ≡ Some d → d ≡ suc c
next-behind points start offsets c d n made next = by (insn_with points start offsets c) made
  where
    by : (o : Option (ℕ × Insn ℕ × ℕ)) → option_map (λ e. node_of points start offsets c e.0 e.1 e.2) o ≡ Some n → d ≡ suc c
    by None g = cc
    by (Some e) g = let same : node_of points start offsets c e.0 e.1 e.2 ≡ n = some_same g in (next-parts offsets c (e.0 + e.2) d e.1 (ap (λ m. m.next) same ∙ next)).1

-- the node of the instruction at an offset
pub made-node : (points : List Point) (start : ℕ) (offsets : List ℕ) (c o : ℕ) (i : Insn ℕ) (len : ℕ) → slice_get offsets c ≡ Some o → insn_at points (start + o) ≡ Some (i, len) → nodes_in points start offsets c ≡ Some (node_of points start offsets c o i len)
made-node points start offsets c o i len at insn =
    ap (λ x. option_map (λ (e : ℕ × Insn ℕ × ℕ). node_of points start offsets c e.0 e.1 e.2) (option_and_then (λ o. option_map (λ (d : Insn ℕ × ℕ). (o, d.0, d.1)) (insn_at points (start + o))) x)) at
    ∙ ap (λ x. option_map (λ (e : ℕ × Insn ℕ × ℕ). node_of points start offsets c e.0 e.1 e.2) (option_map (λ (d : Insn ℕ × ℕ). (o, d.0, d.1)) x)) insn

test-true : (t : Bool) (x y : ℕ) → t ≡ true → x ≡ y → (t && (x == y)) ≡ true
test-true true x y e same = grind (arith, nat_tests, same)
test-true false x y e same = cc

module _ (points : List Point) (start size : ℕ) (offsets : List ℕ) (are : AreOffsets points start size offsets) (apart : AreApart points) (some : (c : ℕ) (p : Point) → point_at points c ≡ Some p → 0 < p.len) where
  is-point : (k o : ℕ) → slice_get offsets k ≡ Some o → is_point points (start + o) ≡ true
  is-point k o e =
      let within = slice_get_within offsets k o e in
      subst (λ x. is_point points (start + x) ≡ true) (get_or_from_slice_get offsets k o 0 e) (are.are_points k 0 within)

  a-point : (c : ℕ) → is_point points c ≡ true → (p : Point) × (point_at points c ≡ Some p)
  a-point c e = by (point_at points c) (sym (point-is-some points c) ∙ e)
    where
      by : (o : Option Point) → Rattle.std.specs.Option.is_some o ≡ true → (p : Point) × (o ≡ Some p)
      by None g = cc
      by (Some p) g = (p, refl)

  -- the point behind another has the next number
  adjacent : (c d o : ℕ) (p : Point) → slice_get offsets c ≡ Some o → point_at points (start + o) ≡ Some p → slice_get offsets d ≡ Some (o + p.len) → d ≡ suc c
  adjacent c d o p at here behind =
      let within = slice_get_within offsets d (o + p.len) behind in
      let within_c = slice_get_within offsets c o at in
      let x : get_or offsets c 0 ≡ o = get_or_from_slice_get offsets c o 0 at in
      let y : get_or offsets d 0 ≡ o + p.len = get_or_from_slice_get offsets d (o + p.len) 0 behind in
      let long = some (start + o) p here in
      elim (cases_lt c d) [
        | inr below ↦ elim (cases_eq d c) [
          | inl e ↦ (let q : get_or offsets d 0 ≡ get_or offsets c 0 = ap (λ k. get_or offsets k 0) e in absurd (omega (arith, q, x, y, long)))
          | inr n ↦ (let lt = are.ascend d c 0 (omega (arith, below, n)) within_c in absurd (omega (arith, lt, x, y, long)))
        ]
        | inl above ↦ elim (cases_eq d (suc c)) [
          | inl e ↦ e
          | inr n ↦
              let first = are.ascend c (suc c) 0 (omega arith) (omega (arith, above, n, within)) in
              let second = are.ascend (suc c) d 0 (omega (arith, above, n)) within in
              let between = slice_get-get_or offsets (suc c) 0 (omega (arith, above, n, within)) in
              let q = a-point (start + get_or offsets (suc c) 0) (is-point (suc c) (get_or offsets (suc c) 0) between) in
              let far = apart (start + o) (start + get_or offsets (suc c) 0) p q.0 here q.1 (omega (arith, first, x)) in
              absurd (omega (arith, far, second, y))
        ]
      ]

  module _ (c o : ℕ) (i : Insn ℕ) (len : ℕ) (at : slice_get offsets c ≡ Some o) where
    next-leads : (d : ℕ) → next_of offsets c (o + len) i ≡ Some d → (e : ℕ) × (slice_get offsets d ≡ Some e) × LeadsTo points (record { place = start + o; insn = i; len = len }) (start + e)
    next-leads d h =
        let parts = next-parts offsets c (o + len) d i h in
        (o + len, parts.2, (is-point d (o + len) parts.2, inl (parts.0, (let q : start + (o + len) ≡ start + o + len = omega arith in q))))

    jump-leads : (d : ℕ) → jump_of start offsets i ≡ Some d → (e : ℕ) × (slice_get offsets d ≡ Some e) × LeadsTo points (record { place = start + o; insn = i; len = len }) (start + e)
    jump-leads d h = by (target_of i) refl h
      where
        by : (t : Option ℕ) → target_of i ≡ t → option_and_then (number_of start offsets) t ≡ Some d → (e : ℕ) × (slice_get offsets d ≡ Some e) × LeadsTo points (record { place = start + o; insn = i; len = len }) (start + e)
        by None f g = cc
        by (Some to) f g = let found = number-found start offsets to d g in (found.0, found.1, (is-point d found.0 found.1, inr (f ∙ ap Some (sym found.2))))

    leads-next : (d e : ℕ) → point_at points (start + o) ≡ Some (record { place = start + o; insn = i; len = len }) → slice_get offsets d ≡ Some e → goes_on i ≡ true → start + e ≡ start + o + len → next_of offsets c (o + len) i ≡ Some d
    leads-next d e here there goes place =
        let same : e ≡ o + len = omega (arith, place) in
        let next : d ≡ suc c = adjacent c d o (record { place = start + o; insn = i; len = len }) at here (there ∙ ap Some same) in
        let found : slice_get offsets (suc c) ≡ Some e = ap (slice_get offsets) (sym next) ∙ there in
        ap (option_and_then (λ x. if goes_on i && (x == o + len) then Some (suc c) else None)) found
        ∙ ap (λ t. if t then Some (suc c) else None) (test-true (goes_on i) e (o + len) goes same)
        ∙ ap Some (sym next)

    leads-jump : (d e : ℕ) → slice_get offsets d ≡ Some e → target_of i ≡ Some (start + e) → jump_of start offsets i ≡ Some d
    leads-jump d e there target = ap (option_and_then (number_of start offsets)) target ∙ number-at start offsets are.ascend (start + e) d e there refl

    node-leads : point_at points (start + o) ≡ Some (record { place = start + o; insn = i; len = len }) → (d : ℕ)
        → NodeLeadsTo (node_of points start offsets c o i len) d ↔ ((e : ℕ) × (slice_get offsets d ≡ Some e) × LeadsTo points (record { place = start + o; insn = i; len = len }) (start + e))
    node-leads here d = (
      λ h. ⊎_elim (λ e. next-leads d e) (λ e. jump-leads d e) h,
      λ h. ⊎_elim (λ e. inl (leads-next d h.0 here h.1 e.0 e.1)) (λ e. inr (leads-jump d h.0 h.1 e)) h.2.1,
    )

  -- ---- a node, for one element of its sets

  module _ (Reads Writes : Point → Type 0) (b : ℕ) (reads : (q : Point) → Has (reads_by points q.insn) b ↔ Reads q) (writes : (q : Point) → Has (writes_by q.insn) b ↔ Writes q) where
    is-node : (c o : ℕ) (i : Insn ℕ) (len : ℕ) → slice_get offsets c ≡ Some o → point_at points (start + o) ≡ Some (record { place = start + o; insn = i; len = len })
        → IsNode points start offsets Reads Writes b (record { place = start + o; insn = i; len = len }) (node_of points start offsets c o i len)
    is-node c o i len at here = record {
      reads = reads (record { place = start + o; insn = i; len = len });
      writes = writes (record { place = start + o; insn = i; len = len });
      leads = node-leads c o i len at here;
    }

    each-node : (c : ℕ) (n : Node) → nodes_in points start offsets c ≡ Some n → (o : ℕ) × (q : Point) × (slice_get offsets c ≡ Some o) × (point_at points (start + o) ≡ Some q) × IsNode points start offsets Reads Writes b q n
    each-node c n made = by_offset (slice_get offsets c) refl made
      where
        by_insn : (o : ℕ) → slice_get offsets c ≡ Some o → (d : Option (Insn ℕ × ℕ)) → insn_at points (start + o) ≡ d → option_map (λ (e : ℕ × Insn ℕ × ℕ). node_of points start offsets c e.0 e.1 e.2) (option_map (λ (d : Insn ℕ × ℕ). (o, d.0, d.1)) d) ≡ Some n
            → (o : ℕ) × (q : Point) × (slice_get offsets c ≡ Some o) × (point_at points (start + o) ≡ Some q) × IsNode points start offsets Reads Writes b q n
        by_insn o at None e g = cc
        by_insn o at (Some d) e g =
            let here = insn-point points (start + o) d.0 d.1 e in
            let same : node_of points start offsets c o d.0 d.1 ≡ n = some_same g in
            (o, record { place = start + o; insn = d.0; len = d.1 }, at, here, subst (λ m. IsNode points start offsets Reads Writes b (record { place = start + o; insn = d.0; len = d.1 }) m) same (is-node c o d.0 d.1 at here))

        by_offset : (x : Option ℕ) → slice_get offsets c ≡ x → option_map (λ (e : ℕ × Insn ℕ × ℕ). node_of points start offsets c e.0 e.1 e.2) (option_and_then (λ o. option_map (λ (d : Insn ℕ × ℕ). (o, d.0, d.1)) (insn_at points (start + o))) x) ≡ Some n
            → (o : ℕ) × (q : Point) × (slice_get offsets c ≡ Some o) × (point_at points (start + o) ≡ Some q) × IsNode points start offsets Reads Writes b q n
        by_offset None e g = cc
        by_offset (Some o) e g = by_insn o e (insn_at points (start + o)) refl g

    a-place : (c : ℕ) → start ≤ c → c < start + size → is_point points c ≡ true → (k : ℕ) × (o : ℕ) × (slice_get offsets k ≡ Some o) × (start + o ≡ c)
    a-place c low high is =
        let back : start + (c - start) ≡ c = omega (arith, low) in
        let found = are.all_there (c - start) (omega (arith, low, high)) (ap (is_point points) back ∙ is) in
        (found.0, c - start, slice_get-get_or offsets found.0 (c - start) found.1 ∙ ap Some found.2, back)

    there-node : (c : ℕ) (q : Point) → start ≤ c → c < start + size → point_at points c ≡ Some q
        → (k : ℕ) × (o : ℕ) × (n : Node) × (slice_get offsets k ≡ Some o) × (start + o ≡ c) × (nodes_in points start offsets k ≡ Some n) × IsNode points start offsets Reads Writes b q n
    there-node c q low high here =
        let at = a-place c low high (point-is-some points c ∙ ap Rattle.std.specs.Option.is_some here) in
        let k = at.0 in
        let o = at.1 in
        let insn : insn_at points (start + o) ≡ Some (q.insn, q.len) = ap (insn_at points) at.3 ∙ ap (option_map (λ r. (r.insn, r.len))) here in
        let made = made-node points start offsets k o q.insn q.len at.2 insn in
        let itself = insn-point points (start + o) q.insn q.len insn in
        let is = is-node k o q.insn q.len at.2 itself in
        let same : record { place = start + o; insn = q.insn; len = q.len } ≡ q = some_same (sym itself ∙ ap (point_at points) at.3 ∙ here) in
        (k, o, node_of points start offsets k o q.insn q.len, at.2, at.3, made, subst (λ r. IsNode points start offsets Reads Writes b r (node_of points start offsets k o q.insn q.len)) same is)

    pub are-nodes : ((c : ℕ) → is_point points c ≡ true → (start ≤ c) × (c < start + size)) → AreNodes points start offsets Reads Writes b (nodes_in points start offsets)
    are-nodes inside = record {
      each = λ c n made. each-node c n made;
      all_there = λ c q here. (let within = inside c (point-is-some points c ∙ ap Rattle.std.specs.Option.is_some here) in there-node c q within.0 within.1 here);
    }

-- ---- registers and flags in one set

register-bit : (rs xs : ℕ) (r : Reg) → bit_at (both rs xs) (code_of r) ≡ bit_at rs (code_of r)
register-bit rs xs Rax = omega arith
register-bit rs xs Rcx = omega arith
register-bit rs xs Rdx = omega arith
register-bit rs xs Rbx = omega arith
register-bit rs xs Rsp = omega arith
register-bit rs xs Rbp = omega arith
register-bit rs xs Rsi = omega arith
register-bit rs xs Rdi = omega arith
register-bit rs xs R8 = omega arith
register-bit rs xs R9 = omega arith
register-bit rs xs R10 = omega arith
register-bit rs xs R11 = omega arith
register-bit rs xs R12 = omega arith
register-bit rs xs R13 = omega arith
register-bit rs xs R14 = omega arith
register-bit rs xs R15 = omega arith

flag-bit : (rs xs : ℕ) (x : Flag) → rs < 65536 → bit_at (both rs xs) (16 + flag_code x) ≡ bit_at xs (flag_code x)
flag-bit rs xs Cf small = omega arith
flag-bit rs xs Zf small = omega arith
flag-bit rs xs Sf small = omega arith
flag-bit rs xs Of small = omega arith
flag-bit rs xs Pf small = omega arith

one-register : (r : Reg) → 2 ^ code_of r < 65536
one-register Rax = lit< tt
one-register Rcx = lit< tt
one-register Rdx = lit< tt
one-register Rbx = lit< tt
one-register Rsp = lit< tt
one-register Rbp = lit< tt
one-register Rsi = lit< tt
one-register Rdi = lit< tt
one-register R8 = lit< tt
one-register R9 = lit< tt
one-register R10 = lit< tt
one-register R11 = lit< tt
one-register R12 = lit< tt
one-register R13 = lit< tt
one-register R14 = lit< tt
one-register R15 = lit< tt

register-set : (rs : List Reg) → set_of rs < 65536
register-set [] = lit< tt
register-set (r ∷ rs) = or_of_16 (2 ^ code_of r) (set_of rs) (one-register r) (register-set rs)

all-or : (t : Bool) (rs : List Reg) → (if t then 65535 else set_of rs) < 65536
all-or true rs = lit< tt
all-or false rs = register-set rs

bit-of-all : (r : Reg) → bit_at 65535 (code_of r) ≡ 1
bit-of-all Rax = refl
bit-of-all Rcx = refl
bit-of-all Rdx = refl
bit-of-all Rbx = refl
bit-of-all Rsp = refl
bit-of-all Rbp = refl
bit-of-all Rsi = refl
bit-of-all Rdi = refl
bit-of-all R8 = refl
bit-of-all R9 = refl
bit-of-all R10 = refl
bit-of-all R11 = refl
bit-of-all R12 = refl
bit-of-all R13 = refl
bit-of-all R14 = refl
bit-of-all R15 = refl

bit-of-flags : (x : Flag) → bit_at 31 (flag_code x) ≡ 1
bit-of-flags Cf = refl
bit-of-flags Zf = refl
bit-of-flags Sf = refl
bit-of-flags Of = refl
bit-of-flags Pf = refl

register-reads : (t : Bool) (rs : List Reg) (r : Reg) → Has (if t then 65535 else set_of rs) (code_of r) ↔ ((t ≡ true) ⊎ Contains rs r)
register-reads true rs r = (λ h. inl refl, λ h. bit-of-all r)
register-reads false rs r = (λ h. inr ((register_members rs r).0 h), λ h. ⊎_elim (λ e. cc) (λ c. (register_members rs r).1 c) h)

flag-reads : (t : Bool) (xs : List Flag) (x : Flag) → Has (if t then 31 else flag_set xs) (flag_code x) ↔ ((t ≡ true) ⊎ Contains xs x)
flag-reads true xs x = (λ h. inl refl, λ h. bit-of-flags x)
flag-reads false xs x = (λ h. inr ((flag_members xs x).0 h), λ h. ⊎_elim (λ e. cc) (λ c. (flag_members xs x).1 c) h)

same-bit : (n m b c : ℕ) (P : Type 0) → bit_at n b ≡ bit_at m c → Has m c ↔ P → Has n b ↔ P
same-bit n m b c P e h = (λ k. h.0 (sym e ∙ k), λ k. e ∙ h.1 k)

module _ (points : List Point) where
  pub reads-register : (r : Reg) (q : Point) → Has (reads_by points q.insn) (code_of r) ↔ ReadsRegister points r q
  reads-register r q = same-bit _ _ _ _ _ (register-bit _ _ r) (register-reads (reads_all points q.insn) (reads_of q.insn) r)

  pub reads-flag : (x : Flag) (q : Point) → Has (reads_by points q.insn) (16 + flag_code x) ↔ ReadsFlag points x q
  reads-flag x q = same-bit _ _ _ _ _ (flag-bit _ _ x (all-or (reads_all points q.insn) (reads_of q.insn))) (flag-reads (reads_all_flags points q.insn) (flags_read_of q.insn) x)

pub writes-register : (r : Reg) (q : Point) → Has (writes_by q.insn) (code_of r) ↔ Contains (writes_whole_of q.insn) r
writes-register r q = same-bit _ _ _ _ _ (register-bit _ _ r) (register_members (writes_whole_of q.insn) r)

pub writes-flag : (x : Flag) (q : Point) → Has (writes_by q.insn) (16 + flag_code x) ↔ Contains (flags_written_of q.insn) x
writes-flag x q = same-bit _ _ _ _ _ (flag-bit _ _ x (register-set (writes_whole_of q.insn))) (flag_members (flags_written_of q.insn) x)
