-- What the entry does: how many bytes of the packet are there, and zeros where something may be read before anything has set it.
use Rattle.std.proofs.Common.{◌≡◌, ℕ, zero, suc, ◌+◌, ◌<◌, ◌≤◌, ◌^◌, List, [], ◌∷◌, ◌++◌, length, take, Bool, true, false, cond, Some, None, refl, sym, ap, ◌∙◌, subst, ◌⊎◌, inl, inr, ⊎_elim, arith}
use Rattle.std.specs.Prelude.{ℤ, pos, min, flat_map, option_map}
use Rattle.std.specs.List.{range_with_len}
use Rattle.std.specs.Int.{cast_signed, w32}
use Rattle.std.proofs.lemmas.Bool.{false≢true, le-leb, leb-true, leb-false, cases_lt}
use Rattle.std.proofs.lemmas.Int.{clamps}
use Rattle.bpf_insn.specs.Options.{◌>>=◌}
use Rattle.bpf_insn.specs.Order.{number_of, bytes_of}
use Rattle.bpf_insn.specs.Arithmetic.{extended, jumps}
use Rattle.bpf_insn.specs.Instruction.{Instructions}
use Rattle.bpf_insn.specs.declared.instruction.Reg.TheVariants.{R1, R2, R5, R10}
use Rattle.bpf_insn.specs.declared.instruction.Operand.TheVariants.{Imm}
use Rattle.bpf_insn.specs.declared.instruction.Width.TheVariants.{W64}
use Rattle.bpf_insn.specs.declared.instruction.Size.TheVariants.{DW}
use Rattle.bpf_insn.specs.declared.instruction.AluOp.TheVariants.{Mov}
use Rattle.bpf_insn.specs.declared.instruction.Cond.TheVariants.{Le as IsLe}
use Rattle.bpf_insn.specs.declared.instruction.Insn.{Insn}
use Rattle.bpf_insn.specs.declared.instruction.Insn.TheVariants.{Alu, Load, StoreImm}
use Rattle.bpf_semantics.specs.State.{put}
use Rattle.bpf_semantics.specs.Memory.{with_bytes}
use Rattle.bpf_semantics.specs.Memory.Location.{InContext}
use Rattle.bpf_semantics.specs.Step.{does, load}
use Rattle.bpf_semantics.specs.declared.value.Value.TheVariants.{Number}
use Rattle.bpf_classic.specs.declared.instruction.Register.{Register}
use Rattle.bpf_classic.specs.Template.{room, constant, reg_of, cell_offset, room_insns, zero_cell, is_loaded}
use Rattle.bpf_classic.specs.declared.layout.Layout.{Layout}
use Rattle.bpf_classic.specs.declared.layout.Annotated.{Annotated}
use Rattle.bpf_classic.proofs.Steps.{HasAt, Stands, Ends, Moves, after, either, doing, far_next}
use Rattle.bpf_classic.proofs.Values.{constant_small}
use Rattle.bpf_classic.proofs.Machine.{Fixed, Now, at, placed, with_left, set_to, with_cells, alu_moves, tests}
use Rattle.bpf_classic.proofs.Frame.{Cells, HoldsNumber, first_of, stored, kept, long_after, zero_moves}

-- ---- how many bytes are there

module _ (p : Instructions) (e : Fixed) (context : List ℕ) (slot : ℕ) (w : Now) (old : ℕ) where
  abbrev told : ℕ
  told = number_of p.order 8 (take 8 context)

  length_read : 8 ≤ length context → does p.order (Load DW R2 R1 (pos 0)) (at (placed e old context) slot w) ≡ Some (at (placed e told context) (slot + 1) w)
  unfolding does
  length_read le = ap (λ b. option_map InContext (cond b (Some 0) None) >>= λ location. load p.order (at (placed e old context) slot w) DW location >>= λ v. put R2 v (at (placed e old context) (slot + 1) w)) (le-leb 8 (length context) le)

  length_moves : 8 ≤ length context → Stands p slot (Load DW R2 R1 (pos 0)) → Moves p (at (placed e old context) slot w) (at (placed e told context) (slot + 1) w)
  length_moves le here = doing p (at (placed e old context) slot w) (at (placed e told context) (slot + 1) w) (Load DW R2 R1 (pos 0)) here (length_read le) (far_next p slot)

  room_set : (z : ℤ) → does p.order (Alu Mov W64 R2 (Imm z)) (at (placed e old context) slot w) ≡ Some (at (placed e (extended z) context) (slot + 1) w)
  unfolding does
  room_set z = refl

  room_moves : (z : ℤ) → Stands p slot (Alu Mov W64 R2 (Imm z)) → Moves p (at (placed e old context) slot w) (at (placed e (extended z) context) (slot + 1) w)
  room_moves z here = doing p (at (placed e old context) slot w) (at (placed e (extended z) context) (slot + 1) w) (Alu Mov W64 R2 (Imm z)) here (room_set z) (far_next p slot)

-- a block's length, cut to what there is room for
pub block_room : (p : Instructions) (e : Fixed) (l : Layout) (context : List ℕ) (old v : ℕ) (w : Now) (behind : List Insn) → room l ≤ 4096 → 8 ≤ length context → HasAt p 0 (room_insns l ++ behind)
    → ((slot : ℕ) → HasAt p slot behind → Ends p e.spare (at (placed e (min (number_of p.order 8 (take 8 context)) (room l)) context) slot w) v) → Ends p e.spare (at (placed e old context) 0 w) v
block_room p e l context old v w behind few le has go =
    let wire : ℕ = number_of p.order 8 (take 8 context) in
    let z = cast_signed w32 (room l) in
    let same : extended z ≡ room l = constant_small (room l) (omega arith) in
    after p (at (placed e old context) 0 w) (at (placed e wire context) 1 w) v (length_moves p e context 0 w old le has.0)
    (either p (at (placed e wire context) 1 w) (jumps W64 IsLe wire (extended z)) (at (placed e wire context) 3 w) (at (placed e wire context) 2 w) v
    (tests p (placed e wire context) 1 w W64 IsLe R2 (Imm z) wire (extended z) 1 has.1.0 refl refl)
    (λ y. let cut : min wire (room l) ≡ wire = (let h = leb-true wire (extended z) y in omega (arith, clamps, same)) in subst (λ r. Ends p e.spare (at (placed e r context) 3 w) v) cut (go 3 has.1.1.1))
    (λ y.
    let cut : min wire (room l) ≡ extended z = (let h = leb-false wire (extended z) y in omega (arith, clamps, same)) in
    after p (at (placed e wire context) 2 w) (at (placed e (extended z) context) 3 w) v (room_moves p e context 2 w wire z has.1.1.0)
    (subst (λ r. Ends p e.spare (at (placed e r context) 3 w) v) cut (go 3 has.1.1.1))))

-- ---- how often the run may jump back

turns_set : (p : Instructions) (f : Fixed) (slot : ℕ) (w : Now) (z : ℤ) → does p.order (Alu Mov W64 R5 (Imm z)) (at f slot w) ≡ Some (at (with_left (extended z) f) (slot + 1) w)
unfolding does
turns_set p f slot w z = refl

pub turns_moves : (p : Instructions) (f : Fixed) (slot n : ℕ) (w : Now) → n < 2 ^ 16 → Stands p slot (Alu Mov W64 R5 (constant n)) → Moves p (at f slot w) (at (with_left n f) (slot + 1) w)
turns_moves p f slot n w few here =
    let z : ℤ = cast_signed w32 n in
    let same : extended z ≡ n = constant_small n (omega arith) in
    subst (λ n. Moves p (at f slot w) (at (with_left n f) (slot + 1) w)) same (doing p (at f slot w) (at (with_left (extended z) f) (slot + 1) w) (Alu Mov W64 R5 (Imm z)) here (turns_set p f slot w z) (far_next p slot))

-- ---- zeros

at_or_below : (i c : ℕ) → i < c + 1 → (i ≡ c) ⊎ (i < c)
at_or_below i c lt = ⊎_elim (λ below. inr below) (λ above. inl (omega arith)) (cases_lt i c)

module _ (p : Instructions) (f : Fixed) (v : ℕ) where
  abbrev zeroed : Bool → Register → Now → Now
  zeroed t to w = cond t (set_to to (Number 0) w) w

  pub zero_register : (t : Bool) (to : Register) (slot : ℕ) (w : Now) (more behind : List Insn) → HasAt p slot ((cond t (Alu Mov W64 (reg_of to) (Imm (pos 0)) ∷ []) [] ++ more) ++ behind)
      → ((slot : ℕ) → HasAt p slot (more ++ behind) → Ends p f.spare (at f slot (zeroed t to w)) v) → Ends p f.spare (at f slot w) v
  zero_register true to slot w more behind has go =
      after p (at f slot w) (at f (slot + 1) (set_to to (Number 0) w)) v (alu_moves p f slot w to W64 Mov (Imm (pos 0)) (Number 0) (Number 0) has.0 refl refl) (go (slot + 1) has.1)
  zero_register false to slot w more behind has go = go slot has

  -- the cells below c that are loaded hold 0
  pub record Zeroed (filter : List Annotated) (c : ℕ) (w : Now) : Type 0 where
    pub long : length w.stack ≡ 512
    pub holds : (i : ℕ) → i < c → is_loaded filter i ≡ true → HoldsNumber p.order w.stack i 0

  pub zero_cells : (filter : List Annotated) (n c slot : ℕ) (w : Now) (behind : List Insn) → c + n ≡ 16 → HasAt p slot (flat_map (zero_cell filter) (range_with_len c n) ++ behind) → Zeroed filter c w
      → ((slot : ℕ) (stack : Cells) → HasAt p slot behind → Zeroed filter 16 (with_cells stack w) → Ends p f.spare (at f slot (with_cells stack w)) v) → Ends p f.spare (at f slot w) v
  zero_cells filter zero c slot w behind count has zeros go =
      let all : c ≡ 16 = omega (arith, count) in go slot w.stack has (subst (λ c. Zeroed filter c w) all zeros)
  zero_cells filter (suc n) c slot w behind count has zeros go =
      let more : List Insn = flat_map (zero_cell filter) (range_with_len (c + 1) n) in
      let low : c < 16 = omega (arith, count) in
      let left : c + 1 + n ≡ 16 = omega (arith, count) in
      let by : (t : Bool) → is_loaded filter c ≡ t → HasAt p slot ((cond t (StoreImm DW R10 (cell_offset c) (pos 0) ∷ []) [] ++ more) ++ behind) → Ends p f.spare (at f slot w) v =
      λ t. elim t as (λ t. is_loaded filter c ≡ t → HasAt p slot ((cond t (StoreImm DW R10 (cell_offset c) (pos 0) ∷ []) [] ++ more) ++ behind) → Ends p f.spare (at f slot w) v) [
        | true ↦ (λ e h.
            let stack : Cells = with_bytes (bytes_of p.order 8 0) (first_of c) w.stack in
            let zeros' : Zeroed filter (c + 1) (with_cells stack w) = record {
              long = long_after (bytes_of p.order 8 0) (first_of c) w.stack ∙ zeros.long;
              holds = λ i lt is. ⊎_elim
                  (λ same. subst (λ i. HoldsNumber p.order stack i 0) (sym same) (stored p.order w.stack c 0 zeros.long low))
                  (λ below. kept p.order w.stack c i 0 0 zeros.long low (omega arith) (λ same. omega arith) (zeros.holds i below is))
                  (at_or_below i c lt);
            } in
            after p (at f slot w) (at f (slot + 1) (with_cells stack w)) v (zero_moves p f slot w c low h.0)
            (zero_cells filter n (c + 1) (slot + 1) (with_cells stack w) behind left h.1 zeros' go))
        | false ↦ (λ e h.
            let zeros' : Zeroed filter (c + 1) w = record {
              long = zeros.long;
              holds = λ i lt is. ⊎_elim
                  (λ same. absurd (false≢true (sym e ∙ subst (λ i. is_loaded filter i ≡ true) same is)))
                  (λ below. zeros.holds i below is)
                  (at_or_below i c lt);
            } in
            zero_cells filter n (c + 1) slot w behind left h zeros' go)
      ] in
      by (is_loaded filter c) refl has
