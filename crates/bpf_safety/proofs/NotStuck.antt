-- A described state without fault is stuck for no reason but too many frames.
use Rattle.std.proofs.Common.{◌≡◌, ℕ, refl, sym, ◌∙◌, ap, List, [], ◌∷◌, Option, Some, None, Bool, true, false}
use Rattle.std.specs.Prelude.{◌||◌, not, is_none, is_some}
use Rattle.std.specs.List.{list_any}
use Rattle.std.proofs.lemmas.Bool.{false≢true, or_parts, not-false}
use Rattle.std.proofs.lemmas.Option.{same_Some}
use Rattle.bpf_insn.specs.declared.instruction.Reg.{Reg}
use Rattle.bpf_insn.specs.declared.instruction.Reg.TheVariants.{R0}
use Rattle.bpf_insn.specs.declared.instruction.Operand.{Operand}
use Rattle.bpf_insn.specs.declared.instruction.Operand.TheVariants.{Imm, Reg as FromReg}
use Rattle.bpf_insn.specs.declared.instruction.Width.{Width}
use Rattle.bpf_insn.specs.declared.instruction.Width.TheVariants.{W32, W64}
use Rattle.bpf_insn.specs.declared.instruction.AluOp.{AluOp}
use Rattle.bpf_insn.specs.declared.instruction.AluOp.TheVariants.{Add, Sub, Mov}
use Rattle.bpf_insn.specs.declared.instruction.Cond.{Cond}
use Rattle.bpf_insn.specs.declared.instruction.Cond.TheVariants.{Eq, Ne}
use Rattle.bpf_insn.specs.declared.instruction.Insn.{Insn}
use Rattle.bpf_insn.specs.declared.instruction.Insn.TheVariants.{Alu, Neg, MovSx, End, LoadImm64, Load, LoadSx, Store, StoreImm, Atomic, Ja, JaLong, JumpIf, CallLocal, Exit}
use Rattle.bpf_semantics.specs.declared.value.Value.{Value}
use Rattle.bpf_semantics.specs.declared.reason.Reason.{Reason}
use Rattle.bpf_semantics.specs.declared.reason.Reason.TheVariants.{UnsetRegister, OutOfBounds, ContextWrite, FramePointerWrite, OperandKind, TooManyFrames, PointerResult}
use Rattle.bpf_insn.specs.Instruction.{Instructions, insn_at}
use Rattle.bpf_insn.specs.Options.{◌>>=◌}
use Rattle.bpf_semantics.specs.Step.{alu_result, test_of_values, operand as machine_operand}
use Rattle.bpf_semantics.specs.Stuck.{reads_unset, has_wrong_kind, is_pointer as is_pointer_value, is_out_of_bounds as is_past, writes_context, unreadable, has_no_frame, exits_with_pointer, reason_if, first_of, reason_at, reason_of}
use Rattle.bpf_insn.specs.Effects.{operand_register, registers_read, writes_frame_pointer}
use Rattle.bpf_semantics.specs.State as machine
use Rattle.bpf_num.specs.Laws.{ConstantHas, TightenKeeps}
use Rattle.bpf_state.specs.declared.known.RegState.{RegState}
use Rattle.bpf_state.specs.declared.known.RegState.TheVariants.{Any, Num, Ptr}
use Rattle.bpf_state.specs.State.{AbstractState, register, same_area}
use Rattle.bpf_state.specs.Fault.{operand, is_any, is_number, alu_of_kinds, difference, can_test, have_right_kinds, reads_part}
use Rattle.bpf_safety.specs.Describes.{DescribesRegister}
use Rattle.bpf_safety.specs.Laws.{IsJudged, NotStuckInside}
use Rattle.bpf_safety.proofs.Areas.{same_regions}
use Rattle.bpf_safety.proofs.Judged.{no_fault_is, not_protected}
use Rattle.bpf_safety.proofs.Tests.{some_if}
use Rattle.bpf_safety.proofs.Operands.{operand_describes}
use Rattle.bpf_safety.proofs.FrameStores.{store_imm_reason}
use Rattle.bpf_safety.proofs.RegisterStores.{store_reason}
use Rattle.bpf_safety.proofs.Loads.{load_reason}
use Rattle.bpf_safety.proofs.ExtendedLoads.{load_sx_reason}
use Rattle.bpf_safety.proofs.Atomics.{atomic_reason}

-- ---- reasons

reason_is : (p : Instructions) (m : machine.State) (i : Insn) (why : Reason) → insn_at p.list m.top.slot ≡ Some i → reason_of p m ≡ Some why → reason_at m i ≡ Some why
unfolding reason_of
reason_is p m i why stands is = rw stands at is

by_frames : (few : Bool) (why : Reason) → first_of (None ∷ None ∷ None ∷ None ∷ None ∷ None ∷ reason_if few TooManyFrames ∷ None ∷ []) ≡ Some why → why ≡ TooManyFrames
by_frames true why e = sym (same_Some TooManyFrames why e)
by_frames false why e = cc

-- of an instruction without access to memory
only_frames : (m : machine.State) (i : Insn) (why : Reason) → writes_frame_pointer i ≡ false → reads_unset m i ≡ false → has_wrong_kind m i ≡ false → is_past m i ≡ false → writes_context m i ≡ false → unreadable m i ≡ None → exits_with_pointer m i ≡ false → reason_at m i ≡ Some why → why ≡ TooManyFrames
unfolding reason_at
only_frames m i why a b c d e o g is =
    let first : (a b c d e g : Bool) (o : Option Reason) → a ≡ false → b ≡ false → c ≡ false → d ≡ false → e ≡ false → o ≡ None → g ≡ false → first_of (reason_if a FramePointerWrite ∷ reason_if b UnsetRegister ∷ reason_if c OperandKind ∷ reason_if d OutOfBounds ∷ reason_if e ContextWrite ∷ o ∷ reason_if (has_no_frame m i) TooManyFrames ∷ reason_if g PointerResult ∷ []) ≡ Some why → why ≡ TooManyFrames = λ a b c d e g o ea eb ec ed ee eo eg is. by_frames (has_no_frame m i) why (rw (ea, eb, ec, ed, ee, eo, eg) at is) in
    first (writes_frame_pointer i) (reads_unset m i) (has_wrong_kind m i) (is_past m i) (writes_context m i) (exits_with_pointer m i) (unreadable m i) a b c d e o g is

no_reason : (why : Reason) (o : Option Reason) → o ≡ None → o ≡ Some why → why ≡ TooManyFrames
no_reason why o e f = cc

-- ---- registers

is_set : (depth : ℕ) (value : RegState) (v : Option Value) → is_any value ≡ false → DescribesRegister depth value v → is_none v ≡ false
is_set depth Any v known d = absurd (false≢true (sym known))
is_set depth (Num n) v known d = ap is_none d.1
is_set depth (Ptr p) v known d = ap is_none d.1

all_set : (s : AbstractState) (m : machine.State) (rs : List Reg) → ((r : Reg) → DescribesRegister (machine.depth m) (register s r) (machine.register m r)) → list_any (λ r. is_any (register s r)) rs ≡ false → list_any (λ r. is_none (machine.register m r)) rs ≡ false
all_set s m [] d known = refl
all_set s m (r ∷ rs) d known =
    let k = or_parts (is_any (register s r)) (list_any (λ r. is_any (register s r)) rs) known in
    ap (λ b. b || list_any (λ r. is_none (machine.register m r)) rs) (is_set (machine.depth m) (register s r) (machine.register m r) k.0 (d r))
    ∙ all_set s m rs d k.1

no_pointer : (depth : ℕ) (value : RegState) (v : Option Value) → is_number value ≡ true → DescribesRegister depth value v → is_pointer_value v ≡ false
no_pointer depth Any v is d = absurd (false≢true is)
no_pointer depth (Num n) v is d = ap is_pointer_value d.1
no_pointer depth (Ptr p) v is d = absurd (false≢true is)

-- ---- operands of kinds that an operation takes

alu_allowed : (depth : ℕ) (width : Width) (op : AluOp) (a b : RegState) (v w : Option Value) → is_some (alu_of_kinds width op a b) ≡ true → is_any b ≡ false → DescribesRegister depth a v → DescribesRegister depth b w → is_none (w >>= λ z. alu_result width op v z) ≡ false
alu_allowed depth width op a Any v w h k d e = absurd (false≢true (sym k))
alu_allowed depth W64 Mov a (Num n) v w h k d e = rw e.1
alu_allowed depth W64 Mov a (Ptr q) v w h k d e = rw e.1
alu_allowed depth W32 Mov a (Num n) v w h k d e = rw e.1
alu_allowed depth W32 Mov a (Ptr q) v w h k d e = absurd (false≢true h)
alu_allowed depth W64 op (Num n) (Num n') v w h k d e = rw (e.1, d.1)
alu_allowed depth W32 op (Num n) (Num n') v w h k d e = rw (e.1, d.1)
alu_allowed depth W64 Add (Ptr p) (Num n) v w h k d e = rw (e.1, d.1)
alu_allowed depth W64 Add (Num n) (Ptr q) v w h k d e = rw (e.1, d.1)
alu_allowed depth W64 Sub (Ptr p) (Num n) v w h k d e = rw (e.1, d.1)
alu_allowed depth W64 Sub (Ptr p) (Ptr q) v w h k d e = rw (e.1, d.1, same_regions depth p.area q.area (some_if (same_area p.area q.area) (difference p.lo p.hi q.lo q.hi) h))
alu_allowed depth width op Any b v w h k d e = absurd (false≢true h)
alu_allowed depth width op a b v w h k d e = absurd (false≢true h)

test_allowed : (depth : ℕ) (width : Width) (cond : Cond) (a b : RegState) (v w : Option Value) → can_test width cond a b ≡ true → DescribesRegister depth a v → DescribesRegister depth b w → is_none (v >>= λ y. w >>= λ z. test_of_values width cond y z) ≡ false
test_allowed depth W64 cond (Num n) (Num n') v w h d e = rw (d.1, e.1)
test_allowed depth W32 cond (Num n) (Num n') v w h d e = rw (d.1, e.1)
test_allowed depth W64 Eq (Ptr p) (Ptr q) v w h d e = rw (d.1, e.1, same_regions depth p.area q.area h)
test_allowed depth W64 Ne (Ptr p) (Ptr q) v w h d e = rw (d.1, e.1, same_regions depth p.area q.area h)
test_allowed depth width cond a b v w h d e = absurd (false≢true h)

operand_known : (s : AbstractState) (src : Operand) → list_any (λ r. is_any (register s r)) (operand_register src) ≡ false → is_any (operand s src) ≡ false
operand_known s (Imm imm) known = refl
operand_known s (FromReg r) known = (or_parts (is_any (register s r)) false known).0

-- a source that is read isn't unset, whatever else is read
source_read : (op : AluOp) (width : Width) (dst : Reg) (src : Operand) (s : AbstractState) → list_any (λ r. is_any (register s r)) (registers_read (Alu op width dst src)) ≡ false → list_any (λ r. is_any (register s r)) (operand_register src) ≡ false
source_read Mov width dst src s known = known
source_read op width dst src s known = (or_parts (is_any (register s dst)) (list_any (λ r. is_any (register s r)) (operand_register src)) known).1

-- ---- the instructions

module _ (constants : ConstantHas) (tightens : TightenKeeps) (p : Instructions) (least most : ℕ) (x : List ℕ) where
  -- without access to memory: what is left to show is that the kinds of its operands are right
  by_kinds : (i : Insn) (s : AbstractState) (m : machine.State) (why : Reason) → is_past m i ≡ false → writes_context m i ≡ false → unreadable m i ≡ None → has_wrong_kind m i ≡ false → exits_with_pointer m i ≡ false → IsJudged p least most x i s m → reason_of p m ≡ Some why → why ≡ TooManyFrames
  by_kinds i s m why past context readable kind exits j is =
      only_frames m i why (not_protected least s i j.no_fault) (all_set s m (registers_read i) j.described.registers (no_fault_is least s i j.no_fault).reads) kind past context readable exits (reason_is p m i why j.stands is)

  by_none : (i : Insn) (s : AbstractState) (m : machine.State) (why : Reason) → reason_at m i ≡ None → IsJudged p least most x i s m → reason_of p m ≡ Some why → why ≡ TooManyFrames
  by_none i s m why none j is = no_reason why (reason_at m i) none (reason_is p m i why j.stands is)

  right_kinds : (i : Insn) (s : AbstractState) (m : machine.State) → IsJudged p least most x i s m → have_right_kinds s i ≡ true
  right_kinds i s m j = not-false (have_right_kinds s i) (or_parts (not (have_right_kinds s i)) (reads_part s i) (no_fault_is least s i j.no_fault).kinds).0

  one_reason : (i : Insn) (s : AbstractState) (m : machine.State) (why : Reason) → IsJudged p least most x i s m → reason_of p m ≡ Some why → why ≡ TooManyFrames
  one_reason (Alu op width dst src) s m why j is =
      by_kinds (Alu op width dst src) s m why refl refl refl
      (alu_allowed (machine.depth m) width op (register s dst) (operand s src) (machine.register m dst) (machine_operand m src) (right_kinds (Alu op width dst src) s m j)
      (operand_known s src (source_read op width dst src s (no_fault_is least s (Alu op width dst src) j.no_fault).reads)) (j.described.registers dst) (operand_describes constants p.order least most x s m src j.described))
      refl j is
  one_reason (Neg width dst) s m why j is = by_kinds (Neg width dst) s m why refl refl refl (no_pointer (machine.depth m) (register s dst) (machine.register m dst) (right_kinds (Neg width dst) s m j) (j.described.registers dst)) refl j is
  one_reason (MovSx width bits dst src) s m why j is = by_kinds (MovSx width bits dst src) s m why refl refl refl (no_pointer (machine.depth m) (register s src) (machine.register m src) (right_kinds (MovSx width bits dst src) s m j) (j.described.registers src)) refl j is
  one_reason (End kind bits dst) s m why j is = by_kinds (End kind bits dst) s m why refl refl refl (no_pointer (machine.depth m) (register s dst) (machine.register m dst) (right_kinds (End kind bits dst) s m j) (j.described.registers dst)) refl j is
  one_reason (LoadImm64 dst value) s m why j is = by_kinds (LoadImm64 dst value) s m why refl refl refl refl refl j is
  one_reason (Load size dst src off) s m why j is = by_none (Load size dst src off) s m why (load_reason tightens p least most x size dst src off s m j) j is
  one_reason (LoadSx size dst src off) s m why j is = by_none (LoadSx size dst src off) s m why (load_sx_reason p least most x size dst src off s m j) j is
  one_reason (Store size dst off src) s m why j is = by_none (Store size dst off src) s m why (store_reason p least most x size dst src off s m j) j is
  one_reason (StoreImm size dst off imm) s m why j is = by_none (StoreImm size dst off imm) s m why (store_imm_reason p least most x size dst off imm s m j) j is
  one_reason (Atomic wide op dst off src) s m why j is = by_none (Atomic wide op dst off src) s m why (atomic_reason p least most x wide op dst src off s m j) j is
  one_reason (Ja off) s m why j is = by_kinds (Ja off) s m why refl refl refl refl refl j is
  one_reason (JaLong off) s m why j is = by_kinds (JaLong off) s m why refl refl refl refl refl j is
  one_reason (JumpIf cond width dst src off) s m why j is =
      by_kinds (JumpIf cond width dst src off) s m why refl refl refl
      (test_allowed (machine.depth m) width cond (register s dst) (operand s src) (machine.register m dst) (machine_operand m src) (right_kinds (JumpIf cond width dst src off) s m j) (j.described.registers dst) (operand_describes constants p.order least most x s m src j.described))
      refl j is
  one_reason (CallLocal off) s m why j is = by_kinds (CallLocal off) s m why refl refl refl refl refl j is
  one_reason Exit s m why j is = by_kinds Exit s m why refl refl refl refl (no_pointer (machine.depth m) (register s R0) (machine.register m R0) (right_kinds Exit s m j) (j.described.registers R0)) j is

pub not_stuck_inside : ConstantHas → TightenKeeps → NotStuckInside
not_stuck_inside constants tightens p least most x i s m why j is = one_reason constants tightens p least most x i s m why j is
