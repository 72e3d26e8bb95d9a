-- Which registers an instruction of the flat machine reads and writes.
use Rattle.std.proofs.Common.{◌≡◌, ◌≢◌, ℕ, ◌<◌, cond, Bool, true, false, List, Option, Some, None, length, get_or, refl, ap, ap₂, sym, ◌∙◌, subst}
use Rattle.std.specs.Prelude.{ℤ, pos, ◌+ℤ◌, option_map, unwrap_or}
use Rattle.std.specs.Int.{cast_signed}
use Rattle.std.specs.List.{AllByRecursion}
use Rattle.std.proofs.lemmas.Option.{same_Some}
use Rattle.std.proofs.lemmas.List.{get_or-set_same, get_or-set_other}
use Rattle.bpf_insn.specs.Arithmetic.{modulo, alu, extended, sign_extend, swapped, jumps}
use Rattle.bpf_insn.specs.Instruction.{register_number, byte_count, word_size, target}
use Rattle.bpf_insn.specs.Effects.{fetch_register, operand_register, registers_read, register_written}
use Rattle.bpf_insn.proofs.RegisterLemmas.{reg_below}
use Rattle.bpf_semantics.specs.Step.{size_type, atomic_result}
use Rattle.bpf_semantics.specs.Flat.{FlatState, addresses, address, flat_does, flat_number, flat_register, flat_operand, flat_store, flat_put, flat_at, flat_next, flat_fetched}
use Rattle.bpf_semantics.specs.FlatLaws.{FlatWritesOneRegister, in_registers, DoesAlikeIn, FlatReadsRegisters}
use Rattle.bpf_insn.specs.declared.order.Order.{Order}
use Rattle.bpf_insn.specs.declared.instruction.Reg.{Reg}
use Rattle.bpf_insn.specs.declared.instruction.Reg.TheVariants.{R0}
use Rattle.bpf_insn.specs.declared.instruction.Width.{Width}
use Rattle.bpf_insn.specs.declared.instruction.Operand.{Operand}
use Rattle.bpf_insn.specs.declared.instruction.Operand.TheVariants.{Imm, Reg as FromReg}
use Rattle.bpf_insn.specs.declared.instruction.AluOp.{AluOp}
use Rattle.bpf_insn.specs.declared.instruction.AluOp.TheVariants.{Add, Sub, Mul, Div, SDiv, Or, And, Lsh, Rsh, Mod, SMod, Xor, Mov, Arsh}
use Rattle.bpf_insn.specs.declared.instruction.AtomicOp.{AtomicOp}
use Rattle.bpf_insn.specs.declared.instruction.AtomicOp.TheVariants.{Modify as Changes, Xchg, CmpXchg}
use Rattle.bpf_insn.specs.declared.instruction.Insn.{Insn}
use Rattle.bpf_insn.specs.declared.instruction.Insn.TheVariants.{Alu, Neg, MovSx, End, LoadImm64, Load, LoadSx, Store, StoreImm, Atomic, Ja, JaLong, JumpIf, CallLocal, Exit}

-- ---- what changes no register

kept : (t g : FlatState) (r : Reg) (x : ℕ) → Some t ≡ Some g → flat_register t r ≡ x → flat_register g r ≡ x
kept t g r x e same = ap (λ s. flat_register s r) (sym (same_Some t g e)) ∙ same

put_keeps : (f t g : FlatState) (r w : Reg) (x : ℕ) → Some (flat_put w x t) ≡ Some g → t.registers ≡ f.registers → register_number r ≢ register_number w → flat_register g r ≡ flat_register f r
put_keeps f t g r w x e same other =
    kept (flat_put w x t) g r (flat_register f r) e (get_or-set_other t.registers (register_number w) (register_number r) x 0 other ∙ ap (λ rs. get_or rs (register_number r) 0) same)

jump_keeps : (f g : FlatState) (to : Option ℕ) (r : Reg) → option_map (λ slot. flat_at slot f) to ≡ Some g → flat_register g r ≡ flat_register f r
jump_keeps f g None r e = cc
jump_keeps f g (Some slot) r e = kept (flat_at slot f) g r (flat_register f r) e refl

jump_if_keeps : (f t g : FlatState) (b : Bool) (to : Option ℕ) (r : Reg) → cond b (option_map (λ slot. flat_at slot f) to) (Some t) ≡ Some g → t.registers ≡ f.registers → flat_register g r ≡ flat_register f r
jump_if_keeps f t g true to r e same = jump_keeps f g to r e
jump_if_keeps f t g false to r e same = kept t g r (flat_register f r) e (ap (λ rs. get_or rs (register_number r) 0) same)

fetched_keeps : (o : Option Reg) (f t g : FlatState) (r : Reg) (old : ℕ) → Some (flat_fetched o old t) ≡ Some g → t.registers ≡ f.registers → ((w : Reg) → o ≡ Some w → register_number r ≢ register_number w)
    → flat_register g r ≡ flat_register f r
fetched_keeps None f t g r old e same other = kept t g r (flat_register f r) e (ap (λ rs. get_or rs (register_number r) 0) same)
fetched_keeps (Some w) f t g r old e same other = put_keeps f t g r w old e same (other w refl)

pub flat_writes_one_register : FlatWritesOneRegister
unfolding flat_does
flat_writes_one_register order (Alu op width dst src) f g r e other = put_keeps f (flat_next (Alu op width dst src) f) g r dst _ e refl (other dst refl)
flat_writes_one_register order (Neg width dst) f g r e other = put_keeps f (flat_next (Neg width dst) f) g r dst _ e refl (other dst refl)
flat_writes_one_register order (MovSx width bits dst src) f g r e other = put_keeps f (flat_next (MovSx width bits dst src) f) g r dst _ e refl (other dst refl)
flat_writes_one_register order (End kind bits dst) f g r e other = put_keeps f (flat_next (End kind bits dst) f) g r dst _ e refl (other dst refl)
flat_writes_one_register order (LoadImm64 dst value) f g r e other = put_keeps f (flat_next (LoadImm64 dst value) f) g r dst _ e refl (other dst refl)
flat_writes_one_register order (Load size dst src off) f g r e other = put_keeps f (flat_next (Load size dst src off) f) g r dst _ e refl (other dst refl)
flat_writes_one_register order (LoadSx size dst src off) f g r e other = put_keeps f (flat_next (LoadSx size dst src off) f) g r dst _ e refl (other dst refl)
flat_writes_one_register order (Store size dst off src) f g r e other = kept _ g r (flat_register f r) e refl
flat_writes_one_register order (StoreImm size dst off imm) f g r e other = kept _ g r (flat_register f r) e refl
flat_writes_one_register order (Atomic wide op dst off src) f g r e other = fetched_keeps (fetch_register op src) f _ g r _ e refl other
flat_writes_one_register order (Ja off) f g r e other = jump_keeps f g (target f.slot off) r e
flat_writes_one_register order (JaLong off) f g r e other = jump_keeps f g (target f.slot off) r e
flat_writes_one_register order (JumpIf test width dst src off) f g r e other =
    jump_if_keeps f (flat_next (JumpIf test width dst src off) f) g (jumps width test (flat_register f dst) (flat_operand f src)) (target f.slot off) r e refl
flat_writes_one_register order (CallLocal off) f g r e other = cc
flat_writes_one_register order Exit f g r e other = cc

-- ---- registers that agree

-- the number in a register of a list is that of a state
abbrev Agrees : List ℕ → FlatState → Reg → Type 0
Agrees rs f r = get_or rs (register_number r) 0 ≡ flat_register f r

operand_same : (rs : List ℕ) (f : FlatState) (src : Operand) → AllByRecursion (Agrees rs f) (operand_register src) → flat_operand (in_registers rs f) src ≡ flat_operand f src
operand_same rs f (Imm imm) h = refl
operand_same rs f (FromReg r) h = h.0

both_same : (rs : List ℕ) (f : FlatState) (op : AluOp) (width : Width) (dst : Reg) (src : Operand) → Agrees rs f dst → AllByRecursion (Agrees rs f) (operand_register src)
    → alu width op (flat_register (in_registers rs f) dst) (flat_operand (in_registers rs f) src) ≡ alu width op (flat_register f dst) (flat_operand f src)
both_same rs f op width dst src h hs = ap₂ (λ a b. alu width op a b) h (operand_same rs f src hs)

-- a move looks at its second operand alone
alu_same : (rs : List ℕ) (f : FlatState) (op : AluOp) (width : Width) (dst : Reg) (src : Operand) → AllByRecursion (Agrees rs f) (registers_read (Alu op width dst src))
    → alu width op (flat_register (in_registers rs f) dst) (flat_operand (in_registers rs f) src) ≡ alu width op (flat_register f dst) (flat_operand f src)
alu_same rs f Mov width dst src h = ap (λ b. alu width Mov (flat_register f dst) b) (operand_same rs f src h)
alu_same rs f Add width dst src h = both_same rs f Add width dst src h.0 h.1
alu_same rs f Sub width dst src h = both_same rs f Sub width dst src h.0 h.1
alu_same rs f Mul width dst src h = both_same rs f Mul width dst src h.0 h.1
alu_same rs f Div width dst src h = both_same rs f Div width dst src h.0 h.1
alu_same rs f SDiv width dst src h = both_same rs f SDiv width dst src h.0 h.1
alu_same rs f Or width dst src h = both_same rs f Or width dst src h.0 h.1
alu_same rs f And width dst src h = both_same rs f And width dst src h.0 h.1
alu_same rs f Lsh width dst src h = both_same rs f Lsh width dst src h.0 h.1
alu_same rs f Rsh width dst src h = both_same rs f Rsh width dst src h.0 h.1
alu_same rs f Mod width dst src h = both_same rs f Mod width dst src h.0 h.1
alu_same rs f SMod width dst src h = both_same rs f SMod width dst src h.0 h.1
alu_same rs f Xor width dst src h = both_same rs f Xor width dst src h.0 h.1
alu_same rs f Arsh width dst src h = both_same rs f Arsh width dst src h.0 h.1

-- ---- what does alike

-- the same number is put into a register
put_alike : (order : Order) (i : Insn) (rs : List ℕ) (f g : FlatState) (dst : Reg) (x : ℕ) (t u : FlatState) → register_written i ≡ Some dst → length t.registers ≡ 11 → length u.registers ≡ 11 → in_registers t.registers u ≡ t
    → Some (flat_put dst x t) ≡ Some g → flat_does order i (in_registers rs f) ≡ Some (flat_put dst x u) → DoesAlikeIn order i rs f g
put_alike order i rs f g dst x t u w many many' same e d =
    let is : flat_put dst x t ≡ g = same_Some (flat_put dst x t) g e in
    let here : flat_register (flat_put dst x u) dst ≡ flat_register (flat_put dst x t) dst
    = get_or-set_same u.registers (register_number dst) x 0 (subst (λ n. register_number dst < n) (sym many') (reg_below dst))
    ∙ sym (get_or-set_same t.registers (register_number dst) x 0 (subst (λ n. register_number dst < n) (sym many) (reg_below dst))) in
    record {
      after = flat_put dst x u;
      does = d;
      same = subst (λ s. in_registers s.registers (flat_put dst x u) ≡ s) is (ap (λ s. flat_put dst x s) same);
      result = λ v h. subst (λ r. flat_register (flat_put dst x u) r ≡ flat_register g r) (same_Some dst v (sym w ∙ h)) (here ∙ ap (λ s. flat_register s dst) is);
    }

-- no register is written
keeping : (order : Order) (i : Insn) (rs : List ℕ) (f t g : FlatState) → register_written i ≡ None → Some t ≡ Some g → flat_does order i (in_registers rs f) ≡ Some (in_registers rs t) → DoesAlikeIn order i rs f g
keeping order i rs f t g w e d =
    let is : t ≡ g = same_Some t g e in
    record {
      after = in_registers rs t;
      does = d;
      same = subst (λ s. in_registers s.registers (in_registers rs t) ≡ s) is refl;
      result = λ v h. absurd (let none : None ≡ Some v = sym w ∙ h in cc);
    }

jump_alike : (order : Order) (i : Insn) (rs : List ℕ) (f g : FlatState) (to : Option ℕ) → register_written i ≡ None → option_map (λ slot. flat_at slot f) to ≡ Some g
    → flat_does order i (in_registers rs f) ≡ option_map (λ slot. flat_at slot (in_registers rs f)) to → DoesAlikeIn order i rs f g
jump_alike order i rs f g None w e d = absurd (cc)
jump_alike order i rs f g (Some slot) w e d = keeping order i rs f (flat_at slot f) g w e d

jump_if_alike : (order : Order) (i : Insn) (rs : List ℕ) (f g : FlatState) (b : Bool) (to : Option ℕ) → register_written i ≡ None → cond b (option_map (λ slot. flat_at slot f) to) (Some (flat_next i f)) ≡ Some g
    → flat_does order i (in_registers rs f) ≡ cond b (option_map (λ slot. flat_at slot (in_registers rs f)) to) (Some (flat_next i (in_registers rs f))) → DoesAlikeIn order i rs f g
jump_if_alike order i rs f g true to w e d = jump_alike order i rs f g to w e d
jump_if_alike order i rs f g false to w e d = keeping order i rs f (flat_next i f) g w e d

fetched_alike : (order : Order) (i : Insn) (rs : List ℕ) (f g : FlatState) (o : Option Reg) (old : ℕ) (t : FlatState) → register_written i ≡ o → length t.registers ≡ 11 → length rs ≡ 11
    → Some (flat_fetched o old t) ≡ Some g → flat_does order i (in_registers rs f) ≡ Some (flat_fetched o old (in_registers rs t)) → DoesAlikeIn order i rs f g
fetched_alike order i rs f g None old t w many many' e d = keeping order i rs f t g w e d
fetched_alike order i rs f g (Some r) old t w many many' e d = put_alike order i rs f g r old t (in_registers rs t) w many many' refl e d

-- what an atomic operation does, by the numbers in its base, in its source and in r0
abbrev atomically : Order → Bool → AtomicOp → Reg → ℤ → Reg → (base x expected : ℕ) → FlatState → FlatState
atomically order wide op dst off src base x expected f =
    let a = modulo (pos base +ℤ off) addresses in
    let old = flat_number order f (byte_count (word_size wide)) a in
    let new = unwrap_or (atomic_result op (word_size wide) old x (Some expected)) old in
    flat_fetched (fetch_register op src) old (flat_store order (byte_count (word_size wide)) new a (flat_next (Atomic wide op dst off src) f))

-- only a comparison looks at r0
atomic_same : (order : Order) (wide : Bool) (op : AtomicOp) (dst : Reg) (off : ℤ) (src : Reg) (rs : List ℕ) (f m : FlatState) → AllByRecursion (Agrees rs f) (registers_read (Atomic wide op dst off src))
    → atomically order wide op dst off src (get_or rs (register_number dst) 0) (get_or rs (register_number src) 0) (get_or rs 0 0) m ≡ atomically order wide op dst off src (flat_register f dst) (flat_register f src) (flat_register f R0) m
atomic_same order wide (Changes by fetch) dst off src rs f m h = ap₂ (λ base x. atomically order wide (Changes by fetch) dst off src base x (flat_register f R0) m) h.0 h.1.0
atomic_same order wide Xchg dst off src rs f m h = ap₂ (λ base x. atomically order wide Xchg dst off src base x (flat_register f R0) m) h.0 h.1.0
atomic_same order wide CmpXchg dst off src rs f m h =
    ap₂ (λ base x. atomically order wide CmpXchg dst off src base x (get_or rs 0 0) m) h.0 h.1.0
    ∙ ap (λ expected. atomically order wide CmpXchg dst off src (flat_register f dst) (flat_register f src) expected m) h.1.1.0

pub flat_reads_registers : FlatReadsRegisters
unfolding flat_does
flat_reads_registers order (Alu op width dst src) f g rs e many many' h =
    let i : Insn = Alu op width dst src in
    put_alike order i rs f g dst (alu width op (flat_register f dst) (flat_operand f src)) (flat_next i f) (flat_next i (in_registers rs f)) refl many many' refl e
    (ap (λ x. Some (flat_put dst x (flat_next i (in_registers rs f)))) (alu_same rs f op width dst src h))
flat_reads_registers order (Neg width dst) f g rs e many many' h =
    let i : Insn = Neg width dst in
    put_alike order i rs f g dst (alu width Sub 0 (flat_register f dst)) (flat_next i f) (flat_next i (in_registers rs f)) refl many many' refl e
    (ap (λ x. Some (flat_put dst (alu width Sub 0 x) (flat_next i (in_registers rs f)))) h.0)
flat_reads_registers order (MovSx width bits dst src) f g rs e many many' h =
    let i : Insn = MovSx width bits dst src in
    put_alike order i rs f g dst (sign_extend bits width (flat_register f src)) (flat_next i f) (flat_next i (in_registers rs f)) refl many many' refl e
    (ap (λ x. Some (flat_put dst (sign_extend bits width x) (flat_next i (in_registers rs f)))) h.0)
flat_reads_registers order (End kind bits dst) f g rs e many many' h =
    let i : Insn = End kind bits dst in
    put_alike order i rs f g dst (swapped order kind bits (flat_register f dst)) (flat_next i f) (flat_next i (in_registers rs f)) refl many many' refl e
    (ap (λ x. Some (flat_put dst (swapped order kind bits x) (flat_next i (in_registers rs f)))) h.0)
flat_reads_registers order (LoadImm64 dst value) f g rs e many many' h =
    let i : Insn = LoadImm64 dst value in
    put_alike order i rs f g dst value (flat_next i f) (flat_next i (in_registers rs f)) refl many many' refl e refl
flat_reads_registers order (Load size dst src off) f g rs e many many' h =
    let i : Insn = Load size dst src off in
    put_alike order i rs f g dst (flat_number order f (byte_count size) (address f src off)) (flat_next i f) (flat_next i (in_registers rs f)) refl many many' refl e
    (ap (λ base. Some (flat_put dst (flat_number order f (byte_count size) (modulo (pos base +ℤ off) addresses)) (flat_next i (in_registers rs f)))) h.0)
flat_reads_registers order (LoadSx size dst src off) f g rs e many many' h =
    let i : Insn = LoadSx size dst src off in
    put_alike order i rs f g dst (modulo (cast_signed (size_type size) (flat_number order f (byte_count size) (address f src off))) addresses) (flat_next i f) (flat_next i (in_registers rs f)) refl many many' refl e
    (ap (λ base. Some (flat_put dst (modulo (cast_signed (size_type size) (flat_number order f (byte_count size) (modulo (pos base +ℤ off) addresses))) addresses) (flat_next i (in_registers rs f)))) h.0)
flat_reads_registers order (Store size dst off src) f g rs e many many' h =
    let i : Insn = Store size dst off src in
    keeping order i rs f (flat_store order (byte_count size) (flat_register f src) (address f dst off) (flat_next i f)) g refl e
    (ap₂ (λ base x. Some (flat_store order (byte_count size) x (modulo (pos base +ℤ off) addresses) (flat_next i (in_registers rs f)))) h.0 h.1.0)
flat_reads_registers order (StoreImm size dst off imm) f g rs e many many' h =
    let i : Insn = StoreImm size dst off imm in
    keeping order i rs f (flat_store order (byte_count size) (extended imm) (address f dst off) (flat_next i f)) g refl e
    (ap (λ base. Some (flat_store order (byte_count size) (extended imm) (modulo (pos base +ℤ off) addresses) (flat_next i (in_registers rs f)))) h.0)
flat_reads_registers order (Atomic wide op dst off src) f g rs e many many' h =
    let i : Insn = Atomic wide op dst off src in
    let k : ℕ = byte_count (word_size wide) in
    let old : ℕ = flat_number order f k (address f dst off) in
    let new : ℕ = unwrap_or (atomic_result op (word_size wide) old (flat_register f src) (Some (flat_register f R0))) old in
    fetched_alike order i rs f g (fetch_register op src) old (flat_store order k new (address f dst off) (flat_next i f)) refl many many' e
    (ap (λ s. Some s) (atomic_same order wide op dst off src rs f (in_registers rs f) h))
flat_reads_registers order (Ja off) f g rs e many many' h = jump_alike order (Ja off) rs f g (target f.slot off) refl e refl
flat_reads_registers order (JaLong off) f g rs e many many' h = jump_alike order (JaLong off) rs f g (target f.slot off) refl e refl
flat_reads_registers order (JumpIf test width dst src off) f g rs e many many' h =
    let i : Insn = JumpIf test width dst src off in
    let to : Option ℕ = target f.slot off in
    jump_if_alike order i rs f g (jumps width test (flat_register f dst) (flat_operand f src)) to refl e
    (ap₂ (λ a b. cond (jumps width test a b) (option_map (λ slot. flat_at slot (in_registers rs f)) to) (Some (flat_next i (in_registers rs f)))) h.0 (operand_same rs f src h.1))
flat_reads_registers order (CallLocal off) f g rs e many many' h = cc
flat_reads_registers order Exit f g rs e many many' h = cc
