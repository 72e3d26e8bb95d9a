-- Why instructions that access memory are refused, and what they leave.
use Rattle.std.proofs.Common.{◌≡◌, ℕ, ℤ, refl, sym, ◌∙◌, ap, ap₂, Bool, true, false, cond, Option, Some, None}
use Rattle.std.specs.Prelude.{◌-◌, ◌*◌, ◌^◌, not, ◌&&◌, ◌||◌, option_map, option_and_then}
use Rattle.std.proofs.lemmas.Bool.{false≢true}
use Rattle.std.proofs.lemmas.Option.{none-some}
use Rattle.bpf_insn.specs.Instruction.{byte_count, word_size}
use Rattle.bpf_insn.specs.Effects.{fetch_register}
use Rattle.std.specs.Option.{option_map_or}
use Rattle.bpf_insn.specs.declared.instruction.Reg.TheVariants.{R0}
use Rattle.bpf_insn.specs.declared.instruction.Operand.{Operand}
use Rattle.bpf_insn.specs.declared.instruction.Operand.TheVariants.{Imm, Reg as FromReg}
use Rattle.bpf_insn.specs.declared.instruction.AtomicOp.{AtomicOp}
use Rattle.bpf_insn.specs.declared.instruction.AtomicOp.TheVariants.{CmpXchg, Xchg, Modify}
use Rattle.bpf_insn.specs.Effects.{is_frame_pointer}
use Rattle.bpf_insn.specs.declared.order.Order.{Order}
use Rattle.bpf_insn.specs.declared.instruction.Reg.{Reg}
use Rattle.bpf_insn.specs.declared.instruction.Size.{Size}
use Rattle.bpf_insn.specs.declared.instruction.Insn.{Insn}
use Rattle.bpf_insn.specs.declared.instruction.Insn.TheVariants.{Load, LoadSx, Store, StoreImm, Atomic}
use Rattle.bpf_num.specs.Tristate.{Tristate, bits_top}
use Rattle.bpf_num.specs.Interval.{Interval, interval, unsigned_top}
use Rattle.bpf_num.specs.SignedInterval.{SignedInterval, signed_top, signed_of_width}
use Rattle.bpf_num.specs.Number.{Number, number, constant, tighten}
use Rattle.bpf_insn.specs.Arithmetic.{extended}
use Rattle.bpf_state.specs.declared.transfers.load.Extension.{Extension}
use Rattle.bpf_state.specs.declared.transfers.load.Extension.TheVariants.{Zero, Sign}
use Rattle.bpf_state.specs.declared.known.RegState.{RegState}
use Rattle.bpf_state.specs.declared.known.RegState.TheVariants.{Any, Num, Ptr}
use Rattle.bpf_state.specs.State.{AbstractState, register, register_tag, put_register}
use Rattle.bpf_state.specs.Access.{Span, span_at, is_slot, is_inside, touches, touched_bytes, is_pointer_slot, are_known_bytes, any_slot}
use Rattle.bpf_state.specs.Fault.{operand, is_any, is_number, is_pointer, have_right_kinds, reads_part, some_passes, fault_of, reads_any, has_wrong_kinds, is_out_of_bounds, reads_unknown_byte, writes_protected}
use Rattle.bpf_state.specs.Transfer.{transfer, unless, live, after, operand_tag, loaded, loaded_tag, any_number, any_signed, stored, fetched, modified_by}
use Rattle.bpf_state.specs.Transfer.Outcome.{Faulty}
use Rattle.bpf_state.specs.code.Parts.{base_fault, read_fault, or_protected, load_insn, load_outcome, store_fault, store_insn, store_outcome, compares, atomic_operands, atomic_outcome}

-- ---- from a fault to an outcome

pub faulty : (order : Order) (i : Insn) (len n : ℕ) (s : AbstractState) → fault_of len s i ≡ Some n → transfer order i len s ≡ Faulty n
faulty order i len n s e = ap (λ f. unless f (live (after order i s))) e

pub faultless : (order : Order) (i : Insn) (len : ℕ) (s : AbstractState) (o : Option AbstractState) → fault_of len s i ≡ None → after order i s ≡ o → transfer order i len s ≡ live o
faultless order i len s o e a = ap₂ (λ f x. unless f (live x)) e a

-- ---- the tests in their order

unset : (len : ℕ) (s : AbstractState) (i : Insn) → reads_any s i ≡ true → fault_of len s i ≡ Some 3
unset len s i e = ap (λ b. cond b (Some 3) (cond (has_wrong_kinds s i) (Some 4) (cond (is_out_of_bounds len s i) (Some 5) (cond (reads_unknown_byte s i) (Some 6) (cond (writes_protected s i) (Some 7) None))))) e

wrong : (len : ℕ) (s : AbstractState) (i : Insn) → reads_any s i ≡ false → has_wrong_kinds s i ≡ true → fault_of len s i ≡ Some 4
wrong len s i e f = ap₂ (λ b c. cond b (Some 3) (cond c (Some 4) (cond (is_out_of_bounds len s i) (Some 5) (cond (reads_unknown_byte s i) (Some 6) (cond (writes_protected s i) (Some 7) None))))) e f

-- the tests behind that of registers, by what they come to
pub record Tests (len : ℕ) (s : AbstractState) (i : Insn) (kinds bounds bytes writes : Bool) : Type 0 where
  pub set : reads_any s i ≡ false
  pub kinds_are : has_wrong_kinds s i ≡ kinds
  pub bounds_are : is_out_of_bounds len s i ≡ bounds
  pub bytes_are : reads_unknown_byte s i ≡ bytes
  pub writes_are : writes_protected s i ≡ writes

first : Bool → Bool → Bool → Bool → Option ℕ
first kinds bounds bytes writes = cond kinds (Some 4) (cond bounds (Some 5) (cond bytes (Some 6) (cond writes (Some 7) None)))

first_is : (kinds bounds bytes writes : Bool) → first kinds bounds bytes writes ≡ or_protected (cond kinds (Some 4) (cond bounds (Some 5) (cond bytes (Some 6) None))) writes
unfolding first
first_is true bounds bytes writes = refl
first_is false true bytes writes = refl
first_is false false true writes = refl
first_is false false false writes = refl

tested : (len : ℕ) (s : AbstractState) (i : Insn) (kinds bounds bytes writes : Bool) → Tests len s i kinds bounds bytes writes → fault_of len s i ≡ or_protected (cond kinds (Some 4) (cond bounds (Some 5) (cond bytes (Some 6) None))) writes
unfolding first
tested len s i kinds bounds bytes writes t =
    ap (λ b. cond b (Some 3) (first (has_wrong_kinds s i) (is_out_of_bounds len s i) (reads_unknown_byte s i) (writes_protected s i))) t.set
    ∙ ap₂ (λ b c. first b c (reads_unknown_byte s i) (writes_protected s i)) t.kinds_are t.bounds_are
    ∙ ap₂ (λ b c. first kinds bounds b c) t.bytes_are t.writes_are
    ∙ first_is kinds bounds bytes writes

-- refused for what the registers hold
refused : (len n : ℕ) (s : AbstractState) (i : Insn) (unset wrong : Bool) → reads_any s i ≡ unset → not (have_right_kinds s i) ≡ wrong → cond {A = Option ℕ} unset (Some 3) (cond {A = Option ℕ} wrong (Some 4) None) ≡ Some n → fault_of len s i ≡ Some n
refused len n s i true wrong' e f h = unset len s i e ∙ h
refused len n s i false true e f h = wrong len s i e (ap (λ b. b || reads_part s i) f) ∙ h
refused len n s i false false e f h = absurd (none-some n h)

-- ---- what is known of a base

pub set_base : (off : ℤ) (size : Size) (v : RegState) (p : Span) → span_at off size v ≡ Some p → is_any v ≡ false
set_base off size (Ptr q) p e = refl
set_base off size (Num n) p e = refl
set_base off size Any p e = absurd (none-some p e)

pub pointer_base : (off : ℤ) (size : Size) (v : RegState) (p : Span) → span_at off size v ≡ Some p → is_pointer v ≡ true
pointer_base off size (Ptr q) p e = refl
pointer_base off size (Num n) p e = absurd (none-some p e)
pointer_base off size Any p e = absurd (none-some p e)

-- ---- loads

or_false : (b : Bool) → (b || false) ≡ b
or_false true = refl
or_false false = refl

or_no : (b c : Bool) → (b || (false && c)) ≡ b
or_no true c = refl
or_no false c = refl

pub load_fault : (size : Size) (dst src : Reg) (off : ℤ) (len : ℕ) (s : AbstractState) (p : Span) → span_at off size (register s src) ≡ Some p → fault_of len s (Load size dst src off) ≡ or_protected (read_fault (is_slot p) len s p) (is_frame_pointer dst)
load_fault size dst src off len s p e =
    tested len s (Load size dst src off) _ _ _ _ (record {
      set = ap (λ b. b || false) (set_base off size (register s src) p e);
      kinds_are = ap₂ (λ b o. not b || (true && some_passes (λ q. not (is_slot q) && any_slot (λ k held. touches q k && is_pointer_slot held) 1 s.slots) o)) (pointer_base off size (register s src) p e) e;
      bounds_are = ap (λ o. false || some_passes (λ q. not (is_inside len q)) o) e;
      bytes_are = ap (λ o. true && some_passes (λ q. any_slot (λ k held. touches q k && not (are_known_bytes (touched_bytes q k) held)) 1 s.slots) o) e;
      writes_are = or_no (is_frame_pointer dst) (some_passes (λ q. not q.in_frame) (span_at off size (register s src)));
    })

load_sx_fault : (size : Size) (dst src : Reg) (off : ℤ) (len : ℕ) (s : AbstractState) (p : Span) → span_at off size (register s src) ≡ Some p → fault_of len s (LoadSx size dst src off) ≡ or_protected (read_fault false len s p) (is_frame_pointer dst)
load_sx_fault size dst src off len s p e =
    tested len s (LoadSx size dst src off) _ _ _ _ (record {
      set = ap (λ b. b || false) (set_base off size (register s src) p e);
      kinds_are = ap₂ (λ b o. not b || (true && some_passes (λ q. true && any_slot (λ k held. touches q k && is_pointer_slot held) 1 s.slots) o)) (pointer_base off size (register s src) p e) e;
      bounds_are = ap (λ o. false || some_passes (λ q. not (is_inside len q)) o) e;
      bytes_are = ap (λ o. true && some_passes (λ q. any_slot (λ k held. touches q k && not (are_known_bytes (touched_bytes q k) held)) 1 s.slots) o) e;
      writes_are = or_no (is_frame_pointer dst) (some_passes (λ q. not q.in_frame) (span_at off size (register s src)));
    })

of_number : (put : RegState → AbstractState) (o : Option Number) → option_map (λ n. put (Num n)) o ≡ option_map put (option_map Num o)
of_number put (Some n) = refl
of_number put None = refl

pub load_is : (order : Order) (e : Extension) (size : Size) (dst src : Reg) (off : ℤ) (len : ℕ) (s : AbstractState) (p : Span) → span_at off size (register s src) ≡ Some p → transfer order (load_insn e size dst src off) len s ≡ load_outcome e dst size len p s
load_is order Zero size dst src off len s p e =
    ap₂ (λ f o. unless f (live (option_map (λ v. put_register dst v (loaded_tag s o) s) (loaded s o size)))) (load_fault size dst src off len s p e) e
load_is order Sign size dst src off len s p e =
    ap₂ (λ f o. unless f (live o)) (load_sx_fault size dst src off len s p e) (of_number (λ v. put_register dst v None s) (any_signed (byte_count size)))

pub load_refused : (order : Order) (e : Extension) (size : Size) (dst src : Reg) (off : ℤ) (len n : ℕ) (s : AbstractState) → base_fault (register s src) ≡ Some n → transfer order (load_insn e size dst src off) len s ≡ Faulty n
load_refused order Zero size dst src off len n s e = faulty order (Load size dst src off) len n s (refused len n s (Load size dst src off) _ _ (or_false _) refl e)
load_refused order Sign size dst src off len n s e = faulty order (LoadSx size dst src off) len n s (refused len n s (LoadSx size dst src off) _ _ (or_false _) refl e)

-- ---- numbers of a size

pub any_number_is : (size size' : Size) (o : Option Number) (b : Tristate) (u : Interval) (i : SignedInterval) (r : Number) → o ≡ tighten r → r ≡ number b u i → b ≡ bits_top → u ≡ interval 0 (2 ^ (8 * byte_count size') - 1) → i ≡ signed_top → size ≡ size' → o ≡ any_number (byte_count size)
any_number_is size size' o b u i r e f g h k same =
    e ∙ ap tighten (f ∙ ap (λ x. number x u i) g ∙ ap₂ (λ x y. number bits_top x y) h k) ∙ ap (λ z. any_number (byte_count z)) (sym same)

pub any_signed_is : (size size' : Size) (o : Option Number) (b : Tristate) (u : Interval) (i : SignedInterval) (r : Number) → o ≡ tighten r → r ≡ number b u i → b ≡ bits_top → u ≡ unsigned_top → i ≡ signed_of_width (8 * byte_count size') → size ≡ size' → o ≡ any_signed (byte_count size)
any_signed_is size size' o b u i r e f g h k same =
    e ∙ ap tighten (f ∙ ap (λ x. number x u i) g ∙ ap₂ (λ x y. number bits_top x y) h k) ∙ ap (λ z. any_signed (byte_count z)) (sym same)

-- ---- stores

-- a pointer goes into a slot as a whole or not at all
stores_wrongly : (is slot : Bool) → (not (true && (not is || slot)) || false) ≡ (is && not slot)
stores_wrongly true true = refl
stores_wrongly true false = refl
stores_wrongly false true = refl
stores_wrongly false false = refl

-- a store reads no byte
no_bytes : (kinds bounds writes : Bool) → or_protected (cond kinds (Some 4) (cond bounds (Some 5) (cond false (Some 6) None))) writes ≡ cond kinds (Some 4) (cond bounds (Some 5) (cond writes (Some 7) None))
no_bytes true bounds writes = refl
no_bytes false true writes = refl
no_bytes false false writes = refl

store_faults : (size : Size) (dst src : Reg) (off : ℤ) (len : ℕ) (s : AbstractState) (p : Span) → (is_any (register s dst) || is_any (register s src)) ≡ false → span_at off size (register s dst) ≡ Some p → fault_of len s (Store size dst off src) ≡ store_fault (is_pointer (register s src)) len p
store_faults size dst src off len s p u e =
    tested len s (Store size dst off src) _ _ _ _ (record {
      set = or_end _ _ ∙ u;
      kinds_are =
          ap₂ (λ b o. not (b && (not (is_pointer (register s src)) || some_passes is_slot o)) || false) (pointer_base off size (register s dst) p e) e
          ∙ stores_wrongly (is_pointer (register s src)) (is_slot p);
      bounds_are = ap (λ o. false || some_passes (λ q. not (is_inside len q)) o) e;
      bytes_are = refl;
      writes_are = ap (λ o. false || (true && some_passes (λ q. not q.in_frame) o)) e;
    })
    ∙ no_bytes (is_pointer (register s src) && not (is_slot p)) (not (is_inside len p)) (not p.in_frame)
  where
    or_end : (a b : Bool) → (a || (b || false)) ≡ (a || b)
    or_end true b = refl
    or_end false true = refl
    or_end false false = refl

store_imm_faults : (size : Size) (dst : Reg) (off imm : ℤ) (len : ℕ) (s : AbstractState) (p : Span) → span_at off size (register s dst) ≡ Some p → fault_of len s (StoreImm size dst off imm) ≡ store_fault false len p
store_imm_faults size dst off imm len s p e =
    tested len s (StoreImm size dst off imm) _ _ _ _ (record {
      set = ap (λ b. b || false) (set_base off size (register s dst) p e);
      kinds_are = ap (λ b. not b || false) (pointer_base off size (register s dst) p e);
      bounds_are = ap (λ o. false || some_passes (λ q. not (is_inside len q)) o) e;
      bytes_are = refl;
      writes_are = ap (λ o. false || (true && some_passes (λ q. not q.in_frame) o)) e;
    })
    ∙ no_bytes false (not (is_inside len p)) (not p.in_frame)

pub store_is : (order : Order) (size : Size) (dst : Reg) (off : ℤ) (src : Operand) (len : ℕ) (s : AbstractState) (p : Span) → is_any (operand s src) ≡ false → span_at off size (register s dst) ≡ Some p → transfer order (store_insn size dst off src) len s ≡ store_outcome (is_pointer (operand s src)) (operand s src) (operand_tag s src) len p s
store_is order size dst off (FromReg src) len s p u e =
    ap₂ (λ f o. unless f (live (stored o (register s src) (register_tag s src) s)))
    (store_faults size dst src off len s p (ap₂ (λ a b. a || b) (set_base off size (register s dst) p e) u) e)
    e
store_is order size dst off (Imm imm) len s p u e =
    ap₂ (λ f o. unless f (live (stored o (Num (constant (extended imm))) None s))) (store_imm_faults size dst off imm len s p e) e

pub store_unset : (order : Order) (size : Size) (dst : Reg) (off : ℤ) (src : Operand) (len : ℕ) (s : AbstractState) → is_any (operand s src) ≡ true → transfer order (store_insn size dst off src) len s ≡ Faulty 3
store_unset order size dst off (FromReg src) len s u = faulty order (Store size dst off src) len 3 s (unset len s (Store size dst off src) (ap (λ b. is_any (register s dst) || (b || false)) u ∙ or_true (is_any (register s dst))))
  where
    or_true : (a : Bool) → (a || (true || false)) ≡ true
    or_true true = refl
    or_true false = refl
store_unset order size dst off (Imm imm) len s u = absurd (false≢true u)

pub store_refused : (order : Order) (size : Size) (dst : Reg) (off : ℤ) (src : Operand) (len n : ℕ) (s : AbstractState) → is_any (operand s src) ≡ false → base_fault (register s dst) ≡ Some n → transfer order (store_insn size dst off src) len s ≡ Faulty n
store_refused order size dst off (FromReg src) len n s u e = faulty order (Store size dst off src) len n s (refused len n s (Store size dst off src) _ _ (ap (λ b. is_any (register s dst) || (b || false)) u ∙ or_false _) (kinds (register s dst) _ e) e)
  where
    kinds : (v : RegState) (more : Bool) → base_fault v ≡ Some n → not (is_pointer v && more) ≡ not (is_pointer v)
    kinds (Ptr q) more f = absurd (none-some n f)
    kinds (Num m) more f = refl
    kinds Any more f = refl
store_refused order size dst off (Imm imm) len n s u e = faulty order (StoreImm size dst off imm) len n s (refused len n s (StoreImm size dst off imm) _ _ (or_false _) refl e)

-- ---- atomic operations

any_read : (op : AtomicOp) (wide : Bool) (dst src : Reg) (off : ℤ) (s : AbstractState) → reads_any s (Atomic wide op dst off src) ≡ (is_any (register s dst) || (is_any (register s src) || (compares op && is_any (register s R0))))
any_read CmpXchg wide dst src off s = ap (λ b. is_any (register s dst) || (is_any (register s src) || b)) (or_false (is_any (register s R0)))
any_read Xchg wide dst src off s = refl
any_read (Modify by fetch) wide dst src off s = refl

no_kinds : (a b c : Bool) → not (a && b && c) ≡ (not a || (not b || not c))
no_kinds true true c = refl
no_kinds true false c = refl
no_kinds false b c = refl

wrong_kinds : (op : AtomicOp) (wide : Bool) (dst src : Reg) (off : ℤ) (s : AbstractState) → not (have_right_kinds s (Atomic wide op dst off src)) ≡ (not (is_pointer (register s dst)) || (not (is_number (register s src)) || (compares op && not (is_number (register s R0)))))
wrong_kinds CmpXchg wide dst src off s = no_kinds (is_pointer (register s dst)) (is_number (register s src)) (is_number (register s R0))
wrong_kinds Xchg wide dst src off s = no_kinds (is_pointer (register s dst)) (is_number (register s src)) true
wrong_kinds (Modify by fetch) wide dst src off s = no_kinds (is_pointer (register s dst)) (is_number (register s src)) true

pub atomic_refused : (order : Order) (wide : Bool) (op : AtomicOp) (dst src : Reg) (off : ℤ) (len n : ℕ) (s : AbstractState) → atomic_operands op dst src s ≡ Some n → transfer order (Atomic wide op dst off src) len s ≡ Faulty n
atomic_refused order wide op dst src off len n s e =
    faulty order (Atomic wide op dst off src) len n s (refused len n s (Atomic wide op dst off src) _ _ (any_read op wide dst src off s) (wrong_kinds op wide dst src off s) e)

-- the registers are what the operation takes
record Takes (s : AbstractState) (i : Insn) : Type 0 where
  pub set : reads_any s i ≡ false
  pub kinds : not (have_right_kinds s i) ≡ false

takes : (s : AbstractState) (i : Insn) (unset wrong : Bool) → reads_any s i ≡ unset → not (have_right_kinds s i) ≡ wrong → cond {A = Option ℕ} unset (Some 3) (cond {A = Option ℕ} wrong (Some 4) None) ≡ None → Takes s i
takes s i true wrong' e f h = absurd (none-some 3 (sym h))
takes s i false true e f h = absurd (none-some 4 (sym h))
takes s i false false e f h = record { set = e; kinds = f }

pub atomic_is : (order : Order) (wide : Bool) (op : AtomicOp) (dst src : Reg) (off : ℤ) (len : ℕ) (s : AbstractState) (p : Span) → atomic_operands op dst src s ≡ None → span_at off (word_size wide) (register s dst) ≡ Some p → transfer order (Atomic wide op dst off src) len s ≡ atomic_outcome (fetch_register op src) (word_size wide) len p s
atomic_is order wide op dst src off len s p none e =
    let i = Atomic wide op dst off src in
    let t = takes s i _ _ (any_read op wide dst src off s) (wrong_kinds op wide dst src off s) none in
    let fault : fault_of len s i ≡ or_protected (read_fault false len s p) (option_map_or is_frame_pointer (fetch_register op src) false || not p.in_frame) =
    tested len s i _ _ _ _ (record {
      set = t.set;
      kinds_are = ap₂ (λ b o. b || (true && some_passes (λ q. true && any_slot (λ k held. touches q k && is_pointer_slot held) 1 s.slots) o)) t.kinds e;
      bounds_are = ap (λ o. false || some_passes (λ q. not (is_inside len q)) o) e;
      bytes_are = ap (λ o. true && some_passes (λ q. any_slot (λ k held. touches q k && not (are_known_bytes (touched_bytes q k) held)) 1 s.slots) o) e;
      writes_are = ap (λ o. option_map_or is_frame_pointer (fetch_register op src) false || (true && some_passes (λ q. not q.in_frame) o)) e;
    }) in
    ap₂ (λ f o. unless f (live (option_and_then (fetched (fetch_register op src) (loaded s o (word_size wide))) (modified_by o s)))) fault e

pub atomic_base : (op : AtomicOp) (dst src : Reg) (s : AbstractState) → atomic_operands op dst src s ≡ None → is_pointer (register s dst) ≡ true
atomic_base op dst src s e =
    go (is_any (register s dst) || (is_any (register s src) || (compares op && is_any (register s R0)))) (is_pointer (register s dst)) (not (is_number (register s src)) || (compares op && not (is_number (register s R0)))) e
  where
    go : (unset base rest : Bool) → cond {A = Option ℕ} unset (Some 3) (cond {A = Option ℕ} (not base || rest) (Some 4) None) ≡ None → base ≡ true
    go true base rest h = absurd (none-some 3 (sym h))
    go false true rest h = refl
    go false false rest h = absurd (none-some 4 (sym h))
