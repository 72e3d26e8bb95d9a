-- Which bytes an instruction of the flat machine reads and writes.
use Rattle.std.proofs.Common.{◌≡◌, ℕ, zero, suc, ◌+◌, ◌-◌, ◌%◌, ◌<◌, cond, inl, inr, Bool, true, false, List, ◌∷◌, Option, Some, None, length, refl, ap, ap₂, sym, ◌∙◌, subst, arith}
use Rattle.std.specs.Prelude.{ℤ, pos, negsuc, ◌-ℤ◌, slice_index, ltb, option_map, unwrap_or}
use Rattle.std.specs.Int.{cast_signed}
use Rattle.std.proofs.lemmas.Int.{ints}
use Rattle.std.proofs.lemmas.Option.{same_Some}
use Rattle.std.proofs.lemmas.Bool.{cases_lt, cond_both, ltb-true}
use Rattle.bpf_insn.specs.Order.{bytes_of, number_of}
use Rattle.bpf_insn.specs.Arithmetic.{modulo, alu, extended, jumps}
use Rattle.bpf_insn.specs.Instruction.{byte_count, word_size, target}
use Rattle.bpf_semantics.specs.Step.{size_type, atomic_result}
use Rattle.bpf_insn.specs.Effects.{fetch_register}
use Rattle.bpf_semantics.specs.Flat.{FlatState, addresses, address, bytes_from, memory_with, flat_does, flat_number, flat_register, flat_operand, flat_store, flat_put, flat_at, flat_next, flat_fetched}
use Rattle.bpf_semantics.specs.FlatLaws.{FlatWritesOnly, in_memory, DoesAlike, FlatReadsOnly}
use Rattle.bpf_insn.specs.declared.order.Order.{Order}
use Rattle.bpf_insn.specs.declared.instruction.Reg.{Reg}
use Rattle.bpf_insn.specs.declared.instruction.Reg.TheVariants.{R0}
use Rattle.bpf_insn.specs.declared.instruction.Operand.{Operand}
use Rattle.bpf_insn.specs.declared.instruction.Operand.TheVariants.{Imm, Reg as FromReg}
use Rattle.bpf_insn.specs.declared.instruction.Insn.{Insn}
use Rattle.bpf_insn.specs.declared.instruction.Insn.TheVariants.{Alu, Neg, MovSx, End, LoadImm64, Load, LoadSx, Store, StoreImm, Atomic, Ja, JaLong, JumpIf, CallLocal, Exit}
use Rattle.bpf_semantics.proofs.NumberLemmas.{length-bytes_of, modulo_below}

-- ---- bytes that are written

-- an address is the first one of a write and its distance from there
reached : (a x : ℕ) → a < addresses → x < addresses → x ≡ (a + modulo (pos x -ℤ pos a) addresses) % addresses
reached a x ha hx = elim (cases_lt x a) [
  | inl below ↦ (let e : pos x -ℤ pos a ≡ negsuc (a - x - 1) = omega (arith, ints) in rw e (omega arith))
  | inr above ↦ (let e : pos x -ℤ pos a ≡ pos (x - a) = omega (arith, ints) in rw e (omega arith))
]

untouched : (order : Order) (k x a b : ℕ) (memory : ℕ → ℕ) → a < addresses → b < addresses → ((j : ℕ) → j < k → b ≡ (a + j) % addresses → ⊥) → memory_with (bytes_of order k x) a memory b ≡ memory b
untouched order k x a b memory ha hb out =
    let i : ℕ = modulo (pos b -ℤ pos a) addresses in
    cond_both (ltb i (length (bytes_of order k x))) (slice_index (bytes_of order k x) i) (memory b) (λ y. y ≡ memory b)
    (λ e. let inside : i < length (bytes_of order k x) = ltb-true i (length (bytes_of order k x)) e in absurd (out i (subst (λ n. i < n) (length-bytes_of order k x) inside) (reached a b ha hb)))
    (λ e. refl)

address_small : (f : FlatState) (base : Reg) (off : ℤ) → address f base off < addresses
address_small f base off = modulo_below _

same_bytes_written : (bytes : List ℕ) (a b : ℕ) (memory other : ℕ → ℕ) → memory b ≡ other b → memory_with bytes a memory b ≡ memory_with bytes a other b
same_bytes_written bytes a b memory other e = let i : ℕ = modulo (pos b -ℤ pos a) addresses in ap (λ y. cond (ltb i (length bytes)) (slice_index bytes i) y) e

-- ---- what changes no byte

kept : (f t g : FlatState) (a : ℕ) → Some t ≡ Some g → t.memory a ≡ f.memory a → g.memory a ≡ f.memory a
kept f t g a e same = ap (λ s. s.memory a) (sym (same_Some t g e)) ∙ same

jump_keeps : (f g : FlatState) (to : Option ℕ) (a : ℕ) → option_map (λ slot. flat_at slot f) to ≡ Some g → g.memory a ≡ f.memory a
jump_keeps f g None a e = cc
jump_keeps f g (Some slot) a e = kept f (flat_at slot f) g a e refl

jump_if_keeps : (f t g : FlatState) (b : Bool) (to : Option ℕ) (a : ℕ) → cond b (option_map (λ slot. flat_at slot f) to) (Some t) ≡ Some g → t.memory a ≡ f.memory a → g.memory a ≡ f.memory a
jump_if_keeps f t g true to a e same = jump_keeps f g to a e
jump_if_keeps f t g false to a e same = kept f t g a e same

fetched_memory : (o : Option Reg) (old : ℕ) (f : FlatState) (a : ℕ) → (flat_fetched o old f).memory a ≡ f.memory a
fetched_memory None old f a = refl
fetched_memory (Some r) old f a = refl

pub flat_writes_only : FlatWritesOnly
unfolding flat_does
flat_writes_only order (Alu op width dst src) f g a e ha out = kept f _ g a e refl
flat_writes_only order (Neg width dst) f g a e ha out = kept f _ g a e refl
flat_writes_only order (MovSx width bits dst src) f g a e ha out = kept f _ g a e refl
flat_writes_only order (End kind bits dst) f g a e ha out = kept f _ g a e refl
flat_writes_only order (LoadImm64 dst value) f g a e ha out = kept f _ g a e refl
flat_writes_only order (Load size dst src off) f g a e ha out = kept f _ g a e refl
flat_writes_only order (LoadSx size dst src off) f g a e ha out = kept f _ g a e refl
flat_writes_only order (Store size dst off src) f g a e ha out =
    kept f _ g a e (untouched order (byte_count size) (flat_register f src) (address f dst off) a f.memory (address_small f dst off) ha (λ j few at. out _ refl refl (j, few, at)))
flat_writes_only order (StoreImm size dst off imm) f g a e ha out =
    kept f _ g a e (untouched order (byte_count size) (extended imm) (address f dst off) a f.memory (address_small f dst off) ha (λ j few at. out _ refl refl (j, few, at)))
flat_writes_only order (Atomic wide op dst off src) f g a e ha out =
    kept f _ g a e
    (fetched_memory (fetch_register op src) _ _ a
    ∙ untouched order (byte_count (word_size wide)) _ (address f dst off) a f.memory (address_small f dst off) ha (λ j few at. out _ refl refl (j, few, at)))
flat_writes_only order (Ja off) f g a e ha out = jump_keeps f g (target f.slot off) a e
flat_writes_only order (JaLong off) f g a e ha out = jump_keeps f g (target f.slot off) a e
flat_writes_only order (JumpIf test width dst src off) f g a e ha out = jump_if_keeps f _ g (jumps width test (flat_register f dst) (flat_operand f src)) (target f.slot off) a e refl
flat_writes_only order (CallLocal off) f g a e ha out = cc
flat_writes_only order Exit f g a e ha out = cc

-- ---- bytes that are read

same_bytes_read : (memory other : ℕ → ℕ) (a k : ℕ) → ((j : ℕ) → j < k → memory ((a + j) % addresses) ≡ other ((a + j) % addresses)) → bytes_from memory a k ≡ bytes_from other a k
same_bytes_read memory other a zero h = refl
same_bytes_read memory other a (suc k) h =
    let here : a + 0 ≡ a = omega arith in
    ap₂ (λ x xs. x ∷ xs) (subst (λ n. memory (n % addresses) ≡ other (n % addresses)) here (h 0 (omega arith)))
    (same_bytes_read memory other (a + 1) k (λ j few. let later : a + suc j ≡ a + 1 + j = omega arith in subst (λ n. memory (n % addresses) ≡ other (n % addresses)) later (h (suc j) (omega arith))))

operand_same : (memory : ℕ → ℕ) (f : FlatState) (src : Operand) → flat_operand (in_memory memory f) src ≡ flat_operand f src
operand_same memory f (Imm imm) = refl
operand_same memory f (FromReg r) = refl

-- ---- what does alike

alike : {order : Order} {i : Insn} {memory : ℕ → ℕ} {f g : FlatState} (t u : FlatState) → Some t ≡ Some g → flat_does order i (in_memory memory f) ≡ Some u → u ≡ in_memory u.memory t → ((a : ℕ) → memory a ≡ f.memory a → u.memory a ≡ t.memory a) → DoesAlike order i memory f g
alike {memory = memory} {f = f} t u e d same bytes =
    let is = same_Some t _ e in
    record { after = u; does = d; same = same ∙ ap (λ s. in_memory u.memory s) is; bytes = λ a h. bytes a h ∙ ap (λ s. s.memory a) is }

jump_alike : (memory : ℕ → ℕ) (f g : FlatState) (to : Option ℕ) → option_map (λ slot. flat_at slot f) to ≡ Some g → option_map (λ slot. flat_at slot (in_memory memory f)) to ≡ Some (in_memory memory g)
jump_alike memory f g None e = cc
jump_alike memory f g (Some slot) e = ap (λ s. Some (in_memory memory s)) (same_Some (flat_at slot f) g e)

jump_if_alike : (memory : ℕ → ℕ) (f t g : FlatState) (b : Bool) (to : Option ℕ) → cond b (option_map (λ slot. flat_at slot f) to) (Some t) ≡ Some g → cond b (option_map (λ slot. flat_at slot (in_memory memory f)) to) (Some (in_memory memory t)) ≡ Some (in_memory memory g)
jump_if_alike memory f t g true to e = jump_alike memory f g to e
jump_if_alike memory f t g false to e = ap (λ s. Some (in_memory memory s)) (same_Some t g e)

-- what keeps the memory does the same in another
keeping : {order : Order} {i : Insn} (memory : ℕ → ℕ) (f g : FlatState) → flat_does order i (in_memory memory f) ≡ Some (in_memory memory g) → ((a : ℕ) → g.memory a ≡ f.memory a) → DoesAlike order i memory f g
keeping memory f g d same = record { after = in_memory memory g; does = d; same = refl; bytes = λ a h. h ∙ sym (same a) }

fetched_alike : (o : Option Reg) (old : ℕ) (memory : ℕ → ℕ) (t : FlatState) → flat_fetched o old (in_memory memory t) ≡ in_memory ((flat_fetched o old (in_memory memory t)).memory) (flat_fetched o old t)
fetched_alike None old memory t = refl
fetched_alike (Some r) old memory t = refl

pub flat_reads_only : FlatReadsOnly
unfolding flat_does
flat_reads_only order (Alu op width dst src) f g memory e h =
    alike _ (flat_put dst (alu width op (flat_register f dst) (flat_operand f src)) (flat_next (Alu op width dst src) (in_memory memory f))) e
    (ap (λ b. Some (flat_put dst (alu width op (flat_register f dst) b) (flat_next (Alu op width dst src) (in_memory memory f)))) (operand_same memory f src))
    refl (λ a h. h)
flat_reads_only order (Neg width dst) f g memory e h = alike _ _ e refl refl (λ a h. h)
flat_reads_only order (MovSx width bits dst src) f g memory e h = alike _ _ e refl refl (λ a h. h)
flat_reads_only order (End kind bits dst) f g memory e h = alike _ _ e refl refl (λ a h. h)
flat_reads_only order (LoadImm64 dst value) f g memory e h = alike _ _ e refl refl (λ a h. h)
flat_reads_only order (Load size dst src off) f g memory e h =
    alike _ (flat_put dst (flat_number order f (byte_count size) (address f src off)) (flat_next (Load size dst src off) (in_memory memory f))) e
    (ap (λ xs. Some (flat_put dst (number_of order (byte_count size) xs) (flat_next (Load size dst src off) (in_memory memory f)))) (same_bytes_read memory f.memory (address f src off) (byte_count size) (λ j few. h _ _ refl refl (j, few, refl))))
    refl (λ a h. h)
flat_reads_only order (LoadSx size dst src off) f g memory e h =
    alike _ (flat_put dst (modulo (cast_signed (size_type size) (flat_number order f (byte_count size) (address f src off))) addresses) (flat_next (LoadSx size dst src off) (in_memory memory f))) e
    (ap (λ xs. Some (flat_put dst (modulo (cast_signed (size_type size) (number_of order (byte_count size) xs)) addresses) (flat_next (LoadSx size dst src off) (in_memory memory f)))) (same_bytes_read memory f.memory (address f src off) (byte_count size) (λ j few. h _ _ refl refl (j, few, refl))))
    refl (λ a h. h)
flat_reads_only order (Store size dst off src) f g memory e h =
    alike _ _ e refl refl (λ a same. same_bytes_written (bytes_of order (byte_count size) (flat_register f src)) (address f dst off) a memory f.memory same)
flat_reads_only order (StoreImm size dst off imm) f g memory e h =
    alike _ _ e refl refl (λ a same. same_bytes_written (bytes_of order (byte_count size) (extended imm)) (address f dst off) a memory f.memory same)
flat_reads_only order (Atomic wide op dst off src) f g memory e h =
    let i : Insn = Atomic wide op dst off src in
    let k : ℕ = byte_count (word_size wide) in
    let a : ℕ = address f dst off in
    let old : ℕ = flat_number order f k a in
    let new : ℕ → ℕ = λ old. unwrap_or (atomic_result op (word_size wide) old (flat_register f src) (Some (flat_register f R0))) old in
    let after : ℕ → FlatState = λ old. flat_fetched (fetch_register op src) old (flat_store order k (new old) a (flat_next i (in_memory memory f))) in
    let stored : FlatState = flat_store order k (new old) a (flat_next i f) in
    alike (flat_fetched (fetch_register op src) old stored) (after old) e
    (ap (λ xs. Some (after (number_of order k xs))) (same_bytes_read memory f.memory a k (λ j few. h _ _ refl refl (j, few, refl))))
    (fetched_alike (fetch_register op src) old (memory_with (bytes_of order k (new old)) a memory) stored)
    (λ b same.
    fetched_memory (fetch_register op src) old (flat_store order k (new old) a (flat_next i (in_memory memory f))) b
    ∙ same_bytes_written (bytes_of order k (new old)) a b memory f.memory same
    ∙ sym (fetched_memory (fetch_register op src) old stored b))
flat_reads_only order (Ja off) f g memory e h = keeping memory f g (jump_alike memory f g (target f.slot off) e) (λ a. jump_keeps f g (target f.slot off) a e)
flat_reads_only order (JaLong off) f g memory e h = keeping memory f g (jump_alike memory f g (target f.slot off) e) (λ a. jump_keeps f g (target f.slot off) a e)
flat_reads_only order (JumpIf test width dst src off) f g memory e h =
    let i : Insn = JumpIf test width dst src off in
    let to : Option ℕ = target f.slot off in
    let b : Bool = jumps width test (flat_register f dst) (flat_operand f src) in
    keeping memory f g
    (ap (λ x. cond (jumps width test (flat_register f dst) x) (option_map (λ slot. flat_at slot (in_memory memory f)) to) (Some (flat_next i (in_memory memory f)))) (operand_same memory f src)
    ∙ jump_if_alike memory f (flat_next i f) g b to e)
    (λ a. jump_if_keeps f (flat_next i f) g b to a e refl)
flat_reads_only order (CallLocal off) f g memory e h = cc
flat_reads_only order Exit f g memory e h = cc
