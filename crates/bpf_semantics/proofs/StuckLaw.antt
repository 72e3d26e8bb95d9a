-- A state has a reason exactly if it is stuck.
use Rattle.std.proofs.Common.{◌≡◌, List, [], ◌∷◌, Option, Some, None, refl, ap, sym, subst, length, ◌+◌, ◌%◌, ◌^◌, ℕ, arith, ◌∙◌, inl, inr}
use Rattle.std.specs.Prelude.{ℤ, pos, negsuc, ◌+ℤ◌, ◌==◌, Bool, true, false, take, drop, cond, option_and_then, option_map, is_none, is_some, not, ◌||◌, ◌&&◌, IsSome, leb, ltb, IfSome}
use Rattle.std.proofs.lemmas.Int.{ints}
use Rattle.std.proofs.lemmas.Option.{none-some}
use Rattle.std.proofs.lemmas.Bool.{cases_lt, false≢true, and_from, and_parts, lt-leb, lt-ltb, le-leb, le-ltb}
use Rattle.bpf_insn.specs.Order.{number_of}
use Rattle.bpf_insn.specs.Arithmetic.{modulo, alu, extended, sign_extend, swapped}
use Rattle.bpf_insn.specs.Instruction.{Instructions, register_number, byte_count, insn_at, word_size, target, distance, insn_in, layout}
use Rattle.bpf_semantics.specs.State.{Cell, StackFrame, State, depth, frame_bytes, max_frames, register, with_register, at_slot, number_in, number_of_register}
use Rattle.bpf_semantics.specs.State.Cell.{Byte, Part}
use Rattle.bpf_semantics.specs.Memory.{Location, stack_of, inside, location_of, bytes_in, number_at, pointer_at, store_number, store_pointer}
use Rattle.bpf_semantics.specs.Memory.Location.{InContext, InFrame}
use Rattle.bpf_insn.specs.declared.order.Order.{Order}
use Rattle.bpf_insn.specs.declared.instruction.Reg.{Reg}
use Rattle.bpf_insn.specs.declared.instruction.Reg.TheVariants.{R0}
use Rattle.bpf_semantics.specs.declared.value.Value.{Value}
use Rattle.bpf_semantics.specs.declared.value.Value.TheVariants.{Number, Pointer}
use Rattle.bpf_semantics.specs.declared.value.Region.{Region}
use Rattle.bpf_semantics.specs.declared.value.Region.TheVariants.{Context, Frame as FrameAt}
use Rattle.bpf_semantics.specs.Step.{does, next, jump, alu_result, operand, load, load_extended, store, test_of_values, atomic_result, fetched, step_of, finish_of, result_of_exit, left, entered, modified}
use Rattle.bpf_insn.specs.Effects.{fetch_register}
use Rattle.bpf_insn.specs.declared.instruction.Width.{Width}
use Rattle.bpf_insn.specs.declared.instruction.Size.{Size}
use Rattle.bpf_insn.specs.declared.instruction.Size.TheVariants.{DW}
use Rattle.bpf_insn.specs.declared.instruction.AluOp.{AluOp}
use Rattle.bpf_insn.specs.declared.instruction.AluOp.TheVariants.{Sub, Mov}
use Rattle.bpf_insn.specs.declared.instruction.Cond.{Cond}
use Rattle.bpf_insn.specs.declared.instruction.AtomicOp.{AtomicOp}
use Rattle.bpf_insn.specs.declared.instruction.AtomicOp.TheVariants.{Modify as Changes, Xchg, CmpXchg}
use Rattle.bpf_insn.specs.declared.instruction.SignBits.{SignBits}
use Rattle.bpf_insn.specs.declared.instruction.EndBits.{EndBits}
use Rattle.bpf_insn.specs.declared.instruction.EndKind.{EndKind}
use Rattle.bpf_insn.specs.declared.instruction.Operand.{Operand}
use Rattle.bpf_insn.specs.declared.instruction.Operand.TheVariants.{Imm, Reg as FromReg}
use Rattle.bpf_insn.specs.declared.instruction.Insn.{Insn}
use Rattle.bpf_insn.specs.declared.instruction.Insn.TheVariants.{Alu, Neg, MovSx, End, LoadImm64, Load, LoadSx, Store, StoreImm, Atomic, Ja, JaLong, JumpIf, CallLocal, Exit}
use Rattle.bpf_insn.specs.Image.{IsProgram, LeadsInside}
use Rattle.bpf_semantics.specs.Stuck.{reason_of, reason_at, reason_of_insn, reason_if, first_of, is_pointer, has_wrong_kind, reads_unset, first_unreadable, unreadable_at, is_whole_slot, is_in_context}
use Rattle.bpf_insn.specs.Effects.{is_frame_pointer}
use Rattle.bpf_semantics.specs.MachineLaws.{StuckHasReason}
use Rattle.bpf_semantics.specs.declared.reason.Reason.{Reason}
use Rattle.bpf_semantics.specs.declared.reason.Reason.TheVariants.{UnsetRegister, OutOfBounds, ContextWrite, FramePointerWrite, OperandKind, TooManyFrames, PointerResult}
use Rattle.std.specs.Option.{option_or, option_map_or}
use Rattle.bpf_semantics.proofs.StateLemmas.{option_map_some, cond_option, inside_is}

-- ---- booleans and options

three : (x y z : Bool) (a b c : Reason) → is_some (first_of (reason_if x a ∷ reason_if y b ∷ reason_if z c ∷ None ∷ None ∷ None ∷ None ∷ None ∷ [])) ≡ ((x || y) || z)
three true y z a b c = refl
three false true z a b c = refl
three false false true a b c = refl
three false false false a b c = refl

-- a write of a value that there may be
written_or_not : {A : Type 0} (x y z : Bool) (o : Option A) (f : A → State) → is_none o ≡ z → (y ≡ true → z ≡ true) → ((x || y) || z) ≡ is_none (option_and_then (λ v. cond x None (Some (f v))) o)
written_or_not true y z None f e h = refl
written_or_not true y z (Some v) f e h = refl
written_or_not false true z None f e h = refl
written_or_not false true z (Some v) f e h = sym (e ∙ h refl)
written_or_not false false z None f e h = sym e
written_or_not false false z (Some v) f e h = sym e

bind_assoc : {A B C : Type 0} (o : Option A) (f : A → Option B) (g : B → Option C) → option_and_then g (option_and_then f o) ≡ option_and_then (λ a. option_and_then g (f a)) o
bind_assoc None f g = refl
bind_assoc (Some a) f g = refl

-- ---- arithmetic

unset_first : {A B : Type 0} (o : Option A) (f : A → Option B) → (is_none o || false) ≡ true → is_none (option_and_then f o) ≡ true
unset_first None f h = refl
unset_first (Some a) f h = absurd (false≢true h)

unset_second : {A B C : Type 0} (o : Option A) (p : Option B) (f : B → A → Option C) → (is_none o || (is_none p || false)) ≡ true → is_none (option_and_then (λ b. option_and_then (f b) o) p) ≡ true
unset_second None None f h = refl
unset_second None (Some b) f h = refl
unset_second (Some a) None f h = refl
unset_second (Some a) (Some b) f h = absurd (false≢true h)

unset_kind : (s : State) (op : AluOp) (width : Width) (dst : Reg) (src : Operand) → reads_unset s (Alu op width dst src) ≡ true → has_wrong_kind s (Alu op width dst src) ≡ true
unset_kind s Mov width dst (Imm imm) h = absurd (false≢true h)
unset_kind s Mov width dst (FromReg r) h = unset_first (register s r) _ h
unset_kind s op width dst (Imm imm) h = unset_first (register s dst) _ h
unset_kind s op width dst (FromReg r) h = unset_second (register s dst) (register s r) _ h

alu_exact : (order : Order) (s : State) (op : AluOp) (width : Width) (dst : Reg) (src : Operand) → is_some (reason_at s (Alu op width dst src)) ≡ is_none (does order (Alu op width dst src) s)
unfolding reason_at does
alu_exact order s op width dst src =
    let f : Value → State = λ v. with_register (next (Alu op width dst src) s) (register_number dst) (Some v) in
    let o : Option Value = option_and_then (λ b. alu_result width op (register s dst) b) (operand s src) in
    three (register_number dst == 10) (reads_unset s (Alu op width dst src)) (is_none o) _ _ _
    ∙ written_or_not (register_number dst == 10) (reads_unset s (Alu op width dst src)) (is_none o) o f refl (unset_kind s op width dst src)
    ∙ ap is_none (bind_assoc (operand s src) (λ b. alu_result width op (register s dst) b) (λ v. cond (register_number dst == 10) None (Some (f v))))

number_exact : (x : Bool) (o : Option Value) (f : ℕ → State) (a b c : Reason) → is_some (first_of (reason_if x a ∷ reason_if (is_none o || false) b ∷ reason_if (is_pointer o) c ∷ None ∷ None ∷ None ∷ None ∷ None ∷ [])) ≡ is_none (option_and_then (λ n. cond x None (Some (f n))) (option_and_then number_in o))
number_exact true None f a b c = refl
number_exact true (Some (Number n)) f a b c = refl
number_exact true (Some (Pointer region off)) f a b c = refl
number_exact false None f a b c = refl
number_exact false (Some (Number n)) f a b c = refl
number_exact false (Some (Pointer region off)) f a b c = refl

neg_exact : (order : Order) (s : State) (width : Width) (dst : Reg) → is_some (reason_at s (Neg width dst)) ≡ is_none (does order (Neg width dst) s)
unfolding reason_at does
neg_exact order s width dst = number_exact (register_number dst == 10) (register s dst) (λ a. with_register (next (Neg width dst) s) (register_number dst) (Some (Number (alu width Sub 0 a)))) _ _ _

mov_sx_exact : (order : Order) (s : State) (width : Width) (bits : SignBits) (dst src : Reg) → is_some (reason_at s (MovSx width bits dst src)) ≡ is_none (does order (MovSx width bits dst src) s)
unfolding reason_at does
mov_sx_exact order s width bits dst src = number_exact (register_number dst == 10) (register s src) (λ b. with_register (next (MovSx width bits dst src) s) (register_number dst) (Some (Number (sign_extend bits width b)))) _ _ _

end_exact : (order : Order) (s : State) (kind : EndKind) (bits : EndBits) (dst : Reg) → is_some (reason_at s (End kind bits dst)) ≡ is_none (does order (End kind bits dst) s)
unfolding reason_at does
end_exact order s kind bits dst = number_exact (register_number dst == 10) (register s dst) (λ a. with_register (next (End kind bits dst) s) (register_number dst) (Some (Number (swapped order kind bits a)))) _ _ _

imm_exact : (order : Order) (s : State) (dst : Reg) (value : ℕ) → is_some (reason_at s (LoadImm64 dst value)) ≡ is_none (does order (LoadImm64 dst value) s)
unfolding reason_at does
imm_exact order s dst value = by (register_number dst == 10) _ _
  where
    by : (x : Bool) (a : Reason) (t : State) → is_some (first_of (reason_if x a ∷ None ∷ None ∷ None ∷ None ∷ None ∷ None ∷ None ∷ [])) ≡ is_none (cond x None (Some t))
    by true a t = refl
    by false a t = refl

-- ---- cells

unreadable_exact : (cells : List (Option Cell)) → is_some (first_unreadable cells) ≡ is_none (bytes_in cells)
unreadable_exact [] = refl
unreadable_exact (None ∷ cells) = refl
unreadable_exact (Some (Part i region off) ∷ cells) = refl
unreadable_exact (Some (Byte b) ∷ cells) = unreadable_exact cells ∙ mapped (bytes_in cells)
  where
    mapped : (o : Option (List ℕ)) → is_none o ≡ is_none (option_map (λ bs. b ∷ bs) o)
    mapped None = refl
    mapped (Some bs) = refl

mapped_none : {A B : Type 0} (f : A → B) (o : Option A) → is_none (option_map f o) ≡ is_none o
mapped_none f None = refl
mapped_none f (Some a) = refl

number_exact_at : (order : Order) (s : State) (k : ℕ) (pl : Location) → is_some (unreadable_at s k pl) ≡ is_none (number_at order s k pl)
number_exact_at order s k (InContext i) = refl
number_exact_at order s k (InFrame n i) = unreadable_exact (take k (drop i (stack_of s n))) ∙ sym (mapped_none (number_of order k) (bytes_in (take k (drop i (stack_of s n)))))

-- a load, by the place that may be there and what may be read there
read_exact : (x : Bool) (r : Option Reason) (v : Option Value) (f : Value → State) (a : Reason) → is_some r ≡ is_none v → is_some (first_of (reason_if x a ∷ None ∷ None ∷ None ∷ None ∷ r ∷ None ∷ None ∷ [])) ≡ is_none (option_and_then (λ v. cond x None (Some (f v))) v)
read_exact true r None f a h = refl
read_exact true r (Some v) f a h = refl
read_exact false None None f a h = h
read_exact false (Some r) None f a h = refl
read_exact false None (Some v) f a h = refl
read_exact false (Some r) (Some v) f a h = h

place_exact : (x : Bool) (o : Option Location) (u : Option Reason) (bad : Location → Option Reason) (read : Location → Option Value) (f : Value → State) (a d : Reason) → ((pl : Location) → is_some (bad pl) ≡ is_none (read pl)) → u ≡ option_and_then bad o → is_some (first_of (reason_if x a ∷ None ∷ None ∷ reason_if (is_none o) d ∷ None ∷ u ∷ None ∷ None ∷ [])) ≡ is_none (option_and_then (λ pl. option_and_then (λ v. cond x None (Some (f v))) (read pl)) o)
place_exact true None u bad read f a d h e = refl
place_exact false None u bad read f a d h e = refl
place_exact x (Some pl) u bad read f a d h e = subst (λ u. is_some (first_of (reason_if x a ∷ None ∷ None ∷ None ∷ None ∷ u ∷ None ∷ None ∷ [])) ≡ is_none (option_and_then (λ v. cond x None (Some (f v))) (read pl))) (sym e) (read_exact x (bad pl) (read pl) f a (h pl))

-- the reason of a load, where the base, the place and the reading are known
load_reasons : Bool → Option Value → Bool → Option Reason → Option Reason
load_reasons x base out u = first_of (reason_if x FramePointerWrite ∷ reason_if (is_none base || false) UnsetRegister ∷ reason_if (not (is_pointer base)) OperandKind ∷ reason_if out OutOfBounds ∷ None ∷ u ∷ None ∷ None ∷ [])

base_exact : (s : State) (k : ℕ) (off : ℤ) (x : Bool) (base : Option Value) (u : Option Reason) (bad : Location → Option Reason) (read : Location → Option Value) (f : Value → State) → ((pl : Location) → is_some (bad pl) ≡ is_none (read pl)) → u ≡ option_and_then bad (option_and_then (location_of s k off) base) → is_some (load_reasons x base (is_none (option_and_then (location_of s k off) base)) u) ≡ is_none (option_and_then (λ b. option_and_then (λ pl. option_and_then (λ v. cond x None (Some (f v))) (read pl)) (location_of s k off b)) base)
unfolding load_reasons
base_exact s k off true None u bad read f h e = refl
base_exact s k off false None u bad read f h e = refl
base_exact s k off true (Some (Number n)) u bad read f h e = refl
base_exact s k off false (Some (Number n)) u bad read f h e = refl
base_exact s k off x (Some (Pointer region at)) u bad read f h e = place_exact x (location_of s k off (Pointer region at)) u bad read f FramePointerWrite OutOfBounds h e

-- what can't be loaded: a whole slot may hold a pointer
bad_whole : State → Location → Option Reason
bad_whole s pl = cond (not (is_some (pointer_at s pl))) (unreadable_at s 8 pl) None

bad_whole_exact : (order : Order) (s : State) (pl : Location) → is_some (bad_whole s pl) ≡ is_none (load order s DW pl)
unfolding bad_whole
bad_whole_exact order s pl = by (pointer_at s pl) (unreadable_at s 8 pl) (number_at order s 8 pl) (number_exact_at order s 8 pl)
  where
    by : (p : Option Value) (r : Option Reason) (n : Option ℕ) → is_some r ≡ is_none n → is_some (cond (not (is_some p)) r None) ≡ is_none (option_or p (option_map Number n))
    by None r None h = h
    by None r (Some n) h = h
    by (Some v) r n h = refl

whole_reason : (s : State) (o : Option Location) → cond (not (is_some (option_and_then (pointer_at s) o))) (option_and_then (unreadable_at s 8) o) None ≡ option_and_then (bad_whole s) o
unfolding bad_whole
whole_reason s None = refl
whole_reason s (Some pl) = refl

load_exact : (order : Order) (s : State) (size : Size) (dst src : Reg) (off : ℤ) → is_some (reason_at s (Load size dst src off)) ≡ is_none (does order (Load size dst src off) s)
unfolding reason_at does load_reasons
load_exact order s DW dst src off = base_exact s 8 off (register_number dst == 10) (register s src) _ (bad_whole s) (load order s DW) (λ v. with_register (next (Load DW dst src off) s) (register_number dst) (Some v)) (bad_whole_exact order s) (whole_reason s (option_and_then (location_of s 8 off) (register s src)))
load_exact order s size dst src off = base_exact s (byte_count size) off (register_number dst == 10) (register s src) _ (unreadable_at s (byte_count size)) (load order s size) (λ v. with_register (next (Load size dst src off) s) (register_number dst) (Some v)) (λ pl. number_exact_at order s (byte_count size) pl ∙ sym (mapped_none Number (number_at order s (byte_count size) pl))) refl

load_sx_exact : (order : Order) (s : State) (size : Size) (dst src : Reg) (off : ℤ) → is_some (reason_at s (LoadSx size dst src off)) ≡ is_none (does order (LoadSx size dst src off) s)
unfolding reason_at does load_reasons
load_sx_exact order s size dst src off = base_exact s (byte_count size) off (register_number dst == 10) (register s src) _ (unreadable_at s (byte_count size)) (load_extended order s size) (λ v. with_register (next (LoadSx size dst src off) s) (register_number dst) (Some v)) (λ pl. number_exact_at order s (byte_count size) pl ∙ sym (mapped_none _ (number_at order s (byte_count size) pl))) refl

-- a store
aligned_alike : (z : ℤ) (i : ℕ) → z +ℤ pos frame_bytes ≡ pos i → modulo z 8 ≡ i % 8
aligned_alike (pos n) i e = omega (arith, ints)
aligned_alike (negsuc n) i e = omega (arith, ints)

store_reasons : Bool → Bool → Option Location → Option Reason
store_reasons y z o = first_of (None ∷ reason_if y UnsetRegister ∷ reason_if z OperandKind ∷ reason_if (is_none o) OutOfBounds ∷ reason_if (option_map_or is_in_context o false) ContextWrite ∷ None ∷ None ∷ None ∷ [])

number_store_exact : (order : Order) (k x : ℕ) (s : State) (o : Option Location) → is_some (store_reasons false false o) ≡ is_none (option_and_then (λ pl. store_number order k x pl s) o)
unfolding store_reasons store_number
number_store_exact order k x s None = refl
number_store_exact order k x s (Some (InContext i)) = refl
number_store_exact order k x s (Some (InFrame n i)) = refl

none_of : (o : Option Location) → true ≡ is_none (option_and_then {U = State} (λ pl. None) o)
none_of None = refl
none_of (Some pl) = refl

opposite : {A : Type 0} (b : Bool) (c : Bool) (t : A) (a : Reason) → b ≡ c → is_some (first_of (None ∷ None ∷ reason_if (not b) a ∷ None ∷ None ∷ None ∷ None ∷ None ∷ [])) ≡ is_none (cond c (Some t) None)
opposite true true t a e = refl
opposite true false t a e = absurd (false≢true (sym e))
opposite false true t a e = absurd (false≢true e)
opposite false false t a e = refl

pointer_store_exact : (region : Region) (off : ℤ) (s : State) (b : Bool) (o : Option Location) → ((n i : ℕ) → o ≡ Some (InFrame n i) → b ≡ (i % 8 == 0)) → is_some (store_reasons false (not b) o) ≡ is_none (option_and_then (λ pl. store_pointer region off pl s) o)
unfolding store_reasons store_pointer
pointer_store_exact region off s true None h = refl
pointer_store_exact region off s false None h = refl
pointer_store_exact region off s true (Some (InContext i)) h = refl
pointer_store_exact region off s false (Some (InContext i)) h = refl
pointer_store_exact region off s b (Some (InFrame n i)) h = opposite b (i % 8 == 0) _ OperandKind (h n i refl)

index_of : Location → ℕ
index_of (InContext i) = i
index_of (InFrame n i) = i

aligned_place : (s : State) (region : Region) (at off : ℤ) (n i : ℕ) → location_of s 8 off (Pointer region at) ≡ Some (InFrame n i) → (modulo (at +ℤ off) 8 == 0) ≡ (i % 8 == 0)
unfolding index_of
aligned_place s Context at off n i e =
    let h = option_map_some InContext (inside 8 (length s.context) (at +ℤ off)) (InFrame n i) e in
    absurd (false≢true (sym (ap is_in_context h.2)))
aligned_place s (FrameAt m) at off n i e =
    let d = cond_option _ _ (InFrame n i) e in
    let h = option_map_some (InFrame m) (inside 8 frame_bytes ((at +ℤ off) +ℤ pos frame_bytes)) (InFrame n i) d.1 in
    let g = inside_is 8 frame_bytes ((at +ℤ off) +ℤ pos frame_bytes) h.0 h.1 in
    ap (λ x. x == 0) (aligned_alike (at +ℤ off) h.0 g.0 ∙ ap (λ x. x % 8) (ap index_of h.2))

store_values : (order : Order) (size : Size) (off : ℤ) (s s' : State) (d v : Option Value) → is_some (store_reasons (is_none d || (is_none v || false)) (not (is_pointer d) || (is_pointer v && not (is_whole_slot size off d))) (option_and_then (location_of s (byte_count size) off) d)) ≡ is_none (option_and_then (λ base. option_and_then (λ value. option_and_then (λ pl. store order size value pl s') (location_of s (byte_count size) off base)) v) d)
unfolding store_reasons
store_values order size off s s' None v = refl
store_values order size off s s' (Some (Number n)) None = refl
store_values order size off s s' (Some (Number n)) (Some v) = refl
store_values order size off s s' (Some (Pointer region at)) None = refl
store_values order size off s s' (Some (Pointer region at)) (Some (Number x)) = number_store_exact order (byte_count size) x s' (location_of s (byte_count size) off (Pointer region at))
store_values order DW off s s' (Some (Pointer region at)) (Some (Pointer region' off')) = pointer_store_exact region' off' s' (modulo (at +ℤ off) 8 == 0) (location_of s 8 off (Pointer region at)) (aligned_place s region at off)
store_values order size off s s' (Some (Pointer region at)) (Some (Pointer region' off')) = none_of (location_of s (byte_count size) off (Pointer region at))

store_exact : (order : Order) (s : State) (size : Size) (dst : Reg) (off : ℤ) (src : Reg) → is_some (reason_at s (Store size dst off src)) ≡ is_none (does order (Store size dst off src) s)
unfolding reason_at does store_reasons
store_exact order s size dst off src = store_values order size off s (next (Store size dst off src) s) (register s dst) (register s src)

imm_values : (order : Order) (k x : ℕ) (off : ℤ) (s s' : State) (d : Option Value) → is_some (store_reasons (is_none d || false) (not (is_pointer d)) (option_and_then (location_of s k off) d)) ≡ is_none (option_and_then (λ base. option_and_then (λ pl. store_number order k x pl s') (location_of s k off base)) d)
unfolding store_reasons
imm_values order k x off s s' None = refl
imm_values order k x off s s' (Some (Number n)) = refl
imm_values order k x off s s' (Some (Pointer region at)) = number_store_exact order k x s' (location_of s k off (Pointer region at))

store_imm_exact : (order : Order) (s : State) (size : Size) (dst : Reg) (off imm : ℤ) → is_some (reason_at s (StoreImm size dst off imm)) ≡ is_none (does order (StoreImm size dst off imm) s)
unfolding reason_at does store_reasons
store_imm_exact order s size dst off imm = imm_values order (byte_count size) (extended imm) off s (next (StoreImm size dst off imm) s) (register s dst)

-- ---- atomics

fetched_exact : (o : Option Reg) (old : ℕ) (s : State) → is_none (fetched o old s) ≡ option_map_or is_frame_pointer o false
fetched_exact None old s = refl
fetched_exact (Some r) old s = by (register_number r == 10) _
  where
    by : (b : Bool) (t : State) → is_none (cond b None (Some t)) ≡ b
    by true t = refl
    by false t = refl

atomic_reasons : Bool → Bool → Bool → Option Location → Option Reason → Option Reason
atomic_reasons x y z o u = first_of (reason_if x FramePointerWrite ∷ reason_if y UnsetRegister ∷ reason_if z OperandKind ∷ reason_if (is_none o) OutOfBounds ∷ reason_if (option_map_or is_in_context o false) ContextWrite ∷ u ∷ None ∷ None ∷ [])

atomic_read : (x : Bool) (r : Option Reason) (n : Option ℕ) (g : ℕ → Option State) (a : Reason) → ((m : ℕ) → is_none (g m) ≡ x) → is_some r ≡ is_none n → is_some (first_of (reason_if x a ∷ None ∷ None ∷ None ∷ None ∷ r ∷ None ∷ None ∷ [])) ≡ is_none (option_and_then g n)
atomic_read true r None g a hg h = refl
atomic_read true r (Some m) g a hg h = sym (hg m)
atomic_read false None None g a hg h = h
atomic_read false (Some r) None g a hg h = refl
atomic_read false None (Some m) g a hg h = sym (hg m)
atomic_read false (Some r) (Some m) g a hg h = absurd (false≢true (sym h))

atomic_place : (order : Order) (s s' : State) (k : ℕ) (fr : Option Reg) (res : ℕ → ℕ) (x : Bool) (o : Option Location) → x ≡ option_map_or is_frame_pointer fr false → is_some (atomic_reasons x false false o (option_and_then (unreadable_at s k) o)) ≡ is_none (option_and_then (λ pl. option_and_then (λ old. option_and_then (λ after. fetched fr old after) (store_number order k (res old) pl s')) (number_at order s k pl)) o)
unfolding atomic_reasons store_number
atomic_place order s s' k fr res true None hx = refl
atomic_place order s s' k fr res false None hx = refl
atomic_place order s s' k fr res true (Some (InContext i)) hx = refl
atomic_place order s s' k fr res false (Some (InContext i)) hx = refl
atomic_place order s s' k fr res x (Some (InFrame n i)) hx = atomic_read x _ (number_at order s k (InFrame n i)) _ FramePointerWrite (λ m. fetched_exact fr m _ ∙ sym hx) (number_exact_at order s k (InFrame n i))

-- no r0 is read
atomic_plain : (order : Order) (off : ℤ) (s s' : State) (k : ℕ) (fr : Option Reg) (res : ℕ → ℕ → ℕ) (x : Bool) (d v : Option Value) → x ≡ option_map_or is_frame_pointer fr false → is_some (atomic_reasons x (is_none d || (is_none v || false)) (not (is_pointer d) || (is_pointer v || false)) (option_and_then (location_of s k off) d) (option_and_then (unreadable_at s k) (option_and_then (location_of s k off) d)))
    ≡ is_none (option_and_then (λ base. option_and_then (λ n. option_and_then (λ pl. option_and_then (λ old. option_and_then (λ after. fetched fr old after) (store_number order k (res n old) pl s')) (number_at order s k pl)) (location_of s k off base)) (option_and_then number_in v)) d)
unfolding atomic_reasons
atomic_plain order off s s' k fr res true None v hx = refl
atomic_plain order off s s' k fr res false None v hx = refl
atomic_plain order off s s' k fr res true (Some (Number n)) None hx = refl
atomic_plain order off s s' k fr res false (Some (Number n)) None hx = refl
atomic_plain order off s s' k fr res true (Some (Number n)) (Some (Number m)) hx = refl
atomic_plain order off s s' k fr res false (Some (Number n)) (Some (Number m)) hx = refl
atomic_plain order off s s' k fr res true (Some (Number n)) (Some (Pointer region at)) hx = refl
atomic_plain order off s s' k fr res false (Some (Number n)) (Some (Pointer region at)) hx = refl
atomic_plain order off s s' k fr res true (Some (Pointer region at)) None hx = refl
atomic_plain order off s s' k fr res false (Some (Pointer region at)) None hx = refl
atomic_plain order off s s' k fr res true (Some (Pointer region at)) (Some (Pointer region' at')) hx = refl
atomic_plain order off s s' k fr res false (Some (Pointer region at)) (Some (Pointer region' at')) hx = refl
atomic_plain order off s s' k fr res x (Some (Pointer region at)) (Some (Number m)) hx = atomic_place order s s' k fr (res m) x (location_of s k off (Pointer region at)) hx

none_deep : (o : Option Location) (n : Location → Option ℕ) → true ≡ is_none (option_and_then {U = State} (λ pl. option_and_then (λ old. None) (n pl)) o)
none_deep None n = refl
none_deep (Some pl) n = by (n pl)
  where
    by : (m : Option ℕ) → true ≡ is_none (option_and_then {U = State} (λ old. None) m)
    by None = refl
    by (Some m) = refl

-- r0 is compared
atomic_compare : (order : Order) (off : ℤ) (s s' : State) (size : Size) (d v r : Option Value) → is_some (atomic_reasons false (is_none d || (is_none v || (is_none r || false))) (not (is_pointer d) || (is_pointer v || (is_pointer r || false))) (option_and_then (location_of s (byte_count size) off) d) (option_and_then (unreadable_at s (byte_count size)) (option_and_then (location_of s (byte_count size) off) d)))
    ≡ is_none (option_and_then (λ base. option_and_then (λ n. option_and_then (λ pl. option_and_then (λ old. option_and_then (λ new. option_and_then (λ after. fetched (Some R0) old after) (store_number order (byte_count size) new pl s')) (atomic_result CmpXchg size old n (option_and_then number_in r))) (number_at order s (byte_count size) pl)) (location_of s (byte_count size) off base)) (option_and_then number_in v)) d)
unfolding atomic_reasons
atomic_compare order off s s' size None v r = refl
atomic_compare order off s s' size (Some (Number n)) None None = refl
atomic_compare order off s s' size (Some (Number n)) None (Some (Number e)) = refl
atomic_compare order off s s' size (Some (Number n)) None (Some (Pointer region'' at'')) = refl
atomic_compare order off s s' size (Some (Number n)) (Some (Number m)) None = refl
atomic_compare order off s s' size (Some (Number n)) (Some (Number m)) (Some (Number e)) = refl
atomic_compare order off s s' size (Some (Number n)) (Some (Number m)) (Some (Pointer region'' at'')) = refl
atomic_compare order off s s' size (Some (Number n)) (Some (Pointer region' at')) None = refl
atomic_compare order off s s' size (Some (Number n)) (Some (Pointer region' at')) (Some (Number e)) = refl
atomic_compare order off s s' size (Some (Number n)) (Some (Pointer region' at')) (Some (Pointer region'' at'')) = refl
atomic_compare order off s s' size (Some (Pointer region at)) None None = refl
atomic_compare order off s s' size (Some (Pointer region at)) None (Some (Number e)) = refl
atomic_compare order off s s' size (Some (Pointer region at)) None (Some (Pointer region'' at'')) = refl
atomic_compare order off s s' size (Some (Pointer region at)) (Some (Pointer region' at')) None = refl
atomic_compare order off s s' size (Some (Pointer region at)) (Some (Pointer region' at')) (Some (Number e)) = refl
atomic_compare order off s s' size (Some (Pointer region at)) (Some (Pointer region' at')) (Some (Pointer region'' at'')) = refl
atomic_compare order off s s' size (Some (Pointer region at)) (Some (Number m)) None = none_deep (location_of s (byte_count size) off (Pointer region at)) (number_at order s (byte_count size))
atomic_compare order off s s' size (Some (Pointer region at)) (Some (Number m)) (Some (Pointer region'' at'')) = none_deep (location_of s (byte_count size) off (Pointer region at)) (number_at order s (byte_count size))
atomic_compare order off s s' size (Some (Pointer region at)) (Some (Number m)) (Some (Number e)) = atomic_place order s s' (byte_count size) (Some R0) (λ old. cond (old == e % 256 ^ byte_count size) m old) false (location_of s (byte_count size) off (Pointer region at)) refl

atomic_exact : (order : Order) (s : State) (wide : Bool) (op : AtomicOp) (dst : Reg) (off : ℤ) (src : Reg) → is_some (reason_at s (Atomic wide op dst off src)) ≡ is_none (does order (Atomic wide op dst off src) s)
unfolding reason_at does atomic_reasons
atomic_exact order s wide (Changes by fetch) dst off src = atomic_plain order off s (next (Atomic wide (Changes by fetch) dst off src) s) (byte_count (word_size wide)) (fetch_register (Changes by fetch) src) (λ n old. modified by old n) _ (register s dst) (register s src) refl
atomic_exact order s wide Xchg dst off src = atomic_plain order off s (next (Atomic wide Xchg dst off src) s) (byte_count (word_size wide)) (Some src) (λ n old. n) _ (register s dst) (register s src) refl
atomic_exact order s wide CmpXchg dst off src = atomic_compare order off s (next (Atomic wide CmpXchg dst off src) s) (word_size wide) (register s dst) (register s src) (register s R0)

-- ---- jumps, calls, the end

led : {A B : Type 0} (o : Option A) (f : A → B) → is_some o ≡ true → false ≡ is_none (option_map f o)
led None f h = h
led (Some a) f h = refl

ja_exact : (order : Order) (s : State) (off : ℤ) → IsSome (target s.top.slot off) → is_some (reason_at s (Ja off)) ≡ is_none (does order (Ja off) s)
unfolding reason_at does
ja_exact order s off h = led (target s.top.slot off) (λ slot. at_slot slot s) h

ja_long_exact : (order : Order) (s : State) (off : ℤ) → IsSome (target s.top.slot off) → is_some (reason_at s (JaLong off)) ≡ is_none (does order (JaLong off) s)
unfolding reason_at does
ja_long_exact order s off h = led (target s.top.slot off) (λ slot. at_slot slot s) h

test_exact : (y : Bool) (o : Option Bool) (f : Bool → Option State) (a b : Reason) → ((t : Bool) → false ≡ is_none (f t)) → (y ≡ true → is_none o ≡ true) → is_some (first_of (None ∷ reason_if y a ∷ reason_if (is_none o) b ∷ None ∷ None ∷ None ∷ None ∷ None ∷ [])) ≡ is_none (option_and_then f o)
test_exact true None f a b h u = refl
test_exact true (Some t) f a b h u = absurd (false≢true (u refl))
test_exact false None f a b h u = refl
test_exact false (Some t) f a b h u = h t

unset_test : {A B C : Type 0} (o : Option A) (p : Option B) (f : A → B → Option C) → (is_none o || (is_none p || false)) ≡ true → is_none (option_and_then (λ a. option_and_then (f a) p) o) ≡ true
unset_test None p f h = refl
unset_test (Some a) None f h = refl
unset_test (Some a) (Some b) f h = absurd (false≢true h)

unset_jump : (s : State) (cond : Cond) (width : Width) (dst : Reg) (src : Operand) (off : ℤ) → reads_unset s (JumpIf cond width dst src off) ≡ true → is_none (option_and_then (λ a. option_and_then (test_of_values width cond a) (operand s src)) (register s dst)) ≡ true
unset_jump s cond width dst (Imm imm) off h = unset_first (register s dst) _ h
unset_jump s cond width dst (FromReg r) off h = unset_test (register s dst) (register s r) _ h

branch_some : (s : State) (off : ℤ) (i : Insn) → IsSome (target s.top.slot off) → (t : Bool) → false ≡ is_none (cond t (jump s off) (Some (next i s)))
branch_some s off i h true = led (target s.top.slot off) (λ slot. at_slot slot s) h
branch_some s off i h false = refl

bind_twice : {A B C D : Type 0} (o : Option A) (p : Option B) (f : A → B → Option C) (g : C → Option D) → option_and_then g (option_and_then (λ a. option_and_then (f a) p) o) ≡ option_and_then (λ a. option_and_then (λ b. option_and_then g (f a b)) p) o
bind_twice None p f g = refl
bind_twice (Some a) None f g = refl
bind_twice (Some a) (Some b) f g = refl

jump_if_exact : (order : Order) (s : State) (cond : Cond) (width : Width) (dst : Reg) (src : Operand) (off : ℤ) → IsSome (target s.top.slot off) → is_some (reason_at s (JumpIf cond width dst src off)) ≡ is_none (does order (JumpIf cond width dst src off) s)
unfolding reason_at does
jump_if_exact order s c width dst src off h =
    let i : Insn = JumpIf c width dst src off in
    let o : Option Bool = option_and_then (λ a. option_and_then (test_of_values width c a) (operand s src)) (register s dst) in
    test_exact (reads_unset s i) o (λ t. cond t (jump s off) (Some (next i s))) UnsetRegister OperandKind (branch_some s off i h) (unset_jump s c width dst src off)
    ∙ ap is_none (bind_twice (register s dst) (operand s src) (test_of_values width c) (λ t. cond t (jump s off) (Some (next i s))))

room_alike : (n : ℕ) → leb max_frames n ≡ not (ltb n max_frames)
room_alike n = elim (cases_lt n max_frames) [ inl lt ↦ rw (lt-leb max_frames n lt, lt-ltb n max_frames lt) refl | inr ge ↦ rw (le-leb max_frames n ge, le-ltb n max_frames ge) refl ]

call_exact : (order : Order) (s : State) (off : ℤ) → IsSome (target s.top.slot off) → is_some (reason_at s (CallLocal off)) ≡ is_none (does order (CallLocal off) s)
unfolding reason_at does
call_exact order s off h = by (leb max_frames (depth s + 1)) (ltb (depth s + 1) max_frames) (option_map (entered s) (target s.top.slot off)) (room_alike (depth s + 1)) (led (target s.top.slot off) (entered s) h)
  where
    by : (b c : Bool) (o : Option State) → b ≡ not c → false ≡ is_none o → is_some (first_of (None ∷ None ∷ None ∷ None ∷ None ∷ None ∷ reason_if b TooManyFrames ∷ None ∷ [])) ≡ is_none (cond c o None)
    by true true o e n = absurd (false≢true (sym e))
    by true false o e n = refl
    by false true o e n = n
    by false false o e n = absurd (false≢true e)

-- an exit ends, or returns, or has a reason
exit_exact : (order : Order) (s : State) → is_some (reason_at s Exit) ≡ (is_none (does order Exit s) && is_none (result_of_exit s.waiting (number_of_register s R0) Exit))
unfolding reason_at does
exit_exact order s = by s.waiting (register s R0)
  where
    by : (ws : List StackFrame) (o : Option Value) → is_some (first_of (None ∷ reason_if (is_none o || false) UnsetRegister ∷ None ∷ None ∷ None ∷ None ∷ None ∷ reason_if (is_pointer o) PointerResult ∷ [])) ≡ (is_none (option_and_then (λ v. left ws v s.context) (option_and_then number_in o)) && is_none (result_of_exit ws (option_and_then number_in o) Exit))
    by [] None = refl
    by [] (Some (Number n)) = refl
    by [] (Some (Pointer region off)) = refl
    by (w ∷ ws) None = refl
    by (w ∷ ws) (Some (Number n)) = refl
    by (w ∷ ws) (Some (Pointer region off)) = refl

-- ---- the law

and_true : (b c : Bool) → c ≡ true → b ≡ (b && c)
and_true true c e = sym e
and_true false c e = refl

abbrev is_exit : Insn → Bool
is_exit Exit = true
is_exit _ = false

no_exit : (ws : List StackFrame) (r0 : Option ℕ) (i : Insn) → is_exit i ≡ false → is_none (result_of_exit ws r0 i) ≡ true
no_exit [] r0 Exit h = absurd (false≢true (sym h))
no_exit [] r0 i h = refl
no_exit (w ∷ ws) r0 i h = refl

alone : (s : State) (i : Insn) (a b : Bool) → is_exit i ≡ false → a ≡ b → a ≡ (b && is_none (result_of_exit s.waiting (number_of_register s R0) i))
alone s i a b h e = e ∙ and_true b _ (no_exit s.waiting (number_of_register s R0) i h)

exact : (order : Order) (s : State) (i : Insn) → ((off : ℤ) → distance i ≡ Some off → IsSome (target s.top.slot off)) → is_some (reason_at s i) ≡ (is_none (does order i s) && is_none (result_of_exit s.waiting (number_of_register s R0) i))
exact order s (Alu op width dst src) h = alone s (Alu op width dst src) _ _ refl (alu_exact order s op width dst src)
exact order s (Neg width dst) h = alone s (Neg width dst) _ _ refl (neg_exact order s width dst)
exact order s (MovSx width bits dst src) h = alone s (MovSx width bits dst src) _ _ refl (mov_sx_exact order s width bits dst src)
exact order s (End kind bits dst) h = alone s (End kind bits dst) _ _ refl (end_exact order s kind bits dst)
exact order s (LoadImm64 dst value) h = alone s (LoadImm64 dst value) _ _ refl (imm_exact order s dst value)
exact order s (Load size dst src off) h = alone s (Load size dst src off) _ _ refl (load_exact order s size dst src off)
exact order s (LoadSx size dst src off) h = alone s (LoadSx size dst src off) _ _ refl (load_sx_exact order s size dst src off)
exact order s (Store size dst off src) h = alone s (Store size dst off src) _ _ refl (store_exact order s size dst off src)
exact order s (StoreImm size dst off imm) h = alone s (StoreImm size dst off imm) _ _ refl (store_imm_exact order s size dst off imm)
exact order s (Atomic wide op dst off src) h = alone s (Atomic wide op dst off src) _ _ refl (atomic_exact order s wide op dst off src)
exact order s (Ja off) h = alone s (Ja off) _ _ refl (ja_exact order s off (h off refl))
exact order s (JaLong off) h = alone s (JaLong off) _ _ refl (ja_long_exact order s off (h off refl))
exact order s (JumpIf cond width dst src off) h = alone s (JumpIf cond width dst src off) _ _ refl (jump_if_exact order s cond width dst src off (h off refl))
exact order s (CallLocal off) h = alone s (CallLocal off) _ _ refl (call_exact order s off (h off refl))
exact order s Exit h = exit_exact order s

insn_exact : (order : Order) (s : State) (o : Option Insn) → ((i : Insn) (off : ℤ) → o ≡ Some i → distance i ≡ Some off → IsSome (target s.top.slot off)) → is_some (reason_of_insn s o) ≡ (is_none (option_and_then (λ i. does order i s) o) && is_none (option_and_then (λ i. result_of_exit s.waiting (number_of_register s R0) i) o))
insn_exact order s None h = refl
insn_exact order s (Some i) h = exact order s i (λ off e. h i off refl e)

some_before : {A B : Type 0} (f : A → Option B) (o : Option A) → is_some (option_and_then f o) ≡ true → is_some o ≡ true
some_before f None h = h
some_before f (Some a) h = refl

target_is : (p : Instructions) (slot : ℕ) → IsProgram p.list → (i : Insn) (off : ℤ) → insn_at p.list slot ≡ Some i → distance i ≡ Some off → IsSome (target slot off)
target_is p slot prog i off ei ed = some_before (insn_in (layout p.list)) (target slot off) (subst (λ o. IfSome o (λ off. LeadsInside (layout p.list) slot off)) ed (prog.targets slot i ei))

reason_exact : (p : Instructions) (s : State) → IsProgram p.list → is_some (reason_of p s) ≡ (is_none (step_of p s) && is_none (finish_of p s))
unfolding reason_of step_of finish_of
reason_exact p s prog = insn_exact p.order s (insn_at p.list s.top.slot) (target_is p s.top.slot prog)

none_from : {A : Type 0} (o : Option A) → ((a : A) → o ≡ Some a → ⊥) → is_none o ≡ true
none_from None h = refl
none_from (Some a) h = absurd (h a refl)

none_not : {A : Type 0} (o : Option A) (a : A) → is_none o ≡ true → o ≡ Some a → ⊥
none_not None a h e = none-some a e
none_not (Some b) a h e = false≢true h

pub stuck_has_reason : StuckHasReason
stuck_has_reason p s prog = (
  λ st. reason_exact p s prog ∙ and_from _ _ (none_from (step_of p s) st.no_step) (none_from (finish_of p s) st.no_finish),
  λ h. let both = and_parts _ _ (sym (reason_exact p s prog) ∙ h) in record { no_step = λ t e. none_not (step_of p s) t both.0 e; no_finish = λ v e. none_not (finish_of p s) v both.1 e },
)
