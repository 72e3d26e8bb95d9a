-- Which mistake of kinds is told, and that one is told exactly where the kinds are wrong.
use Rattle.std.proofs.Common.{◌≡◌, ℕ, ℤ, ◌+ℤ◌, List, [], ◌∷◌, ◌+◌, ◌<◌, ◌≤◌, length, get_or, drop, refl, sym, ◌∙◌, ap, ap₂, subst, arith, Bool, true, false, Option, Some, None}
use Rattle.std.specs.Prelude.{◌&&◌, ◌||◌, not, find, filter_map, is_some, IfSome, Contains, option_map, if◌then◌else◌}
use Rattle.std.specs.List.{list_any}
use Rattle.std.specs.Option.{option_or}
use Rattle.std.proofs.lemmas.Bool.{false≢true}
use Rattle.std.proofs.lemmas.List.{drop_more, drop_all}
use Rattle.bpf_insn.specs.Instruction.{byte_count}
use Rattle.bpf_insn.specs.Effects.{access_of, operand_register}
use Rattle.bpf_insn.specs.declared.instruction.Reg.{Reg}
use Rattle.bpf_insn.specs.declared.instruction.Reg.TheVariants.{R0}
use Rattle.bpf_insn.specs.declared.instruction.Operand.{Operand}
use Rattle.bpf_insn.specs.declared.instruction.Operand.TheVariants.{Imm, Reg as FromReg}
use Rattle.bpf_insn.specs.declared.instruction.Size.{Size}
use Rattle.bpf_insn.specs.declared.instruction.Width.{Width}
use Rattle.bpf_insn.specs.declared.instruction.Width.TheVariants.{W32, W64}
use Rattle.bpf_insn.specs.declared.instruction.AluOp.{AluOp}
use Rattle.bpf_insn.specs.declared.instruction.AluOp.TheVariants.{Add, Sub, Mov}
use Rattle.bpf_insn.specs.declared.instruction.AtomicOp.{AtomicOp}
use Rattle.bpf_insn.specs.declared.instruction.AtomicOp.TheVariants.{CmpXchg}
use Rattle.bpf_insn.specs.declared.instruction.Insn.{Insn}
use Rattle.bpf_insn.specs.declared.instruction.Insn.TheVariants.{Alu, Neg, MovSx, End, Load, LoadSx, Store, StoreImm, Atomic, JumpIf, Exit}
use Rattle.bpf_state.specs.declared.known.RegState.{RegState}
use Rattle.bpf_state.specs.declared.known.RegState.TheVariants.{Any, Num, Ptr}
use Rattle.bpf_state.specs.declared.cause.Mistake.{Mistake}
use Rattle.bpf_state.specs.declared.cause.Mistake.TheVariants.{NotNumber, NotPointer, PointersAdded, OtherAreas, WrongTest, StoredInPart}
use Rattle.bpf_state.specs.State.{AbstractState, register, is_frame, same_area}
use Rattle.bpf_state.specs.Access.{Span, span_at, is_slot}
use Rattle.bpf_state.specs.Fault.{operand, is_any, is_number, is_pointer, some_passes, can_test, alu_of_kinds, can_store, atomic_kinds, reads_any, have_right_kinds, reads_part, has_wrong_kinds}
use Rattle.bpf_state.specs.Cause.{numbers_taken, have_other_areas, tests_wrongly, Shows}
use Rattle.bpf_state.specs.code.Mistakes.{unless_number, unless_pointer, unless_operand, unless_numbers, of_sum, of_difference, of_alu, of_span, of_atomic, of_operands}
use Rattle.bpf_state.proofs.AluLemmas.{IsPlain}

pub find_any : {A : Type 0} (p : A → Bool) (xs : List A) → is_some (find p xs) ≡ list_any p xs
find_any p [] = refl
find_any p (x ∷ xs) = go (p x) (find_any p xs)
  where
    go : (b : Bool) → is_some (find p xs) ≡ list_any p xs → is_some (if b then Some x else find p xs) ≡ (b || list_any p xs)
    go true e = refl
    go false e = e

-- a place without a register that passes is passed over
pub passed_over : {A : Type 0} (p : A → Bool) (xs : List (Option A)) (i : ℕ) → i < length xs → IfSome (get_or xs i None) (λ x. p x ≡ false) → find p (filter_map (λ o. o) (drop (i + 1) xs)) ≡ find p (filter_map (λ o. o) (drop i xs))
passed_over {A = A} p xs i h e = go (get_or xs i None) (drop (i + 1) xs) e ∙ sym (ap (λ l. find p (filter_map (λ o. o) l)) (drop_more xs i None h))
  where
    go : (o : Option A) (rest : List (Option A)) → IfSome o (λ x. p x ≡ false) → find p (filter_map (λ o. o) rest) ≡ find p (filter_map (λ o. o) (o ∷ rest))
    go None rest e = refl
    go (Some x) rest e = sym (ap (λ b. if b then Some x else find p (filter_map (λ o. o) rest)) e)

pub if_none : {A : Type 0} (P : A → Type 0) (o : Option A) → ((x : A) → o ≡ Some x → ⊥) → IfSome o P
if_none P (Some x) not_some = absurd (not_some x refl)
if_none P None not_some = tt

pub found_at : {A : Type 0} (p : A → Bool) (xs : List (Option A)) (i : ℕ) (x : A) → i < length xs → get_or xs i None ≡ Some x → p x ≡ true → Some x ≡ find p (filter_map (λ o. o) (drop i xs))
found_at p xs i x h e f =
    sym (ap (λ l. find p (filter_map (λ o. o) l)) (drop_more xs i None h)
    ∙ ap (λ o. find p (filter_map (λ o. o) (o ∷ drop (i + 1) xs))) e
    ∙ ap (λ b. if b then Some x else find p (filter_map (λ o. o) (drop (i + 1) xs))) f)

pub none_left : {A : Type 0} (p : A → Bool) (xs : List (Option A)) (i : ℕ) → length xs ≤ i → None ≡ find p (filter_map (λ o. o) (drop i xs))
none_left p xs i h = sym (ap (λ l. find p (filter_map (λ o. o) l)) (drop_all i xs h))

-- ---- a mistake is told exactly where the kinds are wrong

some_unless : (b : Bool) (m : Mistake) → is_some (if b then None else Some m) ≡ not b
some_unless true m = refl
some_unless false m = refl

some_or : (a b : Bool) (m : Mistake) (o : Option Mistake) → is_some o ≡ not b → is_some (option_or (if a then None else Some m) o) ≡ not (a && b)
some_or true b m o e = e
some_or false b m o e = refl

-- of the operands of arithmetic

number_operand : (s : AbstractState) (src : Operand) → is_some (unless_operand s src) ≡ not (is_number (operand s src))
number_operand s (Imm imm) = refl
number_operand s (FromReg r) = some_unless (is_number (register s r)) (NotNumber r)

narrow_move : (a b : RegState) → is_some (alu_of_kinds W32 Mov a b) ≡ is_number b
narrow_move Any Any = refl
narrow_move Any (Num n) = refl
narrow_move Any (Ptr q) = refl
narrow_move (Num m) Any = refl
narrow_move (Num m) (Num n) = refl
narrow_move (Num m) (Ptr q) = refl
narrow_move (Ptr p) Any = refl
narrow_move (Ptr p) (Num n) = refl
narrow_move (Ptr p) (Ptr q) = refl

sum_refused : (a b : RegState) → is_any a ≡ false → is_any b ≡ false → is_some (of_sum a b) ≡ not (is_some (alu_of_kinds W64 Add a b))
sum_refused Any b e f = absurd (false≢true (sym e))
sum_refused a Any e f = absurd (false≢true (sym f))
sum_refused (Num m) (Num n) e f = refl
sum_refused (Num m) (Ptr q) e f = refl
sum_refused (Ptr p) (Num n) e f = refl
sum_refused (Ptr p) (Ptr q) e f = refl

areas_refused : {A : Type 0} (same : Bool) (m : Mistake) (d : A) → is_some (if same then None else Some m) ≡ not (is_some (if same then Some d else None))
areas_refused true m d = refl
areas_refused false m d = refl

difference_refused : (a b : RegState) → is_any a ≡ false → is_any b ≡ false → is_some (of_difference a b) ≡ not (is_some (alu_of_kinds W64 Sub a b))
difference_refused Any b e f = absurd (false≢true (sym e))
difference_refused a Any e f = absurd (false≢true (sym f))
difference_refused (Num m) (Num n) e f = refl
difference_refused (Num m) (Ptr q) e f = refl
difference_refused (Ptr p) (Num n) e f = refl
difference_refused (Ptr p) (Ptr q) e f = areas_refused (same_area p.area q.area) OtherAreas _

plain_kinds : (width : Width) (op : AluOp) (a b : RegState) → IsPlain width op → is_some (alu_of_kinds width op a b) ≡ (is_number a && is_number b)
plain_kinds W64 Add a b plain = absurd plain
plain_kinds W64 Sub a b plain = absurd plain
plain_kinds W64 Mov a b plain = absurd plain
plain_kinds W32 Mov a b plain = absurd plain
plain_kinds width op (Num m) (Num n) plain = refl
plain_kinds width op (Num m) Any plain = refl
plain_kinds width op (Num m) (Ptr q) plain = refl
plain_kinds width op Any Any plain = refl
plain_kinds width op Any (Num n) plain = refl
plain_kinds width op Any (Ptr q) plain = refl
plain_kinds width op (Ptr p) Any plain = refl
plain_kinds width op (Ptr p) (Num n) plain = refl
plain_kinds width op (Ptr p) (Ptr q) plain = refl

plain_refused : (s : AbstractState) (width : Width) (op : AluOp) (dst : Reg) (src : Operand) → IsPlain width op → is_some (unless_numbers s dst src) ≡ not (is_some (alu_of_kinds width op (register s dst) (operand s src)))
plain_refused s width op dst src plain =
    some_or (is_number (register s dst)) (is_number (operand s src)) (NotNumber dst) (unless_operand s src) (number_operand s src)
    ∙ sym (ap not (plain_kinds width op (register s dst) (operand s src) plain))

-- both operands of a sum or a difference are set
or_first : (a b : Bool) → (a || b) ≡ false → a ≡ false
or_first false b e = refl
or_first true b e = absurd (false≢true (sym e))

or_second : (a b : Bool) → (a || b) ≡ false → b ≡ false
or_second false b e = e
or_second true b e = absurd (false≢true (sym e))

operand_set : (s : AbstractState) (src : Operand) → list_any (λ r. is_any (register s r)) (operand_register src) ≡ false → is_any (operand s src) ≡ false
operand_set s (Imm imm) e = refl
operand_set s (FromReg r) e = or_first _ _ e

alu_refused : (s : AbstractState) (width : Width) (op : AluOp) (dst : Reg) (src : Operand) → reads_any s (Alu op width dst src) ≡ false → is_some (of_alu s width op dst src) ≡ not (is_some (alu_of_kinds width op (register s dst) (operand s src)))
alu_refused s W64 Mov dst src e = refl
alu_refused s W32 Mov dst src e = number_operand s src ∙ sym (ap not (narrow_move (register s dst) (operand s src)))
alu_refused s W64 Add dst src e = sum_refused (register s dst) (operand s src) (or_first _ _ e) (operand_set s src (or_second _ _ e))
alu_refused s W64 Sub dst src e = difference_refused (register s dst) (operand s src) (or_first _ _ e) (operand_set s src (or_second _ _ e))
alu_refused s width op dst src e = plain_refused s width op dst src tt

-- of accesses

store_refused : (off : ℤ) (size : Size) (dst : Reg) (v value : RegState) → is_some (of_span dst value (span_at off size v)) ≡ not (is_pointer v && can_store (span_at off size v) value)
store_refused off size dst Any value = refl
store_refused off size dst (Num n) value = refl
store_refused off size dst (Ptr p) value = go (is_pointer value) (is_slot (record { in_frame = is_frame p.area; lowest = p.lo +ℤ off; highest = p.hi +ℤ off; count = byte_count size }))
  where
    go : (a b : Bool) → is_some (if a && not b then Some StoredInPart else None) ≡ not (true && (not a || b))
    go true true = refl
    go true false = refl
    go false true = refl
    go false false = refl

and_right : (a b c : Bool) → (a && (b && c)) ≡ (a && b && c)
and_right true b c = refl
and_right false b c = refl

and_true : (a : Bool) → a ≡ (a && true)
and_true true = refl
and_true false = refl

atomic_refused : (s : AbstractState) (op : AtomicOp) (dst src : Reg) → is_some (of_atomic s op dst src) ≡ not (is_pointer (register s dst) && is_number (register s src) && atomic_kinds op s)
atomic_refused s CmpXchg dst src =
    some_or (is_pointer (register s dst)) (is_number (register s src) && is_number (register s R0)) (NotPointer dst) _
    (some_or (is_number (register s src)) (is_number (register s R0)) (NotNumber src) _ (some_unless (is_number (register s R0)) (NotNumber R0)))
    ∙ ap not (and_right (is_pointer (register s dst)) (is_number (register s src)) (is_number (register s R0)))
atomic_refused s op dst src =
    some_or (is_pointer (register s dst)) (is_number (register s src)) (NotPointer dst) _ (some_unless (is_number (register s src)) (NotNumber src))
    ∙ ap not (and_true (is_pointer (register s dst) && is_number (register s src)))

pub operands_refused : (s : AbstractState) (i : Insn) → reads_any s i ≡ false → is_some (of_operands s i) ≡ not (have_right_kinds s i)
operands_refused s (Alu op width dst src) e = alu_refused s width op dst src e
operands_refused s (Neg width dst) e = some_unless (is_number (register s dst)) (NotNumber dst)
operands_refused s (MovSx width bits dst src) e = some_unless (is_number (register s src)) (NotNumber src)
operands_refused s (End kind bits dst) e = some_unless (is_number (register s dst)) (NotNumber dst)
operands_refused s (Load size dst src off) e = some_unless (is_pointer (register s src)) (NotPointer src)
operands_refused s (LoadSx size dst src off) e = some_unless (is_pointer (register s src)) (NotPointer src)
operands_refused s (Store size dst off src) e = store_refused off size dst (register s dst) (register s src)
operands_refused s (StoreImm size dst off imm) e = some_unless (is_pointer (register s dst)) (NotPointer dst)
operands_refused s (Atomic wide op dst off src) e = atomic_refused s op dst src
operands_refused s (JumpIf cond width dst src off) e = some_unless (can_test width cond (register s dst) (operand s src)) WrongTest
operands_refused s Exit e = some_unless (is_number (register s R0)) (NotNumber R0)
operands_refused s i e = refl

-- with what is read of slots
pub kinds_judged : (s : AbstractState) (i : Insn) (kinds part : Bool) → reads_any s i ≡ false → is_some (of_operands s i) ≡ kinds → reads_part s i ≡ part → (kinds || part) ≡ (not (reads_any s i) && has_wrong_kinds s i)
kinds_judged s i kinds part e f g =
    ap₂ (λ a b. a || b) (sym f ∙ operands_refused s i e) (sym g)
    ∙ sym (ap (λ unset. not unset && has_wrong_kinds s i) e)

-- ---- what is told holds

either : (P : Mistake → Type 0) (o q : Option Mistake) → IfSome o P → IfSome q P → IfSome (option_or o q) P
either P (Some m) q h k = h
either P None q h k = k

first : (r : Reg) (rs : List Reg) → Contains (r ∷ rs) r
first r rs = (0, omega arith, refl)

second : (q r : Reg) (rs : List Reg) → Contains (q ∷ r ∷ rs) r
second q r rs = (1, omega arith, refl)

number_shown : (s : AbstractState) (i : Insn) (r : Reg) → Contains (numbers_taken i) r → IfSome (unless_number s r) (Shows s i)
number_shown s i r taken = go (is_number (register s r)) refl
  where
    go : (b : Bool) → is_number (register s r) ≡ b → IfSome (if b then None else Some (NotNumber r)) (Shows s i)
    go true e = tt
    go false e = (taken, e)

pointer_shown : (s : AbstractState) (i : Insn) (r : Reg) → option_map (λ a. a.base) (access_of i) ≡ Some r → IfSome (unless_pointer s r) (Shows s i)
pointer_shown s i r base = go (is_pointer (register s r)) refl
  where
    go : (b : Bool) → is_pointer (register s r) ≡ b → IfSome (if b then None else Some (NotPointer r)) (Shows s i)
    go true e = tt
    go false e = (base, e)

operand_shown : (s : AbstractState) (i : Insn) (src : Operand) → ((r : Reg) → src ≡ FromReg r → Contains (numbers_taken i) r) → IfSome (unless_operand s src) (Shows s i)
operand_shown s i (Imm imm) taken = tt
operand_shown s i (FromReg r) taken = number_shown s i r (taken r refl)

-- arithmetic

sum_shown : (s : AbstractState) (dst : Reg) (src : Operand) → IfSome (of_sum (register s dst) (operand s src)) (Shows s (Alu Add W64 dst src))
sum_shown s dst src = go (is_pointer (register s dst) && is_pointer (operand s src)) refl
  where
    go : (b : Bool) → (is_pointer (register s dst) && is_pointer (operand s src)) ≡ b → IfSome (if b then Some PointersAdded else None) (Shows s (Alu Add W64 dst src))
    go true e = e
    go false e = tt

difference_shown : (s : AbstractState) (dst : Reg) (src : Operand) (a b : RegState) → register s dst ≡ a → operand s src ≡ b → IfSome (of_difference a b) (Shows s (Alu Sub W64 dst src))
difference_shown s dst src (Ptr p) (Ptr q) e f = go (same_area p.area q.area) refl
  where
    go : (b : Bool) → same_area p.area q.area ≡ b → IfSome (if b then None else Some OtherAreas) (Shows s (Alu Sub W64 dst src))
    go true h = tt
    go false h = ap₂ have_other_areas e f ∙ ap not h
difference_shown s dst src Any (Ptr q) e f = ap₂ (λ x y. not (is_pointer x) && is_pointer y) e f
difference_shown s dst src (Num m) (Ptr q) e f = ap₂ (λ x y. not (is_pointer x) && is_pointer y) e f
difference_shown s dst src Any Any e f = tt
difference_shown s dst src Any (Num n) e f = tt
difference_shown s dst src (Num m) Any e f = tt
difference_shown s dst src (Num m) (Num n) e f = tt
difference_shown s dst src (Ptr p) Any e f = tt
difference_shown s dst src (Ptr p) (Num n) e f = tt

plain_taken : (width : Width) (op : AluOp) (dst : Reg) (src : Operand) → IsPlain width op → dst ∷ operand_register src ≡ numbers_taken (Alu op width dst src)
plain_taken W64 Add dst src plain = absurd plain
plain_taken W64 Sub dst src plain = absurd plain
plain_taken W64 Mov dst src plain = absurd plain
plain_taken W32 Mov dst src plain = absurd plain
plain_taken width op dst src plain = refl

plain_shown : (s : AbstractState) (width : Width) (op : AluOp) (dst : Reg) (src : Operand) → IsPlain width op → IfSome (unless_numbers s dst src) (Shows s (Alu op width dst src))
plain_shown s width op dst src plain =
    let i = Alu op width dst src in
    either (Shows s i) (unless_number s dst) (unless_operand s src)
    (number_shown s i dst (subst (λ rs. Contains rs dst) (plain_taken width op dst src plain) (first dst (operand_register src))))
    (operand_shown s i src (λ r e. subst (λ rs. Contains rs r) (plain_taken width op dst src plain) (subst (λ o. Contains (dst ∷ operand_register o) r) (sym e) (second dst r []))))

alu_shown : (s : AbstractState) (width : Width) (op : AluOp) (dst : Reg) (src : Operand) → IfSome (of_alu s width op dst src) (Shows s (Alu op width dst src))
alu_shown s W64 Mov dst src = tt
alu_shown s W32 Mov dst src = operand_shown s (Alu Mov W32 dst src) src (λ r e. subst (λ o. Contains (operand_register o) r) (sym e) (first r []))
alu_shown s W64 Add dst src = sum_shown s dst src
alu_shown s W64 Sub dst src = difference_shown s dst src (register s dst) (operand s src) refl refl
alu_shown s width op dst src = plain_shown s width op dst src tt

-- accesses

no_pointer : (off : ℤ) (size : Size) (v : RegState) → span_at off size v ≡ None → is_pointer v ≡ false
no_pointer off size Any e = refl
no_pointer off size (Num n) e = refl
no_pointer off size (Ptr p) e = cc

store_shown : (s : AbstractState) (size : Size) (dst : Reg) (off : ℤ) (src : Reg) → IfSome (of_span dst (register s src) (span_at off size (register s dst))) (Shows s (Store size dst off src))
store_shown s size dst off src = at (span_at off size (register s dst)) refl
  where
    part : (p : Span) → span_at off size (register s dst) ≡ Some p → (a b : Bool) → is_pointer (register s src) ≡ a → is_slot p ≡ b → IfSome (if a && not b then Some StoredInPart else None) (Shows s (Store size dst off src))
    part p e true true f g = tt
    part p e true false f g = ap₂ (λ a o. a && some_passes (λ q. not (is_slot q)) o) f e ∙ ap not g
    part p e false true f g = tt
    part p e false false f g = tt

    at : (o : Option Span) → span_at off size (register s dst) ≡ o → IfSome (of_span dst (register s src) o) (Shows s (Store size dst off src))
    at None e = (refl, no_pointer off size (register s dst) e)
    at (Some p) e = part p e (is_pointer (register s src)) (is_slot p) refl refl

atomic_shown : (s : AbstractState) (wide : Bool) (op : AtomicOp) (dst : Reg) (off : ℤ) (src : Reg) → IfSome (of_atomic s op dst src) (Shows s (Atomic wide op dst off src))
atomic_shown s wide CmpXchg dst off src =
    let i = Atomic wide CmpXchg dst off src in
    either (Shows s i) (unless_pointer s dst) (option_or (unless_number s src) (unless_number s R0)) (pointer_shown s i dst refl)
    (either (Shows s i) (unless_number s src) (unless_number s R0) (number_shown s i src (first src (R0 ∷ []))) (number_shown s i R0 (second src R0 [])))
atomic_shown s wide op dst off src =
    let i = Atomic wide op dst off src in
    either (Shows s i) (unless_pointer s dst) (unless_number s src) (pointer_shown s i dst refl) (number_shown s i src (first src []))

test_shown : (s : AbstractState) (i : Insn) (b : Bool) → tests_wrongly s i ≡ not b → IfSome (if b then None else Some WrongTest) (Shows s i)
test_shown s i true e = tt
test_shown s i false e = e

pub operands_shown : (s : AbstractState) (i : Insn) → IfSome (of_operands s i) (Shows s i)
operands_shown s (Alu op width dst src) = alu_shown s width op dst src
operands_shown s (Neg width dst) = number_shown s (Neg width dst) dst (first dst [])
operands_shown s (MovSx width bits dst src) = number_shown s (MovSx width bits dst src) src (first src [])
operands_shown s (End kind bits dst) = number_shown s (End kind bits dst) dst (first dst [])
operands_shown s (Load size dst src off) = pointer_shown s (Load size dst src off) src refl
operands_shown s (LoadSx size dst src off) = pointer_shown s (LoadSx size dst src off) src refl
operands_shown s (Store size dst off src) = store_shown s size dst off src
operands_shown s (StoreImm size dst off imm) = pointer_shown s (StoreImm size dst off imm) dst refl
operands_shown s (Atomic wide op dst off src) = atomic_shown s wide op dst off src
operands_shown s (JumpIf cond width dst src off) = test_shown s (JumpIf cond width dst src off) (can_test width cond (register s dst) (operand s src)) refl
operands_shown s Exit = number_shown s Exit R0 (first R0 [])
operands_shown s i = tt
