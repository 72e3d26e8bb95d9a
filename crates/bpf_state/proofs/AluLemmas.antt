-- What arithmetic instructions make of a state.
use Rattle.std.proofs.Common.{◌≡◌, ℕ, ℤ, refl, ◌+ℤ◌, ◌-ℤ◌, sym, ◌∙◌, ap, ap₂, arith, to_z, of_z, true, false, Bool, Option, Some, None}
use Rattle.std.specs.Prelude.{FitsSigned, ◌||◌, not, is_some, Ok, Err, option_map, option_and_then, if◌then◌else◌}
use Rattle.std.specs.Int.{w64, w128}
use Rattle.std.proofs.lemmas.Bool.{false≢true}
use Rattle.std.proofs.lemmas.Int.{ints, to_z-of_z}
use Rattle.bpf_insn.specs.Effects.{is_frame_pointer}
use Rattle.bpf_insn.specs.declared.order.Order.{Order}
use Rattle.bpf_insn.specs.declared.instruction.Reg.{Reg}
use Rattle.bpf_insn.specs.declared.instruction.Operand.{Operand}
use Rattle.bpf_insn.specs.declared.instruction.Width.{Width}
use Rattle.bpf_insn.specs.declared.instruction.Width.TheVariants.{W32, W64}
use Rattle.bpf_insn.specs.declared.instruction.AluOp.{AluOp}
use Rattle.bpf_insn.specs.declared.instruction.AluOp.TheVariants.{Add, Sub, Mov}
use Rattle.bpf_insn.specs.declared.instruction.Insn.TheVariants.{Alu}
use Rattle.bpf_num.specs.Tristate.{bits_top}
use Rattle.bpf_num.specs.Interval.{unsigned_top}
use Rattle.bpf_num.specs.SignedInterval.{SignedInterval, signed_interval, signed_sub}
use Rattle.bpf_num.specs.Number.{Number, number, constant, tighten}
use Rattle.bpf_num.specs.Operation.{num_alu}
use Rattle.bpf_state.specs.declared.known.RegState.{RegState}
use Rattle.bpf_state.specs.declared.known.RegState.TheVariants.{Any, Num, Ptr}
use Rattle.bpf_state.specs.declared.known.Pointer.{Pointer}
use Rattle.bpf_state.specs.declared.fault.StateFault.TheVariants.{WrongKinds, OutOfBounds}
use Rattle.bpf_state.specs.declared.known.Tag.{Tag}
use Rattle.bpf_state.specs.State.{AbstractState, register, put_register, same_area}
use Rattle.bpf_state.specs.Fault.{operand, is_pointer, difference, some_passes, leaves_bounds, alu_of_kinds, makes_far_pointer, reads_any}
use Rattle.bpf_state.specs.Transfer.{Outcome, Faulty, Live, live, unless, transfer, operand_tag, alu_tag}
use Rattle.bpf_state.specs.Condition.{fault_number}
use Rattle.bpf_state.specs.code.Results.{Known, moved_pointer, judged_result, numbers_result, result_of, written}

-- the code holds sums of 64-bit numbers in 128 bits
abbrev pub held : ℤ → ℤ
held z = to_z w128 (of_z w128 z)

abbrev pub wide : ℤ → ℤ
wide z = held (to_z w64 (of_z w64 z))

wide_is : (z : ℤ) → FitsSigned w64 z → wide z ≡ z
wide_is z f = ap held (to_z-of_z w64 z f) ∙ omega (arith, ints)

held_sum : (x y : ℤ) → FitsSigned w64 x → FitsSigned w64 y → held (x +ℤ y) ≡ x +ℤ y
held_sum x y f g = omega (arith, ints)

held_rest : (x y : ℤ) → FitsSigned w64 x → FitsSigned w64 y → held (x -ℤ y) ≡ x -ℤ y
held_rest x y f g = omega (arith, ints)

pub sum_is : (x y : ℤ) → FitsSigned w64 x → FitsSigned w64 y → held (wide x +ℤ wide y) ≡ x +ℤ y
sum_is x y f g = ap₂ (λ a b. held (a +ℤ b)) (wide_is x f) (wide_is y g) ∙ held_sum x y f g

pub rest_is : (x y : ℤ) → FitsSigned w64 x → FitsSigned w64 y → held (wide x -ℤ wide y) ≡ x -ℤ y
rest_is x y f g = ap₂ (λ a b. held (a -ℤ b)) (wide_is x f) (wide_is y g) ∙ held_rest x y f g

-- ---- results

pub judged_number : (op : AluOp) (o : Option Number) → ◌≡◌ {A = Known} (Ok (option_map Num o)) (judged_result op (Some (option_map Num o)))
judged_number op None = refl
judged_number Mov (Some n) = refl
judged_number op (Some n) = refl

pub difference_held : (a A b B : ℤ) → FitsSigned w64 a → FitsSigned w64 A → FitsSigned w64 b → FitsSigned w64 B → difference (to_z w64 (of_z w64 a)) (to_z w64 (of_z w64 A)) (to_z w64 (of_z w64 b)) (to_z w64 (of_z w64 B)) ≡ difference a A b B
difference_held a A b B f g h k =
    ap₂ (λ (r t : SignedInterval). option_map Num (tighten (number bits_top unsigned_top (signed_sub r t))))
    (ap₂ signed_interval (to_z-of_z w64 a f) (to_z-of_z w64 A g))
    (ap₂ signed_interval (to_z-of_z w64 b h) (to_z-of_z w64 B k))

-- two pointers, into the same or not
pub same_rest : (p q : Pointer) (d : Option RegState) → same_area p.area q.area ≡ true → d ≡ difference p.lo p.hi q.lo q.hi → ◌≡◌ {A = Known} (Ok d) (result_of W64 Sub (Ptr p) (Ptr q))
same_rest p q d e f =
    ap Ok f
    ∙ judged_number Sub (tighten (number bits_top unsigned_top (signed_sub (signed_interval p.lo p.hi) (signed_interval q.lo q.hi))))
    ∙ sym (ap (λ same. judged_result Sub (if same then Some (difference p.lo p.hi q.lo q.hi) else None)) e)

pub other_rest : (p q : Pointer) → same_area p.area q.area ≡ false → ◌≡◌ {A = Known} (Err WrongKinds) (result_of W64 Sub (Ptr p) (Ptr q))
other_rest p q e = sym (ap (λ same. judged_result Sub (if same then Some (difference p.lo p.hi q.lo q.hi) else None)) e)

-- an operation on numbers alone
abbrev pub IsPlain : Width → AluOp → Type 0
IsPlain W64 Add = ⊥
IsPlain W64 Sub = ⊥
IsPlain W64 Mov = ⊥
IsPlain W32 Mov = ⊥
IsPlain width op = Unit {0}

pub plain_result : (width : Width) (op : AluOp) (a b : RegState) → IsPlain width op → numbers_result width op a b ≡ result_of width op a b
plain_result W64 Add a b plain = absurd plain
plain_result W64 Sub a b plain = absurd plain
plain_result W64 Mov a b plain = absurd plain
plain_result W32 Mov a b plain = absurd plain
plain_result width op (Num m) (Num n) plain = judged_number op (num_alu width op m n)
plain_result width op (Num m) Any plain = refl
plain_result width op (Num m) (Ptr q) plain = refl
plain_result width op Any Any plain = refl
plain_result width op Any (Num n) plain = refl
plain_result width op Any (Ptr q) plain = refl
plain_result width op (Ptr p) Any plain = refl
plain_result width op (Ptr p) (Num n) plain = refl
plain_result width op (Ptr p) (Ptr q) plain = refl

pub others_plain : (op : AluOp) (width : Width) → (op ≡ Mov → ⊥) → (op ≡ Add → ⊥) → (op ≡ Sub → ⊥) → IsPlain width op
others_plain Mov width f g h = absurd (f refl)
others_plain Add width f g h = absurd (g refl)
others_plain Sub width f g h = absurd (h refl)
others_plain op W32 f g h = tt
others_plain op W64 f g h = tt

-- from what is no pointer
pub difference_plain : (a b : RegState) → is_pointer a ≡ false → numbers_result W64 Sub a b ≡ result_of W64 Sub a b
difference_plain (Num m) (Num n) e = judged_number Sub (num_alu W64 Sub m n)
difference_plain (Num m) (Ptr q) e = refl
difference_plain (Num m) Any e = refl
difference_plain Any (Num n) e = refl
difference_plain Any (Ptr q) e = refl
difference_plain Any Any e = refl
difference_plain (Ptr p) b e = absurd (false≢true (sym e))

-- ---- pointers that go too far

abbrev is_far : AluOp → Option (Option RegState) → Bool
is_far Mov kinds = false
is_far op kinds = some_passes leaves_bounds (option_and_then (λ r. r) kinds)

numbers_near : (op : AluOp) (o : Option Number) → is_far op (Some (option_map Num o)) ≡ false
numbers_near Mov o = refl
numbers_near op None = refl
numbers_near op (Some n) = refl

difference_near : (same : Bool) (o : Option Number) → is_far Sub (if same then Some (option_map Num o) else None) ≡ false
difference_near true o = numbers_near Sub o
difference_near false o = refl

moved_far : (width : Width) (op : AluOp) (a b : RegState) → is_far op (alu_of_kinds width op a b) ≡ some_passes leaves_bounds (moved_pointer width op a b)
moved_far W64 Mov a b = refl
moved_far W32 Mov a b = refl
moved_far W64 Add (Ptr p) (Num n) = refl
moved_far W64 Add (Num m) (Ptr q) = refl
moved_far W64 Sub (Ptr p) (Num n) = refl
moved_far W64 Sub (Ptr p) (Ptr q) = difference_near (same_area p.area q.area) (tighten (number bits_top unsigned_top (signed_sub (signed_interval p.lo p.hi) (signed_interval q.lo q.hi))))
moved_far width op (Num m) (Num n) = numbers_near op (num_alu width op m n)
moved_far width op (Num m) (Ptr q) = refl
moved_far width op (Num m) Any = refl
moved_far width op (Ptr p) (Num n) = refl
moved_far width op (Ptr p) (Ptr q) = refl
moved_far width op (Ptr p) Any = refl
moved_far width op Any (Num n) = refl
moved_far width op Any (Ptr q) = refl
moved_far width op Any Any = refl

pub moved_told : (s : AbstractState) (width : Width) (op : AluOp) (dst : Reg) (src : Operand) → some_passes leaves_bounds (moved_pointer width op (register s dst) (operand s src)) ≡ makes_far_pointer s (Alu op width dst src)
moved_told s width Mov dst src = sym (moved_far width Mov (register s dst) (operand s src))
moved_told s width op dst src = sym (moved_far width op (register s dst) (operand s src))

-- ---- outcomes

abbrev told : AluOp → Bool → Option (Option RegState) → Reg → Option Tag → AbstractState → Outcome
told op unset kinds dst tag s =
    unless
    (if unset then Some 3
    else if not (is_some kinds) || false then Some 4
    else if is_far op kinds || false then Some 5
    else if false then Some 6
    else if is_frame_pointer dst || false then Some 7
    else None)
    (live (option_map (λ v. put_register dst v tag s) (option_and_then (λ r. r) kinds)))

alu_told : (order : Order) (op : AluOp) (width : Width) (dst : Reg) (src : Operand) (least : ℕ) (s : AbstractState) → transfer order (Alu op width dst src) least s ≡ told op (reads_any s (Alu op width dst src)) (alu_of_kinds width op (register s dst) (operand s src)) dst (alu_tag s width op dst src) s
alu_told order Mov width dst src least s = refl
alu_told order op width dst src least s = refl

abbrev pub judged : Known → Reg → Option Tag → AbstractState → Outcome
judged (Err fault) dst tag s = Faulty (fault_number fault)
judged (Ok known) dst tag s = written dst known tag s

protected_told : (ten : Bool) (o : Outcome) → unless (if ten || false then Some 7 else None) o ≡ (if ten then Faulty 7 else o)
protected_told true o = refl
protected_told false o = refl

near_told : (far : Bool) (v : RegState) (dst : Reg) (tag : Option Tag) (s : AbstractState) → unless (if far || false then Some 5 else if is_frame_pointer dst || false then Some 7 else None) (live (Some (put_register dst v tag s))) ≡ judged (if far then Err OutOfBounds else Ok (Some v)) dst tag s
near_told true v dst tag s = refl
near_told false v dst tag s = protected_told (is_frame_pointer dst) (live (Some (put_register dst v tag s)))

judged_is : (op : AluOp) (kinds : Option (Option RegState)) (dst : Reg) (tag : Option Tag) (s : AbstractState) → told op false kinds dst tag s ≡ judged (judged_result op kinds) dst tag s
judged_is op None dst tag s = refl
judged_is Mov (Some None) dst tag s = protected_told (is_frame_pointer dst) (live None)
judged_is op (Some None) dst tag s = protected_told (is_frame_pointer dst) (live None)
judged_is Mov (Some (Some v)) dst tag s = protected_told (is_frame_pointer dst) (live (Some (put_register dst v tag s)))
judged_is op (Some (Some v)) dst tag s = near_told (leaves_bounds v) v dst tag s

pub alu_known : (order : Order) (op : AluOp) (width : Width) (dst : Reg) (src : Operand) (least : ℕ) (s : AbstractState) (k : Known) → reads_any s (Alu op width dst src) ≡ false → k ≡ result_of width op (register s dst) (operand s src) → judged k dst (alu_tag s width op dst src) s ≡ transfer order (Alu op width dst src) least s
alu_known order op width dst src least s k e f =
    let kinds = alu_of_kinds width op (register s dst) (operand s src) in
    let tag = alu_tag s width op dst src in
    ap (λ x. judged x dst tag s) f
    ∙ sym (alu_told order op width dst src least s ∙ ap (λ unset. told op unset kinds dst tag s) e ∙ judged_is op kinds dst tag s)

-- a number that is computed at once, in a register without a counter
pub exact_done : (order : Order) (op : AluOp) (width : Width) (dst : Reg) (src : Operand) (least : ℕ) (s : AbstractState) (z : ℕ) → reads_any s (Alu op width dst src) ≡ false → is_frame_pointer dst ≡ false → alu_tag s width op dst src ≡ None → ◌≡◌ {A = Known} (result_of width op (register s dst) (operand s src)) (Ok (Some (Num (constant z)))) → Live (put_register dst (Num (constant z)) None s) ≡ transfer order (Alu op width dst src) least s
exact_done order op width dst src least s z e f t v =
    ap (λ tag. Live (put_register dst (Num (constant z)) tag s)) (sym t)
    ∙ sym (ap (λ ten. if ten then Faulty 7 else Live (put_register dst (Num (constant z)) (alu_tag s width op dst src) s)) f)
    ∙ alu_known order op width dst src least s (Ok (Some (Num (constant z)))) e (sym v)

-- a move of 64 bits
told_first : (b : Bool) (rest : Option ℕ) (o : Outcome) → b ≡ true → Faulty 3 ≡ unless (if b then Some 3 else rest) o
told_first true rest o e = refl
told_first false rest o e = absurd (false≢true e)

pub move_unset : (order : Order) (dst : Reg) (src : Operand) (least : ℕ) (s : AbstractState) → reads_any s (Alu Mov W64 dst src) ≡ true → Faulty 3 ≡ transfer order (Alu Mov W64 dst src) least s
move_unset order dst src least s e = told_first (reads_any s (Alu Mov W64 dst src)) _ _ e

move_told : (order : Order) (dst : Reg) (src : Operand) (least : ℕ) (s : AbstractState) (ten : Bool) → reads_any s (Alu Mov W64 dst src) ≡ false → is_frame_pointer dst ≡ ten → (if ten then Faulty 7 else Live (put_register dst (operand s src) (operand_tag s src) s)) ≡ transfer order (Alu Mov W64 dst src) least s
move_told order dst src least s ten e f =
    sym (ap (λ b. if b then Faulty 7 else Live (put_register dst (operand s src) (operand_tag s src) s)) f)
    ∙ alu_known order Mov W64 dst src least s (Ok (Some (operand s src))) e refl

pub move_protected : (order : Order) (dst : Reg) (src : Operand) (least : ℕ) (s : AbstractState) → reads_any s (Alu Mov W64 dst src) ≡ false → is_frame_pointer dst ≡ true → Faulty 7 ≡ transfer order (Alu Mov W64 dst src) least s
move_protected order dst src least s e f = move_told order dst src least s true e f

pub move_done : (order : Order) (dst : Reg) (src : Operand) (least : ℕ) (s : AbstractState) → reads_any s (Alu Mov W64 dst src) ≡ false → is_frame_pointer dst ≡ false → Live (put_register dst (operand s src) (operand_tag s src) s) ≡ transfer order (Alu Mov W64 dst src) least s
move_done order dst src least s e f = move_told order dst src least s false e f
