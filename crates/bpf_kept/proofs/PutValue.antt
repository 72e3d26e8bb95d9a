-- What an instruction puts into a register: by what it depends on the registers and the memory, and on low halves alone.
use Rattle.std.proofs.Common.{◌≡◌, ℕ, zero, suc, ◌+◌, ◌%◌, ◌^◌, ◌<◌, ◌≤◌, refl, sym, ap, ap₂, ◌∙◌, subst, arith, true, ◌∷◌, length, Some}
use Rattle.std.specs.Prelude.{⊤, pos, get_or, bit_and, if◌then◌else◌}
use Rattle.std.specs.Int.{cast_signed, w32, byte_at, bytes_low_first}
use Rattle.std.specs.List.{AllByRecursion}
use Rattle.std.proofs.lemmas.Bool.{ltb-true, false≢true}
use Rattle.std.proofs.lemmas.List.{get_or-set_same}
use Rattle.std.proofs.lemmas.Nat.{and_le_r, and_mod}
use Rattle.std.proofs.lemmas.Option.{none-some, same_Some}
use Rattle.bpf_insn.specs.Arithmetic.{modulo, alu, compute, low, numbers, sign_type, sign_extend, swap_size, swapped}
use Rattle.bpf_insn.specs.Image.{HasEncoding}
use Rattle.bpf_insn.specs.Order.{bytes_of, number_of, reverses}
use mir.Val.{bits}
use Rattle.bpf_insn.specs.Effects.{registers_read, register_written, operand_register}
use Rattle.bpf_insn.specs.Instruction.{register_number, byte_count}
use Rattle.bpf_insn.specs.declared.order.Order.{Order}
use Rattle.bpf_insn.specs.declared.order.Order.TheVariants.{Little, Big}
use Rattle.bpf_insn.specs.declared.instruction.Reg.{Reg}
use Rattle.bpf_insn.specs.declared.instruction.Operand.{Operand}
use Rattle.bpf_insn.specs.declared.instruction.Operand.TheVariants.{Imm, Reg as FromReg}
use Rattle.bpf_insn.specs.declared.instruction.SignBits.{SignBits}
use Rattle.bpf_insn.specs.declared.instruction.SignBits.TheVariants.{B8, B16, B32}
use Rattle.bpf_insn.specs.declared.instruction.EndBits.{EndBits}
use Rattle.bpf_insn.specs.declared.instruction.EndBits.TheVariants.{B16 as E16, B32 as E32}
use Rattle.bpf_insn.specs.declared.instruction.EndKind.{EndKind}
use Rattle.bpf_insn.specs.declared.instruction.Width.TheVariants.{W32, W64}
use Rattle.bpf_insn.specs.declared.instruction.AluOp.{AluOp}
use Rattle.bpf_insn.specs.declared.instruction.AluOp.TheVariants.{Add, Sub, Mul, Div, SDiv, Or, And, Lsh, Rsh, Mod, SMod, Xor, Mov, Arsh}
use Rattle.bpf_insn.specs.declared.instruction.Insn.{Insn}
use Rattle.bpf_insn.specs.declared.instruction.Insn.TheVariants.{Alu, Neg, MovSx, End, LoadImm64, Load, LoadSx}
use Rattle.bpf_insn.proofs.RegisterLemmas.{reg_below}
use Rattle.bpf_semantics.specs.Step.{size_type}
use Rattle.bpf_semantics.specs.Flat.{FlatState, IsFlat, addresses, address, bytes_from, flat_register, flat_operand, flat_put, flat_next, flat_number, flat_does}
use Rattle.bpf_semantics.specs.FlatLaws.{in_registers}
use Rattle.bpf_semantics.proofs.FlatRegistersLaw.{flat_reads_registers}
use Rattle.bpf_kept.specs.Terms.{AreLow}
use Rattle.bpf_kept.specs.Rules.{put_into, reads_low}
use Rattle.bpf_kept.proofs.ZeroLaw.{does_keeps}

-- ---- what is put

abbrev pub put_value : Order → Insn → FlatState → ℕ
put_value order (Alu op width dst src) f = alu width op (flat_register f dst) (flat_operand f src)
put_value order (Neg width dst) f = alu width Sub 0 (flat_register f dst)
put_value order (MovSx width bits dst src) f = sign_extend bits width (flat_register f src)
put_value order (End kind bits dst) f = swapped order kind bits (flat_register f dst)
put_value order (LoadImm64 dst value) f = value
put_value order (Load size dst src off) f = flat_number order f (byte_count size) (address f src off)
put_value order (LoadSx size dst src off) f = modulo (cast_signed (size_type size) (flat_number order f (byte_count size) (address f src off))) addresses
put_value order i f = 0

pub put_does : (order : Order) (i : Insn) (r : Reg) (f : FlatState) → put_into i ≡ Some r → flat_does order i f ≡ Some (flat_put r (put_value order i f) (flat_next i f))
unfolding flat_does
put_does order (Alu op width dst src) r f e = let i : Insn = Alu op width dst src in subst (λ r. flat_does order i f ≡ Some (flat_put r (put_value order i f) (flat_next i f))) (same_Some dst r e) refl
put_does order (Neg width dst) r f e = let i : Insn = Neg width dst in subst (λ r. flat_does order i f ≡ Some (flat_put r (put_value order i f) (flat_next i f))) (same_Some dst r e) refl
put_does order (MovSx width bits dst src) r f e = let i : Insn = MovSx width bits dst src in subst (λ r. flat_does order i f ≡ Some (flat_put r (put_value order i f) (flat_next i f))) (same_Some dst r e) refl
put_does order (End kind bits dst) r f e = let i : Insn = End kind bits dst in subst (λ r. flat_does order i f ≡ Some (flat_put r (put_value order i f) (flat_next i f))) (same_Some dst r e) refl
put_does order (LoadImm64 dst value) r f e = let i : Insn = LoadImm64 dst value in subst (λ r. flat_does order i f ≡ Some (flat_put r (put_value order i f) (flat_next i f))) (same_Some dst r e) refl
put_does order (Load size dst src off) r f e = let i : Insn = Load size dst src off in subst (λ r. flat_does order i f ≡ Some (flat_put r (put_value order i f) (flat_next i f))) (same_Some dst r e) refl
put_does order (LoadSx size dst src off) r f e = let i : Insn = LoadSx size dst src off in subst (λ r. flat_does order i f ≡ Some (flat_put r (put_value order i f) (flat_next i f))) (same_Some dst r e) refl
put_does order i r f e = absurd (none-some _ e)

-- ---- what both read is the same

-- the bytes that are loaded
abbrev pub ReadsSame : Insn → FlatState → FlatState → Type 0
ReadsSame (Load size dst src off) f g = bytes_from g.memory (address g src off) (byte_count size) ≡ bytes_from f.memory (address g src off) (byte_count size)
ReadsSame (LoadSx size dst src off) f g = bytes_from g.memory (address g src off) (byte_count size) ≡ bytes_from f.memory (address g src off) (byte_count size)
ReadsSame i f g = ⊤

-- it depends on registers and these bytes alone
pub put_reads : (order : Order) (i : Insn) (f g : FlatState) → ReadsSame i f g → put_value order i (in_registers g.registers f) ≡ put_value order i g
put_reads order (Alu op width dst (Imm imm)) f g e = refl
put_reads order (Alu op width dst (FromReg r)) f g e = refl
put_reads order (Neg width dst) f g e = refl
put_reads order (MovSx width bits dst src) f g e = refl
put_reads order (End kind bits dst) f g e = refl
put_reads order (LoadImm64 dst value) f g e = refl
put_reads order (Load size dst src off) f g e = ap (number_of order (byte_count size)) (sym e)
put_reads order (LoadSx size dst src off) f g e = ap (λ bs. modulo (cast_signed (size_type size) (number_of order (byte_count size) bs)) addresses) (sym e)
put_reads order i f g e = refl

pub written_is : (i : Insn) (r : Reg) → put_into i ≡ Some r → register_written i ≡ Some r
written_is (Alu op width dst src) r e = e
written_is (Neg width dst) r e = e
written_is (MovSx width bits dst src) r e = e
written_is (End kind bits dst) r e = e
written_is (LoadImm64 dst value) r e = e
written_is (Load size dst src off) r e = e
written_is (LoadSx size dst src off) r e = e
written_is i r e = absurd (none-some _ e)

pub put_there : (f : FlatState) (i : Insn) (r : Reg) (x : ℕ) → length f.registers ≡ 11 → flat_register (flat_put r x (flat_next i f)) r ≡ x
put_there f i r x many = get_or-set_same f.registers (register_number r) x 0 (subst (λ k. register_number r < k) (sym many) (reg_below r))

pub put_same : (order : Order) (i : Insn) (r : Reg) (f g : FlatState) → put_into i ≡ Some r → length f.registers ≡ 11 → length g.registers ≡ 11 → ReadsSame i f g
    → AllByRecursion (λ r. get_or g.registers (register_number r) 0 ≡ flat_register f r) (registers_read i) → put_value order i g ≡ put_value order i f
put_same order i r f g e many many' reads agrees =
    let h : FlatState = in_registers g.registers f in
    let d = flat_reads_registers order i f (flat_put r (put_value order i f) (flat_next i f)) g.registers (put_does order i r f e) many many' agrees in
    let here : flat_put r (put_value order i h) (flat_next i h) ≡ d.after = same_Some _ _ (sym (put_does order i r h e) ∙ d.does) in
    sym (put_reads order i f g reads) ∙ sym (put_there h i r (put_value order i h) many') ∙ ap (λ s. flat_register s r) here ∙ d.result r (written_is i r e) ∙ put_there f i r (put_value order i f) many

-- what is put has 64 bits
pub put_below : (order : Order) (i : Insn) (r : Reg) (f : FlatState) → put_into i ≡ Some r → HasEncoding i → IsFlat f → put_value order i f < addresses
put_below order i r f e enc flat =
    let k = does_keeps order i f (flat_put r (put_value order i f) (flat_next i f)) enc flat (put_does order i r f e) in
    subst (λ z. z < addresses) (put_there f i r (put_value order i f) flat.eleven) (k.flat.numbers (register_number r))

-- ---- low halves

pub operand_low : (f g : FlatState) (src : Operand) → AllByRecursion (λ r. AreLow (flat_register f r) (get_or g.registers (register_number r) 0)) (operand_register src) → AreLow (flat_operand f src) (flat_operand g src)
operand_low f g (Imm imm) h = refl
operand_low f g (FromReg r) h = h.0

pub both_low : (f g : FlatState) (op : AluOp) (dst : Reg) (src : Operand) → AreLow (flat_register f dst) (flat_register g dst) → AllByRecursion (λ r. AreLow (flat_register f r) (get_or g.registers (register_number r) 0)) (operand_register src)
    → alu W32 op (flat_register g dst) (flat_operand g src) ≡ alu W32 op (flat_register f dst) (flat_operand f src)
both_low f g op dst src h hs = ap₂ (λ a b. compute w32 op a b) h (operand_low f g src hs)

pub alu_low : (f g : FlatState) (op : AluOp) (dst : Reg) (src : Operand) → AllByRecursion (λ r. AreLow (flat_register f r) (get_or g.registers (register_number r) 0)) (registers_read (Alu op W32 dst src))
    → alu W32 op (flat_register g dst) (flat_operand g src) ≡ alu W32 op (flat_register f dst) (flat_operand f src)
alu_low f g Mov dst src h = operand_low f g src h
alu_low f g Add dst src h = both_low f g Add dst src h.0 h.1
alu_low f g Sub dst src h = both_low f g Sub dst src h.0 h.1
alu_low f g Mul dst src h = both_low f g Mul dst src h.0 h.1
alu_low f g Div dst src h = both_low f g Div dst src h.0 h.1
alu_low f g SDiv dst src h = both_low f g SDiv dst src h.0 h.1
alu_low f g Or dst src h = both_low f g Or dst src h.0 h.1
alu_low f g And dst src h = both_low f g And dst src h.0 h.1
alu_low f g Lsh dst src h = both_low f g Lsh dst src h.0 h.1
alu_low f g Rsh dst src h = both_low f g Rsh dst src h.0 h.1
alu_low f g Mod dst src h = both_low f g Mod dst src h.0 h.1
alu_low f g SMod dst src h = both_low f g SMod dst src h.0 h.1
alu_low f g Xor dst src h = both_low f g Xor dst src h.0 h.1
alu_low f g Arsh dst src h = both_low f g Arsh dst src h.0 h.1

pub low_part : (b : SignBits) (x y : ℕ) → AreLow x y → y % 2 ^ bits (sign_type b) ≡ x % 2 ^ bits (sign_type b)
low_part B8 x y h = omega arith
low_part B16 x y h = omega arith
low_part B32 x y h = h

pub mask_low : (x y n : ℕ) → n < 2 ^ 32 → AreLow x y → bit_and y (n % 2 ^ 64) ≡ bit_and x (n % 2 ^ 64)
mask_low x y n small low =
    let same : n % 2 ^ 64 ≡ n = omega arith in
    let a = and_le_r y n in
    let b = and_le_r x n in
    let left : bit_and y n ≡ bit_and y n % 2 ^ 32 = omega arith in
    let right : bit_and x n % 2 ^ 32 ≡ bit_and x n = omega arith in
    subst (λ m. bit_and y m ≡ bit_and x m) (sym same) (left ∙ and_mod y n 32 ∙ ap (λ z. bit_and z (n % 2 ^ 32)) low ∙ sym (and_mod x n 32) ∙ right)

pub byte_low : (i x y : ℕ) → i < 4 → AreLow x y → byte_at i y ≡ byte_at i x
byte_low zero x y lt h = omega arith
byte_low (suc zero) x y lt h = omega arith
byte_low (suc (suc zero)) x y lt h = omega arith
byte_low (suc (suc (suc zero))) x y lt h = omega arith
byte_low (suc (suc (suc (suc i)))) x y lt h = absurd (omega arith)

pub bytes_from_low : (i n x y : ℕ) → i + n ≤ 4 → AreLow x y → bytes_low_first i n y ≡ bytes_low_first i n x
bytes_from_low i zero x y le h = refl
bytes_from_low i (suc n) x y le h = ap₂ (λ b bs. b ∷ bs) (byte_low i x y (omega arith) h) (bytes_from_low (suc i) n x y (omega arith) h)

pub bytes_low : (n x y : ℕ) → n ≤ 4 → AreLow x y → bytes_of Little n y ≡ bytes_of Little n x
bytes_low n x y le h = bytes_from_low 0 n x y (omega arith) h

pub swap_low : (order : Order) (kind : EndKind) (size : EndBits) (x y : ℕ) → bytes_of Little (swap_size size) y ≡ bytes_of Little (swap_size size) x → y % 256 ^ swap_size size ≡ x % 256 ^ swap_size size → swapped order kind size y ≡ swapped order kind size x
swap_low order kind size x y e h = ap₂ (λ bs z. if reverses order kind then number_of Big (swap_size size) bs else z) e h

pub put_low : (order : Order) (i : Insn) (f g : FlatState) → reads_low i ≡ true → AllByRecursion (λ r. AreLow (flat_register f r) (get_or g.registers (register_number r) 0)) (registers_read i) → put_value order i g ≡ put_value order i f
put_low order (Alu op W32 dst src) f g e h = alu_low f g op dst src h
put_low order (Alu And W64 dst (Imm (pos n))) f g e h = mask_low (flat_register f dst) (flat_register g dst) n (ltb-true n (2 ^ 32) e) h.0
put_low order (Alu op W64 dst src) f g e h = absurd (false≢true e)
put_low order (Neg W32 dst) f g e h = ap (λ a. compute w32 Sub (low W32 0) a) h.0
put_low order (Neg W64 dst) f g e h = absurd (false≢true e)
put_low order (MovSx width b dst src) f g e h = ap (λ z. modulo (cast_signed (sign_type b) z) (2 ^ bits (numbers width))) (low_part b (flat_register f src) (flat_register g src) h.0)
put_low order (End kind E16 dst) f g e h = let low = h.0 in swap_low order kind E16 (flat_register f dst) (flat_register g dst) (bytes_low 2 (flat_register f dst) (flat_register g dst) (omega arith) h.0) (omega arith)
put_low order (End kind E32 dst) f g e h = let low = h.0 in swap_low order kind E32 (flat_register f dst) (flat_register g dst) (bytes_low 4 (flat_register f dst) (flat_register g dst) (omega arith) h.0) (omega arith)
put_low order (End kind b dst) f g e h = absurd (false≢true e)
put_low order (LoadImm64 dst value) f g e h = absurd (false≢true e)
put_low order (Load size dst src off) f g e h = absurd (false≢true e)
put_low order (LoadSx size dst src off) f g e h = absurd (false≢true e)
put_low order i f g e h = refl
