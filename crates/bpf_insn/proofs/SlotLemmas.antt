-- The bytes of a slot and its fields, both ways; what begins in bytes, and what has a fault there.
use Rattle.std.proofs.Common.{◌≡◌, ℕ, ◌+◌, ◌*◌, ◌/◌, ◌%◌, ◌^◌, ◌<◌, ◌≤◌, cond, true, false, List, [], ◌∷◌, ◌++◌, length, take, refl, ap, ap₂, sym, ◌∙◌, subst, arith, rules, lit<}
use Rattle.std.specs.Prelude.{ℤ, pos, FitsSigned}
use Rattle.std.proofs.Math.Facts.{sfits_to_z, Fits-of_z}
use Rattle.std.proofs.lemmas.Int.{to_z-of_z, of_z-to_z}
use Rattle.std.specs.Int.{cast_signed, cast_unsigned, w16, w32}
use mir.Val.{Fits}
use Rattle.byteorder.specs.Numbers.{big_number-reads_back, little_number-reads_back}
use Rattle.bpf_insn.specs.Order.{bytes_of, number_of, register_byte, dst_in, src_in}
use Rattle.bpf_insn.specs.Instruction.{register_number}
use Rattle.bpf_insn.specs.Image.{fields, alu_offset, source_imm, atomic_code, HasEncoding, OperandFits, slot_bytes}
use Rattle.bpf_insn.specs.Refusal.{fields_in}
use Rattle.bpf_insn.specs.Laws.{AreBytes}
use Rattle.bpf_insn.specs.declared.order.Order.{Order}
use Rattle.bpf_insn.specs.declared.order.Order.TheVariants.{Little, Big}
use Rattle.bpf_insn.specs.declared.fields.Fields.{Fields}
use Rattle.bpf_insn.specs.declared.instruction.Reg.{Reg}
use Rattle.bpf_insn.specs.declared.instruction.Reg.TheVariants.{R0}
use Rattle.bpf_insn.specs.declared.instruction.Operand.{Operand}
use Rattle.bpf_insn.specs.declared.instruction.Operand.TheVariants.{Imm, Reg as RegOperand}
use Rattle.bpf_insn.specs.declared.instruction.AluOp.{AluOp}
use Rattle.bpf_insn.specs.declared.instruction.AluOp.TheVariants.{SDiv, SMod}
use Rattle.bpf_insn.specs.declared.instruction.AtomicOp.{AtomicOp}
use Rattle.bpf_insn.specs.declared.instruction.Size.TheVariants.{DW}
use Rattle.bpf_insn.specs.declared.instruction.SignBits.TheVariants.{B8 as S8, B16 as S16, B32 as S32}
use Rattle.bpf_insn.specs.declared.instruction.EndBits.TheVariants.{B16 as E16, B32 as E32, B64 as E64}
use Rattle.bpf_insn.specs.declared.instruction.Modify.TheVariants.{Add as AddTo}
use Rattle.bpf_insn.specs.declared.instruction.AtomicOp.TheVariants.{Modify as Changes, Xchg, CmpXchg}
use Rattle.bpf_insn.specs.declared.instruction.Insn.{Insn}
use Rattle.bpf_insn.specs.declared.instruction.Insn.TheVariants.{Alu, MovSx, End, LoadImm64, Load, LoadSx, Store, StoreImm, Atomic, Ja, JaLong, JumpIf, CallLocal}
use Rattle.bpf_insn.proofs.FormLemmas.{fields-dst, fields-src, field_target, field_source}

-- ---- numbers in bytes

two_low : (a b : ℕ) → a < 256 → b < 256 → bytes_of Little 2 (a + 256 * (b + 256 * 0)) ≡ a ∷ b ∷ []
two_low a b ha hb = ap₂ (λ x y. x ∷ y ∷ []) (omega arith) (omega arith)

two_high : (a b : ℕ) → a < 256 → b < 256 → bytes_of Big 2 (number_of Big 2 (a ∷ b ∷ [])) ≡ a ∷ b ∷ []
two_high a b ha hb = ap₂ (λ x y. x ∷ y ∷ []) (omega arith) (omega arith)

four_low : (a b c d : ℕ) → a < 256 → b < 256 → c < 256 → d < 256 → bytes_of Little 4 (a + 256 * (b + 256 * (c + 256 * (d + 256 * 0)))) ≡ a ∷ b ∷ c ∷ d ∷ []
four_low a b c d ha hb hc hd =
    let n : ℕ = a + 256 * (b + 256 * (c + 256 * (d + 256 * 0))) in
    let e0 : n % 256 ≡ a = omega arith in
    let e1 : n / 256 % 256 ≡ b = omega arith in
    let e2 : n / 65536 % 256 ≡ c = omega arith in
    let e3 : n / 16777216 % 256 ≡ d = omega arith in
    ap₂ (λ x xs. x ∷ xs) e0 (ap₂ (λ x xs. x ∷ xs) e1 (ap₂ (λ x xs. x ∷ xs) e2 (ap (λ x. x ∷ []) e3)))

four_high : (a b c d : ℕ) → a < 256 → b < 256 → c < 256 → d < 256 → bytes_of Big 4 (number_of Big 4 (a ∷ b ∷ c ∷ d ∷ [])) ≡ a ∷ b ∷ c ∷ d ∷ []
four_high a b c d ha hb hc hd =
    let n : ℕ = number_of Big 4 (a ∷ b ∷ c ∷ d ∷ []) in
    let e0 : n / 16777216 % 256 ≡ a = omega arith in
    let e1 : n / 65536 % 256 ≡ b = omega arith in
    let e2 : n / 256 % 256 ≡ c = omega arith in
    let e3 : n % 256 ≡ d = omega arith in
    ap₂ (λ x xs. x ∷ xs) e0 (ap₂ (λ x xs. x ∷ xs) e1 (ap₂ (λ x xs. x ∷ xs) e2 (ap (λ x. x ∷ []) e3)))

two_back : (order : Order) (a b : ℕ) (rest : List ℕ) → a < 256 → b < 256 → bytes_of order 2 (number_of order 2 (a ∷ b ∷ rest)) ≡ a ∷ b ∷ []
two_back Little a b rest ha hb = two_low a b ha hb
two_back Big a b rest ha hb = two_high a b ha hb

pub four_back : (order : Order) (a b c d : ℕ) (rest : List ℕ) → a < 256 → b < 256 → c < 256 → d < 256 → bytes_of order 4 (number_of order 4 (a ∷ b ∷ c ∷ d ∷ rest)) ≡ a ∷ b ∷ c ∷ d ∷ []
four_back Little a b c d rest ha hb hc hd = four_low a b c d ha hb hc hd
four_back Big a b c d rest ha hb hc hd = four_high a b c d ha hb hc hd

two_fits : (order : Order) (a b : ℕ) (rest : List ℕ) → a < 256 → b < 256 → number_of order 2 (a ∷ b ∷ rest) < 65536
two_fits Little a b rest ha hb = omega arith
two_fits Big a b rest ha hb = omega arith

pub four_fits : (order : Order) (a b c d : ℕ) (rest : List ℕ) → a < 256 → b < 256 → c < 256 → d < 256 → number_of order 4 (a ∷ b ∷ c ∷ d ∷ rest) < 4294967296
four_fits Little a b c d rest ha hb hc hd = omega arith
four_fits Big a b c d rest ha hb hc hd = omega arith

registers_back : (order : Order) (r : ℕ) → r < 256 → register_byte order (dst_in order r) (src_in order r) ≡ r
registers_back Little r h = omega arith
registers_back Big r h = omega arith

-- ---- from bytes to fields and back

eight_bytes : (order : Order) (op r o p i j k l : ℕ) (rest : List ℕ) → r < 256 → o < 256 → p < 256 → i < 256 → j < 256 → k < 256 → l < 256 → slot_bytes order (fields_in order (op ∷ r ∷ o ∷ p ∷ i ∷ j ∷ k ∷ l ∷ rest)) ≡ op ∷ r ∷ o ∷ p ∷ i ∷ j ∷ k ∷ l ∷ []
eight_bytes order op r o p i j k l rest hr ho hp hi hj hk hl =
    let m : ℕ = number_of order 2 (o ∷ p ∷ i ∷ j ∷ k ∷ l ∷ rest) in
    let n : ℕ = number_of order 4 (i ∷ j ∷ k ∷ l ∷ rest) in
    let two : cast_unsigned w16 (cast_signed w16 m) ≡ m = of_z-to_z w16 m (two_fits order o p (i ∷ j ∷ k ∷ l ∷ rest) ho hp) in
    let four : cast_unsigned w32 (cast_signed w32 n) ≡ n = of_z-to_z w32 n (four_fits order i j k l rest hi hj hk hl) in
    ap₂ (λ x xs. op ∷ x ∷ xs) (registers_back order r hr)
    (ap₂ (λ xs ys. xs ++ ys) (ap (bytes_of order 2) two ∙ two_back order o p (i ∷ j ∷ k ∷ l ∷ rest) ho hp) (ap (bytes_of order 4) four ∙ four_back order i j k l rest hi hj hk hl))

-- the bytes of the fields that stand in eight bytes are those bytes
pub slot_bytes-fields_in : (order : Order) (bytes : List ℕ) → AreBytes bytes → 8 ≤ length bytes → slot_bytes order (fields_in order bytes) ≡ take 8 bytes
slot_bytes-fields_in order [] h n = absurd (omega arith)
slot_bytes-fields_in order (a ∷ []) h n = absurd (omega arith)
slot_bytes-fields_in order (a ∷ b ∷ []) h n = absurd (omega arith)
slot_bytes-fields_in order (a ∷ b ∷ c ∷ []) h n = absurd (omega arith)
slot_bytes-fields_in order (a ∷ b ∷ c ∷ d ∷ []) h n = absurd (omega arith)
slot_bytes-fields_in order (a ∷ b ∷ c ∷ d ∷ e ∷ []) h n = absurd (omega arith)
slot_bytes-fields_in order (a ∷ b ∷ c ∷ d ∷ e ∷ f ∷ []) h n = absurd (omega arith)
slot_bytes-fields_in order (a ∷ b ∷ c ∷ d ∷ e ∷ f ∷ g ∷ []) h n = absurd (omega arith)
slot_bytes-fields_in order (op ∷ r ∷ o ∷ p ∷ i ∷ j ∷ k ∷ l ∷ rest) h n = eight_bytes order op r o p i j k l rest (h 1) (h 2) (h 3) (h 4) (h 5) (h 6) (h 7)

-- ---- from fields to bytes and back

-- what the fields of an instruction fit
pub record FieldsFit (f : Fields) : Type 0 where
  pub dst : f.dst < 16
  pub src : f.src < 16
  pub offset : FitsSigned w16 f.offset
  pub imm : FitsSigned w32 f.imm

register_fits : (r : Reg) → register_number r < 16
register_fits R0 = lit< tt
register_fits r = lit< tt

short : (n : ℕ) → n < 128 → FitsSigned w16 (pos n)
short n h = search rules

long : (n : ℕ) → n < 256 → FitsSigned w32 (pos n)
long n h = search rules

alu_offset_fits : (op : AluOp) → FitsSigned w16 (alu_offset op)
alu_offset_fits SDiv = short 1 (lit< tt)
alu_offset_fits SMod = short 1 (lit< tt)
alu_offset_fits op = short 0 (lit< tt)

operand_imm_fits : (src : Operand) → OperandFits src → FitsSigned w32 (source_imm src)
operand_imm_fits (Imm imm) h = h
operand_imm_fits (RegOperand src) h = long 0 (lit< tt)

atomic_fits : (op : AtomicOp) → FitsSigned w32 (pos (atomic_code op))
atomic_fits (Changes AddTo true) = long 1 (lit< tt)
atomic_fits (Changes AddTo false) = long 0 (lit< tt)
atomic_fits (Changes by true) = long _ (lit< tt)
atomic_fits (Changes by false) = long _ (lit< tt)
atomic_fits Xchg = long 0xe1 (lit< tt)
atomic_fits CmpXchg = long 0xf1 (lit< tt)

offset_fits : (i : Insn) → HasEncoding i → FitsSigned w16 ((fields i).offset)
offset_fits (Alu op width dst src) h = alu_offset_fits op
offset_fits (MovSx width S8 dst src) h = short 8 (lit< tt)
offset_fits (MovSx width S16 dst src) h = short 16 (lit< tt)
offset_fits (MovSx width S32 dst src) h = short 32 (lit< tt)
offset_fits (Load size dst src off) h = h
offset_fits (LoadSx DW dst src off) h = absurd h
offset_fits (LoadSx size dst src off) h = h
offset_fits (Store size dst off src) h = h
offset_fits (StoreImm size dst off imm) h = h.0
offset_fits (Atomic wide op dst off src) h = h
offset_fits (Ja off) h = h
offset_fits (JumpIf cond width dst src off) h = h.1
offset_fits i h = short 0 (lit< tt)

imm_fits : (i : Insn) → HasEncoding i → FitsSigned w32 ((fields i).imm)
imm_fits (Alu op width dst src) h = operand_imm_fits src h
imm_fits (End kind E16 dst) h = long 16 (lit< tt)
imm_fits (End kind E32 dst) h = long 32 (lit< tt)
imm_fits (End kind E64 dst) h = long 64 (lit< tt)
imm_fits (LoadImm64 dst value) h = let low : Fits w32 (value % 2 ^ 32) = search rules in sfits_to_z low
imm_fits (StoreImm size dst off imm) h = h.1
imm_fits (Atomic wide op dst off src) h = atomic_fits op
imm_fits (JaLong off) h = h
imm_fits (JumpIf cond width dst src off) h = operand_imm_fits src h.0
imm_fits (CallLocal off) h = h
imm_fits i h = long 0 (lit< tt)

pub fields_fit : (i : Insn) → HasEncoding i → FieldsFit (fields i)
fields_fit i h = record { dst = subst (λ n. n < 16) (sym (fields-dst i)) (register_fits (field_target i)); src = subst (λ n. n < 16) (sym (fields-src i)) (register_fits (field_source i)); offset = offset_fits i h; imm = imm_fits i h }

dst_back : (order : Order) (dst src : ℕ) → dst < 16 → src < 16 → dst_in order (register_byte order dst src) ≡ dst
dst_back Little dst src hd hs = omega arith
dst_back Big dst src hd hs = omega arith

src_back : (order : Order) (dst src : ℕ) → dst < 16 → src < 16 → src_in order (register_byte order dst src) ≡ src
src_back Little dst src hd hs = omega arith
src_back Big dst src hd hs = omega arith

pub number_back : (order : Order) (n x : ℕ) (rest : List ℕ) → x < 256 ^ n → number_of order n (bytes_of order n x ++ rest) ≡ x
number_back Little n x rest h = little_number-reads_back n x rest h
number_back Big n x rest h = big_number-reads_back n x rest h

offset_back : (order : Order) (z : ℤ) (rest : List ℕ) → FitsSigned w16 z → cast_signed w16 (number_of order 2 (bytes_of order 2 (cast_unsigned w16 z) ++ rest)) ≡ z
offset_back order z rest h =
    let fits : Fits w16 (cast_unsigned w16 z) = Fits-of_z h in
    let small : cast_unsigned w16 z < 256 ^ 2 = omega arith in
    ap (cast_signed w16) (number_back order 2 (cast_unsigned w16 z) rest small) ∙ to_z-of_z w16 z h

imm_back : (order : Order) (z : ℤ) (rest : List ℕ) → FitsSigned w32 z → cast_signed w32 (number_of order 4 (bytes_of order 4 (cast_unsigned w32 z) ++ rest)) ≡ z
imm_back order z rest h =
    let fits : Fits w32 (cast_unsigned w32 z) = Fits-of_z h in
    let small : cast_unsigned w32 z < 256 ^ 4 = omega arith in
    ap (cast_signed w32) (number_back order 4 (cast_unsigned w32 z) rest small) ∙ to_z-of_z w32 z h

pub same_fields : (f g : Fields) → f.opcode ≡ g.opcode → f.dst ≡ g.dst → f.src ≡ g.src → f.offset ≡ g.offset → f.imm ≡ g.imm → f ≡ g
same_fields f g o d s z m = λ i. record { opcode = o i; dst = d i; src = s i; offset = z i; imm = m i }

-- the fields that stand in the bytes of fields are those fields, whatever follows
pub fields_in-slot_bytes : (order : Order) (f : Fields) (rest : List ℕ) → FieldsFit f → fields_in order (slot_bytes order f ++ rest) ≡ f
fields_in-slot_bytes Little f rest h =
    same_fields _ f refl (dst_back Little f.dst f.src h.dst h.src) (src_back Little f.dst f.src h.dst h.src)
    (offset_back Little f.offset (bytes_of Little 4 (cast_unsigned w32 f.imm) ++ rest) h.offset) (imm_back Little f.imm rest h.imm)
fields_in-slot_bytes Big f rest h =
    same_fields _ f refl (dst_back Big f.dst f.src h.dst h.src) (src_back Big f.dst f.src h.dst h.src)
    (offset_back Big f.offset (bytes_of Big 4 (cast_unsigned w32 f.imm) ++ rest) h.offset) (imm_back Big f.imm rest h.imm)
