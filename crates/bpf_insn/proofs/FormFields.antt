-- The instruction that is made of a form and of fields without a fault has these fields, and an encoding.
use Rattle.std.proofs.Common.{◌≡◌, ℕ, ◌+◌, ◌*◌, ◌%◌, ◌^◌, ◌<◌, ◌==◌, ◌||◌, ◌&&◌, Bool, true, false, ◌⊎◌, inl, inr, List, [], ◌∷◌, map, refl, ap, sym, ◌∙◌, subst, arith}
use Rattle.std.specs.Prelude.{Option, Some, None, ℤ, pos, FitsSigned}
use Rattle.std.specs.Ordering.{int_eq}
use Rattle.std.specs.Int.{cast_signed, cast_unsigned, w16, w32}
use mir.Val.{Fits}
use Rattle.std.proofs.Math.Facts.{Fits-of_z}
use Rattle.std.proofs.lemmas.Int.{to_z-of_z}
use Rattle.std.specs.List.{list_any}
use Rattle.std.proofs.lemmas.Bool.Decides.{Decides-int_eq, Decides-eqb}
use Rattle.bpf_insn.specs.Instruction.{register_number}
use Rattle.bpf_insn.specs.Image.{fields, alu_offset, atomic_code, swap_bits, HasEncoding, code_opcode, memory_opcode, alu_class, alu_code, jump_class, jump_code, swap_opcode}
use Rattle.bpf_insn.specs.declared.uses.Use.{Use}
use Rattle.bpf_insn.specs.declared.uses.Use.TheVariants.{Selects, Zero}
use Rattle.bpf_insn.specs.declared.uses.Uses.{Uses}
use Rattle.bpf_insn.specs.declared.uses.Choice.TheVariants.{Callee}
use Rattle.bpf_insn.specs.Refusal.{atomic_codes, each_field, is_selected, is_zero_if_unused}
use Rattle.bpf_insn.specs.code.Form.{form_in, uses_of}
use Rattle.bpf_insn.specs.code.Decoding.{divide_in, remainder_in, move_in, end_bits_in, atomic_in, insn_of_form}
use Rattle.bpf_insn.specs.declared.fields.Fields.{Fields}
use Rattle.bpf_insn.specs.declared.form.Source.{Source}
use Rattle.bpf_insn.specs.declared.form.Source.TheVariants.{Imm as FromImm, Reg as FromReg}
use Rattle.bpf_insn.specs.declared.form.Form.{Form}
use Rattle.bpf_insn.specs.declared.form.Form.TheVariants.{Alu as AluForm, Divide, Remainder, Move, Neg as NegForm, End as EndForm, LoadImm64 as WideForm, Load as LoadForm, LoadSx as LoadSxForm, StoreImm as StoreImmForm, Store as StoreForm, Atomic as AtomicForm, Ja as JaForm, JaLong as JaLongForm, JumpIf as JumpIfForm, CallLocal as CallForm, Exit as ExitForm}
use Rattle.bpf_insn.specs.declared.instruction.Reg.{Reg}
use Rattle.bpf_insn.specs.declared.instruction.Reg.TheVariants.{R0}
use Rattle.bpf_insn.specs.declared.instruction.Width.{Width}
use Rattle.bpf_insn.specs.declared.instruction.Width.TheVariants.{W32, W64}
use Rattle.bpf_insn.specs.declared.instruction.Operand.{Operand}
use Rattle.bpf_insn.specs.declared.instruction.Operand.TheVariants.{Imm, Reg as RegOperand}
use Rattle.bpf_insn.specs.declared.instruction.AluOp.{AluOp}
use Rattle.bpf_insn.specs.declared.instruction.AluOp.TheVariants.{Div, SDiv, Mod, SMod}
use Rattle.bpf_insn.specs.declared.instruction.Size.{Size}
use Rattle.bpf_insn.specs.declared.instruction.Size.TheVariants.{W, DW}
use Rattle.bpf_insn.specs.declared.instruction.Insn.{Insn}
use Rattle.bpf_insn.specs.declared.instruction.Insn.TheVariants.{LoadSx}
use Rattle.bpf_insn.proofs.TableLemmas.{same_in_range, numbers_from}
use Rattle.bpf_insn.proofs.SlotLemmas.{same_fields}

-- ---- what a form tells of its opcode

pub operand_for : Source → Operand
operand_for FromImm = Imm (pos 0)
operand_for FromReg = RegOperand R0

-- the opcode of a form's instructions
unfoldable pub opcode_of : Form → ℕ
opcode_of (AluForm op width source) = code_opcode (alu_class width) (operand_for source) (alu_code op)
opcode_of (Divide width source) = code_opcode (alu_class width) (operand_for source) 3
opcode_of (Remainder width source) = code_opcode (alu_class width) (operand_for source) 9
opcode_of (Move width) = alu_class width + 8 + 16 * 11
opcode_of (NegForm width) = alu_class width + 16 * 8
opcode_of (EndForm kind) = swap_opcode kind
opcode_of WideForm = 0x18
opcode_of (LoadForm size) = memory_opcode 1 size 3
opcode_of (LoadSxForm size) = memory_opcode 1 size 4
opcode_of (StoreImmForm size) = memory_opcode 2 size 3
opcode_of (StoreForm size) = memory_opcode 3 size 3
opcode_of (AtomicForm true) = memory_opcode 3 DW 6
opcode_of (AtomicForm false) = memory_opcode 3 W 6
opcode_of JaForm = 0x05
opcode_of JaLongForm = 0x06
opcode_of (JumpIfForm test width source) = code_opcode (jump_class width) (operand_for source) (jump_code test)
opcode_of CallForm = 0x85
opcode_of ExitForm = 0x95

-- divisions and remainders have forms of their own, and there is no sign-extending load of 8 bytes
unfoldable pub is_form : Form → Bool
is_form (AluForm Div width source) = false
is_form (AluForm SDiv width source) = false
is_form (AluForm Mod width source) = false
is_form (AluForm SMod width source) = false
is_form (LoadSxForm DW) = false
is_form form = true

tells : ℕ → Option Form → Bool
tells b None = true
tells b (Some form) = (opcode_of form == b) && is_form form

all_tell : map (λ b. tells b (form_in b)) (numbers_from 0 256) ≡ map (λ b. true) (numbers_from 0 256)
unfolding tells opcode_of is_form operand_for numbers_from
all_tell = refl

pub both : (a b : Bool) → (a && b) ≡ true → (a ≡ true) × (b ≡ true)
both true b e = (refl, e)
both false b e = cc

pub opcode_told : (b : ℕ) (form : Form) → b < 256 → form_in b ≡ Some form → (opcode_of form ≡ b) × (is_form form ≡ true)
unfolding tells
opcode_told b form h e =
    let told : tells b (form_in b) ≡ true = same_in_range (λ n. tells n (form_in n)) (λ n. true) true 256 all_tell b h in
    let parts : (opcode_of form == b ≡ true) × (is_form form ≡ true) = both (opcode_of form == b) (is_form form) (ap (tells b) (sym e) ∙ told) in
    ((Decides-eqb (opcode_of form) b).0 parts.0, parts.1)

-- ---- what the tests of a form's fields tell

-- z is one of these numbers
abbrev AnyOf : List ℕ → ℤ → Type 0
AnyOf [] z = ⊥
AnyOf (value ∷ values) z = (z ≡ pos value) ⊎ AnyOf values z

first_or : (a b : Bool) (P Q : Type 0) → (a ≡ true → P) → (b ≡ true → Q) → (a || b) ≡ true → P ⊎ Q
first_or true b P Q f g e = inl (f refl)
first_or false b P Q f g e = inr (g e)

any_of : (values : List ℕ) (z : ℤ) → list_any (λ value. int_eq z (pos value)) values ≡ true → AnyOf values z
any_of [] z e = cc
any_of (value ∷ values) z e = first_or (int_eq z (pos value)) (list_any (λ v. int_eq z (pos v)) values) (z ≡ pos value) (AnyOf values z) ((Decides-int_eq z (pos value)).0) (any_of values z) e

is_zero : (z : ℤ) → is_zero_if_unused Zero z ≡ true → z ≡ pos 0
is_zero z e = (Decides-int_eq z (pos 0)).0 e

same_number : (m n : ℕ) → pos m ≡ pos n → m ≡ n
same_number m n e = cc

is_none : (n : ℕ) → is_zero_if_unused Zero (pos n) ≡ true → n ≡ 0
is_none n e = same_number n 0 (is_zero (pos n) e)

pub record Tested (test : Use → ℤ → Bool) (u : Uses) (f : Fields) : Type 0 where
  pub dst : test u.dst (pos f.dst) ≡ true
  pub src : test u.src (pos f.src) ≡ true
  pub offset : test u.offset f.offset ≡ true
  pub imm : test u.imm f.imm ≡ true

four : (a b c d : Bool) → (a && b && c && d) ≡ true → (a ≡ true) × (b ≡ true) × (c ≡ true) × (d ≡ true)
four true true true true e = (refl, refl, refl, refl)
four false b c d e = cc
four true false c d e = cc
four true true false d e = cc
four true true true false e = cc

pub tested : (test : Use → ℤ → Bool) (u : Uses) (f : Fields) → each_field test u f ≡ true → Tested test u f
tested test u f e =
    let each = four (test u.dst (pos f.dst)) (test u.src (pos f.src)) (test u.offset f.offset) (test u.imm f.imm) e in
    record { dst = each.0; src = each.1; offset = each.2; imm = each.3 }

-- ---- the fields of the instruction of a form are those that it was made of

plain_offset : (op : AluOp) (width : Width) (source : Source) → is_form (AluForm op width source) ≡ true → alu_offset op ≡ pos 0
unfolding is_form
plain_offset Div width source e = refl
plain_offset SDiv width source e = cc
plain_offset Mod width source e = refl
plain_offset SMod width source e = cc
plain_offset op width source e = refl

divided : (z : ℤ) → AnyOf (0 ∷ 1 ∷ []) z → (alu_code (divide_in z) ≡ 3) × (alu_offset (divide_in z) ≡ z)
divided z (inl e) = let P : ℤ → Type 0 = λ y. (alu_code (divide_in y) ≡ 3) × (alu_offset (divide_in y) ≡ y) in subst P (sym e) (refl, refl)
divided z (inr (inl e)) = let P : ℤ → Type 0 = λ y. (alu_code (divide_in y) ≡ 3) × (alu_offset (divide_in y) ≡ y) in subst P (sym e) (refl, refl)
divided z (inr (inr e)) = absurd e

left_over : (z : ℤ) → AnyOf (0 ∷ 1 ∷ []) z → (alu_code (remainder_in z) ≡ 9) × (alu_offset (remainder_in z) ≡ z)
left_over z (inl e) = let P : ℤ → Type 0 = λ y. (alu_code (remainder_in y) ≡ 9) × (alu_offset (remainder_in y) ≡ y) in subst P (sym e) (refl, refl)
left_over z (inr (inl e)) = let P : ℤ → Type 0 = λ y. (alu_code (remainder_in y) ≡ 9) × (alu_offset (remainder_in y) ≡ y) in subst P (sym e) (refl, refl)
left_over z (inr (inr e)) = absurd e

-- the instruction has these fields, and an encoding
pub record IsFor (i : Insn) (f : Fields) : Type 0 where
  pub fields_are : fields i ≡ f
  pub encoding : HasEncoding i

abbrev move_fields : Width → ℤ → Reg → Reg → Fields
move_fields width z dst src = record { opcode = alu_class width + 8 + 16 * 11; dst = register_number dst; src = register_number src; offset = z; imm = pos 0 }

IsMoved : Width → Reg → Reg → ℤ → Type 0
IsMoved width dst src z = IsFor (move_in width z dst src) (move_fields width z dst src)

moved_32 : (z : ℤ) (dst src : Reg) → AnyOf (0 ∷ 8 ∷ 16 ∷ []) z → IsMoved W32 dst src z
unfolding IsMoved
moved_32 z dst src (inl e) = subst (IsMoved W32 dst src) (sym e) (record { fields_are = refl; encoding = tt })
moved_32 z dst src (inr (inl e)) = subst (IsMoved W32 dst src) (sym e) (record { fields_are = refl; encoding = tt })
moved_32 z dst src (inr (inr (inl e))) = subst (IsMoved W32 dst src) (sym e) (record { fields_are = refl; encoding = tt })
moved_32 z dst src (inr (inr (inr e))) = absurd e

moved_64 : (z : ℤ) (dst src : Reg) → AnyOf (0 ∷ 8 ∷ 16 ∷ 32 ∷ []) z → IsMoved W64 dst src z
unfolding IsMoved
moved_64 z dst src (inl e) = subst (IsMoved W64 dst src) (sym e) (record { fields_are = refl; encoding = tt })
moved_64 z dst src (inr (inl e)) = subst (IsMoved W64 dst src) (sym e) (record { fields_are = refl; encoding = tt })
moved_64 z dst src (inr (inr (inl e))) = subst (IsMoved W64 dst src) (sym e) (record { fields_are = refl; encoding = tt })
moved_64 z dst src (inr (inr (inr (inl e)))) = subst (IsMoved W64 dst src) (sym e) (record { fields_are = refl; encoding = tt })
moved_64 z dst src (inr (inr (inr (inr e)))) = absurd e

moved : (width : Width) (z : ℤ) (dst src : Reg) → is_selected ((uses_of (Move width)).offset) z ≡ true → IsFor (move_in width z dst src) (move_fields width z dst src)
unfolding IsMoved
moved W32 z dst src e = moved_32 z dst src (any_of (0 ∷ 8 ∷ 16 ∷ []) z e)
moved W64 z dst src e = moved_64 z dst src (any_of (0 ∷ 8 ∷ 16 ∷ 32 ∷ []) z e)

swap_bits_back : (z : ℤ) → AnyOf (16 ∷ 32 ∷ 64 ∷ []) z → pos (swap_bits (end_bits_in z)) ≡ z
swap_bits_back z (inl e) = ap (λ y. pos (swap_bits (end_bits_in y))) e ∙ sym e
swap_bits_back z (inr (inl e)) = ap (λ y. pos (swap_bits (end_bits_in y))) e ∙ sym e
swap_bits_back z (inr (inr (inl e))) = ap (λ y. pos (swap_bits (end_bits_in y))) e ∙ sym e
swap_bits_back z (inr (inr (inr e))) = absurd e

atomic_back : (z : ℤ) → AnyOf atomic_codes z → pos (atomic_code (atomic_in z)) ≡ z
atomic_back z (inl e) = ap (λ y. pos (atomic_code (atomic_in y))) e ∙ sym e
atomic_back z (inr (inl e)) = ap (λ y. pos (atomic_code (atomic_in y))) e ∙ sym e
atomic_back z (inr (inr (inl e))) = ap (λ y. pos (atomic_code (atomic_in y))) e ∙ sym e
atomic_back z (inr (inr (inr (inl e)))) = ap (λ y. pos (atomic_code (atomic_in y))) e ∙ sym e
atomic_back z (inr (inr (inr (inr (inl e))))) = ap (λ y. pos (atomic_code (atomic_in y))) e ∙ sym e
atomic_back z (inr (inr (inr (inr (inr (inl e)))))) = ap (λ y. pos (atomic_code (atomic_in y))) e ∙ sym e
atomic_back z (inr (inr (inr (inr (inr (inr (inl e))))))) = ap (λ y. pos (atomic_code (atomic_in y))) e ∙ sym e
atomic_back z (inr (inr (inr (inr (inr (inr (inr (inl e)))))))) = ap (λ y. pos (atomic_code (atomic_in y))) e ∙ sym e
atomic_back z (inr (inr (inr (inr (inr (inr (inr (inr (inl e))))))))) = ap (λ y. pos (atomic_code (atomic_in y))) e ∙ sym e
atomic_back z (inr (inr (inr (inr (inr (inr (inr (inr (inr (inl e)))))))))) = ap (λ y. pos (atomic_code (atomic_in y))) e ∙ sym e
atomic_back z (inr (inr (inr (inr (inr (inr (inr (inr (inr (inr e)))))))))) = absurd e

low_back : (imm : ℤ) (high : ℕ) → FitsSigned w32 imm → cast_signed w32 ((cast_unsigned w32 imm + 2 ^ 32 * high) % 2 ^ 32) ≡ imm
low_back imm high h =
    let fits : Fits w32 (cast_unsigned w32 imm) = Fits-of_z h in
    let low : (cast_unsigned w32 imm + 2 ^ 32 * high) % 2 ^ 32 ≡ cast_unsigned w32 imm = omega arith in
    ap (cast_signed w32) low ∙ to_z-of_z w32 imm h

constant_fits : (imm : ℤ) (high : ℕ) → FitsSigned w32 imm → high < 2 ^ 32 → cast_unsigned w32 imm + 2 ^ 32 * high < 2 ^ 64
constant_fits imm high h small = let fits : Fits w32 (cast_unsigned w32 imm) = Fits-of_z h in omega arith

move_zero : (width : Width) (f : Fields) → is_zero_if_unused ((uses_of (Move width)).imm) f.imm ≡ true → is_zero_if_unused Zero f.imm ≡ true
move_zero W32 f e = e
move_zero W64 f e = e

narrow_load : (size : Size) (dst src : Reg) (off : ℤ) → is_form (LoadSxForm size) ≡ true → FitsSigned w16 off → HasEncoding (LoadSx size dst src off)
unfolding is_form
narrow_load DW dst src off e h = cc
narrow_load size dst src off e h = h

called : (n : ℕ) → is_selected (Selects Callee) (pos n) ≡ true → n ≡ 1
called n e = elim (any_of (1 ∷ []) (pos n) e) as (λ _. n ≡ 1) [ inl h ↦ same_number n 1 h | inr h ↦ absurd h ]

-- what is known of fields with no fault, and of the registers that they name
pub record NoFault (form : Form) (f : Fields) (dst src : Reg) : Type 0 where
  pub real : is_form form ≡ true
  pub opcode : opcode_of form ≡ f.opcode
  pub dst_is : register_number dst ≡ f.dst
  pub src_is : register_number src ≡ f.src
  pub offset_fits : FitsSigned w16 f.offset
  pub imm_fits : FitsSigned w32 f.imm
  pub selected : Tested is_selected (uses_of form) f
  pub zero : Tested is_zero_if_unused (uses_of form) f

made : (i : Insn) (f : Fields) → HasEncoding i → (fields i).opcode ≡ f.opcode → (fields i).dst ≡ f.dst → (fields i).src ≡ f.src → (fields i).offset ≡ f.offset → (fields i).imm ≡ f.imm → IsFor i f
made i f h o d s z m = record { fields_are = same_fields (fields i) f o d s z m; encoding = h }

pub is_for : (form : Form) (f : Fields) (dst src : Reg) (high : ℕ) → high < 2 ^ 32 → NoFault form f dst src → IsFor (insn_of_form form dst src f high) f
unfolding opcode_of operand_for
is_for (AluForm op width FromImm) f dst src high small k =
    made _ f k.imm_fits k.opcode k.dst_is (sym (is_none f.src k.zero.src)) (plain_offset op width FromImm k.real ∙ sym (is_zero f.offset k.zero.offset)) refl
is_for (AluForm op width FromReg) f dst src high small k =
    made _ f tt k.opcode k.dst_is k.src_is (plain_offset op width FromReg k.real ∙ sym (is_zero f.offset k.zero.offset)) (sym (is_zero f.imm k.zero.imm))
is_for (Divide width FromImm) f dst src high small k =
    let one = divided f.offset (any_of (0 ∷ 1 ∷ []) f.offset k.selected.offset) in
    made _ f k.imm_fits (ap (λ code. alu_class width + 8 * 0 + 16 * code) one.0 ∙ k.opcode) k.dst_is (sym (is_none f.src k.zero.src)) one.1 refl
is_for (Divide width FromReg) f dst src high small k =
    let one = divided f.offset (any_of (0 ∷ 1 ∷ []) f.offset k.selected.offset) in
    made _ f tt (ap (λ code. alu_class width + 8 * 1 + 16 * code) one.0 ∙ k.opcode) k.dst_is k.src_is one.1 (sym (is_zero f.imm k.zero.imm))
is_for (Remainder width FromImm) f dst src high small k =
    let one = left_over f.offset (any_of (0 ∷ 1 ∷ []) f.offset k.selected.offset) in
    made _ f k.imm_fits (ap (λ code. alu_class width + 8 * 0 + 16 * code) one.0 ∙ k.opcode) k.dst_is (sym (is_none f.src k.zero.src)) one.1 refl
is_for (Remainder width FromReg) f dst src high small k =
    let one = left_over f.offset (any_of (0 ∷ 1 ∷ []) f.offset k.selected.offset) in
    made _ f tt (ap (λ code. alu_class width + 8 * 1 + 16 * code) one.0 ∙ k.opcode) k.dst_is k.src_is one.1 (sym (is_zero f.imm k.zero.imm))
is_for (Move width) f dst src high small k =
    let one = moved width f.offset dst src k.selected.offset in
    record { fields_are = one.fields_are ∙ same_fields (move_fields width f.offset dst src) f k.opcode k.dst_is k.src_is refl (sym (is_zero f.imm (move_zero width f k.zero.imm))); encoding = one.encoding }
is_for (NegForm width) f dst src high small k =
    made _ f tt k.opcode k.dst_is (sym (is_none f.src k.zero.src)) (sym (is_zero f.offset k.zero.offset)) (sym (is_zero f.imm k.zero.imm))
is_for (EndForm kind) f dst src high small k =
    made _ f tt k.opcode k.dst_is (sym (is_none f.src k.zero.src)) (sym (is_zero f.offset k.zero.offset)) (swap_bits_back f.imm (any_of (16 ∷ 32 ∷ 64 ∷ []) f.imm k.selected.imm))
is_for WideForm f dst src high small k =
    made _ f (constant_fits f.imm high k.imm_fits small) k.opcode k.dst_is (sym (is_none f.src k.zero.src)) (sym (is_zero f.offset k.zero.offset)) (low_back f.imm high k.imm_fits)
is_for (LoadForm size) f dst src high small k =
    made _ f k.offset_fits k.opcode k.dst_is k.src_is refl (sym (is_zero f.imm k.zero.imm))
is_for (LoadSxForm size) f dst src high small k =
    made _ f (narrow_load size dst src f.offset k.real k.offset_fits) k.opcode k.dst_is k.src_is refl (sym (is_zero f.imm k.zero.imm))
is_for (StoreImmForm size) f dst src high small k =
    made _ f (k.offset_fits, k.imm_fits) k.opcode k.dst_is (sym (is_none f.src k.zero.src)) refl refl
is_for (StoreForm size) f dst src high small k =
    made _ f k.offset_fits k.opcode k.dst_is k.src_is refl (sym (is_zero f.imm k.zero.imm))
is_for (AtomicForm true) f dst src high small k =
    made _ f k.offset_fits k.opcode k.dst_is k.src_is refl (atomic_back f.imm (any_of atomic_codes f.imm k.selected.imm))
is_for (AtomicForm false) f dst src high small k =
    made _ f k.offset_fits k.opcode k.dst_is k.src_is refl (atomic_back f.imm (any_of atomic_codes f.imm k.selected.imm))
is_for JaForm f dst src high small k =
    made _ f k.offset_fits k.opcode (sym (is_none f.dst k.zero.dst)) (sym (is_none f.src k.zero.src)) refl (sym (is_zero f.imm k.zero.imm))
is_for JaLongForm f dst src high small k =
    made _ f k.imm_fits k.opcode (sym (is_none f.dst k.zero.dst)) (sym (is_none f.src k.zero.src)) (sym (is_zero f.offset k.zero.offset)) refl
is_for (JumpIfForm test width FromImm) f dst src high small k =
    made _ f (k.imm_fits, k.offset_fits) k.opcode k.dst_is (sym (is_none f.src k.zero.src)) refl refl
is_for (JumpIfForm test width FromReg) f dst src high small k =
    made _ f (tt, k.offset_fits) k.opcode k.dst_is k.src_is refl (sym (is_zero f.imm k.zero.imm))
is_for CallForm f dst src high small k =
    made _ f k.imm_fits k.opcode (sym (is_none f.dst k.zero.dst)) (sym (called f.src k.selected.src)) (sym (is_zero f.offset k.zero.offset)) refl
is_for ExitForm f dst src high small k =
    made _ f tt k.opcode (sym (is_none f.dst k.zero.dst)) (sym (is_none f.src k.zero.src)) (sym (is_zero f.offset k.zero.offset)) (sym (is_zero f.imm k.zero.imm))
