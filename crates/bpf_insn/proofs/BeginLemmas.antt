-- Bytes without a fault begin with the bytes of an instruction.
use Rattle.std.proofs.Common.{◌≡◌, ℕ, zero, suc, ◌+◌, ◌*◌, ◌/◌, ◌^◌, ◌<◌, ◌≤◌, ◌==◌, ◌||◌, ◌&&◌, nat_lt, not, cond, Bool, true, false, List, [], ◌∷◌, ◌++◌, length, take, drop, slice_index, refl, ap, ap₂, sym, ◌∙◌, subst, arith, lit<}
use Rattle.std.specs.Prelude.{Option, Some, None, ℤ, FitsSigned, option_map}
use Rattle.std.specs.Int.{cast_unsigned, w16, w32}
use mir.Val.{Fits}
use Rattle.std.proofs.Math.Facts.{Fits-of_z, sfits_to_z}
use Rattle.std.specs.List.{list_all}
use Rattle.std.proofs.lemmas.Bool.Decides.{Decides-eqb}
use Rattle.bpf_insn.specs.Instruction.{register_number, slot_count}
use Rattle.bpf_insn.specs.Image.{fields, slot_bytes, instruction_bytes, HasEncoding}
use Rattle.bpf_insn.specs.declared.uses.Uses.{Uses}
use Rattle.bpf_insn.specs.Refusal.{table, uses_in, each_field, is_selected, is_zero_if_unused, is_wide, is_left_out, left_out, reserved_is_zero, fields_in, refusal_by_uses, refusal_here}
use Rattle.bpf_insn.specs.code.Form.{form_in, uses_of}
use Rattle.bpf_insn.specs.code.Decoding.{register_in, insn_of_form, insn_of_parts, high_in, insn_in_bytes}
use Rattle.bpf_insn.specs.declared.fields.Fields.{Fields}
use Rattle.bpf_insn.specs.declared.form.Form.{Form}
use Rattle.bpf_insn.specs.declared.form.Form.TheVariants.{LoadImm64 as WideForm}
use Rattle.bpf_insn.specs.declared.instruction.Reg.{Reg}
use Rattle.bpf_insn.specs.declared.instruction.Reg.TheVariants.{R0, R1, R2, R3, R4, R5, R6, R7, R8, R9, R10}
use Rattle.bpf_insn.specs.declared.instruction.Insn.{Insn}
use Rattle.bpf_insn.specs.declared.instruction.Insn.TheVariants.{LoadImm64}
use Rattle.bpf_insn.proofs.TableLemmas.{uses_in-form}
use Rattle.bpf_insn.specs.declared.refusal.SlotFault.TheVariants.{LeftOut}
use Rattle.bpf_insn.proofs.SlotLemmas.{slot_bytes-fields_in, four_back, four_fits}
use Rattle.bpf_insn.specs.Order.{bytes_of, number_of}
use Rattle.std.proofs.lemmas.Bool.{ltb-false}
use Rattle.std.proofs.lemmas.List.{get_or-drop, length-drop}
use Rattle.std.proofs.Math.Seq.{take-add, drop-drop}
use Rattle.bpf_insn.proofs.FormLemmas.{is_constant, is_wide-fields}
use Rattle.bpf_insn.specs.Laws.{AreBytes}
use Rattle.bpf_insn.specs.declared.order.Order.{Order}
use Rattle.bpf_insn.specs.declared.order.Order.TheVariants.{Little, Big}
use Rattle.std.proofs.lemmas.List.{append-nil}
use Rattle.bpf_insn.proofs.FormFields.{both, opcode_told, tested, IsFor, NoFault, is_for}

-- an instruction begins in these bytes
pub record Begins (order : Order) (bytes : List ℕ) : Type 0 where
  pub insn : Insn
  pub encoding : HasEncoding insn
  pub found : insn_in_bytes order bytes ≡ Some insn
  pub whole : 8 * slot_count insn ≤ length bytes
  pub bytes_are : take (8 * slot_count insn) bytes ≡ instruction_bytes order insn
  pub count : slot_count insn ≡ cond (slice_index bytes 0 == 0x18) 2 1

refused : {X : Type 0} (b : Bool) (x : X) (rest : Option X) → cond b (Some x) rest ≡ None → (b ≡ false) × (rest ≡ None)
refused true x rest e = cc
refused false x rest e = (refl, e)

not_false : (b : Bool) → not b ≡ false → b ≡ true
not_false true e = refl
not_false false e = cc

neither : (a b : Bool) → (a || b) ≡ false → (a ≡ false) × (b ≡ false)
neither true b e = cc
neither false b e = (refl, e)

-- what no fault by the uses of fields says
record Clean (u : Uses) (f : Fields) (bytes : List ℕ) : Type 0 where
  dst : nat_lt 10 f.dst ≡ false
  src : nat_lt 10 f.src ≡ false
  selected : each_field is_selected u f ≡ true
  zero : each_field is_zero_if_unused u f ≡ true
  reserved : is_wide f && not (reserved_is_zero bytes) ≡ false
  second : is_wide f && nat_lt (length bytes) 16 ≡ false

clean : (u : Uses) (f : Fields) (bytes : List ℕ) → refusal_by_uses (Some u) f bytes ≡ None → Clean u f bytes
clean u f bytes e =
    let registers = refused _ _ _ e in
    let selectors = refused _ _ _ registers.1 in
    let unused = refused _ _ _ selectors.1 in
    let cut = refused _ _ _ unused.1 in
    let low = neither _ _ registers.0 in
    let rest = neither _ _ unused.0 in
    record { dst = low.0; src = low.1; selected = not_false _ selectors.0; zero = not_false _ rest.0; reserved = rest.1; second = cut.0 }

low_register : (n : ℕ) → n ≤ 10 → (r : Reg) × (register_in n ≡ Some r) × (register_number r ≡ n)
low_register zero h = (R0, refl, refl)
low_register (suc zero) h = (R1, refl, refl)
low_register (suc (suc zero)) h = (R2, refl, refl)
low_register (suc (suc (suc zero))) h = (R3, refl, refl)
low_register (suc (suc (suc (suc zero)))) h = (R4, refl, refl)
low_register (suc (suc (suc (suc (suc zero))))) h = (R5, refl, refl)
low_register (suc (suc (suc (suc (suc (suc zero)))))) h = (R6, refl, refl)
low_register (suc (suc (suc (suc (suc (suc (suc zero))))))) h = (R7, refl, refl)
low_register (suc (suc (suc (suc (suc (suc (suc (suc zero)))))))) h = (R8, refl, refl)
low_register (suc (suc (suc (suc (suc (suc (suc (suc (suc zero))))))))) h = (R9, refl, refl)
low_register (suc (suc (suc (suc (suc (suc (suc (suc (suc (suc zero)))))))))) h = (R10, refl, refl)
low_register (suc (suc (suc (suc (suc (suc (suc (suc (suc (suc (suc n))))))))))) h = absurd (omega arith)

register_told : (n : ℕ) → nat_lt 10 n ≡ false → (r : Reg) × (register_in n ≡ Some r) × (register_number r ≡ n)
register_told n e = low_register n (ltb-false 10 n e)

not_constant_bytes : (order : Order) (i : Insn) → is_constant i ≡ false → (instruction_bytes order i ≡ slot_bytes order (fields i)) × (slot_count i ≡ 1)
not_constant_bytes order (LoadImm64 dst value) e = cc
not_constant_bytes order i e = (append-nil (slot_bytes order (fields i)), refl)

-- a slot that is no wide one
begins_narrow : (order : Order) (bytes : List ℕ) (i : Insn) → AreBytes bytes → 8 ≤ length bytes → IsFor i (fields_in order bytes) → insn_in_bytes order bytes ≡ Some i → is_wide (fields_in order bytes) ≡ false → Begins order bytes
begins_narrow order bytes i h long k found narrow =
    let plain : is_constant i ≡ false = sym (is_wide-fields i) ∙ ap is_wide k.fields_are ∙ narrow in
    let one = not_constant_bytes order i plain in
    let count : 8 * slot_count i ≡ 8 = ap (λ n. 8 * n) one.1 in
    record {
      insn = i;
      encoding = k.encoding;
      found = found;
      whole = subst (λ n. n ≤ length bytes) (sym count) long;
      bytes_are = ap (λ n. take n bytes) count ∙ sym (slot_bytes-fields_in order bytes h long) ∙ ap (slot_bytes order) (sym k.fields_are) ∙ sym one.0;
      count = one.1 ∙ sym (ap (λ b. cond b 2 1) narrow);
    }

two_true : (a b : Bool) → a ≡ true → (a && b) ≡ false → b ≡ false
two_true true b e f = f
two_true false b e f = cc

zero_cells : (a b c d : ℕ) → list_all (λ x. x == 0) (a ∷ b ∷ c ∷ d ∷ []) ≡ true → (a ≡ 0) × (b ≡ 0) × (c ≡ 0) × (d ≡ 0)
zero_cells a b c d e =
    let x = both (a == 0) (list_all (λ x. x == 0) (b ∷ c ∷ d ∷ [])) e in
    let y = both (b == 0) (list_all (λ x. x == 0) (c ∷ d ∷ [])) x.1 in
    let z = both (c == 0) (list_all (λ x. x == 0) (d ∷ [])) y.1 in
    let w = both (d == 0) true z.1 in
    ((Decides-eqb a 0).0 x.0, (Decides-eqb b 0).0 y.0, (Decides-eqb c 0).0 z.0, (Decides-eqb d 0).0 w.0)

-- the second slot of a wide instruction
record Second (order : Order) (tail : List ℕ) : Type 0 where
  bytes_are : take 8 tail ≡ 0 ∷ 0 ∷ 0 ∷ 0 ∷ [] ++ bytes_of order 4 (number_of order 4 (drop 4 tail))
  fits : number_of order 4 (drop 4 tail) < 2 ^ 32

second : (order : Order) (tail : List ℕ) → AreBytes tail → 8 ≤ length tail → list_all (λ x. x == 0) (take 4 tail) ≡ true → Second order tail
second order [] h n e = absurd (omega arith)
second order (a ∷ []) h n e = absurd (omega arith)
second order (a ∷ b ∷ []) h n e = absurd (omega arith)
second order (a ∷ b ∷ c ∷ []) h n e = absurd (omega arith)
second order (a ∷ b ∷ c ∷ d ∷ []) h n e = absurd (omega arith)
second order (a ∷ b ∷ c ∷ d ∷ i ∷ []) h n e = absurd (omega arith)
second order (a ∷ b ∷ c ∷ d ∷ i ∷ j ∷ []) h n e = absurd (omega arith)
second order (a ∷ b ∷ c ∷ d ∷ i ∷ j ∷ k ∷ []) h n e = absurd (omega arith)
second order (a ∷ b ∷ c ∷ d ∷ i ∷ j ∷ k ∷ l ∷ rest) h n e =
    let z = zero_cells a b c d e in
    let zeros : a ∷ b ∷ c ∷ d ∷ i ∷ j ∷ k ∷ l ∷ [] ≡ 0 ∷ 0 ∷ 0 ∷ 0 ∷ i ∷ j ∷ k ∷ l ∷ [] = ap₂ (λ x y. x ∷ y) z.0 (ap₂ (λ x y. x ∷ y) z.1 (ap₂ (λ x y. x ∷ y) z.2 (ap (λ x. x ∷ i ∷ j ∷ k ∷ l ∷ []) z.3))) in
    record {
      bytes_are = zeros ∙ ap (λ ys. 0 ∷ 0 ∷ 0 ∷ 0 ∷ [] ++ ys) (sym (four_back order i j k l rest (h 4) (h 5) (h 6) (h 7)));
      fits = four_fits order i j k l rest (h 4) (h 5) (h 6) (h 7);
    }

pub bytes_below : (bytes : List ℕ) (n : ℕ) → AreBytes bytes → AreBytes (drop n bytes)
bytes_below bytes n h i = subst (λ b. b < 256) (sym (get_or-drop n bytes i 0)) (h (n + i))

high_half_back : (imm : ℤ) (high : ℕ) → FitsSigned w32 imm → (cast_unsigned w32 imm + 2 ^ 32 * high) / 2 ^ 32 ≡ high
high_half_back imm high h = let fits : Fits w32 (cast_unsigned w32 imm) = Fits-of_z h in omega arith

two_small : (order : Order) (xs : List ℕ) → AreBytes xs → number_of order 2 xs < 2 ^ 16
two_small Little xs h = omega (arith, h 0, h 1)
two_small Big xs h = omega (arith, h 0, h 1)

four_small : (order : Order) (xs : List ℕ) → AreBytes xs → number_of order 4 xs < 2 ^ 32
four_small Little xs h = omega (arith, h 0, h 1, h 2, h 3)
four_small Big xs h = omega (arith, h 0, h 1, h 2, h 3)

bounded : (b : Bool) (n : ℕ) → n < 2 ^ 32 → cond b 0 n < 2 ^ 32
bounded true n h = lit< tt
bounded false n h = h

high_fits : (order : Order) (bytes : List ℕ) → AreBytes bytes → high_in order bytes < 2 ^ 32
high_fits order bytes h =
    let small : number_of order 4 (drop 12 bytes) < 2 ^ 32 = four_small order (drop 12 bytes) (bytes_below bytes 12 h) in
    bounded (nat_lt (length bytes) 16) (number_of order 4 (drop 12 bytes)) small

begins_wide : (order : Order) (bytes : List ℕ) (dst src : Reg) → AreBytes bytes → 8 ≤ length bytes → NoFault WideForm (fields_in order bytes) dst src → Clean (uses_of WideForm) (fields_in order bytes) bytes → insn_in_bytes order bytes ≡ Some (insn_of_form WideForm dst src (fields_in order bytes) (high_in order bytes)) → is_wide (fields_in order bytes) ≡ true → Begins order bytes
begins_wide order bytes dst src h long k c found wide =
    let f = fields_in order bytes in
    let uncut : nat_lt (length bytes) 16 ≡ false = two_true (is_wide f) (nat_lt (length bytes) 16) wide c.second in
    let two_slots : 16 ≤ length bytes = ltb-false (length bytes) 16 uncut in
    let rest_long : 8 ≤ length (drop 8 bytes) = rw (length-drop 8 bytes) (omega arith) in
    let zeros : list_all (λ x. x == 0) (take 4 (drop 8 bytes)) ≡ true = not_false _ (two_true (is_wide f) (not (reserved_is_zero bytes)) wide c.reserved) in
    let other : Second order (drop 8 bytes) = second order (drop 8 bytes) (bytes_below bytes 8 h) rest_long zeros in
    let high : ℕ = number_of order 4 (drop 12 bytes) in
    let high_is : high_in order bytes ≡ high = ap (λ b. cond b 0 high) uncut in
    let tail_is : drop 4 (drop 8 bytes) ≡ drop 12 bytes = drop-drop 4 8 bytes in
    let small : high < 2 ^ 32 = subst (λ xs. number_of order 4 xs < 2 ^ 32) tail_is other.fits in
    let made_of = is_for WideForm f dst src high small k in
    let halves : (cast_unsigned w32 f.imm + 2 ^ 32 * high) / 2 ^ 32 ≡ high = high_half_back f.imm high k.imm_fits in
    let i : Insn = insn_of_form WideForm dst src f high in
    let first_slot : take 8 bytes ≡ slot_bytes order (fields i) = sym (slot_bytes-fields_in order bytes h long) ∙ ap (slot_bytes order) (sym made_of.fields_are) in
    let second_slot_is : take 8 (drop 8 bytes) ≡ 0 ∷ 0 ∷ 0 ∷ 0 ∷ [] ++ bytes_of order 4 ((cast_unsigned w32 f.imm + 2 ^ 32 * high) / 2 ^ 32) = other.bytes_are ∙ ap (λ xs. 0 ∷ 0 ∷ 0 ∷ 0 ∷ [] ++ bytes_of order 4 (number_of order 4 xs)) tail_is ∙ ap (λ n. 0 ∷ 0 ∷ 0 ∷ 0 ∷ [] ++ bytes_of order 4 n) (sym halves) in
    record {
      insn = i;
      encoding = made_of.encoding;
      found = found ∙ ap (λ n. Some (insn_of_form WideForm dst src f n)) high_is;
      whole = two_slots;
      bytes_are = take-add 8 8 bytes ∙ ap₂ (λ xs ys. xs ++ ys) first_slot second_slot_is;
      count = sym (ap (λ b. cond b 2 1) wide);
    }

wide_form : (b : ℕ) (form : Form) → form_in b ≡ Some form → b == 0x18 ≡ true → form ≡ WideForm
wide_form b form e w =
    let same : b ≡ 0x18 = (Decides-eqb b 0x18).0 w in
    let told : Some form ≡ Some WideForm = sym e ∙ ap form_in same in
    cc

begins_form : (order : Order) (bytes : List ℕ) (form : Form) (dst src : Reg) → AreBytes bytes → 8 ≤ length bytes → form_in (slice_index bytes 0) ≡ Some form → NoFault form (fields_in order bytes) dst src → Clean (uses_of form) (fields_in order bytes) bytes → insn_in_bytes order bytes ≡ Some (insn_of_form form dst src (fields_in order bytes) (high_in order bytes)) → (w : Bool) → is_wide (fields_in order bytes) ≡ w → Begins order bytes
begins_form order bytes form dst src h long e k c found true w =
    let P : Form → Type 0 = λ x. NoFault x (fields_in order bytes) dst src → Clean (uses_of x) (fields_in order bytes) bytes → insn_in_bytes order bytes ≡ Some (insn_of_form x dst src (fields_in order bytes) (high_in order bytes)) → Begins order bytes in
    subst P (sym (wide_form (slice_index bytes 0) form e w)) (λ k' c' found'. begins_wide order bytes dst src h long k' c' found' w) k c found
begins_form order bytes form dst src h long e k c found false w =
    begins_narrow order bytes (insn_of_form form dst src (fields_in order bytes) (high_in order bytes)) h long (is_for form (fields_in order bytes) dst src (high_in order bytes) (high_fits order bytes h) k) found w

some_form : (o : Option Form) (f : Fields) (bytes : List ℕ) → refusal_by_uses (option_map uses_of o) f bytes ≡ None → (form : Form) × (o ≡ Some form) × (refusal_by_uses (Some (uses_of form)) f bytes ≡ None)
some_form None f bytes e = cc
some_form (Some form) f bytes e = (form, refl, e)

no_refusal : (order : Order) (bytes : List ℕ) → refusal_here order bytes ≡ None → refusal_by_uses (uses_in table (slice_index bytes 0)) (fields_in order bytes) bytes ≡ None
unfolding refusal_here
no_refusal order bytes e = (refused (is_left_out (fields_in order bytes)) (LeftOut (left_out (fields_in order bytes))) (refusal_by_uses (uses_in table (slice_index bytes 0)) (fields_in order bytes) bytes) e).1

found_parts : (order : Order) (bytes : List ℕ) (form : Form) (dst src : Reg) → form_in (slice_index bytes 0) ≡ Some form → register_in ((fields_in order bytes).dst) ≡ Some dst → register_in ((fields_in order bytes).src) ≡ Some src → insn_in_bytes order bytes ≡ Some (insn_of_form form dst src (fields_in order bytes) (high_in order bytes))
unfolding insn_in_bytes
found_parts order bytes form dst src e d s =
    let f = fields_in order bytes in
    let high = high_in order bytes in
    ap (λ x. insn_of_parts x (register_in f.dst) (register_in f.src) f high) e
    ∙ ap (λ x. insn_of_parts (Some form) x (register_in f.src) f high) d
    ∙ ap (λ x. insn_of_parts (Some form) (Some dst) x f high) s

pub begins : (order : Order) (bytes : List ℕ) → AreBytes bytes → 8 ≤ length bytes → refusal_here order bytes ≡ None → Begins order bytes
begins order bytes h long e =
    let f = fields_in order bytes in
    let small : slice_index bytes 0 < 256 = h 0 in
    let kept = no_refusal order bytes e in
    let by_form : refusal_by_uses (option_map uses_of (form_in f.opcode)) f bytes ≡ None = ap (λ u. refusal_by_uses u f bytes) (sym (uses_in-form f.opcode small)) ∙ kept in
    let has_form = some_form (form_in f.opcode) f bytes by_form in
    let form : Form = has_form.0 in
    let c : Clean (uses_of form) f bytes = clean (uses_of form) f bytes has_form.2 in
    let told = opcode_told f.opcode form small has_form.1 in
    let dst = register_told f.dst c.dst in
    let src = register_told f.src c.src in
    let offset_small = two_small order (drop 2 bytes) (bytes_below bytes 2 h) in
    let imm_small = four_small order (drop 4 bytes) (bytes_below bytes 4 h) in
    let offset_bits : Fits w16 (number_of order 2 (drop 2 bytes)) = record { fits = offset_small } in
    let imm_bits : Fits w32 (number_of order 4 (drop 4 bytes)) = record { fits = imm_small } in
    let k : NoFault form f dst.0 src.0 = record {
      real = told.1;
      opcode = told.0;
      dst_is = dst.2;
      src_is = src.2;
      offset_fits = sfits_to_z offset_bits;
      imm_fits = sfits_to_z imm_bits;
      selected = tested is_selected (uses_of form) f c.selected;
      zero = tested is_zero_if_unused (uses_of form) f c.zero;
    } in
    begins_form order bytes form dst.0 src.0 h long has_form.1 k c (found_parts order bytes form dst.0 src.0 has_form.1 dst.1 src.1) (is_wide f) refl
