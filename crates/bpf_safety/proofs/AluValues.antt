-- Arithmetic on what is known of two values: the result describes the machine's.
use Rattle.std.proofs.Common.{◌≡◌, ℕ, ℤ, ◌+ℤ◌, ◌-ℤ◌, ◌≤ℤ◌, ◌^◌, refl, sym, ◌∙◌, ap, subst, arith, Option, Some, None, Bool, true, false, cond}
use Rattle.std.specs.Prelude.{◌&&◌, not, is_some, pos, neg_ℤ, int_le, option_map, option_and_then}
use Rattle.std.proofs.lemmas.Int.{ints}
use Rattle.std.proofs.lemmas.Bool.{false≢true}
use Rattle.std.proofs.lemmas.Option.{same_Some}
use Rattle.bpf_insn.specs.declared.instruction.Width.{Width}
use Rattle.bpf_insn.specs.declared.instruction.Width.TheVariants.{W32, W64}
use Rattle.bpf_insn.specs.declared.instruction.AluOp.{AluOp}
use Rattle.bpf_insn.specs.declared.instruction.AluOp.TheVariants.{Add, Sub, Mov}
use Rattle.bpf_semantics.specs.declared.value.Value.{Value}
use Rattle.bpf_semantics.specs.declared.value.Value.TheVariants.{Number as NumberValue, Pointer as PointerValue}
use Rattle.bpf_semantics.specs.declared.value.Region.{Region}
use Rattle.bpf_insn.specs.Arithmetic.{alu, modulo}
use Rattle.bpf_semantics.specs.Step.{alu_result}
use Rattle.bpf_num.specs.Number.{Number, IsNumber}
use Rattle.bpf_num.specs.Laws.{Holds, AluKeeps, TightenKeeps}
use Rattle.bpf_num.specs.Operation.{num_alu}
use Rattle.bpf_state.specs.declared.known.RegState.{RegState}
use Rattle.bpf_state.specs.declared.known.RegState.TheVariants.{Num, Ptr}
use Rattle.bpf_state.specs.declared.known.Pointer.{Pointer}
use Rattle.bpf_state.specs.State.{same_area, IsAbstractRegister}
use Rattle.bpf_state.specs.Fault.{alu_of_kinds, difference, leaves_bounds, some_passes}
use Rattle.bpf_safety.specs.Describes.{DescribesRegister, PointsInto, region_of}
use Rattle.bpf_safety.proofs.Areas.{same_regions}
use Rattle.bpf_safety.proofs.Lists.{Given}
use Rattle.bpf_safety.proofs.Tests.{some_if}
use Rattle.bpf_safety.proofs.Tags.{is_mov}
use Rattle.bpf_safety.proofs.Offsets.{in_range, pointer_plus, pointer_minus, difference_holds}

-- what is known of the result, if it is allowed, and whether it is a pointer that leaves its bounds
abbrev pub result_of_kinds : Width → AluOp → RegState → RegState → Option RegState
result_of_kinds width op A B = option_and_then (λ r. r) (alu_of_kinds width op A B)

abbrev pub leaves : Width → AluOp → RegState → RegState → Bool
leaves width op A B = some_passes leaves_bounds (result_of_kinds width op A B)

-- a result describes a value
abbrev pub IsResult : ℕ → Value → RegState → Type 0
IsResult depth v R = IsAbstractRegister R × DescribesRegister depth R (Some v)

-- the operands' values, and the result
at_values : (width : Width) (op : AluOp) (a : Option Value) (b a' b' v : Value) → a ≡ Some a' → Some b ≡ Some b' → alu_result width op a b ≡ Some v → alu_result width op (Some a') b' ≡ Some v
at_values width op a b a' b' v e f h = subst (λ b. alu_result width op (Some a') b ≡ Some v) (same_Some b b' f) (subst (λ a. alu_result width op a b ≡ Some v) e h)

number_given : (depth : ℕ) (o : Option Number) (y : ℕ) (v : Value) → Holds o y → Some (NumberValue y) ≡ Some v → Given (option_map Num o) (IsResult depth v)
number_given depth o y v h e = record {
  value = Num h.set;
  is_there = ap (λ o. option_map Num o) h.is_there;
  good = (h.valid, (y, sym e, h.has));
}

-- bounds of a sum or a difference of a pointer and a number, and of the offset
module _ (v : Value) (region : Region) (lo hi : ℤ) (n : Number) where
  abbrev Points : ℤ → ℤ → Type 0
  Points low high = (low ≤ℤ high) × PointsInto region low high (Some v)

  abbrev leaves_range : ℤ → ℤ → Bool
  leaves_range low high = not (int_le (neg_ℤ (pos (2 ^ 31))) low && int_le high (pos (2 ^ 31)))

  plus : (a : Option Value) (b : Value) → lo ≤ℤ hi → PointsInto region lo hi a → IsNumber n → DescribesRegister 0 (Num n) (Some b) → leaves_range (lo +ℤ n.signed.lo) (hi +ℤ n.signed.hi) ≡ false → alu_result W64 Add a b ≡ Some v → Points (lo +ℤ n.signed.lo) (hi +ℤ n.signed.hi)
  plus a b ok d ok' d' near e =
      let q = ok'.signed.ordered in
      let range = in_range (lo +ℤ n.signed.lo) (hi +ℤ n.signed.hi) near in
      let is = at_values W64 Add a b (PointerValue region d.0) (NumberValue d'.0) v d.1 d'.1 e in
      (omega (arith, ints), subst (λ o. PointsInto region (lo +ℤ n.signed.lo) (hi +ℤ n.signed.hi) o) is (pointer_plus region lo hi d.0 n d'.0 d'.2 d.2 d.3 range))

  plus_left : (a : Option Value) (b : Value) → IsNumber n → DescribesRegister 0 (Num n) a → lo ≤ℤ hi → PointsInto region lo hi (Some b) → leaves_range (lo +ℤ n.signed.lo) (hi +ℤ n.signed.hi) ≡ false → alu_result W64 Add a b ≡ Some v → Points (lo +ℤ n.signed.lo) (hi +ℤ n.signed.hi)
  plus_left a b ok d ok' d' near e =
      let q = ok.signed.ordered in
      let range = in_range (lo +ℤ n.signed.lo) (hi +ℤ n.signed.hi) near in
      let is = at_values W64 Add a b (NumberValue d.0) (PointerValue region d'.0) v d.1 d'.1 e in
      (omega (arith, ints), subst (λ o. PointsInto region (lo +ℤ n.signed.lo) (hi +ℤ n.signed.hi) o) is (pointer_plus region lo hi d'.0 n d.0 d.2 d'.2 d'.3 range))

  minus : (a : Option Value) (b : Value) → lo ≤ℤ hi → PointsInto region lo hi a → IsNumber n → DescribesRegister 0 (Num n) (Some b) → leaves_range (lo -ℤ n.signed.hi) (hi -ℤ n.signed.lo) ≡ false → alu_result W64 Sub a b ≡ Some v → Points (lo -ℤ n.signed.hi) (hi -ℤ n.signed.lo)
  minus a b ok d ok' d' near e =
      let q = ok'.signed.ordered in
      let range = in_range (lo -ℤ n.signed.hi) (hi -ℤ n.signed.lo) near in
      let is = at_values W64 Sub a b (PointerValue region d.0) (NumberValue d'.0) v d.1 d'.1 e in
      (omega (arith, ints), subst (λ o. PointsInto region (lo -ℤ n.signed.hi) (hi -ℤ n.signed.lo) o) is (pointer_minus region lo hi d.0 n d'.0 d'.2 d.2 d.3 range))

between : TightenKeeps → (depth : ℕ) (p q : Pointer) (a : Option Value) (b v : Value) → same_area p.area q.area ≡ true → DescribesRegister depth (Ptr p) a → DescribesRegister depth (Ptr q) (Some b) → alu_result W64 Sub a b ≡ Some v → Given (difference p.lo p.hi q.lo q.hi) (IsResult depth v)
between law depth p q a b v same is is' e =
    let z : ℕ = modulo (is.0 -ℤ is'.0) (2 ^ 64) in
    number_given depth _ z v (difference_holds law p.lo p.hi q.lo q.hi is.0 is'.0 is.2 is.3 is'.2 is'.3)
    (sym (ap (λ t. cond t (Some (NumberValue z)) None) (same_regions depth p.area q.area same)) ∙ at_values W64 Sub a b (PointerValue (region_of depth p.area) is.0) (PointerValue (region_of depth q.area) is'.0) v is.1 is'.1 e)

there : (depth : ℕ) (v : Value) (R : RegState) → IsResult depth v R → Given (Some R) (IsResult depth v)
there depth v R is = record { value = R; is_there = refl; good = is }

module _ (law : AluKeeps) (tightens : TightenKeeps) (depth : ℕ) (a : Option Value) (b v : Value) where
  pub alu_value : (width : Width) (op : AluOp) (A B : RegState) → IsAbstractRegister A → DescribesRegister depth A a → IsAbstractRegister B → DescribesRegister depth B (Some b) → is_some (alu_of_kinds width op A B) ≡ true → (is_mov op ≡ false → leaves width op A B ≡ false) → alu_result width op a b ≡ Some v → Given (result_of_kinds width op A B) (IsResult depth v)
  alu_value W64 Mov A B ok d ok' d' kinds near e = there depth v B (ok', subst (λ o. DescribesRegister depth B o) e d')
  alu_value W32 Mov A (Num n) ok d ok' d' kinds near e =
      let z : ℕ = d'.0 in
      number_given depth (num_alu W32 Mov n n) (alu W32 Mov z z) v (law W32 Mov n n z z (ok', d'.2) (ok', d'.2)) (subst (λ b. alu_result W32 Mov a b ≡ Some v) (same_Some b (NumberValue z) d'.1) e)
  alu_value width op (Num m) (Num n) ok d ok' d' kinds near e =
      number_given depth (num_alu width op m n) (alu width op d.0 d'.0) v (law width op m n d.0 d'.0 (ok, d.2) (ok', d'.2)) (at_values width op a b (NumberValue d.0) (NumberValue d'.0) v d.1 d'.1 e)
  alu_value W64 Add (Ptr p) (Num n) ok d ok' d' kinds near e = there depth v _ (plus v (region_of depth p.area) p.lo p.hi n a b ok d ok' d' (near refl) e)
  alu_value W64 Add (Num n) (Ptr p) ok d ok' d' kinds near e = there depth v _ (plus_left v (region_of depth p.area) p.lo p.hi n a b ok d ok' d' (near refl) e)
  alu_value W64 Sub (Ptr p) (Num n) ok d ok' d' kinds near e = there depth v _ (minus v (region_of depth p.area) p.lo p.hi n a b ok d ok' d' (near refl) e)
  alu_value W64 Sub (Ptr p) (Ptr q) ok d ok' d' kinds near e =
      let known : Option RegState = difference p.lo p.hi q.lo q.hi in
      let same = some_if (same_area p.area q.area) known kinds in
      subst (λ t. Given (option_and_then (λ r. r) (cond t (Some known) None)) (IsResult depth v)) (sym same) (between tightens depth p q a b v same d d' e)
  alu_value width op A B ok d ok' d' kinds near e = absurd (false≢true kinds)
