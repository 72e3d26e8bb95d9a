-- Values inside of a block: where both operands are moved, so is what an operation gives.
use Rattle.std.proofs.Common.{◌≡◌, ℕ, ◌^◌, Bool, Option, Some, None, cond, true, false, ◌==◌, refl, ap, arith}
use Rattle.std.specs.Prelude.{ℤ, pos, ◌+ℤ◌, ◌-ℤ◌, not, option_and_then, option_map, FitsSigned}
use Rattle.std.specs.Int.{w64, cast_signed}
use Rattle.std.specs.Ordering.{int_eq}
use Rattle.std.proofs.lemmas.Int.{ints}
use Rattle.std.proofs.lemmas.Bool.Decides.{Decides-int_eq}
use Rattle.std.proofs.Math.Facts.{sfits_to_z}
use Rattle.bpf_insn.specs.Arithmetic.{modulo}
use Rattle.bpf_insn.specs.declared.instruction.Width.{Width}
use Rattle.bpf_insn.specs.declared.instruction.Width.TheVariants.{W32, W64}
use Rattle.bpf_insn.specs.declared.instruction.AluOp.{AluOp}
use Rattle.bpf_insn.specs.declared.instruction.AluOp.TheVariants.{Add, Sub, Mov}
use Rattle.bpf_insn.specs.declared.instruction.Cond.{Cond}
use Rattle.bpf_insn.specs.declared.instruction.Cond.TheVariants.{Eq, Ne}
use Rattle.bpf_semantics.specs.Flat.{addresses}
use Rattle.bpf_semantics.specs.State.{number_in, FitsMachine}
use Rattle.bpf_semantics.specs.Step.{wrapped, alu_of_values, moved, alu_result, test_of_values}
use Rattle.bpf_semantics.specs.declared.value.Value.{Value}
use Rattle.bpf_semantics.specs.declared.value.Value.TheVariants.{Number, Pointer}
use Rattle.bpf_semantics.specs.declared.value.Region.{Region}
use Rattle.bpf_semantics.specs.declared.value.Region.TheVariants.{Context, Frame as FrameAt}
use Rattle.bpf_semantics.proofs.NumberLemmas.{modulo_below}
use Rattle.bpf_semantics.proofs.FlatArith.{Same, modulo_same, same_refl, same_sym, same_trans, same_plus, same_minus, same_equal, wrapped-same, same_offsets, same_answer}
use Rattle.bpf_semantics.specs.Blocks.{head_bytes, offset_inside, inside_value}

-- ---- offsets

abbrev pub head : ℤ
head = pos head_bytes

wrapped_same : {z w : ℤ} → Same z w → wrapped z ≡ wrapped w
wrapped_same s = ap (cast_signed w64) (modulo_same s)

sum_inside : (off by : ℤ) → wrapped (wrapped (off +ℤ head) +ℤ by) ≡ wrapped (wrapped (off +ℤ by) +ℤ head)
sum_inside off by =
    let there : Same ((off +ℤ head) +ℤ by) ((off +ℤ by) +ℤ head) = same_equal (omega (arith, ints)) in
    wrapped_same (same_trans (same_plus (wrapped-same (off +ℤ head)) (same_refl by)) (same_trans there (same_sym (same_plus (wrapped-same (off +ℤ by)) (same_refl head)))))

difference_inside : (off by : ℤ) → wrapped (wrapped (off +ℤ head) -ℤ by) ≡ wrapped (wrapped (off -ℤ by) +ℤ head)
difference_inside off by =
    let there : Same ((off +ℤ head) -ℤ by) ((off -ℤ by) +ℤ head) = same_equal (omega (arith, ints)) in
    wrapped_same (same_trans (same_minus (wrapped-same (off +ℤ head)) (same_refl by)) (same_trans there (same_sym (same_plus (wrapped-same (off -ℤ by)) (same_refl head)))))

apart_inside : (a b : ℤ) → modulo (wrapped (a +ℤ head) -ℤ wrapped (b +ℤ head)) addresses ≡ modulo (a -ℤ b) addresses
apart_inside a b =
    let there : Same ((a +ℤ head) -ℤ (b +ℤ head)) (a -ℤ b) = same_equal (omega (arith, ints)) in
    modulo_same (same_trans (same_minus (wrapped-same (a +ℤ head)) (wrapped-same (b +ℤ head))) there)

equal_inside : (a b : ℤ) → FitsSigned w64 a → FitsSigned w64 b → int_eq (wrapped (a +ℤ head)) (wrapped (b +ℤ head)) ≡ int_eq a b
equal_inside a b fa fb = same_answer (Decides-int_eq _ _) (Decides-int_eq a b) back (ap (λ z. wrapped (z +ℤ head)))
  where
    turned : (z : ℤ) → Same (z +ℤ head) (pos head_bytes +ℤ z)
    turned z = same_equal (omega (arith, ints))

    back : wrapped (a +ℤ head) ≡ wrapped (b +ℤ head) → a ≡ b
    back e = same_offsets head_bytes a b fa fb (modulo_same
        (same_trans (same_sym (turned a)) (same_trans (same_sym (wrapped-same (a +ℤ head))) (same_trans (same_equal e) (same_trans (wrapped-same (b +ℤ head)) (turned b))))))

pub wrapped_fits : (z : ℤ) → FitsSigned w64 (wrapped z)
wrapped_fits z = sfits_to_z {w = w64} {n = modulo z (2 ^ 64)} (record { fits = modulo_below z })

pub offset_fits : (region : Region) (off : ℤ) → FitsMachine (Some (Pointer region off)) → FitsMachine (Some (Pointer region (offset_inside region off)))
offset_fits Context off f = wrapped_fits _
offset_fits (FrameAt n) off f = f

-- ---- values

pub fits_inside : (o : Option Value) → FitsMachine o → FitsMachine (option_map inside_value o)
fits_inside None f = f
fits_inside (Some (Number n)) f = f
fits_inside (Some (Pointer region off)) f = offset_fits region off f

pub number_inside : (o : Option Value) → option_and_then number_in (option_map inside_value o) ≡ option_and_then number_in o
number_inside None = refl
number_inside (Some (Number n)) = refl
number_inside (Some (Pointer region off)) = refl

pub moved_inside : (width : Width) (v : Value) → moved width (inside_value v) ≡ option_map inside_value (moved width v)
moved_inside W64 v = refl
moved_inside W32 (Number n) = refl
moved_inside W32 (Pointer region off) = refl

up_inside : (region : Region) (off by : ℤ) → wrapped (offset_inside region off +ℤ by) ≡ offset_inside region (wrapped (off +ℤ by))
up_inside Context off by = sum_inside off by
up_inside (FrameAt n) off by = refl

down_inside : (region : Region) (off by : ℤ) → wrapped (offset_inside region off -ℤ by) ≡ offset_inside region (wrapped (off -ℤ by))
down_inside Context off by = difference_inside off by
down_inside (FrameAt n) off by = refl

number_or_none : (b : Bool) (n : ℕ) → cond b (Some (Number n)) None ≡ option_map inside_value (cond b (Some (Number n)) None)
number_or_none true n = refl
number_or_none false n = refl

pub values_inside : (width : Width) (op : AluOp) (a b : Value) → alu_of_values width op (inside_value a) (inside_value b) ≡ option_map inside_value (alu_of_values width op a b)
values_inside width op (Number a) (Number b) = refl
values_inside W64 Add (Pointer region off) (Number b) = ap (λ z. Some (Pointer region z)) (up_inside region off (pos b))
values_inside W64 Add (Number a) (Pointer region off) = ap (λ z. Some (Pointer region z)) (up_inside region off (pos a))
values_inside W64 Sub (Pointer region off) (Number b) = ap (λ z. Some (Pointer region z)) (down_inside region off (pos b))
values_inside W64 Sub (Pointer Context a) (Pointer Context b) = ap (λ n. Some (Number n)) (apart_inside a b)
values_inside W64 Sub (Pointer (FrameAt m) a) (Pointer (FrameAt n) b) = number_or_none (m == n) (modulo (a -ℤ b) (2 ^ 64))
values_inside width op a b = refl

pub result_inside : (width : Width) (op : AluOp) (a : Option Value) (b : Value) → alu_result width op (option_map inside_value a) (inside_value b) ≡ option_map inside_value (alu_result width op a b)
result_inside width Mov a b = moved_inside width b
result_inside width op None b = refl
result_inside width op (Some a) b = values_inside width op a b

-- two pointers into one region are equal there if they were
pub test_inside : (width : Width) (test : Cond) (a b : Value) → FitsMachine (Some a) → FitsMachine (Some b) → test_of_values width test (inside_value a) (inside_value b) ≡ test_of_values width test a b
test_inside width test (Number a) (Number b) fa fb = refl
test_inside W64 Eq (Pointer Context a) (Pointer Context b) fa fb = ap Some (equal_inside a b fa fb)
test_inside W64 Ne (Pointer Context a) (Pointer Context b) fa fb = ap (λ e. Some (not e)) (equal_inside a b fa fb)
test_inside W64 Eq (Pointer (FrameAt m) a) (Pointer (FrameAt n) b) fa fb = refl
test_inside W64 Ne (Pointer (FrameAt m) a) (Pointer (FrameAt n) b) fa fb = refl
test_inside width test a b fa fb = refl
