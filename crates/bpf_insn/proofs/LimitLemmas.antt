-- Fields within the limits of their opcode have no fault, computed over all 256 opcodes.
use Rattle.std.proofs.Common.{◌≡◌, ℕ, ◌<◌, ◌≤◌, ◌==◌, ◌||◌, ◌&&◌, nat_lt, not, cond, Bool, true, false, zero, suc, List, [], ◌∷◌, map, get_or, slice_index, length, drop, refl, ap, sym, ◌∙◌, subst, arith}
use Rattle.std.specs.Prelude.{Option, Some, None, ℤ, pos, nat_le}
use Rattle.std.specs.Int.{cast_signed, w16, w32}
use Rattle.std.proofs.lemmas.Bool.{le-ltb, leb-true, or_from}
use Rattle.std.proofs.lemmas.Bool.Decides.{Decides-eqb}
use Rattle.bpf_insn.specs.Order.{number_of, dst_in, src_in}
use Rattle.bpf_insn.specs.declared.uses.Choice.{Choice}
use Rattle.bpf_insn.specs.declared.uses.Use.{Use}
use Rattle.bpf_insn.specs.declared.uses.Use.TheVariants.{Used, Selects, Zero}
use Rattle.bpf_insn.specs.declared.uses.Uses.{Uses}
use Rattle.bpf_insn.specs.declared.refusal.SlotFault.{SlotFault}
use Rattle.bpf_insn.specs.Refusal.{table, uses_in, is_one_of, each_field, is_selected, is_zero_if_unused, wrong_fields, is_left_out, left_out, reserved_is_zero, fields_in, refusal_by_uses, refusal_of_fields, refusal_here}
use Rattle.bpf_insn.specs.declared.order.Order.{Order}
use Rattle.bpf_insn.specs.declared.fields.Fields.{Fields}
use Rattle.bpf_insn.specs.declared.field_limits.Limits.{Limits}
use Rattle.bpf_insn.specs.declared.field_limits.TheConstants.{LIMITS}
use Rattle.bpf_insn.specs.declared.refusal.SlotFault.TheVariants.{LeftOut, Register, Selector, Unused, Truncated}
use Rattle.bpf_insn.proofs.TableLemmas.{same_in_range, numbers_from}

-- all numbers up to the limit are good for the use
unfoldable all_fit : Use → ℕ → Bool
all_fit Used limit = true
all_fit Zero limit = limit == 0
all_fit (Selects choice) zero = is_selected (Selects choice) (pos 0)
all_fit (Selects choice) (suc zero) = is_selected (Selects choice) (pos 0) && is_selected (Selects choice) (pos 1)
all_fit (Selects choice) (suc (suc n)) = false

-- the opcode is not one of those whose instructions may be left out, nor the wide one
unfoldable is_plain : ℕ → Bool
is_plain b = not (is_one_of b (0x20 ∷ 0x28 ∷ 0x30 ∷ 0x40 ∷ 0x48 ∷ 0x50 ∷ [])) && not (b == 0x18) && not (b == 0x85)

unfoldable uses_fit : Option Uses → Limits → Bool
uses_fit None l = false
uses_fit (Some u) l = (nat_le l.dst 10 && nat_le l.src 10) && (all_fit u.dst l.dst && all_fit u.src l.src && all_fit u.offset l.offset && all_fit u.imm l.imm)

unfoldable limits_fit : ℕ → Option Limits → Bool
limits_fit b None = true
limits_fit b (Some l) = is_plain b && uses_fit (uses_in table b) l

all_limits_fit : map (λ b. limits_fit b (get_or LIMITS b None)) (numbers_from 0 256) ≡ map (λ b. true) (numbers_from 0 256)
unfolding limits_fit uses_fit is_plain all_fit numbers_from
all_limits_fit = refl

four : (a b c d : Bool) → (a && b && c && d) ≡ true → (a ≡ true) × (b ≡ true) × (c ≡ true) × (d ≡ true)
four true true true true e = (refl, refl, refl, refl)
four false b c d e = cc
four true false c d e = cc
four true true false d e = cc
four true true true false e = cc

all_four : {a b c d : Bool} → a ≡ true → b ≡ true → c ≡ true → d ≡ true → (a && b && c && d) ≡ true
all_four {a = a} {b = b} {c = c} {d = d} e f g h = ap (λ x. x && b && c && d) e ∙ ap (λ x. x && c && d) f ∙ ap (λ x. x && d) g ∙ h

two : (a b : Bool) → (a && b) ≡ true → (a ≡ true) × (b ≡ true)
two true b e = (refl, e)
two false b e = cc

-- a number within a limit that fits a use is good for it, as it is read
Good : Use → ℤ → Type 0
Good u z = (is_selected u z ≡ true) × (is_zero_if_unused u z ≡ true)

good_select : (choice : Choice) (read : ℕ → ℤ) → read 0 ≡ pos 0 → read 1 ≡ pos 1 → (limit n : ℕ) → all_fit (Selects choice) limit ≡ true → n ≤ limit → Good (Selects choice) (read n)
unfolding all_fit Good
good_select choice read zero_is one_is zero zero e h = (ap (is_selected (Selects choice)) zero_is ∙ e, refl)
good_select choice read zero_is one_is zero (suc n) e h = absurd (omega arith)
good_select choice read zero_is one_is (suc zero) zero e h = (ap (is_selected (Selects choice)) zero_is ∙ (two (is_selected (Selects choice) (pos 0)) (is_selected (Selects choice) (pos 1)) e).0, refl)
good_select choice read zero_is one_is (suc zero) (suc zero) e h = (ap (is_selected (Selects choice)) one_is ∙ (two (is_selected (Selects choice) (pos 0)) (is_selected (Selects choice) (pos 1)) e).1, refl)
good_select choice read zero_is one_is (suc zero) (suc (suc n)) e h = absurd (omega arith)
good_select choice read zero_is one_is (suc (suc limit)) n e h = cc

good : (u : Use) (read : ℕ → ℤ) → read 0 ≡ pos 0 → read 1 ≡ pos 1 → (limit n : ℕ) → all_fit u limit ≡ true → nat_le n limit ≡ true → Good u (read n)
unfolding all_fit Good
good Used read zero_is one_is limit n e h = (refl, refl)
good Zero read zero_is one_is limit n e h =
    let none : limit ≡ 0 = (Decides-eqb limit 0).0 e in
    let below : n ≤ limit = leb-true n limit h in
    let is_none : n ≡ 0 = omega arith in
    (refl, ap (λ m. is_zero_if_unused Zero (read m)) is_none ∙ ap (is_zero_if_unused Zero) zero_is)
good (Selects choice) read zero_is one_is limit n e h = good_select choice read zero_is one_is limit n e (leb-true n limit h)

-- what the limits of an opcode tell of it
record Fit (u : Uses) (l : Limits) : Type 0 where
  dst_exists : nat_le l.dst 10 ≡ true
  src_exists : nat_le l.src 10 ≡ true
  dst : all_fit u.dst l.dst ≡ true
  src : all_fit u.src l.src ≡ true
  offset : all_fit u.offset l.offset ≡ true
  imm : all_fit u.imm l.imm ≡ true

fit : (u : Uses) (l : Limits) → uses_fit (Some u) l ≡ true → Fit u l
unfolding uses_fit
fit u l e =
    let parts = two (nat_le l.dst 10 && nat_le l.src 10) (all_fit u.dst l.dst && all_fit u.src l.src && all_fit u.offset l.offset && all_fit u.imm l.imm) e in
    let exist = two (nat_le l.dst 10) (nat_le l.src 10) parts.0 in
    let each = four (all_fit u.dst l.dst) (all_fit u.src l.src) (all_fit u.offset l.offset) (all_fit u.imm l.imm) parts.1 in
    record { dst_exists = exist.0; src_exists = exist.1; dst = each.0; src = each.1; offset = each.2; imm = each.3 }

-- no test of the refusal applies
no_fault : (out unused : SlotFault) (left beyond selected zeros wide reserved short : Bool) → left ≡ false → beyond ≡ false → selected ≡ true → zeros ≡ true → wide ≡ false → cond left (Some out) (cond beyond (Some Register) (cond (not selected) (Some Selector) (cond (not zeros || (wide && not reserved)) (Some unused) (cond (wide && short) (Some Truncated) None)))) ≡ None
no_fault out unused left beyond selected zeros wide reserved short e f g h k =
    let P : Bool → Bool → Bool → Bool → Bool → Type 0 = λ left beyond selected zeros wide. cond left (Some out) (cond beyond (Some Register) (cond (not selected) (Some Selector) (cond (not zeros || (wide && not reserved)) (Some unused) (cond (wide && short) (Some Truncated) None)))) ≡ None in
    subst (λ b. P b beyond selected zeros wide) (sym e) (subst (λ b. P false b selected zeros wide) (sym f) (subst (λ b. P false false b zeros wide) (sym g) (subst (λ b. P false false true b wide) (sym h) (subst (λ b. P false false true true b) (sym k) refl))))

-- the tests of what is left out, and of the wide one
plain : (out wide call src helper : Bool) → (not out && not wide && not call) ≡ true → ((out || (wide && src) || (call && helper)) ≡ false) × (wide ≡ false)
plain true wide call src helper e = cc
plain false true call src helper e = cc
plain false false true src helper e = cc
plain false false false src helper e = (refl, refl)

-- fields with nothing left to look at
no_fault_in : (u : Uses) (f : Fields) (bytes : List ℕ) → is_plain f.opcode ≡ true → uses_in table f.opcode ≡ Some u → f.dst ≤ 10 → f.src ≤ 10 → each_field is_selected u f ≡ true → each_field is_zero_if_unused u f ≡ true → refusal_of_fields f bytes ≡ None
unfolding is_plain
no_fault_in u f bytes e g h k a b =
    let left = plain (is_one_of f.opcode (0x20 ∷ 0x28 ∷ 0x30 ∷ 0x40 ∷ 0x48 ∷ 0x50 ∷ [])) (f.opcode == 0x18) (f.opcode == 0x85) (not (f.src == 0)) (is_one_of f.src (0 ∷ 2 ∷ [])) e in
    let beyond : (nat_lt 10 f.dst || nat_lt 10 f.src) ≡ false = or_from (nat_lt 10 f.dst) (nat_lt 10 f.src) (le-ltb 10 f.dst h) (le-ltb 10 f.src k) in
    ap (λ uses. cond (is_left_out f) (Some (LeftOut (left_out f))) (refusal_by_uses uses f bytes)) g
    ∙ no_fault (LeftOut (left_out f)) (Unused (wrong_fields u f (f.opcode == 0x18 && not (reserved_is_zero bytes)))) (is_left_out f) (nat_lt 10 f.dst || nat_lt 10 f.src) (each_field is_selected u f) (each_field is_zero_if_unused u f) (f.opcode == 0x18) (reserved_is_zero bytes) (nat_lt (length bytes) 16) left.0 beyond a b left.1

-- the fields in bytes, as numbers
record Within (order : Order) (bytes : List ℕ) (l : Limits) : Type 0 where
  dst : nat_le (dst_in order (slice_index bytes 1)) l.dst ≡ true
  src : nat_le (src_in order (slice_index bytes 1)) l.src ≡ true
  offset : nat_le (number_of order 2 (drop 2 bytes)) l.offset ≡ true
  imm : nat_le (number_of order 4 (drop 4 bytes)) l.imm ≡ true

some_uses : (b : ℕ) (l : Limits) (o : Option Uses) → uses_in table b ≡ o → uses_fit o l ≡ true → (u : Uses) × (uses_in table b ≡ Some u) × (uses_fit (Some u) l ≡ true)
unfolding uses_fit
some_uses b l None e h = cc
some_uses b l (Some u) e h = (u, e, h)

no_fault_within : (order : Order) (bytes : List ℕ) (l : Limits) → slice_index bytes 0 < 256 → get_or LIMITS (slice_index bytes 0) None ≡ Some l → Within order bytes l → refusal_here order bytes ≡ None
unfolding refusal_here limits_fit Good
no_fault_within order bytes l small has w =
    let b = slice_index bytes 0 in
    let f = fields_in order bytes in
    let told : limits_fit b (get_or LIMITS b None) ≡ true = same_in_range (λ n. limits_fit n (get_or LIMITS n None)) (λ n. true) true 256 all_limits_fit b small in
    let parts = two (is_plain b) (uses_fit (uses_in table b) l) (ap (limits_fit b) (sym has) ∙ told) in
    let found = some_uses b l (uses_in table b) refl parts.1 in
    let u = found.0 in
    let k = fit u l found.2 in
    let dst = good u.dst (λ n. pos n) refl refl l.dst f.dst k.dst w.dst in
    let src = good u.src (λ n. pos n) refl refl l.src f.src k.src w.src in
    let offset = good u.offset (cast_signed w16) refl refl l.offset (number_of order 2 (drop 2 bytes)) k.offset w.offset in
    let imm = good u.imm (cast_signed w32) refl refl l.imm (number_of order 4 (drop 4 bytes)) k.imm w.imm in
    let dst_below : f.dst ≤ l.dst = leb-true f.dst l.dst w.dst in
    let src_below : f.src ≤ l.src = leb-true f.src l.src w.src in
    let dst_known : l.dst ≤ 10 = leb-true l.dst 10 k.dst_exists in
    let src_known : l.src ≤ 10 = leb-true l.src 10 k.src_exists in
    no_fault_in u f bytes parts.0 found.1 (omega arith) (omega arith) (all_four dst.0 src.0 offset.0 imm.0) (all_four dst.1 src.1 offset.1 imm.1)

pub within_limits : (order : Order) (bytes : List ℕ) (l : Limits) → slice_index bytes 0 < 256 → get_or LIMITS (slice_index bytes 0) None ≡ Some l → (dst src offset imm : ℕ) → dst ≡ dst_in order (slice_index bytes 1) → src ≡ src_in order (slice_index bytes 1) → offset ≡ number_of order 2 (drop 2 bytes) → imm ≡ number_of order 4 (drop 4 bytes) → (nat_le dst l.dst && nat_le src l.src && nat_le offset l.offset && nat_le imm l.imm) ≡ true → refusal_here order bytes ≡ None
within_limits order bytes l small has dst src offset imm dst_is src_is offset_is imm_is e =
    let each = four (nat_le dst l.dst) (nat_le src l.src) (nat_le offset l.offset) (nat_le imm l.imm) e in
    no_fault_within order bytes l small has (record {
      dst = ap (λ n. nat_le n l.dst) (sym dst_is) ∙ each.0;
      src = ap (λ n. nat_le n l.src) (sym src_is) ∙ each.1;
      offset = ap (λ n. nat_le n l.offset) (sym offset_is) ∙ each.2;
      imm = ap (λ n. nat_le n l.imm) (sym imm_is) ∙ each.3;
    })
