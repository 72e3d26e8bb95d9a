-- Instructions that put a number into a register: what the new program puts where it does what the old one does, and where it does it alone.
use Rattle.std.proofs.Common.{set, ◌==◌, false, List, ◌≡◌, ℕ, zero, ◌+◌, ◌%◌, ◌^◌, ◌-◌, ◌*◌, ◌/◌, ◌<◌, ◌≤◌, inl, inr, refl, sym, ap, ap₂, ◌∙◌, subst, arith, true, Option, Some, None}
use Rattle.std.specs.Prelude.{FitsSigned, ℤ, pos, negsuc, ◌+ℤ◌, ◌-ℤ◌, ◌&&◌, get_or, bit_and, bit_or, bit_xor, if◌then◌else◌}
use Rattle.std.specs.Int.{cast_signed, w16, w64, bit_at}
use Rattle.std.specs.List.{AllByRecursion, list_all, list_any}
use Rattle.std.specs.Option.{option_map_or, option_or}
use Rattle.std.specs.Ordering.{int_eq}
use Rattle.std.proofs.lemmas.Bool.{and_parts, or_cases, eqb-true, eqb-false, false≢true}
use Rattle.std.proofs.lemmas.Bool.Decides.{Decides-int_eq}
use Rattle.std.proofs.lemmas.Int.{ints}
use Rattle.std.proofs.lemmas.List.{get_or-set_other}
use Rattle.std.proofs.lemmas.Nat.{and_mod, or_mod, xor_mod, xor_lt}
use Rattle.std.proofs.lemmas.Nat.Bits.{same_from_bits_below, bit_at_ones, bit_at_xor, bit_at_not, bit_at-lt}
use Rattle.std.proofs.lemmas.Option.{none-some, same_Some, option_and_then_some}
use Rattle.bpf_insn.specs.Arithmetic.{modulo, alu, compute, low, extended}
use Rattle.bpf_insn.specs.Image.{HasEncoding}
use Rattle.bpf_insn.specs.Order.{number_of}
use Rattle.bpf_insn.specs.Effects.{registers_read, is_frame_pointer}
use Rattle.bpf_insn.specs.Limits.{frame_bytes}
use Rattle.bpf_insn.specs.Instruction.{register_number, byte_count}
use Rattle.bpf_insn.specs.declared.order.Order.{Order}
use Rattle.bpf_insn.specs.declared.instruction.Reg.{Reg}
use Rattle.bpf_insn.specs.declared.instruction.Operand.{Operand}
use Rattle.bpf_insn.specs.declared.instruction.Operand.TheVariants.{Imm, Reg as FromReg}
use Rattle.bpf_insn.specs.declared.instruction.Size.{Size}
use Rattle.bpf_insn.specs.declared.instruction.Size.TheVariants.{B, H, W, DW}
use Rattle.bpf_insn.specs.declared.instruction.Width.TheVariants.{W64}
use Rattle.bpf_insn.specs.declared.instruction.AluOp.{AluOp}
use Rattle.bpf_insn.specs.declared.instruction.AluOp.TheVariants.{Add, Sub, Mul, Or, And, Lsh, Xor, Mov}
use Rattle.bpf_insn.specs.declared.instruction.Insn.{Insn}
use Rattle.bpf_insn.specs.declared.instruction.Insn.TheVariants.{Alu, Neg, Load, LoadSx}
use Rattle.bpf_semantics.specs.Step.{size_type}
use Rattle.bpf_semantics.specs.Flat.{FlatState, IsFlat, addresses, address, bytes_from, flat_register, flat_operand, flat_number}
use Rattle.bpf_insn.specs.Effects.{Access, access_of}
use Rattle.bpf_semantics.proofs.FlatArith.{Same, modulo_same, same_refl, same_sym, same_trans, same_plus, same_equal, modulo-same}
use Rattle.bpf_semantics.proofs.NumberLemmas.{modulo_below}
use Rattle.bpf_semantics.proofs.StateLemmas.{cond_option, option_map_some}
use Rattle.bpf_kept.specs.declared.notes.Holder.TheVariants.{Register, Slot}
use Rattle.bpf_kept.specs.declared.notes.Term.{Term}
use Rattle.bpf_kept.specs.Terms.{Packet, Facts, Differs, AreLow, DiffersBy, Holds, AllHold, IsCommon, value_in, slot_number, shift, constant, zero_term, frame_offset, plus, minus, negated, times}
use Rattle.bpf_kept.specs.Slots.{slot_at}
use Rattle.bpf_num.specs.Laws.{Member}
use Rattle.bpf_kept.specs.States.{held_number}
use Rattle.bpf_kept.specs.Rules.{Known, own_in, own, same_register, is_register, is_same, is_low, put_into, operand_term, by_terms, keeps_low, has_low_result, reads_low, reads_same, loads_common, result_term, is_common, is_address, is_folded, numbered, pinned, same_size, same_address, goes_alike, loads_alike, is_framed}
use Rattle.bpf_kept.proofs.TermLaw.{shift_plus, differs_same, same_differs, same_number, sum_differs, difference_differs, negation_differs, product_differs, complement_differs}
use Rattle.bpf_kept.proofs.HoldsLaw.{IsHigh, any_holds, pinned_differs, numbered_differs, register_is, held, own_differs, plain_shift, all_same, all_low}
use Rattle.bpf_kept.proofs.AheadLaw.{access_near}
use Rattle.bpf_kept.proofs.FrameLaw.{IsRoomy, IsEnd, IsAccess, Goes, access_common, slot_access, slot_loaded}
use Rattle.bpf_kept.proofs.PutValue.{put_value, ReadsSame, put_same, put_below, operand_low, put_low}

-- ---- at one placement

abbrev pub ArePointers : ℕ → List ℕ → List ℕ → Type 0
ArePointers start old new = IsEnd start old × IsEnd start new

pub end_left : (start : ℕ) (registers : List ℕ) (r : Reg) (x : ℕ) → is_frame_pointer r ≡ false → IsEnd start registers → IsEnd start (set registers (register_number r) x)
end_left start registers r x e h = get_or-set_other registers (register_number r) 10 x 0 (λ same. eqb-false (register_number r) 10 e (sym same)) ∙ h

-- the old program's state, and the new one's by what is known
pub record AtOnce (order : Order) (start : ℕ) (packet : Packet) (known : Known) (f g : FlatState) : Type 0 where
  pub high : IsHigh start
  pub room : IsRoomy start
  pub flat : IsFlat f
  pub new_flat : IsFlat g
  pub common : IsCommon start packet known.apart f g
  pub pointers : ArePointers start f.registers g.registers
  pub numbers : (r : Reg) → Member (held_number known.state r) (flat_register g r)
  pub all : AllHold start (value_in order start packet f) (value_in order start packet g) known.facts

size_few : (size : Size) → byte_count size ≤ 8
size_few B = omega arith
size_few H = omega arith
size_few W = omega arith
size_few DW = omega arith

-- accesses of both to one address
pub access_is : (order : Order) (start : ℕ) (packet : Packet) (known : Known) (i moved : Insn) (a b : Access) (f g : FlatState) → HasEncoding i → HasEncoding moved → AtOnce order start packet known f g → Goes start packet known.left i moved f g → access_of i ≡ Some a → access_of moved ≡ Some b
    → byte_count b.size ≡ byte_count a.size → address g b.base b.offset ≡ address f a.base a.offset → IsAccess start known.left (byte_count a.size) a.base b.base a.offset b.offset f g
access_is order start packet known i moved a b f g enc enc' at leaves ea eb size same =
    record {
      room = at.room;
      end = at.pointers.0;
      new_end = at.pointers.1;
      near = access_near i a enc ea;
      new_near = access_near moved b enc' eb;
      few = size_few a.size;
      same = same;
      leaves = λ nb na j lt. leaves.leaves a b j ea eb na nb same lt (subst (λ k. j < k) (sym size) lt);
    }

-- ---- the same instruction in both

operand_differs : (order : Order) (start : ℕ) (packet : Packet) (facts : Facts) (f g : FlatState) (src : Operand) (t : Term) → AllHold start (value_in order start packet f) (value_in order start packet g) facts → operand_term facts src ≡ Some t → Differs start t (flat_operand f src) (flat_operand g src)
operand_differs order start packet facts f g (Imm imm) t all e = subst (λ t. Differs start t (extended imm) (extended imm)) (same_Some zero_term t e) (same_number start (extended imm) (modulo_below imm))
operand_differs order start packet facts f g (FromReg r) t all e = own_differs start (value_in order start packet f) (value_in order start packet g) facts (Register r) t all e

-- all bits of a number turned
xor_ones : (x : ℕ) → x < 2 ^ 64 → bit_xor x (2 ^ 64 - 1) ≡ 2 ^ 64 - 1 - x
xor_ones x small = same_from_bits_below 64 (bit_xor x (2 ^ 64 - 1)) (2 ^ 64 - 1 - x) (xor_lt 64 x (2 ^ 64 - 1) small (omega arith)) (omega arith) (λ i lt.
    let b = bit_at-lt x i in
    let one : bit_at (2 ^ 64 - 1) i ≡ 1 = bit_at_ones 64 i lt in
    let turned : (bit_at x i + 1) % 2 ≡ 1 - bit_at x i = omega arith in
    bit_at_xor x (2 ^ 64 - 1) i ∙ ap (λ z. (bit_at x i + z) % 2) one ∙ turned ∙ sym (bit_at_not w64 x i small lt))

-- what both have in a register
pub register_differs : (order : Order) (start : ℕ) (packet : Packet) (facts : Facts) (f g : FlatState) (r : Reg) (t : Term) → AllHold start (value_in order start packet f) (value_in order start packet g) facts → own facts r ≡ Some t → Differs start t (flat_register f r) (flat_register g r)
register_differs order start packet facts f g r t all e = own_differs start (value_in order start packet f) (value_in order start packet g) facts (Register r) t all e

-- both load a slot of the frame
slot_differs : (order : Order) (start : ℕ) (packet : Packet) (known : Known) (size : Size) (src : Reg) (off : ℤ) (f g : FlatState) (n : ℕ) (t : Term) → AtOnce order start packet known f g → FitsSigned w16 off → slot_at size src off ≡ Some n → own_in known.facts (Slot n) ≡ Some t
    → Differs start t (flat_number order f (byte_count size) (address f src off)) (flat_number order g (byte_count size) (address g src off))
slot_differs order start packet known size src off f g n t at near en et =
    let s = slot_access start n size src off en in
    subst (λ y. Differs start t (flat_number order f (byte_count size) (address f src off)) y) (sym (slot_loaded order start n size g src off at.room at.pointers.1 near s))
    (subst (λ x. Differs start t x (slot_number order start g n)) (sym (slot_loaded order start n size f src off at.room at.pointers.0 near s))
    (own_differs start (value_in order start packet f) (value_in order start packet g) known.facts (Slot n) t at.all et))

terms_differ : (order : Order) (start : ℕ) (packet : Packet) (known : Known) (i : Insn) (f g : FlatState) (t : Term) → HasEncoding i → AtOnce order start packet known f g → by_terms known.facts i ≡ Some t → Differs start t (put_value order i f) (put_value order i g)
terms_differ order start packet known (Alu Mul W64 dst (Imm imm)) f g t enc at e =
    let h = option_map_some (times (extended imm)) (own known.facts dst) t e in
    subst (λ t. Differs start t (put_value order (Alu Mul W64 dst (Imm imm)) f) (put_value order (Alu Mul W64 dst (Imm imm)) g)) h.2
    (product_differs start h.0 (flat_register f dst) (flat_register g dst) (extended imm) (register_differs order start packet known.facts f g dst h.0 at.all h.1))
terms_differ order start packet known (Alu Lsh W64 dst (Imm imm)) f g t enc at e =
    let h = option_map_some (times (2 ^ (extended imm % 64))) (own known.facts dst) t e in
    subst (λ t. Differs start t (put_value order (Alu Lsh W64 dst (Imm imm)) f) (put_value order (Alu Lsh W64 dst (Imm imm)) g)) h.2
    (product_differs start h.0 (flat_register f dst) (flat_register g dst) (2 ^ (extended imm % 64)) (register_differs order start packet known.facts f g dst h.0 at.all h.1))
terms_differ order start packet known (Alu Xor W64 dst (Imm (negsuc zero))) f g t enc at e =
    let h = option_map_some negated (own known.facts dst) t e in
    let a : ℕ = flat_register f dst in
    let x : ℕ = flat_register g dst in
    let ha : a < addresses = at.flat.numbers (register_number dst) in
    let hx : x < addresses = at.new_flat.numbers (register_number dst) in
    subst (λ t. Differs start t (put_value order (Alu Xor W64 dst (Imm (negsuc zero))) f) (put_value order (Alu Xor W64 dst (Imm (negsuc zero))) g)) h.2
    (subst (λ z. Differs start (negated h.0) z (bit_xor x (2 ^ 64 - 1))) (sym (xor_ones a ha)) (subst (λ z. Differs start (negated h.0) (2 ^ 64 - 1 - a) z) (sym (xor_ones x hx)) (complement_differs start h.0 a x ha hx (register_differs order start packet known.facts f g dst h.0 at.all h.1))))
terms_differ order start packet known (Alu Xor W64 dst (Imm imm)) f g t enc at e = absurd (none-some _ e)
terms_differ order start packet known (Alu Mov W64 dst src) f g t enc at e = operand_differs order start packet known.facts f g src t at.all e
terms_differ order start packet known (Alu Add W64 dst src) f g t enc at e =
    option_and_then_some _ (own known.facts dst) t e (λ a ea e1. option_and_then_some _ (operand_term known.facts src) t e1 (λ b eb e2.
    subst (λ t. Differs start t (put_value order (Alu Add W64 dst src) f) (put_value order (Alu Add W64 dst src) g)) (same_Some (plus a b) t e2)
    (sum_differs start a b (flat_register f dst) (flat_operand f src) (flat_register g dst) (flat_operand g src) (register_differs order start packet known.facts f g dst a at.all ea) (operand_differs order start packet known.facts f g src b at.all eb))))
terms_differ order start packet known (Alu Sub W64 dst src) f g t enc at e =
    option_and_then_some _ (own known.facts dst) t e (λ a ea e1. option_and_then_some _ (operand_term known.facts src) t e1 (λ b eb e2.
    subst (λ t. Differs start t (put_value order (Alu Sub W64 dst src) f) (put_value order (Alu Sub W64 dst src) g)) (same_Some (minus a b) t e2)
    (difference_differs start a b (flat_register f dst) (flat_operand f src) (flat_register g dst) (flat_operand g src) (register_differs order start packet known.facts f g dst a at.all ea) (operand_differs order start packet known.facts f g src b at.all eb))))
terms_differ order start packet known (Alu op W64 dst src) f g t enc at e =
    option_and_then_some _ (own known.facts dst) t e (λ a ea e1. option_and_then_some _ (operand_term known.facts src) t e1 (λ b eb e2. absurd (none-some _ e2)))
terms_differ order start packet known (Neg W64 dst) f g t enc at e =
    let h = option_map_some negated (own known.facts dst) t e in
    subst (λ t. Differs start t (put_value order (Neg W64 dst) f) (put_value order (Neg W64 dst) g)) h.2 (negation_differs start h.0 (flat_register f dst) (flat_register g dst) (register_differs order start packet known.facts f g dst h.0 at.all h.1))
terms_differ order start packet known (Load size dst src off) f g t enc at e = option_and_then_some _ (slot_at size src off) t e (λ n en et. slot_differs order start packet known size src off f g n t at enc en et)
terms_differ order start packet known i f g t enc at e = absurd (none-some _ e)

pub equal_differs : (start x y : ℕ) → x < addresses → y ≡ x → Differs start (constant 0) x y
equal_differs start x y small e = subst (λ z. Differs start (constant 0) x z) (sym e) (same_number start x small)

-- all that an instruction reads
numbers_small : (order : Order) (start : ℕ) (packet : Packet) (f : FlatState) → IsFlat f → (r : Reg) → value_in order start packet f (Some (Register r)) < addresses
numbers_small order start packet f flat r = flat.numbers (register_number r)

pub reads_all_same : (order : Order) (start : ℕ) (packet : Packet) (known : Known) (f g : FlatState) (rs : List Reg) → AtOnce order start packet known f g → list_all (is_same known.facts) rs ≡ true → AllByRecursion (λ r. get_or g.registers (register_number r) 0 ≡ flat_register f r) rs
reads_all_same order start packet known f g rs at e = all_same start (value_in order start packet f) (value_in order start packet g) (numbers_small order start packet f at.flat) known.facts rs at.all e

pub reads_all_low : (order : Order) (start : ℕ) (packet : Packet) (known : Known) (f g : FlatState) (rs : List Reg) → AtOnce order start packet known f g → list_all (is_low known.facts) rs ≡ true → AllByRecursion (λ r. AreLow (flat_register f r) (get_or g.registers (register_number r) 0)) rs
reads_all_low order start packet known f g rs at e = all_low start at.high (value_in order start packet f) (value_in order start packet g) known.facts rs at.all e

-- what is loaded by a register that is the same
loaded_there : (order : Order) (start : ℕ) (packet : Packet) (known : Known) (i : Insn) (a : Access) (f g : FlatState) → HasEncoding i → AtOnce order start packet known f g → Goes start packet known.left i i f g → access_of i ≡ Some a → get_or g.registers (register_number a.base) 0 ≡ flat_register f a.base
    → is_common known (byte_count a.size) a.base a.offset a.base a.offset ≡ true → bytes_from g.memory (address g a.base a.offset) (byte_count a.size) ≡ bytes_from f.memory (address g a.base a.offset) (byte_count a.size)
loaded_there order start packet known i a f g enc at leaves ea same e =
    let there : address g a.base a.offset ≡ address f a.base a.offset = ap (λ x. modulo (pos x +ℤ a.offset) addresses) same in
    subst (λ z. bytes_from g.memory (address g a.base a.offset) (byte_count a.size) ≡ bytes_from f.memory z (byte_count a.size)) (sym there)
    (access_common order known start packet (byte_count a.size) a.base a.base a.offset a.offset f g (access_is order start packet known i i a a f g enc enc at leaves ea ea refl there) (λ j lt. leaves.seen a a j ea ea there lt lt) at.common e)

loads_same : (order : Order) (start : ℕ) (packet : Packet) (known : Known) (i : Insn) (f g : FlatState) → HasEncoding i → AtOnce order start packet known f g → Goes start packet known.left i i f g → AllByRecursion (λ r. get_or g.registers (register_number r) 0 ≡ flat_register f r) (registers_read i) → loads_common known i ≡ true → ReadsSame i f g
loads_same order start packet known (Load size dst src off) f g enc at leaves agree e = loaded_there order start packet known (Load size dst src off) (record { base = src; offset = off; size = size; reads = true; writes = false }) f g enc at leaves refl agree.0 e
loads_same order start packet known (LoadSx size dst src off) f g enc at leaves agree e = loaded_there order start packet known (LoadSx size dst src off) (record { base = src; offset = off; size = size; reads = true; writes = false }) f g enc at leaves refl agree.0 e
loads_same order start packet known i f g enc at leaves agree e = tt

pub result_differs : (order : Order) (start : ℕ) (packet : Packet) (known : Known) (i : Insn) (r : Reg) (f g : FlatState) (t : Term) → put_into i ≡ Some r → HasEncoding i → AtOnce order start packet known f g → Goes start packet known.left i i f g → result_term known i ≡ Some t → Differs start t (put_value order i f) (put_value order i g)
unfolding result_term reads_same
result_differs order start packet known i r f g t into enc at leaves e = by_first (by_terms known.facts i) refl e
  where
    equal : reads_same known.facts i ≡ true → loads_common known i ≡ true → put_value order i g ≡ put_value order i f
    equal c l = elim (or_cases (list_all (is_same known.facts) (registers_read i)) (reads_low i && list_all (is_low known.facts) (registers_read i)) c) [
      | inl same ↦ (let agree = reads_all_same order start packet known f g (registers_read i) at same in put_same order i r f g into at.flat.eleven at.new_flat.eleven (loads_same order start packet known i f g enc at leaves agree l) agree)
      | inr low ↦ (let h = and_parts (reads_low i) (list_all (is_low known.facts) (registers_read i)) low in put_low order i f g h.0 (reads_all_low order start packet known f g (registers_read i) at h.1))
    ]

    by_first : (o : Option Term) → by_terms known.facts i ≡ o → option_or o (if reads_same known.facts i && loads_common known i then Some zero_term else None) ≡ Some t → Differs start t (put_value order i f) (put_value order i g)
    by_first (Some u) eo h = terms_differ order start packet known i f g t enc at (eo ∙ h)
    by_first None eo h =
        let c = cond_option (reads_same known.facts i && loads_common known i) (Some (constant 0)) t h in
        let p = and_parts (reads_same known.facts i) (loads_common known i) c.0 in
        subst (λ t. Differs start t (put_value order i f) (put_value order i g)) (same_Some (constant 0) t c.1) (equal_differs start (put_value order i f) (put_value order i g) (put_below order i r f into enc at.flat) (equal p.0 p.1))

-- ---- by another register

by_address : (order : Order) (start : ℕ) (packet : Packet) (facts : Facts) (f g : FlatState) (base src : Reg) (off at : ℤ) → AllHold start (value_in order start packet f) (value_in order start packet g) facts → list_any (is_address base at src off) facts ≡ true → address g base at ≡ address f src off
by_address order start packet facts f g base src off at all e =
    let h = any_holds (is_address base at src off) (Holds start (value_in order start packet f) (value_in order start packet g)) facts e all in
    let a = and_parts (is_register base h.0.of) (is_register src h.0.base && option_map_or (λ t. t.frames == 0 && (t.moved + extended at) % addresses == extended off) h.0.by false) h.1 in
    let b = and_parts (is_register src h.0.base) (option_map_or (λ t. t.frames == 0 && (t.moved + extended at) % addresses == extended off) h.0.by false) a.1 in
    by_term h.0.by (subst (λ x. DiffersBy start h.0.by x (flat_register g base)) (held (value_in order start packet f) (Register src) h.0.base b.0) (subst (λ y. DiffersBy start h.0.by (value_in order start packet f h.0.base) y) (held (value_in order start packet g) (Register base) h.0.of a.0) h.2)) b.1
  where
    by_term : (by : Option Term) → DiffersBy start by (flat_register f src) (flat_register g base) → option_map_or (λ t. t.frames == 0 && (t.moved + extended at) % addresses == extended off) by false ≡ true → address g base at ≡ address f src off
    by_term None d m = absurd (false≢true m)
    by_term (Some t) d m =
        let c = and_parts (t.frames == 0) ((t.moved + extended at) % addresses == extended off) m in
        let good : (t.moved + extended at) % addresses ≡ extended off = eqb-true ((t.moved + extended at) % addresses) (extended off) c.1 in
        let sum : Same (pos t.moved +ℤ at) off = same_trans (same_plus (same_refl (pos t.moved)) (same_sym (modulo-same at))) (same_trans (same_sym (modulo-same (pos (t.moved + extended at)))) (same_trans (same_equal (ap pos good)) (modulo-same off))) in
        let s : Same (pos (flat_register g base)) (pos (flat_register f src) +ℤ pos t.moved) = subst (λ z. Same (pos (flat_register g base)) (pos (flat_register f src) +ℤ z)) (plain_shift start t c.0) (differs_same start t (flat_register f src) (flat_register g base) d) in
        let again : (pos (flat_register f src) +ℤ pos t.moved) +ℤ at ≡ pos (flat_register f src) +ℤ (pos t.moved +ℤ at) = omega (arith, ints) in
        modulo_same (same_trans (same_plus s (same_refl at)) (same_trans (same_equal again) (same_plus (same_refl (pos (flat_register f src))) sum)))

-- both are one number
folded_same : (start x y : ℕ) (u t : Term) (at off : ℤ) → Differs start u 0 y → Differs start t x 0 → is_folded at off (Some u) (Some t) ≡ true → modulo (pos y +ℤ at) addresses ≡ modulo (pos x +ℤ off) addresses
folded_same start x y u t at off du dt e =
    let c = and_parts ((u.frames + t.frames) % addresses == 0) (((u.moved + t.moved) + extended at) % addresses == extended off) e in
    let none : (u.frames + t.frames) % addresses ≡ 0 = eqb-true ((u.frames + t.frames) % addresses) 0 c.0 in
    let good : ((u.moved + t.moved) + extended at) % addresses ≡ extended off = eqb-true (((u.moved + t.moved) + extended at) % addresses) (extended off) c.1 in
    let first : Same (pos y) (pos 0 +ℤ shift start u) = differs_same start u 0 y du in
    let second : Same (pos 0) (pos x +ℤ shift start t) = differs_same start t x 0 dt in
    let whole : (plus u t).frames ≡ 0 = none in
    let sum : Same (shift start u +ℤ shift start t) (pos (u.moved + t.moved)) = same_trans (same_sym (shift_plus start u t)) (same_trans (same_equal (zero_frames start (plus u t) none)) (modulo-same (pos (u.moved + t.moved)))) in
    let moved : Same (pos (u.moved + t.moved) +ℤ at) off = same_trans (same_plus (same_refl (pos (u.moved + t.moved))) (same_sym (modulo-same at))) (same_trans (same_sym (modulo-same (pos ((u.moved + t.moved) + extended at)))) (same_trans (same_equal (ap pos good)) (modulo-same off))) in
    let both : Same (pos y +ℤ pos 0) ((pos 0 +ℤ shift start u) +ℤ (pos x +ℤ shift start t)) = same_plus first second in
    let left : pos y +ℤ pos 0 ≡ pos y = omega (arith, ints) in
    let right : (pos 0 +ℤ shift start u) +ℤ (pos x +ℤ shift start t) ≡ pos x +ℤ (shift start u +ℤ shift start t) = omega (arith, ints) in
    let base : Same (pos y) (pos x +ℤ pos (u.moved + t.moved)) = same_trans (same_equal (sym left)) (same_trans both (same_trans (same_equal right) (same_plus (same_refl (pos x)) sum))) in
    let again : (pos x +ℤ pos (u.moved + t.moved)) +ℤ at ≡ pos x +ℤ (pos (u.moved + t.moved) +ℤ at) = omega (arith, ints) in
    modulo_same (same_trans (same_plus base (same_refl at)) (same_trans (same_equal again) (same_plus (same_refl (pos x)) moved)))
  where
    zero_frames : (start : ℕ) (t : Term) → t.frames ≡ 0 → shift start t ≡ pos t.moved
    zero_frames start t e =
        let product : t.frames * start ≡ 0 = ap (λ n. n * start) e ∙ (omega arith) in
        omega (arith, ints)

pub address_same : (order : Order) (start : ℕ) (packet : Packet) (facts : Facts) (f g : FlatState) (base src : Reg) (off at : ℤ) → AllHold start (value_in order start packet f) (value_in order start packet g) facts → same_address facts base at src off ≡ true → address g base at ≡ address f src off
unfolding same_address
address_same order start packet facts f g base src off at all e = elim (or_cases (list_any (is_address base at src off) facts) (is_folded at off (numbered facts (Register base)) (pinned facts (Register src))) e) [
  | inl there ↦ by_address order start packet facts f g base src off at all there
  | inr folded ↦ by_number (numbered facts (Register base)) (pinned facts (Register src)) refl refl folded
]
  where
    by_number : (u t : Option Term) → numbered facts (Register base) ≡ u → pinned facts (Register src) ≡ t → is_folded at off u t ≡ true → address g base at ≡ address f src off
    by_number (Some u) (Some t) eu et h = folded_same start (flat_register f src) (flat_register g base) u t at off (numbered_differs start (value_in order start packet f) (value_in order start packet g) facts (Register base) u all eu) (pinned_differs start (value_in order start packet f) (value_in order start packet g) facts (Register src) t all et) h
    by_number (Some u) None eu et h = absurd (false≢true h)
    by_number None t eu et h = absurd (false≢true h)

pub size_is : (a b : Size) → same_size a b ≡ true → b ≡ a
size_is B B e = refl
size_is H H e = refl
size_is W W e = refl
size_is DW DW e = refl
size_is B H e = absurd (false≢true e)
size_is B W e = absurd (false≢true e)
size_is B DW e = absurd (false≢true e)
size_is H B e = absurd (false≢true e)
size_is H W e = absurd (false≢true e)
size_is H DW e = absurd (false≢true e)
size_is W B e = absurd (false≢true e)
size_is W H e = absurd (false≢true e)
size_is W DW e = absurd (false≢true e)
size_is DW B e = absurd (false≢true e)
size_is DW H e = absurd (false≢true e)
size_is DW W e = absurd (false≢true e)

-- what one puts that stands for another, into the same register
pub record LoadsSame (order : Order) (i moved : Insn) (f g : FlatState) : Type 0 where
  pub into : put_into moved ≡ put_into i
  pub value : put_value order moved g ≡ put_value order i f

-- by an address that is the same
pub loaded_alike : (order : Order) (start : ℕ) (packet : Packet) (known : Known) (i moved : Insn) (a b : Access) (f g : FlatState) → HasEncoding i → HasEncoding moved → AtOnce order start packet known f g → Goes start packet known.left i moved f g → access_of i ≡ Some a → access_of moved ≡ Some b → byte_count b.size ≡ byte_count a.size
    → goes_alike known (byte_count a.size) a.base a.offset b.base b.offset ≡ true → bytes_from g.memory (address g b.base b.offset) (byte_count a.size) ≡ bytes_from f.memory (address f a.base a.offset) (byte_count a.size)
loaded_alike order start packet known i moved a b f g enc enc' at leaves ea eb size e =
    let h = and_parts (same_address known.facts b.base b.offset a.base a.offset) (is_common known (byte_count a.size) a.base a.offset b.base b.offset) e in
    let there = address_same order start packet known.facts f g b.base a.base a.offset b.offset at.all h.0 in
    access_common order known start packet (byte_count a.size) a.base b.base a.offset b.offset f g (access_is order start packet known i moved a b f g enc enc' at leaves ea eb size there) (λ j lt. leaves.seen a b j ea eb there lt (subst (λ n. j < n) (sym size) lt)) at.common h.1

pub load_same : (order : Order) (start : ℕ) (packet : Packet) (known : Known) (i moved : Insn) (f g : FlatState) → HasEncoding i → HasEncoding moved → AtOnce order start packet known f g → Goes start packet known.left i moved f g → loads_alike known i moved ≡ true → LoadsSame order i moved f g
load_same order start packet known (Load size dst src off) (Load other into base at) f g enc enc' one leaves e =
    let a = and_parts (same_size size other) (same_register dst into && goes_alike known (byte_count size) src off base at) e in
    let b = and_parts (same_register dst into) (goes_alike known (byte_count size) src off base at) a.1 in
    let size_same : other ≡ size = size_is size other a.0 in
    let bytes = loaded_alike order start packet known (Load size dst src off) (Load other into base at) (record { base = src; offset = off; size = size; reads = true; writes = false }) (record { base = base; offset = at; size = other; reads = true; writes = false }) f g enc enc' one leaves refl refl (ap byte_count size_same) b.1 in
    record {
      into = ap Some (register_is dst into b.0);
      value = subst (λ size'. flat_number order g (byte_count size') (address g base at) ≡ flat_number order f (byte_count size) (address f src off)) (sym size_same) (ap (number_of order (byte_count size)) bytes);
    }
load_same order start packet known (LoadSx size dst src off) (LoadSx other into base at) f g enc enc' one leaves e =
    let a = and_parts (same_size size other) (same_register dst into && goes_alike known (byte_count size) src off base at) e in
    let b = and_parts (same_register dst into) (goes_alike known (byte_count size) src off base at) a.1 in
    let size_same : other ≡ size = size_is size other a.0 in
    let bytes = loaded_alike order start packet known (LoadSx size dst src off) (LoadSx other into base at) (record { base = src; offset = off; size = size; reads = true; writes = false }) (record { base = base; offset = at; size = other; reads = true; writes = false }) f g enc enc' one leaves refl refl (ap byte_count size_same) b.1 in
    record {
      into = ap Some (register_is dst into b.0);
      value = subst (λ size'. modulo (cast_signed (size_type size') (flat_number order g (byte_count size') (address g base at))) addresses ≡ modulo (cast_signed (size_type size) (flat_number order f (byte_count size) (address f src off))) addresses) (sym size_same)
          (ap (λ bs. modulo (cast_signed (size_type size) (number_of order (byte_count size) bs)) addresses) bytes);
    }
load_same order start packet known i moved f g enc enc' one leaves e = absurd (false≢true e)

-- ---- low halves of 64-bit results

low_split : (x : ℕ) → x ≡ 2 ^ 32 * (x / 2 ^ 32) + x % 2 ^ 32
low_split x = omega arith

products_low : (a b c d r s : ℕ) → (((2 ^ 32 * a + r) * (2 ^ 32 * b + s)) % 2 ^ 64) % 2 ^ 32 ≡ (((2 ^ 32 * c + r) * (2 ^ 32 * d + s)) % 2 ^ 64) % 2 ^ 32
products_low a b c d r s = omega arith

pub product_low : (a b x y : ℕ) → AreLow a x → AreLow b y → AreLow ((a * b) % 2 ^ 64) ((x * y) % 2 ^ 64)
product_low a b x y h k =
    let ex : x ≡ 2 ^ 32 * (x / 2 ^ 32) + a % 2 ^ 32 = low_split x ∙ ap (λ z. 2 ^ 32 * (x / 2 ^ 32) + z) h in
    let ey : y ≡ 2 ^ 32 * (y / 2 ^ 32) + b % 2 ^ 32 = low_split y ∙ ap (λ z. 2 ^ 32 * (y / 2 ^ 32) + z) k in
    ap₂ (λ u w. ((u * w) % 2 ^ 64) % 2 ^ 32) ex ey ∙ products_low (x / 2 ^ 32) (y / 2 ^ 32) (a / 2 ^ 32) (b / 2 ^ 32) (a % 2 ^ 32) (b % 2 ^ 32) ∙ sym (ap₂ (λ u w. ((u * w) % 2 ^ 64) % 2 ^ 32) (low_split a) (low_split b))

difference_low : (a b x y : ℕ) → AreLow a x → AreLow b y → AreLow (modulo (pos a -ℤ pos b) (2 ^ 64)) (modulo (pos x -ℤ pos y) (2 ^ 64))
difference_low a b x y h k =
    let p = modulo-same (pos a -ℤ pos b) in
    let q = modulo-same (pos x -ℤ pos y) in
    let e = p.same in
    let f = q.same in
    omega (arith, ints)

low_compute : (op : AluOp) (a b x y : ℕ) → keeps_low op ≡ true → AreLow a x → AreLow b y → AreLow (compute w64 op a b) (compute w64 op x y)
low_compute Add a b x y e h k = omega arith
low_compute Sub a b x y e h k = difference_low a b x y h k
low_compute Mul a b x y e h k = product_low a b x y h k
low_compute And a b x y e h k = and_mod x y 32 ∙ ap₂ (λ u w. bit_and u w) h k ∙ sym (and_mod a b 32)
low_compute Or a b x y e h k = or_mod x y 32 ∙ ap₂ (λ u w. bit_or u w) h k ∙ sym (or_mod a b 32)
low_compute Xor a b x y e h k = xor_mod x y 32 ∙ ap₂ (λ u w. bit_xor u w) h k ∙ sym (xor_mod a b 32)
low_compute Lsh a b x y e h k =
    let same : y % 64 ≡ b % 64 = omega arith in
    ap (λ n. ((x * 2 ^ n) % 2 ^ 64) % 2 ^ 32) same ∙ product_low a (2 ^ (b % 64)) x (2 ^ (b % 64)) h refl
low_compute Mov a b x y e h k = k
low_compute op a b x y e h k = absurd (false≢true e)

low_put : (f g : FlatState) (op : AluOp) (dst : Reg) (src : Operand) → keeps_low op ≡ true → AllByRecursion (λ r. AreLow (flat_register f r) (get_or g.registers (register_number r) 0)) (registers_read (Alu op W64 dst src))
    → AreLow (alu W64 op (flat_register f dst) (flat_operand f src)) (alu W64 op (flat_register g dst) (flat_operand g src))
low_put f g Mov dst src e h = operand_low f g src h
low_put f g Add dst src e h = low_compute Add (flat_register f dst) (flat_operand f src) (flat_register g dst) (flat_operand g src) e h.0 (operand_low f g src h.1)
low_put f g Sub dst src e h = low_compute Sub (flat_register f dst) (flat_operand f src) (flat_register g dst) (flat_operand g src) e h.0 (operand_low f g src h.1)
low_put f g Mul dst src e h = low_compute Mul (flat_register f dst) (flat_operand f src) (flat_register g dst) (flat_operand g src) e h.0 (operand_low f g src h.1)
low_put f g And dst src e h = low_compute And (flat_register f dst) (flat_operand f src) (flat_register g dst) (flat_operand g src) e h.0 (operand_low f g src h.1)
low_put f g Or dst src e h = low_compute Or (flat_register f dst) (flat_operand f src) (flat_register g dst) (flat_operand g src) e h.0 (operand_low f g src h.1)
low_put f g Xor dst src e h = low_compute Xor (flat_register f dst) (flat_operand f src) (flat_register g dst) (flat_operand g src) e h.0 (operand_low f g src h.1)
low_put f g Lsh dst src e h = low_compute Lsh (flat_register f dst) (flat_operand f src) (flat_register g dst) (flat_operand g src) e h.0 (operand_low f g src h.1)
low_put f g op dst src e h = absurd (false≢true e)

pub has_low : (order : Order) (start : ℕ) (packet : Packet) (known : Known) (i : Insn) (f g : FlatState) → AtOnce order start packet known f g → has_low_result known.facts i ≡ true → AreLow (put_value order i f) (put_value order i g)
has_low order start packet known (Alu op W64 dst src) f g at e =
    let h = and_parts (keeps_low op) (list_all (is_low known.facts) (registers_read (Alu op W64 dst src))) e in
    low_put f g op dst src h.0 (reads_all_low order start packet known f g (registers_read (Alu op W64 dst src)) at h.1)
has_low order start packet known i f g at e = absurd (false≢true e)

-- the end of the frame, less where it begins
framed_shift : (start : ℕ) → shift start frame_offset ≡ pos 0 -ℤ pos start
framed_shift start = let one : 1 * start ≡ start = omega arith in omega (arith, ints)

pub record FramesSame (order : Order) (start : ℕ) (i moved : Insn) (f g : FlatState) : Type 0 where
  pub into : put_into moved ≡ put_into i
  pub value : Differs start frame_offset (put_value order i f) (put_value order moved g)

pub framed_differs : (order : Order) (start : ℕ) (i moved : Insn) (f g : FlatState) → IsEnd start f.registers → is_framed i moved ≡ true → FramesSame order start i moved f g
framed_differs order start (Alu Mov W64 dst (FromReg r)) (Alu Mov W64 into (Imm imm)) f g end e =
    let a = and_parts (same_register dst into) (is_frame_pointer r && int_eq imm (pos frame_bytes)) e in
    let b = and_parts (is_frame_pointer r) (int_eq imm (pos frame_bytes)) a.1 in
    let is : flat_register f r ≡ (start + frame_bytes) % addresses = ap (λ n. get_or f.registers n 0) (eqb-true (register_number r) 10 b.0) ∙ end in
    let imm_is : imm ≡ pos frame_bytes = (Decides-int_eq imm (pos frame_bytes)).0 b.1 in
    record {
      into = ap Some (register_is dst into a.0);
      value = subst (λ z. Differs start frame_offset (flat_register f r) (extended z)) (sym imm_is) (same_differs start frame_offset (flat_register f r) 512 (omega arith) (offset_same (flat_register f r) is));
    }
  where
    offset_same : (x : ℕ) → x ≡ (start + frame_bytes) % addresses → Same (pos 512) (pos x +ℤ shift start frame_offset)
    offset_same x is =
        let s : Same (pos x) (pos (start + frame_bytes)) = subst (λ x. Same (pos x) (pos (start + frame_bytes))) (sym is) (modulo-same (pos (start + frame_bytes))) in
        let again : pos (start + frame_bytes) +ℤ (pos 0 -ℤ pos start) ≡ pos 512 = omega (arith, ints) in
        subst (λ z. Same (pos 512) (pos x +ℤ z)) (sym (framed_shift start)) (same_sym (same_trans (same_plus s (same_refl (pos 0 -ℤ pos start))) (same_equal again)))
framed_differs order start i moved f g end e = absurd (false≢true e)
