-- What the templates of loads from the packet do.
use Rattle.std.proofs.Common.{◌≡◌, ℕ, ◌+◌, ◌*◌, ◌%◌, ◌<◌, ◌≤◌, ◌^◌, List, [], ◌∷◌, ◌++◌, length, take, drop, Bool, true, false, cond, Option, Some, refl, sym, ap, ◌∙◌, subst, ⊎_elim, arith}
use Rattle.std.specs.Prelude.{pos, ◌+ℤ◌, ◌-ℤ◌, max, nat_lt, slice_index}
use Rattle.std.specs.Int.{cast_signed, w32, w64}
use Rattle.std.proofs.lemmas.Bool.{ltb-true, ltb-false, or_left, or_right as either_right, cases_lt, lt-ltb}
use Rattle.std.proofs.lemmas.Int.{clamps, ints}
use Rattle.std.proofs.lemmas.List.{get_or-take, get_or-drop, get_or_past, length-take}
use Rattle.bpf_insn.specs.Order.{number_of}
use Rattle.bpf_insn.specs.Arithmetic.{extended, alu, jumps, swapped}
use Rattle.bpf_insn.specs.Instruction.{Instructions}
use Rattle.bpf_insn.specs.declared.order.Order.{Order}
use Rattle.bpf_insn.specs.declared.order.Order.TheVariants.{Big}
use Rattle.bpf_insn.specs.declared.instruction.Reg.TheVariants.{R0, R1, R2, R3, R4}
use Rattle.bpf_insn.specs.declared.instruction.Operand.TheVariants.{Imm, Reg as FromReg}
use Rattle.bpf_insn.specs.declared.instruction.Width.TheVariants.{W32, W64}
use Rattle.bpf_insn.specs.declared.instruction.Size.TheVariants.{B}
use Rattle.bpf_insn.specs.declared.instruction.AluOp.TheVariants.{Add as AddTo, And as AndWith, Lsh as ShiftUp, Mov}
use Rattle.bpf_insn.specs.declared.instruction.Cond.TheVariants.{Gt as IsGt, Lt as IsLt}
use Rattle.bpf_insn.specs.declared.instruction.EndBits.TheVariants.{B16, B32}
use Rattle.bpf_insn.specs.declared.instruction.EndKind.TheVariants.{Be}
use Rattle.bpf_insn.specs.declared.instruction.Insn.{Insn}
use Rattle.bpf_insn.specs.declared.instruction.Insn.TheVariants.{Alu as AluInsn, Load, Ja, JumpIf as JumpIfInsn}
use Rattle.bpf_semantics.specs.Step.{wrapped}
use Rattle.bpf_semantics.proofs.NumberLemmas.{number_below}
use Rattle.bpf_semantics.specs.declared.value.Value.{Value}
use Rattle.bpf_semantics.specs.declared.value.Value.TheVariants.{Number, Pointer}
use Rattle.bpf_semantics.specs.declared.value.Region.TheVariants.{Context}
use Rattle.bpf_classic.specs.Machine.{Given, Machine, put, bytes, read, loaded, next, go_on, run_from}
use Rattle.bpf_classic.specs.declared.instruction.Register.TheVariants.{A, X}
use Rattle.bpf_classic.specs.declared.instruction.LoadSize.{LoadSize}
use Rattle.bpf_classic.specs.declared.instruction.LoadSize.TheVariants.{Byte, Half, Word}
use Rattle.bpf_classic.specs.declared.instruction.Classic.TheVariants.{At, Index, Header}
use Rattle.bpf_classic.specs.Template.{head, room, is_beyond, is_swapped, insn_size, end_bits, need, swap_if, swap_of, length_test, load_code, total, code}
use Rattle.bpf_classic.specs.Flow.{tests_length}
use Rattle.bpf_classic.specs.Meaning.{insns}
use Rattle.bpf_classic.specs.declared.layout.Layout.{Layout}
use Rattle.bpf_classic.specs.declared.layout.Annotated.{Annotated}
use Rattle.bpf_classic.proofs.Steps.{HasAt, Ends, after, either, has_back}
use Rattle.bpf_classic.proofs.Values.{constant_small, low_small, one_byte, header_words, swapped_half, swapped_word}
use Rattle.bpf_classic.proofs.Machine.{Fixed, Now, at, set_to, with_scratch, alu_moves, scratch_moves, swap_moves, context_moves, goes, tests}
use Rattle.bpf_classic.proofs.Known.{Fits, or_right, implied, marked, Holds, Follows, straight, put_knows, trapped, read_inside, read_outside, outside_is, inside_is}

-- a part of bytes is bytes
pub part_bytes : (xs : List ℕ) → ((j : ℕ) → slice_index xs j < 256) → (i n j : ℕ) → slice_index (take n (drop i xs)) j < 256
part_bytes xs h i n j = ⊎_elim
    (λ lt. let e = get_or-take n (drop i xs) j 0 lt ∙ get_or-drop i xs j 0 in let s = h (i + j) in omega (arith, e))
    (λ le. let long = length-take n (drop i xs) in let e = get_or_past (take n (drop i xs)) j 0 (omega (arith, clamps, long)) in omega (arith, e))
    (cases_lt j n)

wrapped_small : (e : ℕ) → e < 2 ^ 63 → wrapped (pos 0 +ℤ pos e) ≡ pos e
wrapped_small e h = let n : (0 + e) % 2 ^ 64 ≡ e = omega arith in ap (cast_signed w64) n ∙ rw (lt-ltb e (2 ^ 63) h) refl

few_bytes : (size : LoadSize) → bytes size ≤ 4
few_bytes Byte = omega arith
few_bytes Half = omega arith
few_bytes Word = omega arith

-- the number of so many bytes fits in 32 bits
pub number_small : (order : Order) (size : LoadSize) (xs : List ℕ) → ((j : ℕ) → slice_index xs j < 256) → number_of order (bytes size) xs < 2 ^ 32
number_small order Byte xs h = let b = number_below order 1 xs h in omega arith
number_small order Half xs h = let b = number_below order 2 xs h in omega arith
number_small order Word xs h = let b = number_below order 4 xs h in omega arith

module _ (l : Layout) (p : Instructions) (g : Given) (f : Fixed) (wanted : ℕ → Bool) (fits : Fits l p g f) where
  -- the bytes of the packet from k on
  abbrev from_packet : ℕ → ℕ → List ℕ
  from_packet k n = take n (drop (head l.form + k) f.context)

  as_is : (w : Now) (n : ℕ) → w.r0 ≡ Some (Number n) → set_to A (Number n) w ≡ w
  as_is w n e = ap (λ r. let u : Now = record { r0 = r; r3 = w.r3; r4 = w.r4; stack = w.stack } in u) (sym e)

  -- behind a load and its byte swap r0 is the number in the packet's order
  swapped_by : (t : Bool) (size : LoadSize) (slot v : ℕ) (xs : List ℕ) (w : Now) (after' : List Insn) → ((j : ℕ) → slice_index xs j < 256) → g.order ≡ cond t Big p.order → w.r0 ≡ Some (Number (number_of p.order (bytes size) xs))
      → HasAt p slot (cond t (swap_if (end_bits size)) [] ++ after')
      → ((slot : ℕ) → HasAt p slot after' → Ends p f.spare (at f slot (set_to A (Number (number_of g.order (bytes size) xs)) w)) v) → Ends p f.spare (at f slot w) v
  swapped_by false size slot v xs w after' small order is has go =
      subst (λ u. Ends p f.spare (at f slot u) v) (as_is w (number_of g.order (bytes size) xs) (is ∙ ap (λ o. Some (Number (number_of o (bytes size) xs))) (sym order))) (go slot has)
  swapped_by true Byte slot v xs w after' small order is has go =
      subst (λ u. Ends p f.spare (at f slot u) v) (as_is w (number_of g.order 1 xs) (is ∙ ap (λ n. Some (Number n)) (one_byte p.order g.order xs))) (go slot has)
  swapped_by true Half slot v xs w after' small order is has go =
      let n : ℕ = number_of p.order 2 xs in
      let e : swapped p.order Be B16 n ≡ number_of g.order 2 xs = swapped_half p.order xs small ∙ ap (λ o. number_of o 2 xs) (sym order) in
      after p (at f slot w) (at f (slot + 1) (set_to A (Number (swapped p.order Be B16 n)) w)) v (swap_moves p f slot w B16 n has.0 is)
      (subst (λ n. Ends p f.spare (at f (slot + 1) (set_to A (Number n) w)) v) (sym e) (go (slot + 1) has.1))
  swapped_by true Word slot v xs w after' small order is has go =
      let n : ℕ = number_of p.order 4 xs in
      let e : swapped p.order Be B32 n ≡ number_of g.order 4 xs = swapped_word p.order xs small ∙ ap (λ o. number_of o 4 xs) (sym order) in
      after p (at f slot w) (at f (slot + 1) (set_to A (Number (swapped p.order Be B32 n)) w)) v (swap_moves p f slot w B32 n has.0 is)
      (subst (λ n. Ends p f.spare (at f (slot + 1) (set_to A (Number n) w)) v) (sym e) (go (slot + 1) has.1))

  -- beyond every packet there is nothing
  beyond : (rest : List Annotated) (slot v : ℕ) (w : Now) → HasAt p slot (Ja (pos (total l rest)) ∷ code l rest) → l.trap ≡ true → 0 ≡ v → Ends p f.spare (at f slot w) v
  beyond rest slot v w has trap zero_is = after p (at f slot w) (at f (slot + 1 + total l rest) w) v (goes p f slot w (total l rest) has.0) (trapped l p g f wanted rest (slot + 1) v w trap has.1 zero_is)

  -- the test that as many bytes are there as an instruction needs, where that isn't known
  length_tests : (a : Annotated) (rest : List Annotated) (behind : ℕ) (tail : List Insn) (slot v : ℕ) (w : Now) → behind ≡ length tail → need a.insn ≤ 4096 → a.known ≤ f.room
      → (nat_lt a.known (need a.insn) ≡ true → l.trap ≡ true) → (f.room < need a.insn → 0 ≡ v) → HasAt p slot ((length_test a behind (total l rest) ++ tail) ++ code l rest)
      → ((slot : ℕ) → need a.insn ≤ f.room → HasAt p slot (tail ++ code l rest) → Ends p f.spare (at f slot w) v) → Ends p f.spare (at f slot w) v
  length_tests a rest behind tail slot v w long few there trap zero_is has go =
      let k : ℕ = need a.insn in
      let z = cast_signed w32 k in
      let d : ℕ = total l rest + behind in
      let same : extended z ≡ k = constant_small k (omega arith) in
      let test : List Insn = JumpIfInsn IsLt W64 R2 (Imm z) (pos d) ∷ [] in
      let by : (t : Bool) → nat_lt a.known k ≡ t → HasAt p slot ((cond t test [] ++ tail) ++ code l rest) → Ends p f.spare (at f slot w) v =
      λ t. elim t as (λ t. nat_lt a.known k ≡ t → HasAt p slot ((cond t test [] ++ tail) ++ code l rest) → Ends p f.spare (at f slot w) v) [
        | false ↦ (λ e h. let le = ltb-false a.known k e in go slot (omega arith) h)
        | true ↦ (λ e h.
            either p (at f slot w) (jumps W64 IsLt f.room (extended z)) (at f (slot + 1 + d) w) (at f (slot + 1) w) v
            (tests p f slot w W64 IsLt R2 (Imm z) f.room (extended z) d h.0 refl refl)
            (λ y.
            let lt = ltb-true f.room (extended z) y in
            let behind' = has_back p (slot + 1) tail (code l rest) h.1 in
            let to : slot + 1 + length tail + total l rest ≡ slot + 1 + d = omega (arith, long) in
            subst (λ n. Ends p f.spare (at f n w) v) to (trapped l p g f wanted rest (slot + 1 + length tail) v w (trap e) behind' (zero_is (omega (arith, same)))))
            (λ n. let le = ltb-false f.room (extended z) n in go (slot + 1) (omega (arith, same)) h.1))
      ] in
      by (nat_lt a.known k) refl has

  -- what a load from outside answers
  answers_zero : (k n : ℕ) (to : ℕ → Machine) (then turn : ℕ → Machine → Option ℕ) (v : ℕ) → go_on (loaded (read g k n) to) then turn ≡ Some v → f.room < k + n → 0 ≡ v
  answers_zero k n to then turn v run lt = outside_is l p g f wanted (read g k n) to then turn v (read_outside l p g f wanted fits k n lt) run

  pub at_offset : (size : LoadSize) (k : ℕ) → Follows l p g f wanted (At size k)
  unfolding next
  at_offset size k known sa sx over rest slot fuel v m w good has agree covers knows onward run =
      let a : Annotated = marked (At size k) known sa sx over in
      let n : ℕ = bytes size in
      let swaps : List Insn = swap_of l size in
      let load : Insn = Load (insn_size size) R0 R1 (pos (head l.form + k)) in
      let then : ℕ → Machine → Option ℕ = λ k m'. run_from f.back fuel g (drop k (insns rest)) m' in
      let turn : ℕ → Machine → Option ℕ = λ k m'. f.back (length (insns rest) + k) m' in
      let xs : List ℕ = from_packet k n in
      let value : ℕ = number_of g.order n xs in
      let small : (j : ℕ) → slice_index xs j < 256 = part_bytes f.context fits.bytes (head l.form + k) n in
      let most = fits.most in
      let there = knows.there in
      let short = fits.short in
      let inside = fits.inside in
      let by : (t : Bool) → is_beyond l (At size k) ≡ t → HasAt p slot (cond t (Ja (pos (total l rest)) ∷ []) (load_code l a (At size k) (total l rest)) ++ code l rest) → Ends p f.spare (at f slot w) v =
      λ t. elim t as (λ t. is_beyond l (At size k) ≡ t → HasAt p slot (cond t (Ja (pos (total l rest)) ∷ []) (load_code l a (At size k) (total l rest)) ++ code l rest) → Ends p f.spare (at f slot w) v) [
        | true ↦ (λ e h. let lt = ltb-true (room l) (k + n) e in beyond rest slot v w h (implied (tests_length l a) l.trap agree.trap (or_left (is_beyond l (At size k)) (nat_lt known (k + n)) e)) (answers_zero k n (λ n. put A n m) then turn v run (omega arith)))
        | false ↦ (λ e h.
            let few = ltb-false (room l) (k + n) e in
            length_tests a rest (1 + length swaps) (load ∷ swaps) slot v w (omega arith) (omega arith) knows.there
            (λ t. implied (tests_length l a) l.trap agree.trap (either_right (is_beyond l (At size k)) (nat_lt known (k + n)) t)) (answers_zero k n (λ n. put A n m) then turn v run) h
            (λ slot' enough h'.
            let n0 : ℕ = number_of p.order n xs in
            let zero : pos 0 +ℤ pos (head l.form + k) ≡ pos (head l.form + k) = (let i : 0 + (head l.form + k) ≡ head l.form + k = omega arith in ap pos i) in
            after p (at f slot' w) (at f (slot' + 1) (set_to A (Number n0) w)) v
            (context_moves p f slot' w A size R1 (pos (head l.form + k)) 0 (head l.form + k) h'.0 refl zero (omega arith))
            (swapped_by (is_swapped l) size (slot' + 1) v xs (set_to A (Number n0) w) (code l rest) small fits.order refl h'.1
            (λ slot'' h''. straight l p g f wanted a rest slot'' fuel v (put A value m) (set_to A (Number value) w) onward h'' (or_right _ _ e agree.leads)
            (put_knows l p g f wanted A value known (max known (k + n)) sa sx m w (number_small g.order size xs small) (omega (arith, clamps)) knows)
            (inside_is l p g f wanted (read g k n) value (λ n. put A n m) then turn v (read_inside l p g f wanted fits k n enough) run)))))
      ] in
      by (is_beyond l (At size k)) refl has

  pub header : (k : ℕ) → Follows l p g f wanted (Header k)
  unfolding next
  header k known sa sx over rest slot fuel v m w good has agree covers knows onward run =
      let a : Annotated = marked (Header k) known sa sx over in
      let tail : List Insn = Load B R3 R1 (pos (head l.form + k)) ∷ AluInsn AndWith W32 R3 (Imm (pos 15)) ∷ AluInsn ShiftUp W32 R3 (Imm (pos 2)) ∷ [] in
      let then : ℕ → Machine → Option ℕ = λ k m'. run_from f.back fuel g (drop k (insns rest)) m' in
      let turn : ℕ → Machine → Option ℕ = λ k m'. f.back (length (insns rest) + k) m' in
      let xs : List ℕ = from_packet k 1 in
      let value : ℕ = 4 * (number_of g.order 1 xs % 16) in
      let most = fits.most in
      let there = knows.there in
      let short = fits.short in
      let inside = fits.inside in
      let by : (t : Bool) → is_beyond l (Header k) ≡ t → HasAt p slot (cond t (Ja (pos (total l rest)) ∷ []) (load_code l a (Header k) (total l rest)) ++ code l rest) → Ends p f.spare (at f slot w) v =
      λ t. elim t as (λ t. is_beyond l (Header k) ≡ t → HasAt p slot (cond t (Ja (pos (total l rest)) ∷ []) (load_code l a (Header k) (total l rest)) ++ code l rest) → Ends p f.spare (at f slot w) v) [
        | true ↦ (λ e h. let lt = ltb-true (room l) (k + 1) e in beyond rest slot v w h (implied (tests_length l a) l.trap agree.trap (or_left (is_beyond l (Header k)) (nat_lt known (k + 1)) e)) (answers_zero k 1 (λ n. put X (4 * (n % 16)) m) then turn v run (omega arith)))
        | false ↦ (λ e h.
            let few = ltb-false (room l) (k + 1) e in
            length_tests a rest 3 tail slot v w refl (omega arith) knows.there
            (λ t. implied (tests_length l a) l.trap agree.trap (either_right (is_beyond l (Header k)) (nat_lt known (k + 1)) t)) (answers_zero k 1 (λ n. put X (4 * (n % 16)) m) then turn v run) h
            (λ slot' enough h'.
            let b : ℕ = number_of p.order 1 xs in
            let low : ℕ = alu W32 AndWith b 15 in
            let words : ℕ = alu W32 ShiftUp low 2 in
            let zero : pos 0 +ℤ pos (head l.form + k) ≡ pos (head l.form + k) = (let i : 0 + (head l.form + k) ≡ head l.form + k = omega arith in ap pos i) in
            let same : words ≡ value = header_words b ∙ ap (λ b. 4 * (b % 16)) (one_byte p.order g.order xs) in
            after p (at f slot' w) (at f (slot' + 1) (set_to X (Number b) w)) v (context_moves p f slot' w X Byte R1 (pos (head l.form + k)) 0 (head l.form + k) h'.0 refl zero (omega arith))
            (after p (at f (slot' + 1) (set_to X (Number b) w)) (at f (slot' + 1 + 1) (set_to X (Number low) w)) v (alu_moves p f (slot' + 1) (set_to X (Number b) w) X W32 AndWith (Imm (pos 15)) (Number 15) (Number low) h'.1.0 refl refl)
            (after p (at f (slot' + 1 + 1) (set_to X (Number low) w)) (at f (slot' + 1 + 1 + 1) (set_to X (Number words) w)) v (alu_moves p f (slot' + 1 + 1) (set_to X (Number low) w) X W32 ShiftUp (Imm (pos 2)) (Number 2) (Number words) h'.1.1.0 refl refl)
            (subst (λ n. Ends p f.spare (at f (slot' + 1 + 1 + 1) (set_to X (Number n) w)) v) (sym same)
            (straight l p g f wanted a rest (slot' + 1 + 1 + 1) fuel v (put X value m) (set_to X (Number value) w) onward h'.1.1.1 (or_right _ _ e agree.leads)
            (put_knows l p g f wanted X value known (max known (k + 1)) sa sx m w (omega arith) (omega (arith, clamps)) knows)
            (inside_is l p g f wanted (read g k 1) (number_of g.order 1 xs) (λ n. put X (4 * (n % 16)) m) then turn v (read_inside l p g f wanted fits k 1 enough) run)))))))
      ] in
      by (is_beyond l (Header k)) refl has

  scratch_knows : (known : ℕ) (sa sx : Bool) (m : Machine) (w : Now) (r : Value) → Holds l p g f wanted sa sx known m w → Holds l p g f wanted sa sx known m (with_scratch r w)
  scratch_knows known sa sx m w r knows = record { a_is = knows.a_is; x_is = knows.x_is; there = knows.there; a_small = knows.a_small; x_small = knows.x_small; cells = knows.cells }

  pub index : (size : LoadSize) (k : ℕ) → Follows l p g f wanted (Index size k)
  unfolding next
  index size k known sa sx over rest slot fuel v m w good has agree covers knows onward run =
      let a : Annotated = marked (Index size k) known sa sx over in
      let n : ℕ = bytes size in
      let swaps : List Insn = swap_of l size in
      let then : ℕ → Machine → Option ℕ = λ k m'. run_from f.back fuel g (drop k (insns rest)) m' in
      let turn : ℕ → Machine → Option ℕ = λ k m'. f.back (length (insns rest) + k) m' in
      let most = fits.most in
      let there = knows.there in
      let short = fits.short in
      let inside = fits.inside in
      let x_small = knows.x_small in
      let x_is = knows.x_is (implied true sx agree.x_read refl) in
      let by : (t : Bool) → is_beyond l (Index size k) ≡ t → HasAt p slot (cond t (Ja (pos (total l rest)) ∷ []) (load_code l a (Index size k) (total l rest)) ++ code l rest) → Ends p f.spare (at f slot w) v =
      λ t. elim t as (λ t. is_beyond l (Index size k) ≡ t → HasAt p slot (cond t (Ja (pos (total l rest)) ∷ []) (load_code l a (Index size k) (total l rest)) ++ code l rest) → Ends p f.spare (at f slot w) v) [
        | true ↦ (λ e h. let lt = ltb-true (room l) (k + n) e in beyond rest slot v w h (implied true l.trap agree.trap refl) (answers_zero (m.x + k) n (λ n. put A n m) then turn v run (omega arith)))
        | false ↦ (λ e h.
            let few = ltb-false (room l) (k + n) e in
            let z = cast_signed w32 (k + n) in
            let end : ℕ = m.x + (k + n) in
            let d : ℕ = total l rest + (2 + length swaps) in
            let start : ℕ = head l.form + (m.x + k) in
            let sum : alu W64 AddTo m.x (extended z) ≡ end = ap (alu W64 AddTo m.x) (constant_small (k + n) (omega arith)) ∙ omega arith in
            let one : Now = with_scratch (Number m.x) w in
            let two : Now = with_scratch (Number end) w in
            let three : Now = with_scratch (Pointer Context (pos end)) w in
            after p (at f slot w) (at f (slot + 1) one) v
            (scratch_moves p f slot w W32 Mov (FromReg R3) (Number m.x) (Number m.x) h.0 x_is (ap (λ n. Some (Number n)) (low_small m.x x_small)))
            (after p (at f (slot + 1) one) (at f (slot + 1 + 1) two) v
            (scratch_moves p f (slot + 1) one W64 AddTo (Imm z) (Number (extended z)) (Number end) h.1.0 refl (ap (λ n. Some (Number n)) sum))
            (either p (at f (slot + 1 + 1) two) (jumps W64 IsGt end f.room) (at f (slot + 1 + 1 + 1 + d) two) (at f (slot + 1 + 1 + 1) two) v
            (tests p f (slot + 1 + 1) two W64 IsGt R4 (FromReg R2) end f.room d h.1.1.0 refl refl)
            (λ y.
            let lt = ltb-true f.room end y in
            let behind = has_back p (slot + 1 + 1 + 1 + 1 + 1) swaps (code l rest) h.1.1.1.1.1 in
            let to : slot + 1 + 1 + 1 + 1 + 1 + length swaps + total l rest ≡ slot + 1 + 1 + 1 + d = omega arith in
            subst (λ n. Ends p f.spare (at f n two) v) to
            (trapped l p g f wanted rest (slot + 1 + 1 + 1 + 1 + 1 + length swaps) v two (implied true l.trap agree.trap refl) behind (answers_zero (m.x + k) n (λ n. put A n m) then turn v run (omega arith))))
            (λ y.
            let le = ltb-false f.room end y in
            let xs : List ℕ = from_packet (m.x + k) n in
            let small : (j : ℕ) → slice_index xs j < 256 = part_bytes f.context fits.bytes start n in
            let n0 : ℕ = number_of p.order n xs in
            let value : ℕ = number_of g.order n xs in
            let place : pos end +ℤ (pos (head l.form) -ℤ pos n) ≡ pos start = omega (arith, ints) in
            after p (at f (slot + 1 + 1 + 1) two) (at f (slot + 1 + 1 + 1 + 1) three) v
            (scratch_moves p f (slot + 1 + 1 + 1) two W64 AddTo (FromReg R1) (Pointer Context (pos 0)) (Pointer Context (pos end)) h.1.1.1.0 refl (ap (λ o. Some (Pointer Context o)) (wrapped_small end (omega arith))))
            (after p (at f (slot + 1 + 1 + 1 + 1) three) (at f (slot + 1 + 1 + 1 + 1 + 1) (set_to A (Number n0) three)) v
            (context_moves p f (slot + 1 + 1 + 1 + 1) three A size R4 (pos (head l.form) -ℤ pos n) end start h.1.1.1.1.0 refl place (omega arith))
            (swapped_by (is_swapped l) size (slot + 1 + 1 + 1 + 1 + 1) v xs (set_to A (Number n0) three) (code l rest) small fits.order refl h.1.1.1.1.1
            (λ slot'' h''. straight l p g f wanted a rest slot'' fuel v (put A value m) (set_to A (Number value) three) onward h'' (or_right _ _ e agree.leads)
            (put_knows l p g f wanted A value known (max known (k + n)) sa sx m three (number_small g.order size xs small) (omega (arith, clamps)) (scratch_knows known sa sx m w (Pointer Context (pos end)) knows))
            (inside_is l p g f wanted (read g (m.x + k) n) value (λ n. put A n m) then turn v (read_inside l p g f wanted fits (m.x + k) n (omega arith)) run))))))))
      ] in
      by (is_beyond l (Index size k)) refl has
