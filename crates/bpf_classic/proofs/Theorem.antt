-- A converted filter answers what the filter does, on every context.
use Rattle.std.proofs.Common.{◌≡◌, ℕ, zero, suc, ◌+◌, ◌-◌, ◌*◌, ◌%◌, ◌<◌, ◌≤◌, ◌^◌, List, [], ◌∷◌, ◌++◌, length, take, drop, get_or, Bool, true, false, cond, Option, Some, None, refl, sym, ap, ◌∙◌, subst, arith}
use Rattle.std.specs.Prelude.{min, replicate, flat_map}
use Rattle.std.specs.List.{range_with_len}
use Rattle.std.proofs.lemmas.Bool.{false≢true, and_parts, leb-true, cond_both}
use Rattle.std.proofs.lemmas.Int.{clamps}
use Rattle.std.proofs.lemmas.List.{get_or-take, get_or-drop, length-drop, length-map, length-take-le, drop-map, drop-take, drop-drop, take-take}
use Rattle.bpf_insn.specs.Laws.{AreBytes}
use Rattle.bpf_insn.specs.Order.{number_of}
use Rattle.bpf_insn.specs.Arithmetic.{low}
use Rattle.bpf_insn.specs.Instruction.{Instructions}
use Rattle.bpf_insn.specs.declared.order.Order.{Order}
use Rattle.bpf_insn.specs.declared.order.Order.TheVariants.{Little, Big}
use Rattle.bpf_insn.specs.declared.instruction.Insn.{Insn}
use Rattle.bpf_insn.specs.declared.instruction.Insn.TheVariants.{Alu}
use Rattle.bpf_insn.specs.declared.instruction.Width.TheVariants.{W64}
use Rattle.bpf_insn.specs.declared.instruction.AluOp.TheVariants.{Mov}
use Rattle.bpf_insn.specs.declared.instruction.Reg.TheVariants.{R0, R3, R5}
use Rattle.bpf_semantics.specs.State.{empty_stack, start}
use Rattle.bpf_semantics.specs.declared.value.Value.TheVariants.{Number}
use Rattle.bpf_classic.specs.Machine.{Given, Machine, blank, run_from, turned}
use Rattle.bpf_classic.specs.Valid.{AreFaultless}
use Rattle.bpf_classic.specs.declared.instruction.Register.{Register}
use Rattle.bpf_classic.specs.declared.instruction.Register.TheVariants.{A, X}
use Rattle.bpf_classic.specs.declared.refusal.Kind.{Kind}
use Rattle.bpf_classic.specs.Template.{head, room, is_block, is_swapped, low_half, length_offset, known_first, is_loaded, room_insns, constant, turns_code, zero_if, zero_cell, ahead_in, code, whole}
use Rattle.bpf_classic.specs.Flow.{is_sound, all_agree, head_at, all_turn}
use Rattle.bpf_classic.specs.Longest.{turn}
use Rattle.bpf_classic.specs.Meaning.{wire_of, there, words_of, given, HasForm, IsContext, insns, program_of, EndsAlike, ConversionKeepsAnswers}
use Rattle.bpf_classic.specs.declared.layout.Form.{Form}
use Rattle.bpf_classic.specs.declared.layout.Form.TheVariants.{Blocks, Plain, Seccomp, Extended}
use Rattle.bpf_classic.specs.declared.layout.Layout.{Layout}
use Rattle.bpf_classic.specs.declared.layout.Annotated.{Annotated}
use Rattle.bpf_classic.proofs.Steps.{HasAt, Stands, Ends, after, has_all, narrow_layout}
use Rattle.bpf_classic.proofs.Places.{code_at}
use Rattle.bpf_classic.proofs.Machine.{Fixed, Now, at, placed, with_left, set_to, with_cells}
use Rattle.bpf_classic.proofs.Frame.{Cells, HoldsNumber}
use Rattle.bpf_classic.proofs.Known.{LengthIs, WordsAre, Fits, Knows, Turns, implied, all_drop, found}
use Rattle.bpf_classic.proofs.Simulation.{AreGood, Wants, insn_of, good_drop, wants_drop, turn_drop, simulates}
use Rattle.bpf_classic.proofs.Narrow.{narrow_whole}
use Rattle.bpf_classic.proofs.Answering.{faultless, answered}
use Rattle.bpf_classic.proofs.Entry.{Zeroed, block_room, turns_moves, zero_register, zero_cells}

-- ---- what a context gives

abbrev fixed_of : Layout → List ℕ → Fixed → Fixed
fixed_of l context e = placed e (there l context) context

-- the low half of a number of eight bytes
low_little : (xs : List ℕ) → AreBytes xs → number_of Little 4 (take 4 (drop 0 xs)) ≡ number_of Little 8 (take 8 xs) % 2 ^ 32
low_little xs h =
    let b0 = h 0 in let b1 = h 1 in let b2 = h 2 in let b3 = h 3 in
    let e0 = get_or-take 8 xs 0 0 (omega arith) in let e1 = get_or-take 8 xs 1 0 (omega arith) in let e2 = get_or-take 8 xs 2 0 (omega arith) in let e3 = get_or-take 8 xs 3 0 (omega arith) in
    let f0 = get_or-take 4 xs 0 0 (omega arith) in let f1 = get_or-take 4 xs 1 0 (omega arith) in let f2 = get_or-take 4 xs 2 0 (omega arith) in let f3 = get_or-take 4 xs 3 0 (omega arith) in
    omega arith

low_big : (xs : List ℕ) → AreBytes xs → number_of Big 4 (take 4 (drop 4 xs)) ≡ number_of Big 8 (take 8 xs) % 2 ^ 32
low_big xs h =
    let ys = drop 4 xs in
    let b4 = h 4 in let b5 = h 5 in let b6 = h 6 in let b7 = h 7 in
    let e4 = get_or-take 8 xs 4 0 (omega arith) in let e5 = get_or-take 8 xs 5 0 (omega arith) in let e6 = get_or-take 8 xs 6 0 (omega arith) in let e7 = get_or-take 8 xs 7 0 (omega arith) in
    let f0 = get_or-take 4 ys 0 0 (omega arith) ∙ get_or-drop 4 xs 0 0 in let f1 = get_or-take 4 ys 1 0 (omega arith) ∙ get_or-drop 4 xs 1 0 in
    let f2 = get_or-take 4 ys 2 0 (omega arith) ∙ get_or-drop 4 xs 2 0 in let f3 = get_or-take 4 ys 3 0 (omega arith) ∙ get_or-drop 4 xs 3 0 in
    omega arith

-- a context has room for what stands in front of a packet
has_head : (form : Form) (context : List ℕ) → HasForm form context → head form ≤ length context
has_head Blocks context h = h
has_head Plain context h = omega arith
has_head Seccomp context h = omega arith
has_head Extended context h = h

no_head : (form : Form) → is_block form ≡ false → head form ≡ 0
no_head Blocks e = absurd (false≢true (sym e))
no_head Plain e = refl
no_head Seccomp e = refl
no_head Extended e = absurd (false≢true (sym e))

block_head : (form : Form) (context : List ℕ) → is_block form ≡ true → HasForm form context → 8 ≤ length context
block_head Blocks context e h = h
block_head Plain context e h = absurd (false≢true e)
block_head Seccomp context e h = absurd (false≢true e)
block_head Extended context e h = omega (arith, h)

abbrev wire_by : Form → Order → List ℕ → ℕ
wire_by form order context = cond (is_block form) (number_of order 8 (take 8 context)) (length context)

length_is : (e : Fixed) (form : Form) (order : Order) (size : ℕ) (context : List ℕ) → AreBytes context → length context ≡ size → size ≤ 4096 → HasForm form context
    → LengthIs form (low_half order) order (placed e (min (wire_by form order context) (size - head form)) context) (wire_by form order context)
length_is e Blocks Little size context bytes long few h = (0, refl, omega arith, low_little context bytes)
length_is e Blocks Big size context bytes long few h = (4, refl, omega arith, low_big context bytes)
length_is e Plain order size context bytes long few h = omega (arith, clamps)
length_is e Seccomp order size context bytes long few h = omega arith
length_is e Extended Little size context bytes long few h = (0, refl, omega arith, low_little context bytes)
length_is e Extended Big size context bytes long few h = (4, refl, omega arith, low_big context bytes)

-- a word behind the length is the one so far from there
word_is : (context : List ℕ) (at : ℕ) → at ≤ 60 → take 4 (drop (8 + at) context) ≡ take 4 (drop at (take 64 (drop 8 context)))
word_is context at low =
    let m : ℕ = 64 - at in
    let all : ◌≡◌ {A = ℕ} 64 (at + m) = omega arith in
    let some : 4 ≤ m = omega arith in
    sym (ap (λ t. take 4 (drop at (take t (drop 8 context)))) all ∙ ap (take 4) (drop-take at m (drop 8 context)) ∙ take-take 4 m (drop at (drop 8 context)) some ∙ ap (take 4) (drop-drop at 8 context))

words_are : (e : Fixed) (form : Form) (context : List ℕ) (room : ℕ) → HasForm form context → WordsAre form (placed e room context) (words_of form context)
words_are e Blocks context room h = refl
words_are e Plain context room h = refl
words_are e Seccomp context room h = refl
words_are e Extended context room h = λ at low. (omega (arith, h, low), word_is context at low)

module _ (l : Layout) (context : List ℕ) (is : IsContext l context) (short : l.length ≤ 4096) where
  long_is : length context ≡ l.length
  long_is = is.length_is

  room_short : room l ≤ 4096
  room_short = omega arith

  head_inside : head l.form ≤ length context
  head_inside = has_head l.form context is.form

  packet_is : (k n : ℕ) → k + n ≤ there l context → take n (drop (head l.form + k) context) ≡ take n (drop k (take (there l context) (drop (head l.form) context)))
  packet_is k n le =
      let h : ℕ = head l.form in
      let m : ℕ = there l context - k in
      let all : there l context ≡ k + m = omega arith in
      let some : n ≤ m = omega arith in
      sym (ap (λ t. take n (drop k (take t (drop h context)))) all ∙ ap (take n) (drop-take k m (drop h context)) ∙ take-take n m (drop k (drop h context)) some ∙ ap (take n) (drop-drop k h context))

  fits : (p : Instructions) (e : Fixed) → p.order ≡ l.order → Fits l p (given l context) (fixed_of l context e)
  fits p e same =
      let inside = head_inside in
      let long = long_is in
      let there_few : there l context ≤ room l = omega (arith, clamps) in
      record {
        short = room_short;
        most = there_few;
        inside = omega (arith, there_few);
        packet = packet_is;
        there = length-take-le (there l context) (drop (head l.form) context) (let d = length-drop (head l.form) context in omega (arith, d, there_few));
        bytes = is.bytes;
        order = ap (λ o. cond (is_swapped l) Big o) (sym same);
        masks = refl;
        wire = subst (λ o. LengthIs l.form (length_offset l) o (fixed_of l context e) (wire_of l context)) (sym same) (length_is e l.form l.order l.length context is.bytes is.length_is short is.form);
        own = sym same;
        words = words_are e l.form context (there l context) is.form;
      }

  -- what is surely there at the entry
  there_plain : is_block l.form ≡ false → there l context ≡ length context
  there_plain e =
      let none = no_head l.form e in
      let long = long_is in
      let wire : wire_of l context ≡ length context = ap (λ b. cond b (number_of l.order 8 (take 8 context)) (length context)) e in
      omega (arith, clamps, wire, none)

  there_block : is_block l.form ≡ true → there l context ≡ min (number_of l.order 8 (take 8 context)) (room l)
  there_block e = ap (λ b. min (cond b (number_of l.order 8 (take 8 context)) (length context)) (room l)) e

  known_there : known_first l ≤ there l context
  known_there = cond_both (is_block l.form) 0 (room l) (λ n. n ≤ there l context) (λ _. omega arith) (λ e. let t = there_plain e in let long = long_is in omega (arith, t))

-- ---- the entry

abbrev empty : Now
empty = record { r0 = None; r3 = None; r4 = None; stack = empty_stack }

abbrev with_zero : Bool → Register → Now → Now
with_zero t to w = cond t (set_to to (Number 0) w) w

same_stack : (t : Bool) (to : Register) (w : Now) → (with_zero t to w).stack ≡ w.stack
same_stack true A w = refl
same_stack true X w = refl
same_stack false to w = refl

same_a : (t : Bool) (w : Now) → (with_zero t X w).r0 ≡ w.r0
same_a true w = refl
same_a false w = refl

zero_at : (n i : ℕ) → ◌≡◌ {A = ℕ} (get_or (replicate n 0) i 0) 0
zero_at zero i = refl
zero_at (suc n) zero = refl
zero_at (suc n) (suc i) = zero_at n i

-- each instruction of a valid filter is good
good_of : (kind : Kind) (before : ℕ) (marked : List Annotated) → AreFaultless kind before (insns marked) → AreGood marked
good_of kind before [] h = tt
good_of kind before (a ∷ rest) h =
    let it = faultless kind before (length (insns rest)) a.insn h.0 in
    (record { cell = it.cell; constant = it.constant }, good_of kind (before + 1) rest h.1)

-- ---- the turns of a loop

-- what so many turns may take
abbrev spares : ℕ → ℕ → ℕ
spares t zero = 0
spares t (suc n) = spares t n + t

spares_are : (t n : ℕ) → spares t n ≡ n * t
spares_are t zero = omega arith
spares_are t (suc n) = let h = spares_are t n in omega (arith, h)

-- what is known in front of an instruction rests on how many bytes are there alone
elsewhere : (order : Order) (wanted : ℕ → Bool) (f f' : Fixed) (a x : Bool) (known : ℕ) (m : Machine) (w : Now) → f.room ≡ f'.room → Knows order wanted f a x known m w → Knows order wanted f' a x known m w
elsewhere order wanted f f' a x known m w same knows = record {
  a_is = knows.a_is;
  x_is = knows.x_is;
  there = (let h = knows.there in omega (arith, h, same));
  a_small = knows.a_small;
  x_small = knows.x_small;
  cells = knows.cells;
}

module _ (l : Layout) (context : List ℕ) (is : IsContext l context) (short : l.length ≤ 4096) (marked : List Annotated) where
  abbrev p : Instructions
  p = program_of l marked

  -- how a run goes on that may jump back n times
  abbrev turning : Option ℕ → ℕ → Fixed
  turning left n = record { room = 0; context = []; left = left; back = turned (Some 0) n (given l context) (insns marked); spare = spares (turn p.list) n }

  abbrev lap : ℕ → Fixed
  lap n = fixed_of l context (turning (Some n) n)

  turns_of : (start : ℕ) → HasAt p start (code l marked) → all_agree l marked ≡ true → all_turn l marked marked ≡ true → AreGood marked → (n : ℕ) → n < 2 ^ 16 → Turns l p (given l context) (lap n) (is_loaded marked) marked start
  turns_of start has agree turn_well good zero few = record { here = has; count = zero; left = refl; go = λ left m. refl }
  turns_of start has agree turn_well good (suc n) few =
      let g : Given = given l context in
      let less : n < 2 ^ 16 = omega (arith, few) in
      let long : length (insns marked) ≡ length marked = length-map marked insn_of in
      record {
        here = has;
        count = suc n;
        left = refl;
        go = record {
          few = less;
          spare = spares (turn p.list) n;
          spared = refl;
          on = λ left v b m w found_b reached knows run.
              let h : ℕ = head_at marked left in
              let behind : List Annotated = drop (h + 1) marked in
              let next_list : drop h marked ≡ b ∷ behind = found marked h b found_b in
              let run' : run_from (turned (Some 0) n g (insns marked)) (length (insns marked)) g (insns (b ∷ behind)) m ≡ Some v =
              subst (λ xs. run_from (turned (Some 0) n g (insns marked)) (length (insns marked)) g xs m ≡ Some v)
              (ap (λ c. drop (c - left) (insns marked)) long ∙ drop-map insn_of h marked ∙ ap insns next_list) run in
              simulates l p g (lap n) (is_loaded marked) (fits l context is short p (turning (Some n) n) refl) marked start (λ _. turns_of start has agree turn_well good n less)
              (length (insns marked)) b behind (start + ahead_in l marked h) v m w reached
              (subst (λ xs. all_agree l xs ≡ true) next_list (all_drop l h marked agree))
              (subst (λ xs. all_turn l marked xs ≡ true) next_list (turn_drop l marked h marked turn_well))
              (subst AreGood next_list (good_drop h marked good))
              (subst (Wants (is_loaded marked)) next_list (wants_drop (is_loaded marked) h marked (λ cell e. e)))
              (subst (λ xs. HasAt p (start + ahead_in l marked h) (code l xs)) next_list (code_at l p marked h start has))
              (elsewhere p.order (is_loaded marked) (lap (suc n)) (lap n) b.a b.x b.known m w refl knows) run';
        };
      }

module _ (l : Layout) (context : List ℕ) (is : IsContext l context) (short : l.length ≤ 4096) (marked : List Annotated) (v : ℕ) where
  abbrev q : Instructions
  q = program_of l marked

  abbrev cells_code : List Insn
  cells_code = flat_map (zero_cell marked) (range_with_len 0 16)

  abbrev zeros_code : List Insn
  zeros_code = zero_if l.zero_a R0 ++ (zero_if l.zero_x R3 ++ cells_code)

  abbrev begun : Now
  begun = with_zero l.zero_x X (with_zero l.zero_a A empty)

  abbrev unset : Fixed → Fixed
  unset e = record { room = e.room; context = e.context; left = None; back = e.back; spare = e.spare }

  -- behind what says how many bytes are there, and behind what says how often the run may jump back
  abbrev Middle : Fixed → Type 0
  Middle e = (slot : ℕ) → HasAt q slot ((turns_code l ++ zeros_code) ++ code l marked) → Ends q e.spare (at (fixed_of l context (unset e)) slot empty) v

  abbrev Inner : Fixed → Type 0
  Inner e = (slot : ℕ) → HasAt q slot (zeros_code ++ code l marked) → Ends q e.spare (at (fixed_of l context e) slot empty) v

  outer : (e : Fixed) → Middle e → HasAt q 0 (whole l marked) → Ends q e.spare (start context) v
  outer e go has =
      let more : List Insn = turns_code l ++ zeros_code in
      let by : (t : Bool) → is_block l.form ≡ t → HasAt q 0 ((cond t (room_insns l) [] ++ more) ++ code l marked) → Ends q e.spare (start context) v =
      λ t. elim t as (λ t. is_block l.form ≡ t → HasAt q 0 ((cond t (room_insns l) [] ++ more) ++ code l marked) → Ends q e.spare (start context) v) [
        | true ↦ (λ t h. block_room q (unset e) l context (length context) v empty (more ++ code l marked) (room_short l context is short) (block_head l.form context t is.form) h
            (λ slot h'. subst (λ r. Ends q e.spare (at (placed (unset e) r context) slot empty) v) (there_block l context is short t) (go slot h')))
        | false ↦ (λ t h. subst (λ r. Ends q e.spare (at (placed (unset e) r context) 0 empty) v) (there_plain l context is short t) (go 0 h))
      ] in
      by (is_block l.form) refl has

  -- where there is a loop, the entry says how often the run may jump back
  middle_counted : (n : ℕ) → n < 2 ^ 16 → n ≡ l.turns → l.loops ≡ true → (e : Fixed) → e.left ≡ Some n → Inner e → Middle e
  middle_counted n few is_n loops e left go slot has =
      let has' : HasAt q slot (Alu Mov W64 R5 (constant l.turns) ∷ zeros_code ++ code l marked) = subst (λ t. HasAt q slot ((cond t (Alu Mov W64 R5 (constant l.turns) ∷ []) [] ++ zeros_code) ++ code l marked)) loops has in
      let f : Fixed = fixed_of l context (unset e) in
      let here : Stands q slot (Alu Mov W64 R5 (constant n)) = subst (λ n. Stands q slot (Alu Mov W64 R5 (constant n))) (sym is_n) has'.0 in
      let set : at (fixed_of l context e) (slot + 1) empty ≡ at (with_left n f) (slot + 1) empty =
      ap (λ o. at (record { room = there l context; context = context; left = o; back = e.back; spare = e.spare }) (slot + 1) empty) left in
      after q (at f slot empty) (at (with_left n f) (slot + 1) empty) v (turns_moves q f slot n empty few here)
      (subst (λ s. Ends q e.spare s v) set (go (slot + 1) has'.1))

  middle_alone : l.loops ≡ false → (e : Fixed) → e.left ≡ None → Inner e → Middle e
  middle_alone loops e left go slot has =
      let has' : HasAt q slot (zeros_code ++ code l marked) = subst (λ t. HasAt q slot ((cond t (Alu Mov W64 R5 (constant l.turns) ∷ []) [] ++ zeros_code) ++ code l marked)) loops has in
      subst (λ o. Ends q e.spare (at (record { room = there l context; context = context; left = o; back = e.back; spare = e.spare }) slot empty) v) left (go slot has')

  inner : (e : Fixed) → ((slot : ℕ) (stack : Cells) → HasAt q slot (code l marked) → Zeroed q (fixed_of l context e) v marked 16 (with_cells stack begun) → Ends q e.spare (at (fixed_of l context e) slot (with_cells stack begun)) v) → Inner e
  inner e go slot has =
      let f : Fixed = fixed_of l context e in
      zero_register q f v l.zero_a A slot empty (zero_if l.zero_x R3 ++ cells_code) (code l marked) has
      (λ slot' has'. zero_register q f v l.zero_x X slot' (with_zero l.zero_a A empty) cells_code (code l marked) has'
      (λ slot'' has''. zero_cells q f v marked 16 0 slot'' begun (code l marked) refl has''
      (record { long = ap length (same_stack l.zero_x X (with_zero l.zero_a A empty) ∙ same_stack l.zero_a A empty); holds = λ i lt. absurd (omega arith) }) go))

  -- the run from the first template on
  first : (e : Fixed) → ((start : ℕ) → HasAt q start (code l marked) → l.loops ≡ true → Turns l q (given l context) (fixed_of l context e) (is_loaded marked) marked start)
      → (list : List Annotated) → marked ≡ list → is_sound l list ≡ true → all_turn l marked list ≡ true → AreGood list → run_from e.back (length (insns list)) (given l context) (insns list) blank ≡ Some v → Inner e
  first e turns [] same sound turn_well good run = absurd (false≢true sound)
  first e turns (a ∷ rest) same sound turn_well good run =
      let one = and_parts _ _ sound in
      let two = and_parts _ _ one.0 in
      let three = and_parts _ _ two.1 in
      let four = and_parts _ _ three.1 in
      let less = leb-true a.known (known_first l) three.0 in
      let there_first = known_there l context is short in
      let fit : Fits l q (given l context) (fixed_of l context e) = fits l context is short q e refl in
      inner e (λ slot stack has' zeros.
      simulates l q (given l context) (fixed_of l context e) (is_loaded marked) fit marked slot (turns slot has') (length (insns (a ∷ rest))) a rest slot v blank (with_cells stack begun) two.0 one.1 turn_well good
      (λ cell t. subst (λ xs. is_loaded xs cell ≡ true) (sym same) t)
      (subst (λ xs. HasAt q slot (code l xs)) same has')
      (record {
        a_is = λ t. same_a l.zero_x (with_zero l.zero_a A empty) ∙ ap (λ t. (with_zero t A empty).r0) (implied a.a l.zero_a four.0 t);
        x_is = λ t. ap (λ t. (with_zero t X (with_zero l.zero_a A empty)).r3) (implied a.x l.zero_x four.1 t);
        there = omega (arith, less, there_first);
        a_small = omega arith;
        x_small = omega arith;
        cells = record {
          sixteen = refl;
          long = zeros.long;
          small = λ i. let z = zero_at 16 i in omega (arith, z);
          holds = λ i lt t. subst (HoldsNumber q.order stack i) (sym (zero_at 16 i)) (zeros.holds i lt t);
        };
      })
      run)

  -- the run from the start
  ends : is_sound l marked ≡ true → all_turn l marked marked ≡ true → AreGood marked → l.turns < 2 ^ 16
      → run_from (turned (Some 0) l.turns (given l context) (insns marked)) (length (insns marked)) (given l context) (insns marked) blank ≡ Some v → HasAt q 0 (whole l marked) → Ends q (spares (turn q.list) l.turns) (start context) v
  ends sound turn_well good few run has =
      let agree : all_agree l marked ≡ true = (and_parts _ _ sound).1 in
      let counted : Fixed = turning l context is short marked (Some l.turns) l.turns in
      let alone : Fixed = turning l context is short marked None l.turns in
      let by : (t : Bool) → l.loops ≡ t → Ends q (spares (turn q.list) l.turns) (start context) v =
      λ t. elim t as (λ t. l.loops ≡ t → Ends q (spares (turn q.list) l.turns) (start context) v) [
        | true ↦ (λ t. outer counted (middle_counted l.turns few refl t counted refl
            (first counted (λ start has' loops. turns_of l context is short marked start has' agree turn_well good l.turns few) marked refl sound turn_well good run)) has)
        | false ↦ (λ t. outer alone (middle_alone t alone refl
            (first alone (λ start has' loops. absurd (false≢true (sym t ∙ loops))) marked refl sound turn_well good run)) has)
      ] in
      by l.loops refl

-- ---- the theorem

pub conversion_keeps_answers : ConversionKeepsAnswers
conversion_keeps_answers kind filter l marked p converted context is =
    let valid = converted.valid in
    let g : Given = given l context in
    let found = answered kind g l.turns filter valid.some valid.each in
    let q : Instructions = program_of l marked in
    let stands : HasAt q 0 (whole l marked) = has_all q (whole l marked) [] (narrow_layout (whole l marked) (narrow_whole l marked)) refl in
    let run : run_from (turned (Some 0) l.turns g (insns marked)) (length (insns marked)) g (insns marked) blank ≡ Some found.0 =
    subst (λ xs. run_from (turned (Some 0) l.turns g xs) (length xs) g xs blank ≡ Some found.0) (sym converted.same) found.1 in
    let good : AreGood marked = good_of kind 0 marked (subst (AreFaultless kind 0) (sym converted.same) valid.each) in
    let done : Ends q (spares (turn q.list) l.turns) (start context) found.0 = ends l context is converted.short marked found.0 converted.sound converted.turns good converted.few_turns run stands in
    let all = spares_are (turn q.list) l.turns in
    subst (λ p. EndsAlike filter l p context) (sym converted.program)
    (record { value = found.0; answers = found.1; steps = suc done.count; within = (let h = done.within in omega (arith, h, all)); done = (done.last, done.leads, done.ends) })
