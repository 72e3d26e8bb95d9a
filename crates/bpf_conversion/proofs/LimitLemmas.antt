-- The certificate of a converted filter is in its order and within the limits.
use Rattle.std.proofs.Common.{◌≡◌, ℕ, zero, suc, ◌+◌, ◌-◌, ◌*◌, ◌^◌, ◌<◌, ◌≤◌, List, [], ◌∷◌, ◌++◌, length, get_or, Bool, true, false, cond, Some, None, refl, sym, ap, ◌∙◌, subst, arith}
use Rattle.std.specs.Prelude.{pos, negsuc, not, min, max, nat_lt, nat_le, slice_set, flat_map, ◌==◌, ◌%◌, ◌&&◌, ◌||◌}
use Rattle.std.specs.List.{list_all, range_with_len}
use Rattle.std.proofs.lemmas.Bool.{and_from, and_parts, or_right, cond_both, cond-false, lt-ltb, ltb-true, le-leb}
use Rattle.std.proofs.lemmas.Int.{clamps}
use Rattle.std.proofs.lemmas.List.{length-set}
use Rattle.std.proofs.lemmas.Nat.{mul-le}
use Rattle.bpf_insn.specs.Instruction.{slots}
use Rattle.bpf_insn.specs.Image.{IsProgram}
use Rattle.bpf_insn.specs.declared.instruction.Insn.{Insn}
use Rattle.bpf_insn.specs.declared.instruction.Insn.TheVariants.{Alu as AluInsn, Neg as NegInsn, MovSx, End, LoadImm64, Load, LoadSx, Store as StoreInsn, StoreImm, Atomic, Ja, JaLong, JumpIf as JumpIfInsn, CallLocal, Exit}
use Rattle.bpf_insn.specs.declared.instruction.Reg.TheVariants.{R5}
use Rattle.bpf_state.specs.declared.known.Place.TheVariants.{Register}
use Rattle.bpf_cert.specs.declared.certificate.Measure.TheVariants.{Down}
use Rattle.bpf_num.specs.Number.{top}
use Rattle.bpf_state.specs.State.{AbstractState}
use Rattle.bpf_state.specs.declared.known.RegState.TheVariants.{Any}
use Rattle.bpf_state.specs.declared.known.SlotState.{SlotState}
use Rattle.bpf_state.specs.declared.known.SlotState.TheVariants.{Word}
use Rattle.bpf_cert.specs.Limits.{IsCertificate, is_rising, term_before, slot_before, is_canonical_label, is_canonical, max_steps, max_labels, is_limited_register, is_limited_slot, has_shape, is_limited_state, is_limited_term, is_limited_label, is_limited_function, is_limited_header, is_limited, refusal_of}
use Rattle.bpf_cert.specs.declared.error.CertError.TheVariants.{NotCanonical, Limit}
use Rattle.bpf_cert.specs.View.{LabelView, CertificateView, header_of}
use Rattle.bpf_cert.specs.declared.certificate.Term.{Term}
use Rattle.bpf_classic.specs.declared.instruction.Classic.{Classic}
use Rattle.bpf_classic.specs.declared.instruction.Classic.TheVariants.{Constant, Length, Cell, Store, At, Index, Header, Extension, Alu, Neg, Jump, Back, JumpIf, Return, ReturnA, Tax, Txa}
use Rattle.bpf_classic.specs.Machine.{bytes}
use Rattle.bpf_classic.specs.Template.{room, is_block, known_first, size, entry}
use Rattle.bpf_classic.specs.Longest.{longest_of, longest_ways, longest_back, longest_turn, turn, longest}
use Rattle.bpf_classic.specs.Meaning.{Conversion}
use Rattle.bpf_classic.specs.declared.layout.Layout.{Layout}
use Rattle.bpf_classic.specs.declared.layout.Annotated.{Annotated}
use Rattle.bpf_conversion.specs.Parts.{part_behind, part_at, opens_at, opens}
use Rattle.bpf_conversion.specs.Known.{between, room_known, entry_room, number_if, index_known, may_turn, turns_left, turns_known, cell_known, cells_known, no_cells, known_at}
use Rattle.bpf_conversion.specs.Leaders.{is_led_to, is_leader}
use Rattle.bpf_conversion.specs.Claim.{IsConversion, base_at, turn_terms, terms_at, label_of, wants_label, label_if, labels_of, claim}
use Rattle.bpf_conversion.specs.declared.parts.Stretch.{Stretch}
use Rattle.bpf_conversion.specs.declared.parts.Stretch.TheVariants.{Entry, Template, Trap}
use Rattle.bpf_conversion.proofs.LongestLemmas.{ways_few, slots_are}
use Rattle.bpf_conversion.proofs.PartLemmas.{is_short, narrow}
use Rattle.bpf_conversion.proofs.StateLemmas.{canonical}

-- ---- labels one by one

module _ (l : Layout) (marked : List Annotated) (list : List Insn) where
  each_label : (P : LabelView → Bool) (a k : ℕ) → ((slot : ℕ) → slot < a + k → P (label_of l marked list slot) ≡ true) → list_all P (flat_map (label_if l marked list) (range_with_len a k)) ≡ true
  each_label P a zero each = refl
  each_label P a (suc k) each =
      let rest : List LabelView = flat_map (label_if l marked list) (range_with_len (a + 1) k) in
      let more : list_all P rest ≡ true = each_label P (a + 1) k (λ slot lt. each slot (omega (arith, lt))) in
      cond_both (wants_label l marked list a) (label_of l marked list a ∷ []) [] (λ xs. list_all P (xs ++ rest) ≡ true)
      (λ _. and_from (P (label_of l marked list a)) (list_all P rest) (each a (omega arith)) more)
      (λ _. more)

  few_labels : (a k : ℕ) → length (flat_map (label_if l marked list) (range_with_len a k)) ≤ k
  few_labels a zero = omega arith
  few_labels a (suc k) =
      let rest : List LabelView = flat_map (label_if l marked list) (range_with_len (a + 1) k) in
      let few = few_labels (a + 1) k in
      cond_both (wants_label l marked list a) (label_of l marked list a ∷ []) [] (λ xs. length (xs ++ rest) ≤ suc k) (λ _. omega (arith, few)) (λ _. omega (arith, few))

  -- the first label stands at no lower slot
  abbrev From : ℕ → List LabelView → Type 0
  From a [] = Unit {0}
  From a (x ∷ xs) = a ≤ x.slot

  from_less : (a : ℕ) (xs : List LabelView) → From (a + 1) xs → From a xs
  from_less a [] h = tt
  from_less a (x ∷ xs) h = omega (arith, h)

  labels_from : (a k : ℕ) → From a (flat_map (label_if l marked list) (range_with_len a k))
  labels_from a zero = tt
  labels_from a (suc k) =
      let rest : List LabelView = flat_map (label_if l marked list) (range_with_len (a + 1) k) in
      cond_both (wants_label l marked list a) (label_of l marked list a ∷ []) [] (λ xs. From a (xs ++ rest)) (λ _. same a) (λ _. from_less a rest (labels_from (a + 1) k))
    where
      same : (n : ℕ) → n ≤ n
      same n = omega arith

  rising_more : (x : LabelView) (xs : List LabelView) → From (x.slot + 1) xs → is_rising slot_before xs ≡ true → is_rising slot_before (x ∷ xs) ≡ true
  rising_more x [] from h = refl
  rising_more x (y ∷ ys) from h = and_from (nat_lt x.slot y.slot) (is_rising slot_before (y ∷ ys)) (lt-ltb x.slot y.slot (omega (arith, from))) h

  labels_rise : (a k : ℕ) → is_rising slot_before (flat_map (label_if l marked list) (range_with_len a k)) ≡ true
  labels_rise a zero = refl
  labels_rise a (suc k) =
      let rest : List LabelView = flat_map (label_if l marked list) (range_with_len (a + 1) k) in
      let more = labels_rise (a + 1) k in
      cond_both (wants_label l marked list a) (label_of l marked list a ∷ []) [] (λ xs. is_rising slot_before (xs ++ rest) ≡ true)
      (λ _. rising_more (label_of l marked list a) rest (labels_from (a + 1) k) more)
      (λ _. more)

  -- ---- the first slot has a label

  first_led : (n : ℕ) → is_led_to list n 0 ≡ true
  first_led zero = refl
  first_led (suc n) = or_right _ (is_led_to list n 0) (first_led n)

first_opens : (a : Annotated) (i : Classic) → opens_at a i 0 ≡ true
first_opens a (Constant to k) = refl
first_opens a (Length to) = refl
first_opens a (Cell to cell) = refl
first_opens a (Store from cell) = refl
first_opens a (At size k) = refl
first_opens a (Index size k) = refl
first_opens a (Header k) = refl
first_opens a (Extension word) = refl
first_opens a (Alu op source) = refl
first_opens a Neg = refl
first_opens a (Jump k) = refl
first_opens a (Back k) = refl
first_opens a (JumpIf test source jt jf) = refl
first_opens a (Return k) = refl
first_opens a ReturnA = refl
first_opens a Tax = refl
first_opens a Txa = refl

-- where a template or the exit begins a label can stand
pub start_opens : (l : Layout) (marked : List Annotated) (slot : ℕ) → opens l (part_behind l marked 0) slot ≡ true
start_opens l [] slot = refl
start_opens l (a ∷ rest) slot =
    let none : 0 ≡ 0 - size l a = omega arith in
    cond_both (nat_lt 0 (size l a)) (Template a 0) (part_behind l rest (0 - size l a)) (λ p. opens l p slot ≡ true)
    (λ _. first_opens a a.insn)
    (λ _. subst (λ n. opens l (part_behind l rest n) slot ≡ true) none (start_opens l rest slot))

first_wanted : (l : Layout) (marked : List Annotated) (list : List Insn) → wants_label l marked list 0 ≡ true
first_wanted l marked list =
    and_from (is_leader list 0) (opens l (part_at l marked 0) 0) (first_led l marked list (length list))
    (cond_both (nat_lt 0 (length (entry l marked))) Entry (part_behind l marked (0 - length (entry l marked))) (λ p. opens l p 0 ≡ true) (λ _. refl)
    (λ _. (let none : 0 ≡ 0 - length (entry l marked) = omega arith in subst (λ n. opens l (part_behind l marked n) 0 ≡ true) none (start_opens l marked 0))))

some_label : (l : Layout) (marked : List Annotated) (list : List Insn) (n : ℕ) → 0 < n → nat_lt 0 (length (flat_map (label_if l marked list) (range_with_len 0 n))) ≡ true
some_label l marked list zero some = absurd (omega arith)
some_label l marked list (suc n) some =
    let rest : List LabelView = flat_map (label_if l marked list) (range_with_len (0 + 1) n) in
    subst (λ b. nat_lt 0 (length (cond b (label_of l marked list 0 ∷ []) [] ++ rest)) ≡ true) (sym (first_wanted l marked list)) (lt-ltb 0 (suc (length rest)) (omega arith))

-- ---- states

range_limited : (least most : ℕ) → least ≤ most → most < 2 ^ 64 → is_limited_register (between least most) ≡ true
range_limited least most ordered fits =
    and_from _ _ (and_from _ _ (and_from (nat_le most (2 ^ 64 - 1)) (nat_le least most) (le-leb most (2 ^ 64 - 1) (omega arith)) (le-leb least most ordered)) refl) refl

number_limited : (set : Bool) → is_limited_register (number_if set) ≡ true
number_limited true = refl
number_limited false = refl

index_limited : (l : Layout) (i : Classic) (offset : ℕ) → l.length < 2 ^ 64 → is_limited_register (index_known l i offset) ≡ true
index_limited l (Index size k) offset fits =
    cond_both (offset == 3) (between (min (k + bytes size) (room l)) (room l)) Any (λ r. is_limited_register r ≡ true)
    (λ _. range_limited (min (k + bytes size) (room l)) (room l) (omega (arith, clamps)) (omega arith)) (λ _. refl)
index_limited l (Constant to k) offset fits = refl
index_limited l (Length to) offset fits = refl
index_limited l (Cell to cell) offset fits = refl
index_limited l (Store from cell) offset fits = refl
index_limited l (At size k) offset fits = refl
index_limited l (Header k) offset fits = refl
index_limited l (Extension word) offset fits = refl
index_limited l (Alu op source) offset fits = refl
index_limited l Neg offset fits = refl
index_limited l (Jump k) offset fits = refl
index_limited l (Back k) offset fits = refl
index_limited l (JumpIf test source jt jf) offset fits = refl
index_limited l (Return k) offset fits = refl
index_limited l ReturnA offset fits = refl
index_limited l Tax offset fits = refl
index_limited l Txa offset fits = refl

turns_limited : (l : Layout) (i : Classic) (offset : ℕ) → l.turns < 2 ^ 16 → is_limited_register (turns_known l i offset) ≡ true
turns_limited l i offset few =
    cond_both l.loops (turns_left l (may_turn i offset)) Any (λ r. is_limited_register r ≡ true)
    (λ _. cond_both (may_turn i offset) (between 1 (max l.turns 1)) (between 0 l.turns) (λ r. is_limited_register r ≡ true)
    (λ _. range_limited 1 (max l.turns 1) (omega (arith, clamps)) (omega (arith, clamps, few)))
    (λ _. range_limited 0 l.turns (omega arith) (omega (arith, few))))
    (λ _. refl)

room_limited : (l : Layout) → l.length < 2 ^ 64 → is_limited_register (room_known l) ≡ true
room_limited l fits =
    range_limited (known_first l) (room l)
    (cond_both (is_block l.form) 0 (room l) (λ n. n ≤ room l) (λ _. omega arith) (λ _. omega arith)) (omega arith)

-- ---- cells

record AreCells (slots : List SlotState) : Type 0 where
  long : length slots ≡ 64
  limited : list_all is_limited_slot slots ≡ true

set_limited : (slots : List SlotState) (n : ℕ) (v : SlotState) → is_limited_slot v ≡ true → list_all is_limited_slot slots ≡ true → list_all is_limited_slot (slice_set slots n v) ≡ true
set_limited [] n v one all = refl
set_limited (s ∷ slots) zero v one all = and_from (is_limited_slot v) (list_all is_limited_slot slots) one (both_parts (is_limited_slot s) (list_all is_limited_slot slots) all)
  where
    both_parts : (a b : Bool) → (a && b) ≡ true → b ≡ true
    both_parts true b h = h
    both_parts false true h = refl
    both_parts false false h = h
set_limited (s ∷ slots) (suc n) v one all =
    and_from (is_limited_slot s) (list_all is_limited_slot (slice_set slots n v)) (first (is_limited_slot s) (list_all is_limited_slot slots) all) (set_limited slots n v one (second (is_limited_slot s) (list_all is_limited_slot slots) all))
  where
    first : (a b : Bool) → (a && b) ≡ true → a ≡ true
    first true b h = refl
    first false b h = h

    second : (a b : Bool) → (a && b) ≡ true → b ≡ true
    second true b h = h
    second false true h = refl
    second false false h = h

cell_kept : (reached : Bool) (i : Classic) (slots : List SlotState) → AreCells slots → AreCells (cell_known reached i slots)
cell_kept reached (Cell to cell) slots h =
    cond_both reached (slice_set slots (cell % 16) (Word top)) slots AreCells
    (λ _. record { long = length-set slots (cell % 16) (Word top) ∙ h.long; limited = set_limited slots (cell % 16) (Word top) refl h.limited }) (λ _. h)
cell_kept reached (Constant to k) slots h = h
cell_kept reached (Length to) slots h = h
cell_kept reached (Store from cell) slots h = h
cell_kept reached (At size k) slots h = h
cell_kept reached (Index size k) slots h = h
cell_kept reached (Header k) slots h = h
cell_kept reached (Extension word) slots h = h
cell_kept reached (Alu op source) slots h = h
cell_kept reached Neg slots h = h
cell_kept reached (Jump k) slots h = h
cell_kept reached (Back k) slots h = h
cell_kept reached (JumpIf test source jt jf) slots h = h
cell_kept reached (Return k) slots h = h
cell_kept reached ReturnA slots h = h
cell_kept reached Tax slots h = h
cell_kept reached Txa slots h = h

cells_kept : (marked : List Annotated) (slots : List SlotState) → AreCells slots → AreCells (cells_known marked slots)
cells_kept [] slots h = h
cells_kept (a ∷ rest) slots h = cells_kept rest (cell_known a.reached a.insn slots) (cell_kept a.reached a.insn slots h)

blank_cells : AreCells no_cells
blank_cells = record { long = refl; limited = refl }

-- ---- a state within the limits

record IsLimited (s : AbstractState) : Type 0 where
  shape : has_shape s ≡ true
  registers : list_all is_limited_register s.registers ≡ true
  slots : list_all is_limited_slot s.slots ≡ true

state_limited : (s : AbstractState) → IsLimited s → is_limited_state s ≡ true
state_limited s h = and_from _ _ (and_from _ _ h.shape h.registers) h.slots

six : (a b c d e : Bool) → a ≡ true → b ≡ true → c ≡ true → d ≡ true → e ≡ true → (a && (true && (b && (c && (d && (e && true)))))) ≡ true
six true true true true true p q r s t = refl
six false b c d e p q r s t = p
six true false c d e p q r s t = q
six true true false d e p q r s t = r
six true true true false e p q r s t = s
six true true true true false p q r s t = t

entry_limited : (l : Layout) (slot : ℕ) → l.length < 2 ^ 64 → is_limited_register (entry_room l slot) ≡ true
entry_limited l slot fits = cond_both (is_block l.form && (slot == 0 || slot == 2)) Any (room_known l) (λ r. is_limited_register r ≡ true) (λ _. refl) (λ _. room_limited l fits)

known_limited : (l : Layout) (marked : List Annotated) (part : Stretch) (slot : ℕ) → l.length < 2 ^ 64 → l.turns < 2 ^ 16 → is_limited_state (known_at l marked part slot) ≡ true
known_limited l marked Entry slot fits few =
    state_limited (known_at l marked Entry slot)
    (record {
      shape = refl;
      registers = six true (is_limited_register (entry_room l slot)) true true true refl (entry_limited l slot fits) refl refl refl;
      slots = refl;
    })
known_limited l marked (Template a offset) slot fits few =
    let cells = cells_kept marked no_cells blank_cells in
    state_limited (known_at l marked (Template a offset) slot)
    (record {
      shape = subst (λ n. (true && (n == 64) && true && true) ≡ true) (sym cells.long) refl;
      registers =
          six (is_limited_register (number_if a.a)) (is_limited_register (room_known l)) (is_limited_register (number_if a.x)) (is_limited_register (index_known l a.insn offset)) (is_limited_register (turns_known l a.insn offset))
          (number_limited a.a) (room_limited l fits) (number_limited a.x) (index_limited l a.insn offset fits) (turns_limited l a.insn offset few);
      slots = cells.limited;
    })
known_limited l marked (Trap offset) slot fits few = refl

-- ---- budgets

pub turn_few : (ways : List ℕ) (n slot : ℕ) (list : List Insn) → ((at : ℕ) → get_or ways at 0 ≤ n) → longest_turn ways slot list ≤ n
turn_few ways n slot [] few = omega arith
turn_few ways n slot (i ∷ rest) few =
    let more = turn_few ways n (suc slot) rest few in
    let here = back_few i in
    omega (arith, clamps, more, here)
  where
    back_few : (i : Insn) → longest_back ways slot i ≤ n
    back_few (Ja (negsuc d)) = few (slot - d)
    back_few (Ja (pos d)) = omega arith
    back_few (AluInsn op width dst src) = omega arith
    back_few (NegInsn width dst) = omega arith
    back_few (MovSx width bits dst src) = omega arith
    back_few (End kind bits dst) = omega arith
    back_few (LoadImm64 dst value) = omega arith
    back_few (Load size dst src off) = omega arith
    back_few (LoadSx size dst src off) = omega arith
    back_few (StoreInsn size dst off src) = omega arith
    back_few (StoreImm size dst off imm) = omega arith
    back_few (Atomic wide op dst off src) = omega arith
    back_few (JaLong off) = omega arith
    back_few (JumpIfInsn test width dst src off) = omega arith
    back_few (CallLocal off) = omega arith
    back_few Exit = omega arith

-- the weight of a turn, and what all turns take
record AreFew (l : Layout) (list : List Insn) : Type 0 where
  steps : (slot : ℕ) → get_or (longest_ways list) slot 0 ≤ 24600
  turn_few : turn list ≤ 24600
  all_turns : l.turns * turn list ≤ 65536 * 24600

are_few : (l : Layout) (list : List Insn) → length list ≤ 24600 → l.turns < 2 ^ 16 → AreFew l list
are_few l list short few =
    let steps : (slot : ℕ) → get_or (longest_ways list) slot 0 ≤ 24600 = λ slot. (let h = ways_few list slot in omega (arith, h, short)) in
    let most : turn list ≤ 24600 = turn_few (longest_ways list) 24600 0 list steps in
    record { steps = steps; turn_few = most; all_turns = mul-le l.turns (turn list) 65536 24600 (omega (arith, few)) most }

base_few : (l : Layout) (list : List Insn) (part : Stretch) (slot : ℕ) → AreFew l list → nat_le (base_at l (longest_ways list) (turn list) part slot) (2 ^ 40) ≡ true
base_few l list Entry slot h =
    le-leb (get_or (longest_ways list) slot 0 + l.turns * turn list) (2 ^ 40) (let a = h.steps slot in let b = h.all_turns in omega (arith, a, b))
base_few l list (Template a offset) slot h = le-leb (get_or (longest_ways list) slot 0) (2 ^ 40) (let a = h.steps slot in omega (arith, a))
base_few l list (Trap offset) slot h = le-leb (get_or (longest_ways list) slot 0) (2 ^ 40) (let a = h.steps slot in omega (arith, a))

-- at most one term, which is within the limits
record AreTerms (terms : List Term) : Type 0 where
  few : nat_le (length terms) 4 ≡ true
  each : list_all is_limited_term terms ≡ true
  rise : is_rising term_before terms ≡ true

one_term : (loops : Bool) (turn : ℕ) → turn ≤ 24600 → AreTerms (turn_terms loops turn)
one_term loops turn few =
    cond_both (loops && nat_lt 0 turn) (record { weight = turn; measure = Down (Register R5) } ∷ []) [] AreTerms
    (λ e. record { few = refl; each = and_from _ _ (and_from _ _ (and_from (nat_le 1 turn) (nat_le turn (2 ^ 20)) (le-leb 1 turn (ltb-true 0 turn (and_parts loops (nat_lt 0 turn) e).1)) (le-leb turn (2 ^ 20) (omega (arith, few)))) refl) refl; rise = refl })
    (λ _. record { few = refl; each = refl; rise = refl })

terms_few : (l : Layout) (list : List Insn) (part : Stretch) → turn list ≤ 24600 → AreTerms (terms_at l (turn list) part)
terms_few l list Entry few = record { few = refl; each = refl; rise = refl }
terms_few l list (Template a offset) few = one_term l.loops (turn list) few
terms_few l list (Trap offset) few = record { few = refl; each = refl; rise = refl }

-- a way has an instruction
way_some : (i : Insn) (behind : List ℕ) → 1 ≤ longest_of i behind
way_some (Ja (negsuc d)) behind = omega arith
way_some (Ja (pos d)) behind = omega arith
way_some (AluInsn op width dst src) behind = omega arith
way_some (NegInsn width dst) behind = omega arith
way_some (MovSx width bits dst src) behind = omega arith
way_some (End kind bits dst) behind = omega arith
way_some (LoadImm64 dst value) behind = omega arith
way_some (Load size dst src off) behind = omega arith
way_some (LoadSx size dst src off) behind = omega arith
way_some (StoreInsn size dst off src) behind = omega arith
way_some (StoreImm size dst off imm) behind = omega arith
way_some (Atomic wide op dst off src) behind = omega arith
way_some (JaLong off) behind = omega arith
way_some (JumpIfInsn test width dst src (pos d)) behind = omega arith
way_some (JumpIfInsn test width dst src (negsuc d)) behind = omega arith
way_some (CallLocal off) behind = omega arith
way_some Exit behind = omega arith

-- ---- the certificate

module _ (c : Conversion) (is : IsConversion c) where
  few : AreFew c.layout c.program.list
  few = are_few c.layout c.program.list (is_short c is) is.converted.few_turns

  fits : c.layout.length < 2 ^ 64
  fits = (let h = is.converted.short in omega (arith, h))

  label_canonical : (slot : ℕ) → is_canonical_label (label_of c.layout c.marked c.program.list slot) ≡ true
  label_canonical slot =
      let part = part_at c.layout c.marked slot in
      let terms = terms_few c.layout c.program.list part few.turn_few in
      and_from _ _ (canonical c.layout c.marked part slot) terms.rise

  label_limited : (slot : ℕ) → slot < length c.program.list → is_limited_label (label_of c.layout c.marked c.program.list slot) ≡ true
  label_limited slot lt =
      let part = part_at c.layout c.marked slot in
      let terms = terms_few c.layout c.program.list part few.turn_few in
      let short = is_short c is in
      and_from _ _ (and_from _ _ (and_from _ _ (and_from _ _
      (le-leb slot 65535 (omega (arith, lt, short)))
      (known_limited c.layout c.marked part slot fits is.converted.few_turns))
      (base_few c.layout c.program.list part slot few)) terms.few) terms.each

  canonical_is : is_canonical (claim c) ≡ true
  canonical_is =
      let labels = labels_of c.layout c.marked c.program.list in
      and_from true _ refl
      (and_from _ true
      (and_from (is_rising slot_before labels) (list_all is_canonical_label labels)
      (labels_rise c.layout c.marked c.program.list 0 (length c.program.list))
      (each_label c.layout c.marked c.program.list is_canonical_label 0 (length c.program.list) (λ slot lt. label_canonical slot))) refl)

  header_limited : 0 < length c.program.list → is_limited_header (header_of (claim c)) ≡ true
  header_limited some =
      let steps : ℕ = min (longest c.layout.turns c.program.list) max_steps in
      let one = some_way c.program.list some in
      let low : 1 ≤ steps = omega (arith, clamps, one) in
      let high : steps ≤ max_steps = omega (arith, clamps) in
      let short = is.converted.short in
      and_from _ _ (and_from _ _ (and_from true _ refl (le-leb c.layout.length c.layout.length (omega arith))) (le-leb c.layout.length 4096 (omega (arith, short))))
      (and_from (nat_le 1 steps) (nat_le steps max_steps) (le-leb 1 steps low) (le-leb steps max_steps high))
    where
      some_way : (list : List Insn) → 0 < length list → 1 ≤ get_or (longest_ways list) 0 0
      some_way [] lt = absurd (omega arith)
      some_way (i ∷ rest) lt = way_some i (longest_ways rest)

  function_limited : 0 < length c.program.list → is_limited_function (record { first = 0; depth = 1; ret = top; labels = labels_of c.layout c.marked c.program.list }) ≡ true
  function_limited some =
      and_from _ _ (and_from _ _ (and_from true true refl refl) (some_label c.layout c.marked c.program.list (length c.program.list) some))
      (each_label c.layout c.marked c.program.list is_limited_label 0 (length c.program.list) (λ slot lt. label_limited slot (omega (arith, lt))))

  limited_is : 0 < length c.program.list → is_limited (claim c) ≡ true
  limited_is some =
      let labels = labels_of c.layout c.marked c.program.list in
      let few_of = few_labels c.layout c.marked c.program.list 0 (length c.program.list) in
      let short = is_short c is in
      and_from _ _ (and_from _ _ (and_from _ true (header_limited some) refl) (le-leb (0 + length labels) max_labels (omega (arith, few_of, short))))
      (and_from _ true (function_limited some) refl)

  pub is_certificate : IsProgram c.program.list → IsCertificate (claim c)
  is_certificate h =
      let some : 0 < length c.program.list = (let s = h.some_slot in let e = slots_are c.program.list (narrow c is) in omega (arith, s, e)) in
      and_from (is_canonical (claim c)) (is_limited (claim c)) canonical_is (limited_is some)

-- such a certificate isn't refused
pub no_refusal : (v : CertificateView) → IsCertificate v → refusal_of v ≡ None
no_refusal v h =
    let both = and_parts (is_canonical v) (is_limited v) h in
    cond-false (not (is_canonical v)) (Some (NotCanonical 0)) (cond (not (is_limited v)) (Some (Limit 0)) None) (ap not both.0)
    ∙ cond-false (not (is_limited v)) (Some (Limit 0)) None (ap not both.1)
