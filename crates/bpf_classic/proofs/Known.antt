-- What is known in front of each instruction of a converted filter, and how a run goes on behind a template.
use Rattle.std.proofs.Common.{◌≡◌, ℕ, zero, suc, ◌+◌, ◌-◌, ◌%◌, ◌<◌, ◌≤◌, ◌^◌, List, [], ◌∷◌, length, take, drop, Bool, true, false, cond, Option, Some, None, refl, sym, ap, ◌∙◌, subst, ⊎_elim, arith}
use Rattle.std.specs.Prelude.{ℤ, pos, nat_lt, slice_get, slice_index, ◌||◌}
use Rattle.std.proofs.lemmas.Bool.{false≢true, cases_lt, leb-true, le-ltb, lt-leb, le-leb, and_parts}
use Rattle.std.proofs.lemmas.Option.{same_Some, none-some, slice_get-get_or, slice_get_past}
use Rattle.std.proofs.lemmas.List.{drop_more}
use Rattle.bpf_insn.specs.Order.{number_of}
use Rattle.bpf_insn.specs.Arithmetic.{low}
use Rattle.bpf_insn.specs.Instruction.{Instructions}
use Rattle.bpf_insn.specs.declared.order.Order.{Order}
use Rattle.bpf_insn.specs.declared.order.Order.TheVariants.{Big}
use Rattle.bpf_insn.specs.declared.instruction.Operand.TheVariants.{Imm}
use Rattle.bpf_insn.specs.declared.instruction.Width.TheVariants.{W32}
use Rattle.bpf_insn.specs.declared.instruction.AluOp.TheVariants.{Mov}
use Rattle.bpf_semantics.specs.declared.value.Value.TheVariants.{Number}
use Rattle.bpf_classic.specs.Machine.{Given, Machine, put, held, next, go_on, run_from, loaded, read}
use Rattle.bpf_classic.specs.Valid.{names_no_cell, has_bad_constant}
use Rattle.bpf_classic.specs.declared.instruction.Register.{Register}
use Rattle.bpf_classic.specs.declared.instruction.Register.TheVariants.{A, X}
use Rattle.bpf_classic.specs.declared.instruction.Classic.{Classic}
use Rattle.bpf_classic.specs.Template.{head, room, length_offset, is_beyond, is_swapped, is_masked, total, ahead_in, loads, code}
use Rattle.bpf_classic.specs.Flow.{is_word, has_word, is_a, is_x, reads_a, reads_x, sets_a, sets_x, uses_trap, known_behind, leads_to, leads_on, implies, agrees, all_agree, head_at}
use Rattle.bpf_classic.specs.Meaning.{insns}
use Rattle.bpf_classic.specs.declared.layout.Form.{Form}
use Rattle.bpf_classic.specs.declared.layout.Form.TheVariants.{Blocks, Plain, Seccomp, Extended}
use Rattle.bpf_classic.specs.declared.layout.Layout.{Layout}
use Rattle.bpf_classic.specs.declared.layout.Annotated.{Annotated}
use Rattle.bpf_classic.specs.Longest.{turn}
use Rattle.bpf_classic.proofs.Steps.{HasAt, Ends, Moves, after, ending}
use Rattle.bpf_classic.proofs.Places.{trap_at}
use Rattle.bpf_classic.proofs.Machine.{Fixed, Now, at, with_left, value_of, set_to, alu_moves}
use Rattle.bpf_classic.proofs.Frame.{CellsHold}

-- ---- a context, and what the filter is given by it

-- where the program reads the packet's length
abbrev pub LengthIs : Form → ℤ → Order → Fixed → ℕ → Type 0
LengthIs Blocks offset order f wire = (i : ℕ) × (offset ≡ pos i) × (i + 4 ≤ length f.context) × (number_of order 4 (take 4 (drop i f.context)) ≡ wire % 2 ^ 32)
LengthIs Plain offset order f wire = low W32 f.room ≡ wire % 2 ^ 32
LengthIs Seccomp offset order f wire = 64 ≡ wire % 2 ^ 32
LengthIs Extended offset order f wire = (i : ℕ) × (offset ≡ pos i) × (i + 4 ≤ length f.context) × (number_of order 4 (take 4 (drop i f.context)) ≡ wire % 2 ^ 32)

-- where the program reads a word of Linux's auxiliary data
abbrev pub WordsAre : Form → Fixed → List ℕ → Type 0
WordsAre Blocks f words = words ≡ []
WordsAre Plain f words = words ≡ []
WordsAre Seccomp f words = words ≡ []
WordsAre Extended f words = (at : ℕ) → at ≤ 60 → (8 + at + 4 ≤ length f.context) × (take 4 (drop (8 + at) f.context) ≡ take 4 (drop at words))

pub record Fits (l : Layout) (p : Instructions) (g : Given) (f : Fixed) : Type 0 where
  pub short : room l ≤ 4096
  pub most : f.room ≤ room l
  pub inside : head l.form + f.room ≤ length f.context
  pub packet : (k n : ℕ) → k + n ≤ f.room → take n (drop (head l.form + k) f.context) ≡ take n (drop k g.packet)
  pub there : length g.packet ≡ f.room
  pub bytes : (i : ℕ) → slice_index f.context i < 256
  pub order : g.order ≡ cond (is_swapped l) Big p.order
  pub masks : g.masks ≡ is_masked l
  pub wire : LengthIs l.form (length_offset l) p.order f g.wire
  pub own : g.own ≡ p.order
  pub words : WordsAre l.form f g.words

-- ---- what is known

pub record Knows (order : Order) (wanted : ℕ → Bool) (f : Fixed) (a x : Bool) (known : ℕ) (m : Machine) (w : Now) : Type 0 where
  pub a_is : a ≡ true → w.r0 ≡ Some (Number m.a)
  pub x_is : x ≡ true → w.r3 ≡ Some (Number m.x)
  pub there : known ≤ f.room
  pub a_small : m.a < 2 ^ 32
  pub x_small : m.x < 2 ^ 32
  pub cells : CellsHold order wanted m.cells w.stack

-- what an instruction of a valid filter has, and one that is reached besides
pub record Sane (i : Classic) : Type 0 where
  pub cell : names_no_cell i ≡ false
  pub constant : has_bad_constant i ≡ false

pub record Good (i : Classic) : Type 0 where
  pub word : has_word i ≡ true
  pub cell : names_no_cell i ≡ false
  pub constant : has_bad_constant i ≡ false

abbrev pub Covers : (ℕ → Bool) → Classic → Type 0
Covers wanted i = (cell : ℕ) → loads cell i ≡ true → wanted cell ≡ true

pub word_below : (k : ℕ) → is_word k ≡ true → k < 2 ^ 32
word_below k e = let h = leb-true k 0xffffffff e in omega (arith, h)

-- ---- small laws of tests

pub or_no : (b : Bool) → (b || false) ≡ true → b ≡ true
or_no true e = refl
or_no false e = e

pub or_right : (b c : Bool) → b ≡ false → (b || c) ≡ true → c ≡ true
or_right true c e h = absurd (false≢true (sym e))
or_right false c e h = h

pub implied : (a b : Bool) → implies a b ≡ true → a ≡ true → b ≡ true
implied true b h e = h
implied false b h e = absurd (false≢true e)

pub none_below : (r : ℕ) → nat_lt r 0 ≡ false
none_below r = le-ltb r 0 (omega arith)

-- ---- the parts of an agreement

pub record Agreed (l : Layout) (a : Annotated) (rest : List Annotated) : Type 0 where
  pub word : has_word a.insn ≡ true
  pub a_read : implies (reads_a a.insn) a.a ≡ true
  pub x_read : implies (reads_x a.insn) a.x ≡ true
  pub trap : implies (uses_trap l a) l.trap ≡ true
  pub leads : (is_beyond l a.insn || leads_on a a.insn rest) ≡ true

pub agreed : (l : Layout) (a : Annotated) (rest : List Annotated) → agrees l a rest ≡ true → Agreed l a rest
agreed l a rest e =
    let zero = and_parts _ _ e in
    let one = and_parts _ _ zero.1 in
    let two = and_parts _ _ one.1 in
    let three = and_parts _ _ two.1 in
    record { word = zero.0; a_read = one.0; x_read = two.0; trap = three.0; leads = three.1 }

pub all_drop : (l : Layout) (k : ℕ) (rest : List Annotated) → all_agree l rest ≡ true → all_agree l (drop k rest) ≡ true
all_drop l zero rest e = e
all_drop l (suc k) [] e = refl
all_drop l (suc k) (a ∷ rest) e = all_drop l k rest (and_parts _ _ e).1

pub found : (rest : List Annotated) (k : ℕ) (b : Annotated) → slice_get rest k ≡ Some b → drop k rest ≡ b ∷ drop (k + 1) rest
found rest k b e = ⊎_elim
    (λ lt. drop_more rest k b lt ∙ ap (λ x. x ∷ drop (k + 1) rest) (same_Some _ _ (sym (slice_get-get_or rest k b lt) ∙ e)))
    (λ le. absurd (none-some _ (sym (slice_get_past rest k le) ∙ e)))
    (cases_lt k (length rest))

-- ---- where a jump back leads

module _ (l : Layout) (p : Instructions) (g : Given) (f : Fixed) (wanted : ℕ → Bool) (all : List Annotated) (start : ℕ) where
  -- a run that goes on from there ends with what the filter's does, if it may jump back once more
  pub record TurnsOn (n : ℕ) : Type 0 where
    pub few : n < 2 ^ 16
    pub spare : ℕ
    pub spared : f.spare ≡ spare + turn p.list
    pub on : (left v : ℕ) (b : Annotated) (m : Machine) (w : Now) → slice_get all (head_at all left) ≡ Some b → b.reached ≡ true → Knows p.order wanted f b.a b.x b.known m w
        → f.back left m ≡ Some v → Ends p spare (at (with_left n f) (start + ahead_in l all (head_at all left)) w) v

  -- else it answers 0
  abbrev pub TurnsFrom : ℕ → Type 0
  TurnsFrom zero = (left : ℕ) (m : Machine) → f.back left m ≡ Some 0
  TurnsFrom (suc n) = TurnsOn n

  -- where there is a loop
  pub record Turns : Type 0 where
    pub here : HasAt p start (code l all)
    pub count : ℕ
    pub left : f.left ≡ Some count
    pub go : TurnsFrom count

-- ---- one instruction

abbrev pub marked : Classic → ℕ → Bool → Bool → ℕ → Annotated
marked i known sa sx over = record { insn = i; reached = true; known = known; a = sa; x = sx; back = over }

module _ (l : Layout) (p : Instructions) (g : Given) (f : Fixed) (wanted : ℕ → Bool) where
  abbrev pub Holds : Bool → Bool → ℕ → Machine → Now → Type 0
  Holds a x known m w = Knows p.order wanted f a x known m w

  -- behind an instruction
  abbrev pub Behind : Annotated → Machine → Now → Type 0
  Behind a m w = Knows p.order wanted f (a.a || sets_a a.insn) (a.x || sets_x a.insn) (known_behind a) m w

  -- from the end of a template on, the run ends with v wherever the instruction leads
  abbrev pub Onward : Annotated → List Annotated → ℕ → ℕ → Type 0
  Onward a rest fuel v =
      (slot k : ℕ) (m : Machine) (w : Now) → HasAt p slot (code l rest) → leads_to a (slice_get rest k) ≡ true → Behind a m w
      → run_from f.back fuel g (drop k (insns rest)) m ≡ Some v → Ends p f.spare (at f (slot + ahead_in l rest k) w) v

  -- what each instruction is shown to do: where the filter's run goes on from it to v, the program's run ends with v
  abbrev pub Follows : Classic → Type 0
  Follows i =
      (known : ℕ) (sa sx : Bool) (over : ℕ) (rest : List Annotated) (slot fuel v : ℕ) (m : Machine) (w : Now)
      → Good i → HasAt p slot (code l (marked i known sa sx over ∷ rest)) → Agreed l (marked i known sa sx over) rest → Covers wanted i → Holds sa sx known m w
      → Onward (marked i known sa sx over) rest fuel v
      → go_on (next g i m) (λ k m'. run_from f.back fuel g (drop k (insns rest)) m') (λ k m'. f.back (length (insns rest) + k) m') ≡ Some v → Ends p f.spare (at f slot w) v

  -- the next instruction follows
  pub straight : (a : Annotated) (rest : List Annotated) (slot fuel v : ℕ) (m : Machine) (w : Now) → Onward a rest fuel v → HasAt p slot (code l rest) → leads_to a (slice_get rest 0) ≡ true → Behind a m w → run_from f.back fuel g (insns rest) m ≡ Some v → Ends p f.spare (at f slot w) v
  straight a rest slot fuel v m w onward has leads knows run =
      let e : slot + (total l rest - total l rest) ≡ slot = omega arith in
      subst (λ n. Ends p f.spare (at f n w) v) e (onward slot 0 m w has leads knows run)

  -- an instruction that becomes one, behind which the next one follows
  pub pass : (a : Annotated) (rest : List Annotated) (slot fuel v : ℕ) (m : Machine) (w u : Now) → Moves p (at f slot w) (at f (slot + 1) u) → HasAt p (slot + 1) (code l rest) → Onward a rest fuel v → leads_to a (slice_get rest 0) ≡ true → Behind a m u → run_from f.back fuel g (insns rest) m ≡ Some v → Ends p f.spare (at f slot w) v
  pass a rest slot fuel v m w u moves has onward leads knows run = after p (at f slot w) (at f (slot + 1) u) v moves (straight a rest (slot + 1) fuel v m u onward has leads knows run)

  -- A or X is set
  pub put_knows : (to : Register) (n known known' : ℕ) (sa sx : Bool) (m : Machine) (w : Now) → n < 2 ^ 32 → known' ≤ f.room → Holds sa sx known m w → Holds (sa || is_a to) (sx || is_x to) known' (put to n m) (set_to to (Number n) w)
  put_knows A n known known' sa sx m w small more knows = record {
    a_is = λ _. refl;
    x_is = λ e. knows.x_is (or_no sx e);
    there = more;
    a_small = small;
    x_small = knows.x_small;
    cells = knows.cells;
  }
  put_knows X n known known' sa sx m w small more knows = record {
    a_is = λ e. knows.a_is (or_no sa e);
    x_is = λ _. refl;
    there = more;
    a_small = knows.a_small;
    x_small = small;
    cells = knows.cells;
  }

  -- nothing is set
  pub same_knows : (known known' : ℕ) (sa sx : Bool) (m : Machine) (w : Now) → known' ≤ f.room → Holds sa sx known m w → Holds (sa || false) (sx || false) known' m w
  same_knows known known' sa sx m w more knows = record {
    a_is = λ e. knows.a_is (or_no sa e);
    x_is = λ e. knows.x_is (or_no sx e);
    there = more;
    a_small = knows.a_small;
    x_small = knows.x_small;
    cells = knows.cells;
  }

  pub held_is : (from : Register) (known : ℕ) (sa sx : Bool) (m : Machine) (w : Now) → implies (is_a from) sa ≡ true → implies (is_x from) sx ≡ true → Holds sa sx known m w → value_of from w ≡ Some (Number (held from m))
  held_is A known sa sx m w a x knows = knows.a_is (implied true sa a refl)
  held_is X known sa sx m w a x knows = knows.x_is (implied true sx x refl)

  pub held_small : (from : Register) (known : ℕ) (sa sx : Bool) (m : Machine) (w : Now) → Holds sa sx known m w → held from m < 2 ^ 32
  held_small A known sa sx m w knows = knows.a_small
  held_small X known sa sx m w knows = knows.x_small

  -- ---- the exit that answers 0

  pub trapped : (rest : List Annotated) (slot v : ℕ) (w : Now) → l.trap ≡ true → HasAt p slot (code l rest) → 0 ≡ v → Ends p f.spare (at f (slot + total l rest) w) v
  trapped rest slot v w trap has zero_is =
      let here = trap_at l p rest slot trap has in
      let to : ℕ = slot + total l rest in
      after p (at f to w) (at f (to + 1) (set_to A (Number 0) w)) v
      (alu_moves p f to w A W32 Mov (Imm (pos 0)) (Number 0) (Number 0) here.0 refl refl)
      (ending p (at f (to + 1) (set_to A (Number 0) w)) v here.1.0 refl (ap Some zero_is))

  -- ---- what is there of the packet

  pub read_inside : Fits l p g f → (k n : ℕ) → k + n ≤ f.room → read g k n ≡ Some (number_of g.order n (take n (drop (head l.form + k) f.context)))
  read_inside fits k n le =
      ap (λ b. cond b (Some (number_of g.order n (take n (drop k g.packet)))) None) (le-leb (k + n) (length g.packet) (omega (arith, fits.there)))
      ∙ ap (λ xs. Some (number_of g.order n xs)) (sym (fits.packet k n le))

  pub read_outside : Fits l p g f → (k n : ℕ) → f.room < k + n → read g k n ≡ None
  read_outside fits k n lt = ap (λ b. cond b (Some (number_of g.order n (take n (drop k g.packet)))) None) (lt-leb (k + n) (length g.packet) (omega (arith, fits.there)))

  -- a load from outside answers 0
  pub outside_is : (o : Option ℕ) (to : ℕ → Machine) (then turn : ℕ → Machine → Option ℕ) (v : ℕ) → o ≡ None → go_on (loaded o to) then turn ≡ Some v → 0 ≡ v
  outside_is o to then turn v e run = same_Some 0 v (sym (ap (λ o. go_on (loaded o to) then turn) e) ∙ run)

  pub inside_is : (o : Option ℕ) (n : ℕ) (to : ℕ → Machine) (then turn : ℕ → Machine → Option ℕ) (v : ℕ) → o ≡ Some n → go_on (loaded o to) then turn ≡ Some v → then 0 (to n) ≡ Some v
  inside_is o n to then turn v e run = sym (ap (λ o. go_on (loaded o to) then turn) e) ∙ run
