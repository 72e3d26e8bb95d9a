-- Runs from their front, and which instructions stand at which slots.
use Rattle.std.proofs.Common.{◌≡◌, ℕ, zero, suc, ◌+◌, ◌<◌, ◌≤◌, List, [], ◌∷◌, ◌++◌, length, drop, get_or, Bool, true, false, cond, Some, None, refl, sym, ap, ap₂, ◌∙◌, subst, arith, append_assoc, length-append}
use Rattle.std.specs.Prelude.{map, max, option_and_then}
use Rattle.std.proofs.lemmas.List.{get_or-drop, drop-drop}
use Rattle.std.proofs.lemmas.Bool.{false≢true, cond_both}
use Rattle.std.proofs.lemmas.Int.{clamps}
use Rattle.bpf_insn.specs.Instruction.{Instructions, slots_of, layout, insn_at}
use Rattle.bpf_insn.specs.declared.instruction.Insn.{Insn}
use Rattle.bpf_insn.specs.declared.instruction.Insn.TheVariants.{Alu, Neg, MovSx, End, LoadImm64, Load, LoadSx, Store, StoreImm, Atomic, Ja, JaLong, JumpIf, CallLocal, Exit}
use Rattle.bpf_semantics.specs.State.{State, number_of_register}
use Rattle.bpf_semantics.specs.Step.{does, step_of, Step, finish_of, Finish, result_of_exit}
use Rattle.bpf_semantics.specs.Run.{Steps}
use Rattle.bpf_insn.specs.declared.instruction.Reg.TheVariants.{R0}
use Rattle.bpf_classic.specs.Longest.{longest_of, longest_ways, longest_back, longest_turn, turn}

-- ---- where instructions stand

-- the longest way from a slot on
abbrev pub far : Instructions → ℕ → ℕ
far p slot = get_or (longest_ways p.list) slot 0

pub record Stands (p : Instructions) (slot : ℕ) (i : Insn) : Type 0 where
  pub insn : insn_at p.list slot ≡ Some i
  pub ways : far p slot ≡ longest_of i (drop (slot + 1) (longest_ways p.list))
  pub back : longest_back (longest_ways p.list) slot i ≤ turn p.list

-- the program's instructions from a slot on, to the last
abbrev pub HasAt : Instructions → ℕ → List Insn → Type 0
HasAt p slot [] = slot ≡ length p.list
HasAt p slot (i ∷ is) = Stands p slot i × HasAt p (slot + 1) is

pub has_back : (p : Instructions) (slot : ℕ) (a b : List Insn) → HasAt p slot (a ++ b) → HasAt p (slot + length a) b
has_back p slot [] b h = let e : slot ≡ slot + 0 = omega arith in subst (λ n. HasAt p n b) e h
has_back p slot (i ∷ a) b h =
    let e : slot + 1 + length a ≡ slot + length (i ∷ a) = omega arith in
    subst (λ n. HasAt p n b) e (has_back p (slot + 1) a b h.1)

pub has_length : (p : Instructions) (slot : ℕ) (is : List Insn) → HasAt p slot is → slot + length is ≡ length p.list
has_length p slot [] h = omega (arith, h)
has_length p slot (i ∷ is) h = let e = has_length p (slot + 1) is h.1 in omega (arith, e)

-- ---- a step brings a run nearer to its end

pub record Moves (p : Instructions) (s t : State) : Type 0 where
  pub step : Step p s t
  pub less : far p t.top.slot < far p s.top.slot

-- an instruction that stands at the slot is done
pub stepping : (p : Instructions) (s t : State) (i : Insn) → Stands p s.top.slot i → does p.order i s ≡ Some t → Step p s t
unfolding step_of
stepping p s t i here d = ap (option_and_then (λ i. does p.order i s)) here.insn ∙ d

pub doing : (p : Instructions) (s t : State) (i : Insn) → Stands p s.top.slot i → does p.order i s ≡ Some t → far p t.top.slot < longest_of i (drop (s.top.slot + 1) (longest_ways p.list)) → Moves p s t
unfolding step_of
doing p s t i here d less = record { step = ap (option_and_then (λ i. does p.order i s)) here.insn ∙ d; less = omega (arith, here.ways) }

-- the longest way from so far behind a slot, and from the next slot
pub far_behind : (p : Instructions) (slot k : ℕ) → get_or (drop (slot + 1) (longest_ways p.list)) k 0 ≡ far p (slot + 1 + k)
far_behind p slot k = get_or-drop (slot + 1) (longest_ways p.list) k 0

pub far_next : (p : Instructions) (slot : ℕ) → far p (slot + 1) < 1 + get_or (drop (slot + 1) (longest_ways p.list)) 0 0
far_next p slot =
    let n : slot + 1 + 0 ≡ slot + 1 = omega arith in
    let e : get_or (drop (slot + 1) (longest_ways p.list)) 0 0 ≡ far p (slot + 1) = far_behind p slot 0 ∙ ap (far p) n in
    omega (arith, e)

-- ---- a run ends with v from here, within the longest way and what the jumps back that are left may take

pub record Ends (p : Instructions) (spare : ℕ) (s : State) (v : ℕ) : Type 0 where
  pub count : ℕ
  pub last : State
  pub leads : Steps p count s last
  pub ends : Finish p last v
  pub within : count < far p s.top.slot + spare

front : (p : Instructions) (k : ℕ) (s t u : State) → Step p s t → Steps p k t u → Steps p (suc k) s u
front p zero s t u step e = (s, refl, subst (λ x. Step p s x) (sym e) step)
front p (suc k) s t u step h = (h.0, front p k s t h.0 step h.1, h.2)

pub after : {spare : ℕ} (p : Instructions) (s t : State) (v : ℕ) → Moves p s t → Ends p spare t v → Ends p spare s v
after p s t v moves e =
    record {
      count = suc e.count;
      last = e.last;
      leads = front p e.count s t e.last moves.step e.leads;
      ends = e.ends;
      within = (let h = e.within in let less = moves.less in omega (arith, h, less));
    }

-- a jump back takes as much as a turn may
pub after_back : (p : Instructions) (spare : ℕ) (s t : State) (v : ℕ) → Step p s t → 0 < far p s.top.slot → far p t.top.slot ≤ turn p.list → Ends p spare t v → Ends p (spare + turn p.list) s v
after_back p spare s t v step some less e =
    record {
      count = suc e.count;
      last = e.last;
      leads = front p e.count s t e.last step e.leads;
      ends = e.ends;
      within = (let h = e.within in omega (arith, h, some, less));
    }

-- a test that leads one way or the other
pub either : {spare : ℕ} (p : Instructions) (s : State) (b : Bool) (t u : State) (v : ℕ) → Moves p s (cond b t u) → (b ≡ true → Ends p spare t v) → (b ≡ false → Ends p spare u v) → Ends p spare s v
either {spare = spare} p s b t u v moves there here = after p s (cond b t u) v moves (cond_both b t u (λ x. Ends p spare x v) there here)

pub ending : {spare : ℕ} (p : Instructions) (s : State) (v : ℕ) → Stands p s.top.slot Exit → s.waiting ≡ [] → number_of_register s R0 ≡ Some v → Ends p spare s v
unfolding finish_of
ending p s v here w r =
    record {
      count = 0;
      last = s;
      leads = refl;
      ends = ap (option_and_then (λ i. result_of_exit s.waiting (number_of_register s R0) i)) here.insn ∙ ap₂ (λ ws o. result_of_exit ws o Exit) w r;
      within = (let w = here.ways in omega (arith, w));
    }

-- ---- instructions of one slot each

abbrev pub is_narrow : Insn → Bool
is_narrow (LoadImm64 dst value) = false
is_narrow _ = true

slots_narrow : (i : Insn) → is_narrow i ≡ true → slots_of i ≡ Some i ∷ []
slots_narrow (Alu op width dst src) e = refl
slots_narrow (Neg width dst) e = refl
slots_narrow (MovSx width bits dst src) e = refl
slots_narrow (End kind bits dst) e = refl
slots_narrow (LoadImm64 dst value) e = absurd (false≢true e)
slots_narrow (Load size dst src off) e = refl
slots_narrow (LoadSx size dst src off) e = refl
slots_narrow (Store size dst off src) e = refl
slots_narrow (StoreImm size dst off imm) e = refl
slots_narrow (Atomic wide op dst off src) e = refl
slots_narrow (Ja off) e = refl
slots_narrow (JaLong off) e = refl
slots_narrow (JumpIf cond width dst src off) e = refl
slots_narrow (CallLocal off) e = refl
slots_narrow Exit e = refl

abbrev pub AreNarrow : List Insn → Type 0
AreNarrow [] = Unit {0}
AreNarrow (i ∷ is) = (is_narrow i ≡ true) × AreNarrow is

pub narrow_both : (a b : List Insn) → AreNarrow a → AreNarrow b → AreNarrow (a ++ b)
narrow_both [] b ha hb = hb
narrow_both (i ∷ a) b ha hb = (ha.0, narrow_both a b ha.1 hb)

pub narrow_layout : (is : List Insn) → AreNarrow is → layout is ≡ map Some is
narrow_layout [] h = refl
narrow_layout (i ∷ is) h = ap₂ (λ xs ys. xs ++ ys) (slots_narrow i h.0) (narrow_layout is h.1)

-- ---- all instructions of a program stand where they do

at_seam : (pre : List Insn) (i : Insn) (is : List Insn) → get_or (map Some (pre ++ i ∷ is)) (length pre) None ≡ Some i
at_seam [] i is = refl
at_seam (j ∷ pre) i is = at_seam pre i is

ways_behind : (pre is : List Insn) → drop (length pre) (longest_ways (pre ++ is)) ≡ longest_ways is
ways_behind [] is = refl
ways_behind (i ∷ pre) is = ways_behind pre is

turn_in : (ways : List ℕ) (slot : ℕ) (pre : List Insn) (i : Insn) (is : List Insn) → longest_back ways (slot + length pre) i ≤ longest_turn ways slot (pre ++ i ∷ is)
turn_in ways slot [] i is = let e : slot + 0 ≡ slot = omega arith in subst (λ n. longest_back ways n i ≤ max (longest_back ways slot i) (longest_turn ways (suc slot) is)) (sym e) (omega (arith, clamps))
turn_in ways slot (j ∷ pre) i is =
    let h = turn_in ways (suc slot) pre i is in
    let e : suc slot + length pre ≡ slot + suc (length pre) = omega arith in
    let h' : longest_back ways (slot + suc (length pre)) i ≤ longest_turn ways (suc slot) (pre ++ i ∷ is) = subst (λ n. longest_back ways n i ≤ longest_turn ways (suc slot) (pre ++ i ∷ is)) e h in
    omega (arith, clamps, h')

stands : (p : Instructions) (pre : List Insn) (i : Insn) (is : List Insn) → layout p.list ≡ map Some p.list → p.list ≡ pre ++ i ∷ is → Stands p (length pre) i
stands p pre i is flat e =
    let ways : drop (length pre) (longest_ways p.list) ≡ longest_ways (i ∷ is) = ap (λ list. drop (length pre) (longest_ways list)) e ∙ ways_behind pre (i ∷ is) in
    let n : length pre ≡ length pre + 0 = omega arith in
    let behind : drop (length pre + 1) (longest_ways p.list) ≡ longest_ways is = sym (drop-drop 1 (length pre) (longest_ways p.list)) ∙ ap (drop 1) ways in
    record {
      insn = ap (λ cells. get_or cells (length pre) None) (flat ∙ ap (map Some) e) ∙ at_seam pre i is;
      ways =
          ap (λ k. get_or (longest_ways p.list) k 0) n ∙ sym (get_or-drop (length pre) (longest_ways p.list) 0 0) ∙ ap (λ ws. get_or ws 0 0) ways
          ∙ ap (longest_of i) (sym behind);
      back =
          subst (λ list. longest_back (longest_ways p.list) (length pre) i ≤ longest_turn (longest_ways p.list) 0 list) (sym e)
          (let z : 0 + length pre ≡ length pre = omega arith in subst (λ n. longest_back (longest_ways p.list) n i ≤ longest_turn (longest_ways p.list) 0 (pre ++ i ∷ is)) z (turn_in (longest_ways p.list) 0 pre i is));
    }

pub has_all : (p : Instructions) (is pre : List Insn) → layout p.list ≡ map Some p.list → p.list ≡ pre ++ is → HasAt p (length pre) is
has_all p [] pre flat e =
    let long : length pre + 0 ≡ length p.list = sym (ap length e ∙ length-append pre []) in
    omega (arith, long)
has_all p (i ∷ is) pre flat e =
    let n : length (pre ++ i ∷ []) ≡ length pre + 1 = omega (arith, length-append pre (i ∷ [])) in
    let rest = has_all p is (pre ++ i ∷ []) flat (e ∙ sym (append_assoc pre (i ∷ []) is)) in
    (stands p pre i is flat e, subst (λ m. HasAt p m is) n rest)
