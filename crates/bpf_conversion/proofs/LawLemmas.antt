-- The certificate of a converted filter has no flaw.
use Rattle.std.proofs.Common.{◌≡◌, ℕ, zero, suc, ℤ, pos, ◌+ℤ◌, ◌≤ℤ◌, ◌+◌, ◌*◌, ◌<◌, ◌≤◌, List, [], ◌∷◌, ◌++◌, length, get_or, min, max, Bool, true, false, cond, Option, Some, None, refl, sym, ap, ap₂, ◌∙◌, subst, ⊎_elim, arith}
use Rattle.std.specs.Prelude.{nat_lt, not, ◌==◌, ◌&&◌, ◌||◌, int_lt, flat_map, is_none, slice_get, option_map, Contains}
use Rattle.std.specs.List.{list_any, range_with_len}
use Rattle.std.proofs.lemmas.Bool.{cond-true, cond-false, cond_both, and_from, and_parts, or_from, false≢true, cases_lt, cases_Bool}
use Rattle.std.proofs.lemmas.Int.{ints, clamps}
use Rattle.std.proofs.lemmas.List.{nil_from_length}
use Rattle.std.proofs.lemmas.Option.{slice_get-get_or}
use Rattle.bpf_insn.specs.Image.{IsProgram}
use Rattle.bpf_insn.specs.Instruction.{Instructions, insn_at}
use Rattle.bpf_insn.specs.declared.instruction.Reg.TheVariants.{R0, R2, R3}
use Rattle.bpf_insn.specs.declared.instruction.Insn.TheVariants.{Exit}
use Rattle.std.specs.Option.{option_map_or}
use Rattle.bpf_num.specs.Number.{Number, number}
use Rattle.bpf_state.specs.State.{AbstractState, first_state, register, tightened, tightened_register}
use Rattle.bpf_state.specs.Entails.{state_entails, register_entails}
use Rattle.bpf_state.specs.Fault.{some_passes}
use Rattle.bpf_state.specs.Condition.{condition_number}
use Rattle.bpf_state.specs.declared.condition.Condition.{Condition}
use Rattle.bpf_state.specs.declared.condition.Condition.TheVariants.{MisplacedLabel, OverBudget, Misshapen}
use Rattle.bpf_state.specs.declared.known.RegState.{RegState}
use Rattle.bpf_state.specs.declared.known.RegState.TheVariants.{Any, Num}
use Rattle.bpf_cert.specs.Limits.{max_steps}
use Rattle.bpf_cert.specs.View.{LabelView, FunctionView, CertificateView}
use Rattle.bpf_safety.specs.Budget.{budget, greatest_budget, unsigned_bounds}
use Rattle.bpf_safety.specs.Labels.{label_at}
use Rattle.bpf_safety.specs.Flaw.{at, fails, flaws, begins_wrongly, begins_elsewhere, starts_over_budget, numbers_of_label, is_first_label, starts_at, is_bad_term, is_bad_limit, is_outside, is_not}
use Rattle.bpf_safety.specs.Certified.{Certified}
use Rattle.bpf_classic.specs.Longest.{longest_ways, turn, longest}
use Rattle.bpf_classic.specs.Meaning.{Conversion}
use Rattle.bpf_classic.specs.Template.{head, room, is_block, known_first, room_insns, turns_code, zero_if, zero_cell, code, entry}
use Rattle.bpf_classic.specs.Flow.{starts_well, all_agree}
use Rattle.bpf_classic.specs.declared.layout.Form.{Form}
use Rattle.bpf_classic.specs.declared.layout.Form.TheVariants.{Blocks, Plain, Seccomp, Extended}
use Rattle.bpf_classic.specs.declared.layout.Layout.{Layout}
use Rattle.bpf_classic.specs.declared.layout.Annotated.{Annotated}
use Rattle.bpf_classic.proofs.Steps.{HasAt, has_back, has_all}
use Rattle.bpf_conversion.specs.Parts.{part_at, opens}
use Rattle.bpf_conversion.specs.Known.{between, room_known, entry_room, known_at, template_known, turns_known, turns_left, may_turn}
use Rattle.bpf_conversion.specs.Leaders.{is_leader}
use Rattle.bpf_conversion.specs.Outline.{IsNarrow}
use Rattle.bpf_classic.specs.Valid.{AreFaultless}
use Rattle.std.proofs.lemmas.Nat.{mul-le}
use Rattle.bpf_conversion.specs.Claim.{IsConversion, turn_terms, terms_at, label_in, label_of, wants_label, label_if, claim}
use Rattle.bpf_conversion.specs.declared.parts.Stretch.{Stretch}
use Rattle.bpf_conversion.specs.declared.parts.Stretch.TheVariants.{Entry, Template, Trap}
use Rattle.bpf_conversion.proofs.LongestLemmas.{ways_few, insn_is, slots_are}
use Rattle.bpf_conversion.proofs.PartLemmas.{list_is, is_short, narrow}
use Rattle.bpf_conversion.proofs.LimitLemmas.{turn_few}
use Rattle.bpf_conversion.proofs.Numbers.{IsIn, Tightened, tight_range, wider}
use Rattle.bpf_conversion.proofs.Lookups.{function_of, function_is, label_is, first_leads}
use Rattle.bpf_conversion.proofs.TemplateStates.{InBounds, Sat, in_bounds, bounds_entail}
use Rattle.bpf_conversion.proofs.LabelStates.{template_tightened}
use Rattle.bpf_conversion.proofs.Pays.{turn_term}
use Rattle.bpf_conversion.proofs.Visits.{Clean}
use Rattle.bpf_conversion.proofs.Starts.{start}
use Rattle.bpf_conversion.proofs.TemplateEdges.{World, wants_start}
use Rattle.bpf_conversion.proofs.Traces.{written, last_state, First, first_of, first_slot, first_stands, first_has, first_agrees}
use Rattle.bpf_conversion.proofs.Entries.{CellsFew, cells_few, sets, from_room}
use Rattle.bpf_conversion.proofs.Rooms.{only_room, only_entails, only_tightened, filled, number_there, unset_sat, in_entry, packet_entry, packet_clean, block_clean}

-- what is said of a conversion
pub record Facts (c : Conversion) : Type 0 where
  pub world : World c.layout c.marked c.program
  pub few : CellsFew c.marked
  pub first : Annotated
  pub rest : List Annotated
  pub starts : First c.layout c.marked c.program world first rest
  pub all : HasAt c.program 0 (entry c.layout c.marked ++ code c.layout c.marked)
  pub list_is : c.program.list ≡ entry c.layout c.marked ++ code c.layout c.marked
  pub some : 0 < length c.program.list
  pub budget_few : get_or (longest_ways c.program.list) 0 0 + c.layout.turns * turn c.program.list ≤ max_steps

facts : (c : Conversion) → IsConversion c → IsProgram c.program.list → head c.layout.form ≤ c.layout.length → Facts c
facts c h program fits = by_marked c.marked refl
  where
    l : Layout
    l = c.layout

    p : Instructions
    p = c.program

    is : p.list ≡ entry l c.marked ++ code l c.marked
    is = list_is c h

    narrow_is : IsNarrow p.list
    narrow_is = narrow c h

    all : HasAt p 0 (entry l c.marked ++ code l c.marked)
    all = has_all p (entry l c.marked ++ code l c.marked) [] narrow_is.flat is

    sound : (starts_well l (slice_get c.marked 0) ≡ true) × (all_agree l c.marked ≡ true)
    sound = and_parts (starts_well l (slice_get c.marked 0)) (all_agree l c.marked) h.converted.sound

    world : World l c.marked p
    world = record {
      narrow = narrow_is;
      small = record { short = h.converted.short; few = h.converted.few_turns };
      has = (let z : 0 + length (entry l c.marked) ≡ length (entry l c.marked) = omega arith in subst (λ n. HasAt p n (code l c.marked)) z (has_back p 0 (entry l c.marked) (code l c.marked) all));
      agree = sound.1;
      turns = h.converted.turns;
      fits = fits;
    }

    ways : (slot : ℕ) → get_or (longest_ways p.list) slot 0 ≤ 24600
    ways slot = (let few = ways_few p.list slot in let short = is_short c h in omega (arith, few, short))

    few_steps : get_or (longest_ways p.list) 0 0 + l.turns * turn p.list ≤ max_steps
    few_steps =
        let one = ways 0 in
        let most = turn_few (longest_ways p.list) 24600 0 p.list ways in
        let turns = h.converted.few_turns in
        let both = mul-le l.turns (turn p.list) 65536 24600 (omega (arith, turns)) most in
        omega (arith, one, both)

    by_marked : (marked : List Annotated) → c.marked ≡ marked → Facts c
    by_marked [] e = absurd (false≢true (subst (λ marked. starts_well l (slice_get marked 0) ≡ true) e sound.0))
    by_marked (b ∷ rest) e = record {
      world = world;
      few = cells_few h.kind 0 c.marked (subst (AreFaultless h.kind 0) (sym h.converted.same) h.converted.valid.each);
      first = b;
      rest = rest;
      starts = first_of l c.marked p world b rest e (subst (λ marked. starts_well l (slice_get marked 0) ≡ true) e sound.0);
      all = all;
      list_is = is;
      some = (let s = program.some_slot in let n = slots_are p.list narrow_is in omega (arith, s, n));
      budget_few = few_steps;
    }

-- a context without a head is a packet as a whole
no_head : (form : Form) → is_block form ≡ false → head form ≡ 0
no_head Blocks e = absurd (false≢true (sym e))
no_head Plain e = refl
no_head Seccomp e = refl
no_head Extended e = absurd (false≢true (sym e))

some_head : (form : Form) → is_block form ≡ true → 8 ≤ head form
some_head Blocks e = omega arith
some_head Plain e = absurd (false≢true e)
some_head Seccomp e = absurd (false≢true e)
some_head Extended e = omega arith

module _ (c : Conversion) (f : Facts c) where
  abbrev l : Layout
  l = c.layout

  abbrev p : Instructions
  p = c.program

  abbrev marked : List Annotated
  marked = c.marked

  abbrev v : CertificateView
  v = claim c

  first_wanted : wants_label l marked p.list 0 ≡ true
  first_wanted =
      ⊎_elim
      (λ (some : 0 < first_slot l marked p f.world). and_from (is_leader p.list 0) (opens l (part_at l marked 0) 0) (first_leads l marked p.list) (ap (λ part. opens l part 0) (in_entry l marked p f.world 0 some)))
      (λ (none : first_slot l marked p f.world ≤ 0).
      let e : first_slot l marked p f.world ≡ 0 = omega (arith, none) in
      subst (λ t. wants_label l marked p.list t ≡ true) e (wants_start l marked p f.world 0 (first_slot l marked p f.world) (f.first ∷ f.rest) (first_stands l marked p f.world f.first f.rest f.starts) (subst (λ t. is_leader p.list t ≡ true) (sym e) (first_leads l marked p.list))))
      (cases_lt 0 (first_slot l marked p f.world))

  first_label : label_at v 0 ≡ Some (label_of l marked p.list 0)
  first_label = label_is l marked p.list 0 f.some ∙ cond-true (wants_label l marked p.list 0) (Some (label_of l marked p.list 0)) None first_wanted

  -- ---- the visits

  visits_clean : Clean p v 0 None p.list
  visits_clean =
      subst (Clean p v 0 None) (sym f.list_is)
      (⊎_elim
      (λ (block : is_block l.form ≡ true). block_clean l marked p f.world f.few f.first f.rest f.starts f.all block (let fits = f.world.fits in let some = some_head l.form block in omega (arith, fits, some)))
      (λ (none : is_block l.form ≡ false). packet_clean l marked p f.world f.few f.first f.rest f.starts f.all none)
      (cases_Bool (is_block l.form)))

  -- ---- labels

  known_tightened : (part : Stretch) (slot : ℕ) → is_none (tightened (known_at l marked part slot)) ≡ false
  known_tightened Entry slot = by_room (entry_room l slot) room_tight
    where
      by_room : (r2 : RegState) → is_none (tightened_register r2) ≡ false → is_none (tightened (only_room r2)) ≡ false
      by_room r2 h = by_some (tightened_register r2) refl h
        where
          by_some : (o : Option RegState) → tightened_register r2 ≡ o → is_none o ≡ false → is_none (tightened (only_room r2)) ≡ false
          by_some None e h = absurd (false≢true (sym h))
          by_some (Some t) e h = ap is_none (only_tightened r2 t e)

      room_tight : is_none (tightened_register (entry_room l slot)) ≡ false
      room_tight =
          let short = f.world.small.short in
          cond_both (is_block l.form && (slot == 0 || slot == 2)) Any (room_known l) (λ v. is_none (tightened_register v) ≡ false) (λ _. refl)
          (λ _. ap (λ o. is_none (option_map Num o)) (tight_range (known_first l) (room l) (cond_both (is_block l.form) 0 (room l) (λ n. n ≤ room l) (λ _. omega arith) (λ _. omega arith)) (omega (arith, short))).is_there)
  known_tightened (Template b o) slot = ap is_none (template_tightened l marked b o f.world.small).is_there
  known_tightened (Trap o) slot = refl

  terms_fine : (part : Stretch) (slot : ℕ) → list_any (is_bad_term (label_in l marked p.list part slot)) (terms_at l (turn p.list) part) ≡ false
  terms_fine Entry slot = refl
  terms_fine (Template b o) slot = by_counts (l.loops && nat_lt 0 (turn p.list)) refl
    where
      held_turns : l.loops ≡ true → is_none (unsigned_bounds (turns_known l b.insn o)) ≡ false
      held_turns e =
          subst (λ v. is_none (unsigned_bounds v) ≡ false) (sym (cond-true l.loops (turns_left l (may_turn b.insn o)) Any e))
          (cond_both (may_turn b.insn o) (between 1 (max l.turns 1)) (between 0 l.turns) (λ v. is_none (unsigned_bounds v) ≡ false) (λ _. refl) (λ _. refl))

      by_counts : (k : Bool) → (l.loops && nat_lt 0 (turn p.list)) ≡ k → list_any (is_bad_term (label_in l marked p.list (Template b o) slot)) (cond k (turn_term (turn p.list) ∷ []) []) ≡ false
      by_counts true e =
          or_from (is_bad_term (label_in l marked p.list (Template b o) slot) (turn_term (turn p.list))) false
          (or_from (is_none (unsigned_bounds (turns_known l b.insn o))) (is_bad_limit (tightened (template_known l marked b o)) (turn_term (turn p.list)).measure (turn_term (turn p.list))) (held_turns (and_parts l.loops (nat_lt 0 (turn p.list)) e).0) (no_limit (tightened (template_known l marked b o)))) refl
        where
          no_limit : (o : Option AbstractState) → is_bad_limit o (turn_term (turn p.list)).measure (turn_term (turn p.list)) ≡ false
          no_limit None = refl
          no_limit (Some s) = refl
      by_counts false e = refl
  terms_fine (Trap o) slot = refl

  no_number : (condition : Condition) (b : Bool) → b ≡ false → fails condition b ≡ []
  no_number condition b e = cond-false b (condition_number condition ∷ []) [] e

  label_numbers : (slot : ℕ) → slot < length p.list → numbers_of_label p v (function_of l marked p.list) (label_of l marked p.list slot) ≡ []
  label_numbers slot lt =
      let x = label_of l marked p.list slot in
      let there : is_none (insn_at p.list slot) ≡ false = ap is_none (insn_is p.list slot f.world.narrow ∙ slice_get-get_or p.list slot Exit lt) in
      let outside : is_outside v (function_of l marked p.list) x ≡ false = ap (λ o. is_not (option_map (λ (g : FunctionView). g.first) o) 0) (function_is l marked p.list slot) in
      ap₂ (λ xs ys. xs ++ ys ++ fails Misshapen (is_outside v (function_of l marked p.list) x || is_none (tightened x.state))) (no_number MisplacedLabel (is_none (insn_at p.list slot)) there) (no_number OverBudget (list_any (is_bad_term x) x.terms) (terms_fine (part_at l marked slot) slot))
      ∙ no_number Misshapen (is_outside v (function_of l marked p.list) x || is_none (tightened x.state)) (or_from (is_outside v (function_of l marked p.list) x) (is_none (tightened x.state)) outside (known_tightened (part_at l marked slot) slot))

  labels_clean : (n slot : ℕ) → slot + n ≤ length p.list → flat_map (λ (x : LabelView). at x.slot (numbers_of_label p v (function_of l marked p.list) x)) (flat_map (label_if l marked p.list) (range_with_len slot n)) ≡ []
  labels_clean zero slot le = refl
  labels_clean (suc n) slot le =
      let more = labels_clean n (slot + 1) (omega (arith, le)) in
      let rest = flat_map (label_if l marked p.list) (range_with_len (slot + 1) n) in
      cond_both (wants_label l marked p.list slot) (label_of l marked p.list slot ∷ []) [] (λ xs. flat_map (λ (x : LabelView). at x.slot (numbers_of_label p v (function_of l marked p.list) x)) (xs ++ rest) ≡ [])
      (λ _. ap₂ (λ xs ys. at slot xs ++ ys) (label_numbers slot (omega (arith, le))) more)
      (λ _. more)

  -- ---- the start

  first_kept : (n : ℕ) → 0 < n → starts_at 0 (flat_map (label_if l marked p.list) (range_with_len 0 n)) ≡ true
  first_kept zero some = absurd (omega (arith, some))
  first_kept (suc n) some = subst (λ b. starts_at 0 (cond b (label_of l marked p.list 0 ∷ []) [] ++ flat_map (label_if l marked p.list) (range_with_len 1 n)) ≡ true) (sym first_wanted) refl

  -- what is known at the start of r2
  start_room : Tightened l.length l.length
  start_room = (let short = f.world.small.short in tight_range l.length l.length (omega arith) (omega (arith, short)))

  start_is : register (first_state l.length l.length) R2 ≡ Num start_room.set
  start_is = ap (λ o. option_map_or Num o Any) start_room.is_there

  start_in : is_block l.form ≡ false → InBounds (known_first l) (room l) (register (first_state l.length l.length) R2)
  start_in none =
      let head_is = no_head l.form none in
      let known : known_first l ≡ room l = cond-false (is_block l.form) 0 (room l) none in
      subst (InBounds (known_first l) (room l)) (sym start_is)
      (in_bounds (known_first l) (room l) (Num start_room.set) (wider l.length l.length (known_first l) (room l) (Num start_room.set) (omega (arith, known, head_is)) (omega (arith, head_is)) start_room.inside))

  -- without an entry nothing is set
  record Unset : Type 0 where
    none : is_block l.form ≡ false
    set : Number
    sat : Sat IsIn l marked l.zero_a l.zero_x (only_room (Num set))

  unset : first_slot l marked p f.world ≡ 0 → Unset
  unset e =
      ⊎_elim
      (λ (block : is_block l.form ≡ true).
      let n : length (entry l marked) ≡ suc (suc (suc (length (turns_code l ++ (zero_if l.zero_a R0 ++ (zero_if l.zero_x R3 ++ flat_map (zero_cell marked) (range_with_len 0 16))))))) = ap (λ xs. length (xs ++ (turns_code l ++ (zero_if l.zero_a R0 ++ (zero_if l.zero_x R3 ++ flat_map (zero_cell marked) (range_with_len 0 16)))))) (cond-true (is_block l.form) (room_insns l) [] block) in
      absurd (omega (arith, n, e)))
      (λ (none : is_block l.form ≡ false).
      let short = f.world.small.short in
      let tight = tight_range (known_first l) (room l) (cond_both (is_block l.form) 0 (room l) (λ n. n ≤ room l) (λ _. omega arith) (λ _. omega arith)) (omega (arith, short)) in
      let nil : written (sets l marked p f.world f.few) ≡ [] = sym (packet_entry l marked p f.world f.few f.first f.rest f.starts f.all none) ∙ nil_from_length (entry l marked) e in
      record {
        none = none;
        set = tight.set;
        sat = last_state l marked p f.world (sets l marked p f.world f.few) (only_room (Num tight.set)) (from_room l marked p f.world f.few (only_room (Num tight.set)) (filled l marked p f.world f.few f.first f.rest f.starts f.all (Num tight.set) tight.inside)) nil;
      })
      (cases_Bool (is_block l.form))

  start_known : state_entails (first_state l.length l.length) (known_at l marked (part_at l marked 0) 0) ≡ true
  start_known =
      ⊎_elim
      (λ (some : 0 < first_slot l marked p f.world).
      subst (λ part. state_entails (first_state l.length l.length) (known_at l marked part 0) ≡ true) (sym (in_entry l marked p f.world 0 some))
      (only_entails (first_state l.length l.length) (entry_room l 0) refl refl refl refl
      (cond_both (is_block l.form && (0 == 0 || 0 == 2)) Any (room_known l) (λ v. register_entails (register (first_state l.length l.length) R2) v ≡ true) (λ _. refl)
      (λ e. bounds_entail (known_first l) (room l) (register (first_state l.length l.length) R2) (start_in (no_block (is_block l.form) e))))))
      (λ (zero_is : first_slot l marked p f.world ≤ 0).
      let e : first_slot l marked p f.world ≡ 0 = omega (arith, zero_is) in
      let u = unset e in
      let sat = unset_sat l marked p f.world f.few f.first f.rest f.starts f.all u.set (first_state l.length l.length) u.sat (record { eleven = refl; sixty = refl; context = refl; frame = refl; no_tag = refl }) (start_in u.none) in
      subst (λ t. state_entails (first_state l.length l.length) (known_at l marked (part_at l marked t) t) ≡ true) e
      (start l marked p f.rest 0 (first_slot l marked p f.world) l.zero_a l.zero_x (first_state l.length l.length) f.first (first_stands l marked p f.world f.first f.rest f.starts) (first_has l marked p f.world f.first f.rest f.starts) (first_agrees l marked p f.world f.first f.rest f.starts) f.starts.reached f.starts.a_less f.starts.x_less sat).entails)
      (cases_lt 0 (first_slot l marked p f.world))
    where
      no_block : (b : Bool) → (b && (0 == 0 || 0 == 2)) ≡ false → b ≡ false
      no_block true e = e
      no_block false e = refl

  enough : (base : ℕ) → base ≤ longest l.turns p.list → int_lt (pos v.steps) (pos base +ℤ pos 0) ≡ false
  enough base le = (let few = f.budget_few in not_less (pos v.steps) (pos base +ℤ pos 0) (covers base (longest l.turns p.list) le few))
    where
      not_less : (x y : ℤ) → y ≤ℤ x → int_lt x y ≡ false
      not_less x y h = grind (arith, ints)

      covers : (base long : ℕ) → base ≤ long → long ≤ max_steps → (pos base +ℤ pos 0) ≤ℤ pos (min long max_steps)
      covers base long le few = omega (arith, ints, clamps, le, few)

  start_paid : (part : Stretch) → part_at l marked 0 ≡ part → some_passes (λ most. int_lt (pos v.steps) most) (greatest_budget (budget (label_in l marked p.list part 0)) (first_state l.length l.length)) ≡ false
  start_paid Entry e = enough (get_or (longest_ways p.list) 0 0 + l.turns * turn p.list) (omega arith)
  start_paid (Template b o) e = by_loops l.loops refl
    where
      by_loops : (t : Bool) → l.loops ≡ t → some_passes (λ most. int_lt (pos v.steps) most) (greatest_budget (record { base = get_or (longest_ways p.list) 0 0; terms = turn_terms t (turn p.list) }) (first_state l.length l.length)) ≡ false
      by_loops true loops =
          ⊎_elim
          (λ (some : 0 < first_slot l marked p f.world). absurd (other (sym (in_entry l marked p f.world 0 some) ∙ e)))
          (λ (zero_is : first_slot l marked p f.world ≤ 0). absurd (number_there l marked p f.world f.few f.first f.rest f.starts f.all 0 l.turns ((unset (omega (arith, zero_is))).sat.turns_in loops)))
          (cases_lt 0 (first_slot l marked p f.world))
        where
          other : Entry ≡ Template b o → ⊥
          other e = cc
      by_loops false none = enough (get_or (longest_ways p.list) 0 0) (omega arith)
  start_paid (Trap o) e = enough (get_or (longest_ways p.list) 0 0) (omega arith)

  -- ---- all flaws

  nothing : (a b c d : List (ℕ × ℕ)) → a ≡ [] → b ≡ [] → c ≡ [] → d ≡ [] → a ++ b ++ ((c ++ d) ++ []) ≡ []
  nothing a b c d p q r s = ap₂ (λ x y. x ++ y ++ ((c ++ d) ++ [])) p q ∙ ap₂ (λ x y. (x ++ y) ++ []) r s

  no_flaws : flaws p v ≡ []
  no_flaws =
      let begins : begins_wrongly v ≡ false = or_from (begins_elsewhere v.functions) _ refl (ap (some_passes (λ (x : LabelView). not (state_entails (first_state l.length l.length) x.state))) first_label ∙ ap not start_known) in
      let paid : starts_over_budget v ≡ false = ap (some_passes (λ (x : LabelView). some_passes (λ most. int_lt (pos v.steps) most) (greatest_budget (budget x) (first_state l.length l.length)))) first_label ∙ start_paid (part_at l marked 0) refl in
      nothing _ _ _ _
      (ap₂ (λ xs ys. at 0 (xs ++ ys)) (no_number Misshapen (begins_wrongly v) begins) (no_number OverBudget (starts_over_budget v) paid))
      visits_clean
      (ap (at 0) (no_number Misshapen (not (is_first_label (function_of l marked p.list))) (ap not (first_kept (length p.list) f.some))))
      (labels_clean (length p.list) 0 (omega arith))

  pub no_flaw : Certified p v
  no_flaw slot number h = (let k : Contains [] (slot, number) = subst (λ xs. Contains xs (slot, number)) no_flaws h in absurd (omega (arith, k.1)))

-- the law
pub certified : (c : Conversion) → IsConversion c → IsProgram c.program.list → head c.layout.form ≤ c.layout.length → Certified c.program (claim c)
certified c h program fits = no_flaw c (facts c h program fits)
