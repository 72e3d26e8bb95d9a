-- Where the templates of instructions begin, and what an edge to there asks.
use Rattle.std.proofs.Common.{◌≡◌, ℕ, zero, suc, ◌+◌, ◌-◌, ◌<◌, List, [], ◌∷◌, ◌++◌, length, drop, get_or, Bool, true, false, cond, Option, Some, None, refl, sym, ap, ap₂, ◌∙◌, subst, arith}
use Rattle.std.specs.Prelude.{pos, nat_lt, nat_le, ◌==◌, ◌&&◌, ◌||◌, not, slice_get}
use Rattle.std.proofs.lemmas.Bool.{cond-true, cond-false, le-ltb, and_parts, false≢true, eqb-true}
use Rattle.std.proofs.lemmas.List.{nil_from_length, drop-drop, get_or-drop, length-drop}
use Rattle.bpf_insn.specs.Instruction.{Instructions}
use Rattle.bpf_state.specs.Entails.{state_entails, register_entails}
use Rattle.bpf_state.specs.State.{AbstractState, register}
use Rattle.bpf_insn.specs.declared.instruction.Reg.TheVariants.{R0, R4, R5}
use Rattle.bpf_insn.specs.declared.instruction.Cond.{Cond}
use Rattle.bpf_insn.specs.declared.instruction.Width.TheVariants.{W32}
use Rattle.bpf_insn.specs.declared.instruction.Insn.{Insn}
use Rattle.bpf_insn.specs.declared.instruction.Insn.TheVariants.{Ja, JumpIf as JumpIfInsn}
use Rattle.bpf_classic.specs.Machine.{same_test, divides, shifts}
use Rattle.bpf_classic.specs.declared.instruction.Source.{Source}
use Rattle.bpf_classic.specs.declared.instruction.Classic.{Classic}
use Rattle.bpf_classic.specs.declared.instruction.Classic.TheVariants.{Constant, Length, Cell, Store, At, Index, Header, Extension, Alu, Neg, Jump, Back, JumpIf, Return, ReturnA, Tax, Txa}
use Rattle.bpf_classic.specs.Template.{room, need, is_register, is_masked, is_beyond, operand_of, at_code, index_code, header_code, inverse, jump_code, unless_code, code_of, template, nowhere, size, total, ahead_in, code, entry}
use Rattle.bpf_classic.specs.Flow.{has_word, reads_a, reads_x, sets_a, sets_x, uses_trap, known_behind, implies, leads_to, leads_on, agrees, all_agree}
use Rattle.bpf_classic.specs.declared.layout.Layout.{Layout}
use Rattle.bpf_classic.specs.declared.layout.Annotated.{Annotated}
use Rattle.bpf_conversion.specs.Parts.{part_behind, part_at}
use Rattle.bpf_conversion.specs.Known.{index_known, may_turn, turns_left, turns_known, known_at, template_known}
use Rattle.bpf_conversion.specs.declared.parts.Stretch.TheVariants.{Entry, Template, Trap}
use Rattle.bpf_classic.proofs.Steps.{HasAt, has_back, has_length}
use Rattle.bpf_classic.proofs.Places.{template_length, code_length}
use Rattle.bpf_conversion.proofs.Arrivals.{IsInside}
use Rattle.bpf_conversion.proofs.PartLemmas.{less_behind, trap_past, in_template}
use Rattle.bpf_conversion.proofs.TemplateStates.{InBounds, Sat, bounds_entail, sat_entails, weaker}

-- the templates from the instruction k on begin at the slot
pub record StandsAt (l : Layout) (marked : List Annotated) (k slot : ℕ) (rest : List Annotated) : Type 0 where
  pub rest_is : drop k marked ≡ rest
  pub slot_is : slot ≡ length (entry l marked) + ahead_in l marked k

pub part_in : (l : Layout) (marked : List Annotated) (k slot o : ℕ) (b : Annotated) (rest : List Annotated) → StandsAt l marked k slot (b ∷ rest) → o < size l b → part_at l marked (slot + o) ≡ Template b o
part_in l marked k slot o b rest h lt =
    let e : ℕ = length (entry l marked) in
    let here : total l (drop k marked) ≡ size l b + total l rest = ap (total l) h.rest_is in
    let less = less_behind l k marked in
    let behind : drop (suc k) marked ≡ rest = (let n : suc k ≡ k + 1 = omega arith in ap (λ n. drop n marked) n ∙ sym (drop-drop 1 k marked) ∙ ap (drop 1) h.rest_is) in
    let there : total l (drop (suc k) marked) ≡ total l rest = ap (total l) behind in
    let long : length (drop k marked) ≡ suc (length rest) = ap length h.rest_is in
    let inside : k < length marked = (let n = length-drop k marked in omega (arith, n, long)) in
    let slot_is = h.slot_is in
    let first : get_or marked k b ≡ b = (let n : k + 0 ≡ k = omega arith in ap (λ n. get_or marked n b) (sym n) ∙ sym (get_or-drop k marked 0 b) ∙ ap (λ xs. get_or xs 0 b) h.rest_is) in
    let offset : slot + o - e - ahead_in l marked k ≡ o = omega (arith, slot_is) in
    cond-false (nat_lt (slot + o) e) Entry (part_behind l marked (slot + o - e)) (le-ltb (slot + o) e (omega (arith, slot_is)))
    ∙ in_template l marked k (slot + o - e) b inside (omega (arith, slot_is)) (omega (arith, slot_is, here, there, less, lt))
    ∙ ap₂ Template first offset

-- the templates from one further on
pub further : (l : Layout) (marked : List Annotated) (k slot j : ℕ) (b : Annotated) (rest : List Annotated) → StandsAt l marked k slot (b ∷ rest) → StandsAt l marked (k + 1 + j) (slot + size l b + ahead_in l rest j) (drop j rest)
further l marked k slot j b rest h =
    let there : drop (k + 1 + j) marked ≡ drop j rest = sym (drop-drop j (k + 1) marked) ∙ ap (drop j) (sym (drop-drop 1 k marked) ∙ ap (drop 1) h.rest_is) in
    let here : total l (drop k marked) ≡ size l b + total l rest = ap (total l) h.rest_is in
    let at : total l (drop (k + 1 + j) marked) ≡ total l (drop j rest) = ap (total l) there in
    let less = less_behind l k marked in
    let more = less_behind l j rest in
    let slot_is = h.slot_is in
    record { rest_is = there; slot_is = omega (arith, slot_is, here, at, less, more) }

pub trap_in : (l : Layout) (marked : List Annotated) (k slot o : ℕ) → StandsAt l marked k slot [] → part_at l marked (slot + o) ≡ Trap o
trap_in l marked k slot o h =
    let e : ℕ = length (entry l marked) in
    let none : total l (drop k marked) ≡ 0 = ap (total l) h.rest_is in
    let slot_is = h.slot_is in
    let offset : slot + o - e - total l marked ≡ o = omega (arith, slot_is, none) in
    cond-false (nat_lt (slot + o) e) Entry (part_behind l marked (slot + o - e)) (le-ltb (slot + o) e (omega (arith, slot_is)))
    ∙ trap_past l marked (slot + o - e) (omega (arith, slot_is, none))
    ∙ ap Trap offset

-- ---- where a template begins nothing is known of an index, and no turn is held back

first_index : (l : Layout) (b : Annotated) (i : Classic) (s : AbstractState) → register_entails (register s R4) (index_known l i 0) ≡ true
first_index l b (Constant to k) s = refl
first_index l b (Length to) s = refl
first_index l b (Cell to cell) s = refl
first_index l b (Store from cell) s = refl
first_index l b (At size k) s = refl
first_index l b (Index size k) s = refl
first_index l b (Header k) s = refl
first_index l b (Extension word) s = refl
first_index l b (Alu op source) s = refl
first_index l b Neg s = refl
first_index l b (Jump k) s = refl
first_index l b (Back k) s = refl
first_index l b (JumpIf test source jt jf) s = refl
first_index l b (Return k) s = refl
first_index l b ReturnA s = refl
first_index l b Tax s = refl
first_index l b Txa s = refl

pub first_turn : (i : Classic) → may_turn i 0 ≡ false
first_turn (Constant to k) = refl
first_turn (Length to) = refl
first_turn (Cell to cell) = refl
first_turn (Store from cell) = refl
first_turn (At size k) = refl
first_turn (Index size k) = refl
first_turn (Header k) = refl
first_turn (Extension word) = refl
first_turn (Alu op source) = refl
first_turn Neg = refl
first_turn (Jump k) = refl
first_turn (Back k) = refl
first_turn (JumpIf test source jt jf) = refl
first_turn (Return k) = refl
first_turn ReturnA = refl
first_turn Tax = refl
first_turn Txa = refl

-- r5, where no turn is held back
pub turns_entail : (l : Layout) (i : Classic) (o : ℕ) (s : AbstractState) → may_turn i o ≡ false → (l.loops ≡ true → InBounds 0 l.turns (register s R5)) → register_entails (register s R5) (turns_known l i o) ≡ true
turns_entail l i o s none h = by_loops l.loops refl
  where
    by_loops : (k : Bool) → l.loops ≡ k → register_entails (register s R5) (turns_known l i o) ≡ true
    by_loops true e = subst (λ v. register_entails (register s R5) v ≡ true) (sym (cond-true l.loops (turns_left l (may_turn i o)) _ e ∙ ap (turns_left l) none)) (bounds_entail 0 l.turns (register s R5) (h e))
    by_loops false e = subst (λ v. register_entails (register s R5) v ≡ true) (sym (cond-false l.loops (turns_left l (may_turn i o)) _ e)) refl

-- what holds in a template holds of its first slot
pub first_entails : (l : Layout) (marked : List Annotated) (b : Annotated) (s : AbstractState) → Sat InBounds l marked b.a b.x s → state_entails s (template_known l marked b 0) ≡ true
first_entails l marked b s h = sat_entails l marked b 0 s h (first_index l b b.insn s) (turns_entail l b.insn 0 s (first_turn b.insn) h.turns_in)

-- ---- an instruction without a template leads to the next one

-- what follows it alone
pub record Passes (a : Annotated) (i : Classic) (rest : List Annotated) : Type 0 where
  pub leads : leads_to a (slice_get rest 0) ≡ true
  pub no_a : sets_a i ≡ false
  pub no_x : sets_x i ≡ false

some_insn : (n : ℕ) → suc n ≡ 0 → ⊥
some_insn n e = omega (arith, e)

either : (t : Bool) (a b : List Insn) → (length a ≡ 0 → ⊥) → (length b ≡ 0 → ⊥) → length (cond t a b) ≡ 0 → ⊥
either true a b f g e = f e
either false a b f g e = g e

behind_test : (t : Bool) (x : Insn) (i : Insn) (is : List Insn) → length (cond t (x ∷ []) [] ++ i ∷ is) ≡ 0 → ⊥
behind_test true x i is e = some_insn (length (i ∷ is)) e
behind_test false x i is e = some_insn (length is) e

no_jump : (k : ℕ) → length (jump_code k 0) ≡ 0 → k ≡ 0
no_jump k e = by_zero (k == 0) refl e
  where
    by_zero : (t : Bool) → (k == 0) ≡ t → length (cond t [] (Ja (pos 0) ∷ [])) ≡ 0 → k ≡ 0
    by_zero true z e = eqb-true k 0 z
    by_zero false z e = absurd (some_insn 0 e)

some_unless : (o : Option Cond) (source : Source) → length (unless_code o source 0) ≡ 0 → ⊥
some_unless (Some test) source e = some_insn 0 e
some_unless None source e = some_insn 1 e

-- it loads nothing, and so from nowhere beyond
not_beyond : (l : Layout) (b : Bool) → (nat_lt (room l) 0 || b) ≡ true → b ≡ true
not_beyond l b h = sym (ap (λ t. t || b) (le-ltb (room l) 0 (omega arith))) ∙ h

pub passes : (l : Layout) (a : Annotated) (i : Classic) (rest : List Annotated) → length (code_of l a i nowhere 0) ≡ 0 → (is_beyond l i || leads_on a i rest) ≡ true → Passes a i rest
passes l a (Jump k) rest e h = record { leads = subst (λ n. leads_to a (slice_get rest n) ≡ true) (no_jump k e) (not_beyond l (leads_to a (slice_get rest k)) h); no_a = refl; no_x = refl }
passes l a (JumpIf test source jt jf) rest e h = by_same (jt == jf) refl e
  where
    first : leads_to a (slice_get rest jt) ≡ true
    first = (and_parts (leads_to a (slice_get rest jt)) (leads_to a (slice_get rest jf)) (not_beyond l (leads_to a (slice_get rest jt) && leads_to a (slice_get rest jf)) h)).0

    by_same : (t : Bool) → (jt == jf) ≡ t → length (cond t (jump_code jt 0) (cond (jt == 0) (unless_code (inverse test) source 0) (JumpIfInsn (same_test test) W32 R0 (operand_of source) (pos (0 + length (jump_code jf 0))) ∷ jump_code jf 0))) ≡ 0 → Passes a (JumpIf test source jt jf) rest
    by_same true s e = record { leads = subst (λ n. leads_to a (slice_get rest n) ≡ true) (no_jump jt e) first; no_a = refl; no_x = refl }
    by_same false s e = absurd (either (jt == 0) (unless_code (inverse test) source 0) (JumpIfInsn (same_test test) W32 R0 (operand_of source) (pos (0 + length (jump_code jf 0))) ∷ jump_code jf 0) (some_unless (inverse test) source) (λ e. some_insn (length (jump_code jf 0)) e) e)
passes l a (At size k) rest e h = absurd (either (is_beyond l (At size k)) (Ja (pos 0) ∷ []) (at_code l a size k 0) (some_insn 0) (behind_test (nat_lt a.known (need a.insn)) _ _ _) e)
passes l a (Header k) rest e h = absurd (either (is_beyond l (Header k)) (Ja (pos 0) ∷ []) (header_code l a k 0) (some_insn 0) (behind_test (nat_lt a.known (need a.insn)) _ _ _) e)
passes l a (Index size k) rest e h = absurd (either (is_beyond l (Index size k)) (Ja (pos 0) ∷ []) (index_code l size k 0) (some_insn 0) (some_insn _) e)
passes l a (Constant to k) rest e h = absurd (some_insn 0 e)
passes l a (Length to) rest e h = absurd (some_insn 0 e)
passes l a (Cell to cell) rest e h = absurd (some_insn 0 e)
passes l a (Store from cell) rest e h = absurd (some_insn 0 e)
passes l a (Extension word) rest e h = absurd (some_insn 0 e)
passes l a (Alu op source) rest e h =
    absurd (either (is_register source && divides op) _ _ (some_insn 1)
    (either (is_register source && (shifts op && not (is_masked l))) _ _ (some_insn 2) (some_insn 0)) e)
passes l a Neg rest e h = absurd (some_insn 0 e)
passes l a (Back k) rest e h = absurd (some_insn 2 e)
passes l a (Return k) rest e h = absurd (some_insn 1 e)
passes l a ReturnA rest e h = absurd (some_insn 0 e)
passes l a Tax rest e h = absurd (some_insn 0 e)
passes l a Txa rest e h = absurd (some_insn 0 e)

-- ---- an edge to where the templates of instructions begin

pub record Start (l : Layout) (marked : List Annotated) (list : List Insn) (t : ℕ) (e : AbstractState) : Type 0 where
  pub inside : t < length list
  pub first : Annotated
  pub is_first : part_at l marked t ≡ Template first 0
  pub not_entry : IsInside (part_at l marked t)
  pub entails : state_entails e (known_at l marked (part_at l marked t) t) ≡ true

pub implied : (b c : Bool) → implies b c ≡ true → b ≡ true → c ≡ true
implied true c h e = h
implied false c h e = absurd (false≢true e)

-- what an instruction that is reached agrees with, and those behind it
pub record Agrees (l : Layout) (b : Annotated) (rest : List Annotated) : Type 0 where
  pub word : has_word b.insn ≡ true
  pub a_set : reads_a b.insn ≡ true → b.a ≡ true
  pub x_set : reads_x b.insn ≡ true → b.x ≡ true
  pub trap : uses_trap l b ≡ true → l.trap ≡ true
  pub leads : (is_beyond l b.insn || leads_on b b.insn rest) ≡ true
  pub others : all_agree l rest ≡ true

pub agreed : (l : Layout) (b : Annotated) (rest : List Annotated) → b.reached ≡ true → all_agree l (b ∷ rest) ≡ true → Agrees l b rest
agreed l b rest reached h =
    let both = and_parts (implies b.reached (agrees l b rest)) (all_agree l rest) h in
    let one = and_parts _ _ (implied b.reached (agrees l b rest) both.0 reached) in
    let two = and_parts _ _ one.1 in
    let three = and_parts _ _ two.1 in
    let four = and_parts _ _ three.1 in
    record {
      word = one.0;
      a_set = implied (reads_a b.insn) b.a two.0;
      x_set = implied (reads_x b.insn) b.x three.0;
      trap = implied (uses_trap l b) l.trap four.0;
      leads = four.1;
      others = both.1;
    }

-- the instruction that is led to is marked with no more than what is set
pub record LedTo (a b : Annotated) : Type 0 where
  pub reached : b.reached ≡ true
  pub a_less : b.a ≡ true → (a.a || sets_a a.insn) ≡ true
  pub x_less : b.x ≡ true → (a.x || sets_x a.insn) ≡ true

pub led_to : (a b : Annotated) → leads_to a (Some b) ≡ true → LedTo a b
led_to a b h =
    let one = and_parts b.reached _ h in
    let two = and_parts (nat_le b.known (known_behind a)) _ one.1 in
    let three = and_parts _ _ two.1 in
    record { reached = one.0; a_less = implied b.a (a.a || sets_a a.insn) three.0; x_less = implied b.x (a.x || sets_x a.insn) three.1 }

without : (b c : Bool) → c ≡ false → (b || c) ≡ true → b ≡ true
without true c e h = refl
without false c e h = absurd (false≢true (sym e ∙ h))

nothing : (b : Annotated) (l : Layout) (f : ℕ → ℕ) (out : ℕ) → size l b ≡ 0 → template l b f out ≡ []
nothing b l f out none = nil_from_length (template l b f out) (template_length l b f out ∙ none)

leads_alone : (l : Layout) (b : Annotated) (rest : List Annotated) → size l b ≡ 0 → b.reached ≡ true → all_agree l (b ∷ rest) ≡ true → Passes b b.insn rest
leads_alone l b rest none reached agree =
    passes l b b.insn rest (ap length (sym (cond-true b.reached (code_of l b b.insn nowhere 0) [] reached)) ∙ none) (agreed l b rest reached agree).leads

start_here : (l : Layout) (marked : List Annotated) (p : Instructions) (rest : List Annotated) (k slot n : ℕ) (a x : Bool) (e : AbstractState) (b : Annotated) → size l b ≡ suc n → StandsAt l marked k slot (b ∷ rest) → HasAt p slot (code l (b ∷ rest))
    → (b.a ≡ true → a ≡ true) → (b.x ≡ true → x ≡ true) → Sat InBounds l marked a x e → Start l marked p.list slot e
start_here l marked p rest k slot n a x e b long stands has fa fx sat =
    let zero_on : slot + 0 ≡ slot = omega arith in
    let part : part_at l marked slot ≡ Template b 0 = ap (part_at l marked) (sym zero_on) ∙ part_in l marked k slot 0 b rest stands (omega (arith, long)) in
    let all = has_length p slot (code l (b ∷ rest)) has in
    let more = code_length l (b ∷ rest) in
    record {
      inside = omega (arith, all, more, long);
      first = b;
      is_first = part;
      not_entry = subst IsInside (sym part) tt;
      entails = subst (λ part. state_entails e (known_at l marked part slot) ≡ true) (sym part) (first_entails l marked b e (weaker InBounds l marked a x b.a b.x e fa fx sat));
    }

pub start : (l : Layout) (marked : List Annotated) (p : Instructions) (rest : List Annotated) (k slot : ℕ) (a x : Bool) (e : AbstractState) (b : Annotated) → StandsAt l marked k slot (b ∷ rest) → HasAt p slot (code l (b ∷ rest)) → all_agree l (b ∷ rest) ≡ true → b.reached ≡ true
    → (b.a ≡ true → a ≡ true) → (b.x ≡ true → x ≡ true) → Sat InBounds l marked a x e → Start l marked p.list slot e
start l marked p [] k slot a x e b stands has agree reached fa fx sat = by_size (size l b) refl
  where
    by_size : (n : ℕ) → size l b ≡ n → Start l marked p.list slot e
    by_size (suc n) long = start_here l marked p [] k slot n a x e b long stands has fa fx sat
    by_size zero none = absurd (false≢true (leads_alone l b [] none reached agree).leads)
start l marked p (b' ∷ rest) k slot a x e b stands has agree reached fa fx sat =
    by_size (size l b) refl
    (λ (none : size l b ≡ 0).
    let h = leads_alone l b (b' ∷ rest) none reached agree in
    let next = led_to b b' h.leads in
    let same : slot + size l b + ahead_in l (b' ∷ rest) 0 ≡ slot = omega (arith, none) in
    let behind = has_back p slot (template l b (ahead_in l (b' ∷ rest)) (total l (b' ∷ rest))) (code l (b' ∷ rest)) has in
    let no : slot + length (template l b (ahead_in l (b' ∷ rest)) (total l (b' ∷ rest))) ≡ slot = (let z = template_length l b (ahead_in l (b' ∷ rest)) (total l (b' ∷ rest)) in omega (arith, z, none)) in
    start l marked p rest (k + 1 + 0) slot a x e b' (subst (λ n. StandsAt l marked (k + 1 + 0) n (b' ∷ rest)) same (further l marked k slot 0 b (b' ∷ rest) stands)) (subst (λ n. HasAt p n (code l (b' ∷ rest))) no behind) (agreed l b (b' ∷ rest) reached agree).others next.reached
    (λ s. fa (without b.a (sets_a b.insn) h.no_a (next.a_less s))) (λ s. fx (without b.x (sets_x b.insn) h.no_x (next.x_less s))) sat)
  where
    by_size : (n : ℕ) → size l b ≡ n → (size l b ≡ 0 → Start l marked p.list slot e) → Start l marked p.list slot e
    by_size (suc n) long more = start_here l marked p (b' ∷ rest) k slot n a x e b long stands has fa fx sat
    by_size zero none more = more none
