-- What the entries of a label say, back as its state.
use Rattle.std.proofs.Common.{◌≡◌, ℕ, zero, suc, ◌+◌, ◌-◌, ◌<◌, ◌≤◌, Bool, true, false, cond, eqb, ltb, List, [], ◌∷◌, ◌++◌, length, map, take, drop, Option, Some, None, refl, sym, ap, ap₂, subst, ◌∙◌, arith, length-append}
use Rattle.std.specs.Prelude.{◌&&◌, decimal, is_none, ◌==◌, if◌then◌else◌}
use Rattle.std.specs.List.{list_all}
use Rattle.std.proofs.lemmas.Bool.{ltb-false, eqb-true, ne_eqb}
use Rattle.std.proofs.lemmas.List.{take_at, drop_at, drop_more, at_drop_all, take-append-drop, length-map, length-take-le}
use Rattle.std.proofs.lemmas.List.Folds.{list_all-append}
use Rattle.bpf_insn.specs.declared.instruction.Reg.TheVariants.{R10}
use Rattle.bpf_state.specs.declared.known.RegState.{RegState}
use Rattle.bpf_state.specs.declared.known.RegState.TheVariants as reg
use Rattle.bpf_state.specs.declared.known.SlotState.{SlotState}
use Rattle.bpf_state.specs.declared.known.SlotState.TheVariants as slot
use Rattle.bpf_state.specs.declared.known.Area.TheVariants as area
use Rattle.bpf_state.specs.declared.known.Tag.{Tag}
use Rattle.bpf_state.specs.State.{AbstractState, register, value_slot, slot_value, start_of, no_tags}
use Rattle.bpf_cert.specs.Numeral.{number}
use Rattle.bpf_cert.specs.Line.{Line, PlaceText}
use Rattle.bpf_cert.specs.Limits.{is_limited_register, is_limited_slot, is_limited_state, is_canonical_state, is_frame_end, has_shape}
use Rattle.bpf_cert.specs.Spelling.{content_of, is_unknown, place_at, contents, lines_from}
use Rattle.bpf_cert.proofs.Bools.{both_true}
use Rattle.bpf_cert.proofs.BareStates.{frame_end}
use Rattle.bpf_cert.proofs.lines.LineValues.{number_again, content_said, content_again}

-- the number of a place among those that have lines
abbrev pub place_index : PlaceText → ℕ
place_index (PlaceText.register i) = number i
place_index (PlaceText.slot k) = number k + 9

index_again : (j : ℕ) → j < 74 → place_index (place_at j) ≡ j
index_again j small = by_test (ltb j 10) refl
  where
    by_test : (b : Bool) → ltb j 10 ≡ b → place_index (cond b (PlaceText.register (decimal j)) (PlaceText.slot (decimal (j - 9)))) ≡ j
    by_test true e = number_again j (omega arith)
    by_test false e = let far : 10 ≤ j = ltb-false j 10 e in let same : number (decimal (j - 9)) ≡ j - 9 = number_again (j - 9) (omega arith) in omega arith

-- what entries say of the n places from j on; nothing is known of one that has no entry
abbrev pub contents_said : ℕ → ℕ → List Line → List SlotState
contents_said zero j ls = []
contents_said (suc n) j (Line.entry p c ∷ ls) = if place_index p == j then content_said c ∷ contents_said n (j + 1) ls else slot.Bytes 0 ∷ contents_said n (j + 1) (Line.entry p c ∷ ls)
contents_said (suc n) j ls = slot.Bytes 0 ∷ contents_said n (j + 1) ls

-- a place before those that the lines are of
no_entry : (n j k : ℕ) (ss : List SlotState) → j < k → k + length ss ≤ 74 → contents_said (suc n) j (lines_from k ss) ≡ slot.Bytes 0 ∷ contents_said n (j + 1) (lines_from k ss)
no_entry n j k [] before few = refl
no_entry n j k (s ∷ ss) before few = by_test (is_unknown s) (no_entry n j (k + 1) ss (omega arith) (omega arith))
  where
    lines : Bool → List Line
    lines b = cond b [] (Line.entry (place_at k) (content_of s) ∷ []) ++ lines_from (k + 1) ss

    by_test : (b : Bool) → contents_said (suc n) j (lines true) ≡ slot.Bytes 0 ∷ contents_said n (j + 1) (lines true) → contents_said (suc n) j (lines b) ≡ slot.Bytes 0 ∷ contents_said n (j + 1) (lines b)
    by_test true past = past
    by_test false past = rw (index_again k (omega arith), ne_eqb k j (λ same. omega arith)) refl

unknown_is : (s : SlotState) → is_unknown s ≡ true → slot.Bytes 0 ≡ s
unknown_is (slot.Bytes m) e = ap slot.Bytes (sym (eqb-true m 0 e))
unknown_is (slot.Word n) e = cc
unknown_is (slot.Spilled p) e = cc

places_again : (j : ℕ) (ss : List SlotState) → j + length ss ≤ 74 → list_all is_limited_slot ss ≡ true → contents_said (length ss) j (lines_from j ss) ≡ ss
places_again j [] few e = refl
places_again j (s ∷ ss) few e = by_test (is_unknown s) refl (places_again (j + 1) ss (omega arith) (both_true (is_limited_slot s) (list_all is_limited_slot ss) e).1)
  where
    by_test : (b : Bool) → is_unknown s ≡ b → contents_said (length ss) (j + 1) (lines_from (j + 1) ss) ≡ ss → contents_said (suc (length ss)) j (cond b [] (Line.entry (place_at j) (content_of s) ∷ []) ++ lines_from (j + 1) ss) ≡ s ∷ ss
    by_test true f rest = no_entry (length ss) j (j + 1) ss (omega arith) (omega arith) ∙ ap₂ ◌∷◌ (unknown_is s f) rest
    by_test false f rest = let same : eqb j j ≡ true = grind arith in
        rw (index_again j (omega arith), same) (ap₂ ◌∷◌ (content_again s (both_true (is_limited_slot s) (list_all is_limited_slot ss) e).0) rest)

-- a state's registers and slots, from what it holds in all

values_again : (rs : List RegState) → map slot_value (map value_slot rs) ≡ rs
values_again [] = refl
values_again (r ∷ rs) = ap₂ ◌∷◌ (value_again r) (values_again rs)
  where
    value_again : (r : RegState) → slot_value (value_slot r) ≡ r
    value_again reg.Any = refl
    value_again (reg.Num n) = refl
    value_again (reg.Ptr p) = refl

abbrev pub state_said : List SlotState → AbstractState
state_said cs =
    record {
      registers = map slot_value (take 10 cs) ++ reg.Ptr (start_of area.Frame) ∷ [];
      slots = drop 10 cs;
      register_tags = no_tags 11;
      slot_tags = no_tags 64;
    }

no_tag : (ts : List (Option Tag)) → list_all is_none ts ≡ true → ts ≡ no_tags (length ts)
no_tag [] e = refl
no_tag (None ∷ ts) e = ap (λ us. None ∷ us) (no_tag ts e)
no_tag (Some t ∷ ts) e = cc

-- what is known of the shape of a state in a certificate
record HasForm (s : AbstractState) : Type 0 where
  registers : length s.registers ≡ 11
  slots : length s.slots ≡ 64
  last : s.registers ≡ take 10 s.registers ++ reg.Ptr (start_of area.Frame) ∷ []
  register_tags : s.register_tags ≡ no_tags 11
  slot_tags : s.slot_tags ≡ no_tags 64

has_form : (s : AbstractState) → is_canonical_state s ≡ true → has_shape s ≡ true → HasForm s
has_form s e h =
    let a = both_true ((eqb (length s.registers) 11 && eqb (length s.slots) 64) && eqb (length s.register_tags) 11) (eqb (length s.slot_tags) 64) h in
    let b = both_true (eqb (length s.registers) 11 && eqb (length s.slots) 64) (eqb (length s.register_tags) 11) a.0 in
    let c = both_true (eqb (length s.registers) 11) (eqb (length s.slots) 64) b.0 in
    let count = eqb-true (length s.registers) 11 c.0 in
    let outer = both_true (is_frame_end (register s R10) && list_all is_none s.register_tags) (list_all is_none s.slot_tags) e in
    let inner = both_true (is_frame_end (register s R10)) (list_all is_none s.register_tags) outer.0 in
    let rest = drop_more s.registers 10 reg.Any (omega (arith, count)) ∙ ap₂ ◌∷◌ (frame_end (register s R10) inner.0) (at_drop_all (λ rs. rs) s.registers 11 (omega (arith, count))) in
    record {
      registers = count;
      slots = eqb-true (length s.slots) 64 c.1;
      last = sym (take-append-drop 10 s.registers) ∙ ap (λ rs. take 10 s.registers ++ rs) rest;
      register_tags = no_tag s.register_tags inner.1 ∙ ap no_tags (eqb-true (length s.register_tags) 11 b.1);
      slot_tags = no_tag s.slot_tags outer.1 ∙ ap no_tags (eqb-true (length s.slot_tags) 64 a.1);
    }

ten : (s : AbstractState) → HasForm s → length (map value_slot (take 10 s.registers)) ≡ 10
ten s f = length-map (take 10 s.registers) value_slot ∙ length-take-le 10 s.registers (omega (arith, f.registers))

state_again : (s : AbstractState) → HasForm s → state_said (contents s) ≡ s
state_again s f =
    let front = take_at (map value_slot (take 10 s.registers)) s.slots 10 (ten s f) in
    let back = drop_at (map value_slot (take 10 s.registers)) s.slots 10 (ten s f) in
    let registers = ap (λ rs. map slot_value rs ++ reg.Ptr (start_of area.Frame) ∷ []) front ∙ ap (λ rs. rs ++ reg.Ptr (start_of area.Frame) ∷ []) (values_again (take 10 s.registers)) ∙ sym f.last in
    ap (λ rs. record (state_said (contents s)) { registers = rs }) registers
    ∙ ap (λ ks. record { registers = s.registers; slots = ks; register_tags = no_tags 11; slot_tags = no_tags 64 }) back
    ∙ ap (λ ts. record { registers = s.registers; slots = s.slots; register_tags = ts; slot_tags = no_tags 64 }) (sym f.register_tags)
    ∙ ap (λ ts. record { registers = s.registers; slots = s.slots; register_tags = s.register_tags; slot_tags = ts }) (sym f.slot_tags)

limited_values : (n : ℕ) (rs : List RegState) → list_all is_limited_register rs ≡ true → list_all is_limited_slot (map value_slot (take n rs)) ≡ true
limited_values zero rs e = refl
limited_values (suc n) [] e = refl
limited_values (suc n) (r ∷ rs) e = let parts = both_true (is_limited_register r) (list_all is_limited_register rs) e in rw (limited_value r parts.0) (limited_values n rs parts.1)
  where
    limited_value : (r : RegState) → is_limited_register r ≡ true → is_limited_slot (value_slot r) ≡ true
    limited_value reg.Any e = refl
    limited_value (reg.Num n) e = e
    limited_value (reg.Ptr p) e = e

-- the state of a label, from the lines of its places
pub entries_again : (s : AbstractState) → is_canonical_state s ≡ true → is_limited_state s ≡ true → state_said (contents_said 74 0 (lines_from 0 (contents s))) ≡ s
entries_again s e h =
    let outer = both_true (has_shape s && list_all is_limited_register s.registers) (list_all is_limited_slot s.slots) h in
    let inner = both_true (has_shape s) (list_all is_limited_register s.registers) outer.0 in
    let f = has_form s e inner.0 in
    let count : length (contents s) ≡ 74 = length-append (map value_slot (take 10 s.registers)) s.slots ∙ ap₂ ◌+◌ (ten s f) f.slots in
    let limited : list_all is_limited_slot (contents s) ≡ true = list_all-append is_limited_slot (map value_slot (take 10 s.registers)) s.slots ∙ rw (limited_values 10 s.registers inner.1) outer.1 in
    let places = subst (λ n. contents_said n 0 (lines_from 0 (contents s)) ≡ contents s) count (places_again 0 (contents s) (omega (arith, count)) limited) in
    ap state_said places ∙ state_again s f
