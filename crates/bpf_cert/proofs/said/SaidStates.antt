-- The state that contents of places say holds them again.
use Rattle.std.proofs.Common.{◌≡◌, ℕ, zero, suc, ◌+◌, ◌<◌, ◌≤◌, true, List, [], ◌∷◌, ◌++◌, length, get_or, map, take, drop, refl, ap, ap₂, ◌∙◌, arith, length-append}
use Rattle.std.specs.List.{list_all}
use Rattle.std.proofs.lemmas.List.{take_at, take-append-drop, length-map, length-take-le, length-drop, get_or-append_right}
use Rattle.std.proofs.lemmas.List.Folds.{list_all-append}
use Rattle.bpf_state.specs.State.{value_slot, slot_value, start_of}
use Rattle.bpf_state.specs.declared.known.RegState.{RegState}
use Rattle.bpf_state.specs.declared.known.RegState.TheVariants as reg
use Rattle.bpf_state.specs.declared.known.Area.TheVariants as area
use Rattle.bpf_state.specs.declared.known.SlotState.{SlotState}
use Rattle.bpf_state.specs.declared.known.SlotState.TheVariants as slot
use Rattle.bpf_cert.specs.Limits.{is_canonical_state, is_limited_state, is_limited_register, is_limited_slot}
use Rattle.bpf_cert.specs.Spelling.{contents}
use Rattle.bpf_cert.proofs.Bools.{both_true}
use Rattle.bpf_cert.proofs.lines.LineStates.{state_said}

-- the content is what a register may have
abbrev pub IsRegister : SlotState → Type 0
IsRegister c = value_slot (slot_value c) ≡ c

-- contents of the places from j on; the first ten are registers
abbrev pub AreHeld : ℕ → List SlotState → Type 0
AreHeld j [] = Unit {0}
AreHeld j (c ∷ cs) = (j < 10 → IsRegister c) × AreHeld (j + 1) cs

registers_kept : (n j : ℕ) (cs : List SlotState) → n + j ≤ 10 → AreHeld j cs → map value_slot (map slot_value (take n cs)) ≡ take n cs
registers_kept zero j cs few h = refl
registers_kept (suc n) j [] few h = refl
registers_kept (suc n) j (c ∷ cs) few h = ap₂ ◌∷◌ (h.0 (omega arith)) (registers_kept n (j + 1) cs (omega arith) h.1)

register_limited : (c : SlotState) → is_limited_slot c ≡ true → is_limited_register (slot_value c) ≡ true
register_limited (slot.Bytes m) e = refl
register_limited (slot.Word n) e = e
register_limited (slot.Spilled p) e = e

registers_limited : (n : ℕ) (cs : List SlotState) → list_all is_limited_slot cs ≡ true → list_all is_limited_register (map slot_value (take n cs)) ≡ true
registers_limited zero cs e = refl
registers_limited (suc n) [] e = refl
registers_limited (suc n) (c ∷ cs) e = let parts = both_true (is_limited_slot c) (list_all is_limited_slot cs) e in rw (register_limited c parts.0, registers_limited n cs parts.1) refl

slots_limited : (n : ℕ) (cs : List SlotState) → list_all is_limited_slot cs ≡ true → list_all is_limited_slot (drop n cs) ≡ true
slots_limited zero cs e = e
slots_limited (suc n) [] e = refl
slots_limited (suc n) (c ∷ cs) e = slots_limited n cs (both_true (is_limited_slot c) (list_all is_limited_slot cs) e).1

abbrev frame_end : List RegState
frame_end = reg.Ptr (start_of area.Frame) ∷ []

ten : (cs : List SlotState) → length cs ≡ 74 → length (map slot_value (take 10 cs)) ≡ 10
ten cs long = length-map (take 10 cs) slot_value ∙ length-take-le 10 cs (omega arith)

pub record IsStateOf (cs : List SlotState) : Type 0 where
  pub same : contents (state_said cs) ≡ cs
  pub canonical : is_canonical_state (state_said cs) ≡ true
  pub limited : is_limited_state (state_said cs) ≡ true

pub state_kept : (cs : List SlotState) → length cs ≡ 74 → AreHeld 0 cs → list_all is_limited_slot cs ≡ true → IsStateOf cs
state_kept cs long held limited =
    let front = map slot_value (take 10 cs) in
    let eleven : length (front ++ frame_end) ≡ 11 = length-append front frame_end ∙ ap (λ n. n + 1) (ten cs long) in
    let all : length (drop 10 cs) ≡ 64 = length-drop 10 cs ∙ omega arith in
    let last : get_or (front ++ frame_end) 10 reg.Any ≡ reg.Ptr (start_of area.Frame) = get_or-append_right front frame_end 10 10 reg.Any (ten cs long) (omega arith) in
    let registers : list_all is_limited_register (front ++ frame_end) ≡ true = list_all-append is_limited_register front frame_end ∙ rw (registers_limited 10 cs limited) refl in
    record {
      same = ap (λ rs. map value_slot rs ++ drop 10 cs) (take_at front frame_end 10 (ten cs long)) ∙ ap (λ rs. rs ++ drop 10 cs) (registers_kept 10 0 cs (omega arith) held) ∙ take-append-drop 10 cs;
      canonical = rw last refl;
      limited = rw (eleven, all, registers, slots_limited 10 cs limited) refl;
    }
