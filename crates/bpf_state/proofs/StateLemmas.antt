-- What every state keeps.
use Rattle.std.proofs.Common.{◌≡◌, sym, subst, List, [], ◌∷◌, length, replicate, Option, refl, arith}
use Rattle.std.specs.Prelude.{All}
use Rattle.bpf_state.specs.declared.known.RegState.{RegState}
use Rattle.std.proofs.lemmas.Int.{ints}
use Rattle.std.proofs.lemmas.List.Elements.{All-nil, All-cons, All-replicate, All-append}
use Rattle.bpf_state.specs.declared.known.RegState.TheVariants.{Any, Ptr}
use Rattle.bpf_state.specs.declared.known.Area.TheVariants.{Frame}
use Rattle.bpf_state.specs.declared.known.SlotState.{SlotState}
use Rattle.bpf_state.specs.declared.known.SlotState.TheVariants.{Bytes}
use Rattle.bpf_state.specs.declared.known.Tag.{Tag}
use Rattle.bpf_state.specs.State.{IsAbstractState, IsRegister, IsSlot, start_of, blank, no_tags}

pub blank_is_state : IsAbstractState blank
blank_is_state =
    record {
      register_count = refl;
      slot_count = refl;
      register_tag_count = refl;
      slot_tag_count = refl;
      registers = All-append IsRegister (replicate 10 Any) (Ptr (start_of Frame) ∷ []) (All-replicate IsRegister 10 Any tt) (All-cons IsRegister (Ptr (start_of Frame)) [] (omega (arith, ints)) (All-nil IsRegister));
      slots = All-replicate IsSlot 64 (Bytes 0) (omega arith);
    }

-- nothing is known of the slots, and none holds a counter
pub unknown_is_state : (slots : List SlotState) (tags : List (Option Tag)) → slots ≡ replicate 64 (Bytes 0) → tags ≡ no_tags 64 → IsAbstractState (record blank { slots = slots; slot_tags = tags })
unknown_is_state slots tags e none = subst (λ t. IsAbstractState (record blank { slots = slots; slot_tags = t })) (sym none) (subst (λ l. IsAbstractState (record blank { slots = l })) (sym e) blank_is_state)

-- nor of the registers, whatever the tags are
pub untouched_tags : (slots : List SlotState) (register_tags slot_tags : List (Option Tag)) → slots ≡ replicate 64 (Bytes 0) → length register_tags ≡ 11 → length slot_tags ≡ 64
    → IsAbstractState (record blank { slots = slots; register_tags = register_tags; slot_tags = slot_tags })
untouched_tags slots register_tags slot_tags e few many =
    let is = unknown_is_state slots (no_tags 64) e refl in
    record {
      register_count = is.register_count;
      slot_count = is.slot_count;
      register_tag_count = few;
      slot_tag_count = many;
      registers = is.registers;
      slots = is.slots;
    }

-- a callee's registers, of which five are the caller's
abbrev pub callee_registers : RegState → RegState → RegState → RegState → RegState → List RegState
callee_registers a b c d e = Any ∷ a ∷ b ∷ c ∷ d ∷ e ∷ Any ∷ Any ∷ Any ∷ Any ∷ Ptr (start_of Frame) ∷ []

abbrev callee_rest : List RegState
callee_rest = Any ∷ Any ∷ Any ∷ Any ∷ Ptr (start_of Frame) ∷ []

callee_rest_is : All IsRegister callee_rest
callee_rest_is =
    All-cons IsRegister Any (Any ∷ Any ∷ Any ∷ Ptr (start_of Frame) ∷ []) tt
    (All-cons IsRegister Any (Any ∷ Any ∷ Ptr (start_of Frame) ∷ []) tt
    (All-cons IsRegister Any (Any ∷ Ptr (start_of Frame) ∷ []) tt
    (All-cons IsRegister Any (Ptr (start_of Frame) ∷ []) tt
    (All-cons IsRegister (Ptr (start_of Frame)) [] (omega (arith, ints)) (All-nil IsRegister)))))

callee_is_state : (a b c d e : RegState) → IsRegister a → IsRegister b → IsRegister c → IsRegister d → IsRegister e → IsAbstractState (record blank { registers = callee_registers a b c d e })
callee_is_state a b c d e ha hb hc hd he =
    record {
      register_count = refl;
      slot_count = refl;
      register_tag_count = refl;
      slot_tag_count = refl;
      registers =
          All-cons IsRegister Any (a ∷ b ∷ c ∷ d ∷ e ∷ callee_rest) tt
          (All-cons IsRegister a (b ∷ c ∷ d ∷ e ∷ callee_rest) ha
          (All-cons IsRegister b (c ∷ d ∷ e ∷ callee_rest) hb
          (All-cons IsRegister c (d ∷ e ∷ callee_rest) hc
          (All-cons IsRegister d (e ∷ callee_rest) hd
          (All-cons IsRegister e callee_rest he callee_rest_is)))));
      slots = All-replicate IsSlot 64 (Bytes 0) (omega arith);
    }

pub entered_is_state : (a b c d e : RegState) (slots : List SlotState) (tags : List (Option Tag)) → IsRegister a → IsRegister b → IsRegister c → IsRegister d → IsRegister e → slots ≡ replicate 64 (Bytes 0) → tags ≡ no_tags 64 → IsAbstractState (record blank { registers = callee_registers a b c d e; slots = slots; slot_tags = tags })
entered_is_state a b c d e slots tags ha hb hc hd he is none =
    subst (λ t. IsAbstractState (record blank { registers = callee_registers a b c d e; slots = slots; slot_tags = t })) (sym none)
    (subst (λ l. IsAbstractState (record blank { registers = callee_registers a b c d e; slots = l })) (sym is) (callee_is_state a b c d e ha hb hc hd he))
