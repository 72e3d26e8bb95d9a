-- States in entries.
use Rattle.std.proofs.Common.{◌≡◌, ℕ, ◌+◌, ◌-◌, ◌<◌, ◌≤◌, List, [], ◌∷◌, ◌++◌, length, get_or, take, replicate, refl, sym, ◌∙◌, ap, subst, arith}
use Rattle.std.specs.Prelude.{All}
use Rattle.std.proofs.lemmas.List.{take_more, take_all, length-set, get_or-set_same, get_or-set_other, get_or-replicate}
use Rattle.std.proofs.lemmas.List.Elements.{All-set, All-append, All-nil, All-cons, All-get_or}
use Rattle.bpf_insn.specs.declared.instruction.Reg.{Reg}
use Rattle.bpf_insn.specs.declared.instruction.Reg.TheVariants.{R10}
use Rattle.bpf_insn.specs.Instruction.{register_number}
use Rattle.bpf_insn.proofs.RegisterLemmas.{reg_below}
use Rattle.bpf_state.specs.declared.known.RegState.{RegState}
use Rattle.bpf_state.specs.declared.known.RegState.TheVariants.{Any}
use Rattle.bpf_state.specs.declared.known.SlotState.{SlotState}
use Rattle.bpf_state.specs.declared.known.SlotState.TheVariants.{Bytes}
use Rattle.bpf_state.specs.declared.entries.Entry.{Entry}
use Rattle.bpf_state.specs.declared.entries.Entry.TheVariants.{Register, Slot}
use Rattle.bpf_state.specs.State.{AbstractState, IsAbstractState, IsRegister, IsSlot, register, slot, with_register, with_slot, blank}
use Rattle.bpf_state.specs.Bare.{IsBare}
use Rattle.bpf_state.specs.code.Entries.{put, put_all, state_of, IsPlaced, IsOrdered, IsNew, IsKnown, IsSaid, IsEntry, AreEntries}
use Rattle.bpf_state.proofs.StateLemmas.{blank_is_state}

-- ---- one more

put_all-more : (s : AbstractState) (es : List Entry) (e : Entry) → put_all s (es ++ e ∷ []) ≡ put (put_all s es) e
put_all-more s [] e = refl
put_all-more s (x ∷ es) e = put_all-more (put s x) es e

pub state_more : (es : List Entry) (e : Entry) → state_of (es ++ e ∷ []) ≡ put (state_of es) e
state_more es e = put_all-more blank es e

-- the state after one more of all entries
pub state_next : (es : List Entry) (i : ℕ) (e : Entry) → i < length es → e ≡ get_or es i e → state_of (take (i + 1) es) ≡ put (state_of (take i es)) e
state_next es i e h is = ap state_of (take_more es i e h) ∙ state_more (take i es) (get_or es i e) ∙ ap (put (state_of (take i es))) (sym is)

-- ---- places

pub register_elsewhere : (s : AbstractState) (q r : Reg) (v : RegState) → (register_number q ≡ register_number r → ⊥) → register (with_register s q v) r ≡ register s r
register_elsewhere s q r v apart = get_or-set_other s.registers (register_number q) (register_number r) v Any (λ same. apart (sym same))

pub slot_elsewhere : (s : AbstractState) (j k : ℕ) (v : SlotState) → (j ≡ k → ⊥) → 1 ≤ j → 1 ≤ k → slot (with_slot s j v) k ≡ slot s k
slot_elsewhere s j k v apart low low' = get_or-set_other s.slots (j - 1) (k - 1) v (Bytes 0) (λ same. apart (omega (arith, same)))

pub blank_slot : (k : ℕ) → 1 ≤ k → k ≤ 64 → slot blank k ≡ Bytes 0
blank_slot k low high = get_or-replicate 64 (k - 1) (Bytes 0) (Bytes 0) (omega arith)

pub register_ordered : (s : AbstractState) (r : Reg) → IsAbstractState s → IsRegister (register s r)
register_ordered s r is = let long = is.register_count in let few = reg_below r in All-get_or IsRegister s.registers (register_number r) Any (omega arith) is.registers

pub slot_ordered : (s : AbstractState) (k : ℕ) → 1 ≤ k → k ≤ 64 → IsAbstractState s → IsSlot (slot s k)
slot_ordered s k low high is = let long = is.slot_count in All-get_or IsSlot s.slots (k - 1) (Bytes 0) (omega arith) is.slots

-- ---- what entries keep

pub bare_blank : IsBare blank
bare_blank = record { state = blank_is_state; end = refl; register_tags = refl; slot_tags = refl }

pub none_are_entries : AreEntries []
none_are_entries = record { bare = bare_blank; each = All-nil (IsEntry blank) }

bare_put : (s : AbstractState) (e : Entry) → IsBare s → IsPlaced e → IsOrdered e → IsBare (put s e)
bare_put s (Register r v) is placed ordered =
    record {
      state = record {
        register_count = length-set s.registers (register_number r) v ∙ is.state.register_count;
        slot_count = is.state.slot_count;
        register_tag_count = is.state.register_tag_count;
        slot_tag_count = is.state.slot_tag_count;
        registers = All-set IsRegister s.registers (register_number r) v ordered is.state.registers;
        slots = is.state.slots;
      };
      end = register_elsewhere s r R10 v (λ same. omega (arith, same, placed)) ∙ is.end;
      register_tags = is.register_tags;
      slot_tags = is.slot_tags;
    }
bare_put s (Slot k v) is placed ordered =
    record {
      state = record {
        register_count = is.state.register_count;
        slot_count = length-set s.slots (k - 1) v ∙ is.state.slot_count;
        register_tag_count = is.state.register_tag_count;
        slot_tag_count = is.state.slot_tag_count;
        registers = is.state.registers;
        slots = All-set IsSlot s.slots (k - 1) v ordered is.state.slots;
      };
      end = is.end;
      register_tags = is.register_tags;
      slot_tags = is.slot_tags;
    }

-- what was said of another place still is, since nothing was known of this one
still_said : (s : AbstractState) (e x : Entry) → IsPlaced e → IsNew s e → IsEntry s x → IsSaid (put s e) x
still_said s (Register q w) (Register r v) placed new x =
    register_elsewhere s q r w (λ same. x.known (sym x.said ∙ ap (λ i. get_or s.registers i Any) (sym same) ∙ new)) ∙ x.said
still_said s (Slot j w) (Register r v) placed new x = x.said
still_said s (Register q w) (Slot k v) placed new x = x.said
still_said s (Slot j w) (Slot k v) placed new x =
    slot_elsewhere s j k w (λ same. x.known (sym x.said ∙ ap (slot s) (sym same) ∙ new)) placed.0 x.placed.0 ∙ x.said

now_said : (s : AbstractState) (e : Entry) → IsAbstractState s → IsPlaced e → IsSaid (put s e) e
now_said s (Register r v) is placed = let long = is.register_count in get_or-set_same s.registers (register_number r) v Any (omega (arith, placed))
now_said s (Slot k v) is placed = let long = is.slot_count in get_or-set_same s.slots (k - 1) v (Bytes 0) (omega (arith, placed.0, placed.1))

pub more_entries : (es : List Entry) (e : Entry) → AreEntries es → IsPlaced e → IsOrdered e → IsKnown e → IsNew (state_of es) e → AreEntries (es ++ e ∷ [])
more_entries es e are placed ordered known new =
    let s = state_of es in
    let there : All (IsEntry (put s e)) es = λ i d h. let x = are.each i d h in record { placed = x.placed; known = x.known; said = still_said s e _ placed new x } in
    let here : IsEntry (put s e) e = record { placed = placed; known = known; said = now_said s e are.bare.state placed } in
    let is = state_more es e in
    record {
      bare = subst IsBare (sym is) (bare_put s e are.bare placed ordered);
      each = subst (λ t. All (IsEntry t) (es ++ e ∷ [])) (sym is) (All-append (IsEntry (put s e)) es (e ∷ []) there (All-cons (IsEntry (put s e)) e [] here (All-nil (IsEntry (put s e)))));
    }

-- ---- one entry later

pub register_past : (es : List Entry) (i : ℕ) (e : Entry) (q r : Reg) (v : RegState) → i < length es → e ≡ get_or es i e → e ≡ Register q v → (register_number q ≡ register_number r → ⊥) → register (state_of (take i es)) r ≡ register blank r
    → register (state_of (take (i + 1) es)) r ≡ register blank r
register_past es i e q r v h is at apart e' =
    ap (λ s. register s r) (state_next es i e h is ∙ ap (put (state_of (take i es))) at) ∙ register_elsewhere (state_of (take i es)) q r v apart ∙ e'

pub register_past_slot : (es : List Entry) (i : ℕ) (e : Entry) (k : ℕ) (r : Reg) (v : SlotState) → i < length es → e ≡ get_or es i e → e ≡ Slot k v → register (state_of (take i es)) r ≡ register blank r
    → register (state_of (take (i + 1) es)) r ≡ register blank r
register_past_slot es i e k r v h is at e' = ap (λ s. register s r) (state_next es i e h is ∙ ap (put (state_of (take i es))) at) ∙ e'

pub slot_past : (es : List Entry) (i : ℕ) (e : Entry) (j k : ℕ) (v : SlotState) → All (IsEntry (state_of es)) es → 1 ≤ k → i < length es → e ≡ get_or es i e → e ≡ Slot j v → (j ≡ k → ⊥) → slot (state_of (take i es)) k ≡ Bytes 0
    → slot (state_of (take (i + 1) es)) k ≡ Bytes 0
slot_past es i e j k v each low h is at apart e' =
    let low' : 1 ≤ j = (subst IsPlaced (sym is ∙ at) (each i e h).placed).0 in
    ap (λ s. slot s k) (state_next es i e h is ∙ ap (put (state_of (take i es))) at) ∙ slot_elsewhere (state_of (take i es)) j k v apart low' low ∙ e'

pub slot_past_register : (es : List Entry) (i : ℕ) (e : Entry) (q : Reg) (k : ℕ) (v : RegState) → i < length es → e ≡ get_or es i e → e ≡ Register q v → slot (state_of (take i es)) k ≡ Bytes 0
    → slot (state_of (take (i + 1) es)) k ≡ Bytes 0
slot_past_register es i e q k v h is at e' = ap (λ s. slot s k) (state_next es i e h is ∙ ap (put (state_of (take i es))) at) ∙ e'

-- ---- entries of registers alone

pub no_slot_past : (es : List Entry) (i : ℕ) (e : Entry) (q : Reg) (v : RegState) → i < length es → e ≡ get_or es i e → e ≡ Register q v → (state_of (take i es)).slots ≡ replicate 64 (Bytes 0)
    → (state_of (take (i + 1) es)).slots ≡ replicate 64 (Bytes 0)
no_slot_past es i e q v h is at e' = ap (λ s. s.slots) (state_next es i e h is ∙ ap (put (state_of (take i es))) at) ∙ e'

pub no_slot_in : (es : List Entry) (i : ℕ) → length es ≤ i → (state_of (take i es)).slots ≡ replicate 64 (Bytes 0) → (state_of es).slots ≡ replicate 64 (Bytes 0)
no_slot_in es i all e' = ap (λ l. (state_of l).slots) (sym (take_all i es all)) ∙ e'

-- an entry of a slot says what the state knows
pub slot_said : (es : List Entry) (i : ℕ) (e : Entry) (k : ℕ) (v : SlotState) → AreEntries es → i < length es → e ≡ get_or es i e → e ≡ Slot k v → (state_of es).slots ≡ replicate 64 (Bytes 0) → ⊥
slot_said es i e k v are h is at none =
    let x : IsEntry (state_of es) (Slot k v) = subst (IsEntry (state_of es)) (sym is ∙ at) (are.each i e h) in
    let low = x.placed.0 in
    let high = x.placed.1 in
    x.known (sym x.said ∙ ap (λ ss. get_or ss (k - 1) (Bytes 0)) none ∙ get_or-replicate 64 (k - 1) (Bytes 0) (Bytes 0) (omega arith))
