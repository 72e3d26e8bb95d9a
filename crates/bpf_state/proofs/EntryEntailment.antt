-- A state lies in that of entries where it keeps each of them.
use Rattle.std.proofs.Common.{◌≡◌, ℕ, zero, suc, ◌-◌, ◌<◌, Bool, true, false, List, [], ◌∷◌, ◌++◌, length, get_or, replicate, refl, sym, ◌∙◌, ap, arith}
use Rattle.std.specs.Prelude.{◌&&◌, set}
use Rattle.std.specs.List.{list_all}
use Rattle.std.specs.Int.Bits.{and_zero_r}
use Rattle.std.proofs.lemmas.Bool.{eq-eqb, and_parts, and_from}
use Rattle.std.proofs.lemmas.List.Sums.{list_all-from_AllPass}
use Rattle.bpf_insn.specs.declared.instruction.Reg.TheVariants.{R10}
use Rattle.bpf_insn.specs.Instruction.{register_number}
use Rattle.bpf_insn.proofs.RegisterLemmas.{reg_below}
use Rattle.bpf_state.specs.declared.known.RegState.{RegState}
use Rattle.bpf_state.specs.declared.known.RegState.TheVariants.{Any, Num, Ptr}
use Rattle.bpf_state.specs.declared.known.Area.TheVariants.{Frame}
use Rattle.bpf_state.specs.declared.known.SlotState.{SlotState}
use Rattle.bpf_state.specs.declared.known.SlotState.TheVariants.{Bytes, Word, Spilled}
use Rattle.bpf_state.specs.declared.entries.Entry.{Entry}
use Rattle.bpf_state.specs.declared.entries.Entry.TheVariants.{Register, Slot}
use Rattle.bpf_state.specs.State.{AbstractState, IsAbstractState, register, slot, start_of, blank}
use Rattle.bpf_state.specs.Entails.{register_entails, slot_entails, all_pairs, state_entails}
use Rattle.bpf_state.specs.code.Entries.{put, put_all, state_of, keeps, IsEntry, AreEntries}

-- ---- pairs

pub pair_at : {A : Type 0} (test : A → A → Bool) (xs ys : List A) (i : ℕ) (d : A) → i < length xs → i < length ys → all_pairs test xs ys ≡ true → test (get_or xs i d) (get_or ys i d) ≡ true
pair_at test [] ys i d h k e = absurd (omega arith)
pair_at test (x ∷ xs) [] i d h k e = absurd (omega arith)
pair_at test (x ∷ xs) (y ∷ ys) zero d h k e = (and_parts (test x y) (all_pairs test xs ys) e).0
pair_at test (x ∷ xs) (y ∷ ys) (suc i) d h k e = pair_at test xs ys i d (omega arith) (omega arith) (and_parts (test x y) (all_pairs test xs ys) e).1

pairs_set : {A : Type 0} (test : A → A → Bool) (xs ys : List A) (i : ℕ) (d y : A) → all_pairs test xs ys ≡ true → test (get_or xs i d) y ≡ true → all_pairs test xs (set ys i y) ≡ true
pairs_set test [] [] i d y e f = refl
pairs_set test [] (z ∷ ys) zero d y e f = refl
pairs_set test [] (z ∷ ys) (suc i) d y e f = refl
pairs_set test (x ∷ xs) [] i d y e f = refl
pairs_set test (x ∷ xs) (z ∷ ys) zero d y e f = and_from (test x y) (all_pairs test xs ys) f (and_parts (test x z) (all_pairs test xs ys) e).1
pairs_set test (x ∷ xs) (z ∷ ys) (suc i) d y e f =
    let parts = and_parts (test x z) (all_pairs test xs ys) e in
    and_from (test x z) (all_pairs test xs (set ys i y)) parts.0 (pairs_set test xs ys i d y parts.1 f)

-- ---- nothing known

entails_any : (v : RegState) → register_entails v Any ≡ true
entails_any Any = refl
entails_any (Num n) = refl
entails_any (Ptr p) = refl

entails_none : (v : SlotState) → slot_entails v (Bytes 0) ≡ true
entails_none (Bytes m) = eq-eqb _ 0 (and_zero_r m)
entails_none (Word n) = refl
entails_none (Spilled p) = refl

slots_blank : (n : ℕ) (xs : List SlotState) → all_pairs slot_entails xs (replicate n (Bytes 0)) ≡ true
slots_blank zero [] = refl
slots_blank zero (x ∷ xs) = refl
slots_blank (suc n) [] = refl
slots_blank (suc n) (x ∷ xs) = and_from (slot_entails x (Bytes 0)) (all_pairs slot_entails xs (replicate n (Bytes 0))) (entails_none x) (slots_blank n xs)

-- ten registers of which nothing has to be known, and one more
registers_blank : (n : ℕ) (xs : List RegState) (last : RegState) → register_entails (get_or xs n Any) last ≡ true → all_pairs register_entails xs (replicate n Any ++ last ∷ []) ≡ true
registers_blank zero [] last e = refl
registers_blank zero (x ∷ []) last e = and_from (register_entails x last) true e refl
registers_blank zero (x ∷ y ∷ xs) last e = and_from (register_entails x last) true e refl
registers_blank (suc n) [] last e = refl
registers_blank (suc n) (x ∷ xs) last e = and_from (register_entails x Any) (all_pairs register_entails xs (replicate n Any ++ last ∷ [])) (entails_any x) (registers_blank n xs last e)

entails_blank : (s : AbstractState) → register_entails (register s R10) (Ptr (start_of Frame)) ≡ true → state_entails s blank ≡ true
entails_blank s e = and_from _ _ (registers_blank 10 s.registers (Ptr (start_of Frame)) e) (slots_blank 64 s.slots)

-- ---- entries

entails_put : (s t : AbstractState) (e : Entry) → state_entails s t ≡ true → keeps s e ≡ true → state_entails s (put t e) ≡ true
entails_put s t (Register r v) e f =
    let parts = and_parts (all_pairs register_entails s.registers t.registers) (all_pairs slot_entails s.slots t.slots) e in
    and_from _ _ (pairs_set register_entails s.registers t.registers (register_number r) Any v parts.0 f) parts.1
entails_put s t (Slot k v) e f =
    let parts = and_parts (all_pairs register_entails s.registers t.registers) (all_pairs slot_entails s.slots t.slots) e in
    and_from _ _ parts.0 (pairs_set slot_entails s.slots t.slots (k - 1) (Bytes 0) v parts.1 f)

entails_all : (s t : AbstractState) (es : List Entry) → state_entails s t ≡ true → list_all (keeps s) es ≡ true → state_entails s (put_all t es) ≡ true
entails_all s t [] e f = e
entails_all s t (x ∷ es) e f = let parts = and_parts (keeps s x) (list_all (keeps s) es) f in entails_all s (put t x) es (entails_put s t x e parts.0) parts.1

kept : (s t : AbstractState) (e : Entry) → IsAbstractState s → IsAbstractState t → IsEntry t e → state_entails s t ≡ true → keeps s e ≡ true
kept s t (Register r v) is it x e =
    let parts = and_parts (all_pairs register_entails s.registers t.registers) (all_pairs slot_entails s.slots t.slots) e in
    let few = reg_below r in let long = is.register_count in let long' = it.register_count in
    ap (register_entails (register s r)) (sym x.said) ∙ pair_at register_entails s.registers t.registers (register_number r) Any (omega arith) (omega arith) parts.0
kept s t (Slot k v) is it x e =
    let parts = and_parts (all_pairs register_entails s.registers t.registers) (all_pairs slot_entails s.slots t.slots) e in
    let low = x.placed.0 in let high = x.placed.1 in let long = is.slot_count in let long' = it.slot_count in
    ap (slot_entails (slot s k)) (sym x.said) ∙ pair_at slot_entails s.slots t.slots (k - 1) (Bytes 0) (omega arith) (omega arith) parts.1

same_test : (a b : Bool) → (a ≡ true → b ≡ true) → (b ≡ true → a ≡ true) → a ≡ b
same_test true b f g = sym (f refl)
same_test false true f g = g refl
same_test false false f g = refl

pub entails_entries : (s : AbstractState) (es : List Entry) → IsAbstractState s → AreEntries es → (register_entails (register s R10) (Ptr (start_of Frame)) && list_all (keeps s) es) ≡ state_entails s (state_of es)
entails_entries s es is are =
    let t = state_of es in
    let end = register_entails (register s R10) (Ptr (start_of Frame)) in
    let into : (end && list_all (keeps s) es) ≡ true → state_entails s t ≡ true = λ e. let parts = and_parts end (list_all (keeps s) es) e in entails_all s blank es (entails_blank s parts.0) parts.1 in
    let from : state_entails s t ≡ true → (end && list_all (keeps s) es) ≡ true = λ e.
    let parts = and_parts (all_pairs register_entails s.registers t.registers) (all_pairs slot_entails s.slots t.slots) e in
    let long = is.register_count in let long' = are.bare.state.register_count in
    and_from end (list_all (keeps s) es)
    (ap (register_entails (register s R10)) (sym are.bare.end) ∙ pair_at register_entails s.registers t.registers 10 Any (omega arith) (omega arith) parts.0)
    (list_all-from_AllPass (keeps s) es (λ i d h. kept s t (get_or es i d) is are.bare.state (are.each i d h) e)) in
    same_test (end && list_all (keeps s) es) (state_entails s t) into from

-- the first entry that isn't kept, or r10, decides
pub entails_not : (s : AbstractState) (es : List Entry) → IsAbstractState s → AreEntries es → register_entails (register s R10) (Ptr (start_of Frame)) ≡ false → false ≡ state_entails s (state_of es)
entails_not s es is are e = ap (λ b. b && list_all (keeps s) es) (sym e) ∙ entails_entries s es is are
