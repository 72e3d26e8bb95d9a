-- An EXIT stands for nothing but an EXIT.
use Rattle.std.proofs.Common.{◌≡◌, ℕ, Bool, true, false, Option, Some, None, refl, sym, ap, ap₂, subst, ◌∙◌, inl, inr}
use Rattle.std.specs.Prelude.{◌↔◌, ◌||◌, ◌&&◌, IsTrue, not, option_map, if◌then◌else◌}
use Rattle.std.specs.List.{list_all}
use Rattle.std.specs.Option.{option_map_or, option_or}
use Rattle.std.proofs.lemmas.Bool.{and_parts, or_cases, eqb-true, false≢true}
use Rattle.std.proofs.lemmas.Option.{same_Some}
use Rattle.bpf_insn.specs.Options.{◌>>=◌}
use Rattle.bpf_insn.specs.Effects.{is_frame_pointer}
use Rattle.bpf_insn.specs.Instruction.{Instructions, insn_at}
use Rattle.bpf_insn.specs.declared.instruction.Reg.{Reg}
use Rattle.bpf_insn.specs.declared.instruction.Insn.{Insn}
use Rattle.bpf_insn.specs.declared.instruction.Insn.TheVariants.{Alu, Load, LoadSx, Store, StoreImm, Atomic, JumpIf, Exit}
use Rattle.bpf_insn.specs.declared.instruction.AluOp.TheVariants.{Mov}
use Rattle.bpf_insn.specs.declared.instruction.Width.TheVariants.{W32, W64}
use Rattle.bpf_insn.specs.declared.instruction.Operand.TheVariants.{Reg as FromReg}
use Rattle.bpf_state.specs.State.{AbstractState}
use Rattle.bpf_kept.specs.declared.notes.Holder.{Holder}
use Rattle.bpf_kept.specs.declared.notes.Holder.TheVariants.{Register}
use Rattle.bpf_kept.specs.declared.notes.Term.{Term}
use Rattle.bpf_kept.specs.declared.notes.Note.{Note}
use Rattle.bpf_kept.specs.declared.notes.Change.TheVariants.{Kept}
use Rattle.bpf_kept.specs.declared.bounds.Bounds.{Bounds}
use Rattle.bpf_kept.specs.Terms.{Facts, zero_term, frame_offset}
use Rattle.bpf_kept.specs.Rules.{Known, undirected, is_jump, by_order, keeps, loads_alike, is_widened, is_framed, put_into, put_by, pin_of, put, puts, modifies_alike, stores_alike, reached, stores, paired}
use Rattle.bpf_kept.specs.Behind.{holds_behind}
use Rattle.bpf_kept.specs.Calls.{apart_waits, spares}
use Rattle.bpf_kept.specs.Matching.{Notes, note_at, is_exit, returns, called, calls_to, calls, goes, stands, known_at, IsBody, IsEither, StandsForExit}
use Rattle.bpf_follows.specs.Traps.{is_body}
use Rattle.bpf_follows.specs.Laws.{NamedExitsStand}

exit_is : (i : Insn) → is_exit i ≡ true → i ≡ Exit
exit_is Exit e = refl
exit_is i e = absurd (false≢true e)

undirected_exit : (i : Insn) → is_exit (undirected i) ≡ is_exit i
undirected_exit Exit = refl
undirected_exit i = refl

-- ---- what is paired with an EXIT that isn't the same

order_exit : (facts : Facts) (i : Insn) → by_order facts i Exit ≡ false
order_exit facts (JumpIf cond W64 dst (FromReg src) off) = refl
order_exit facts i = refl

loads_exit : (known : Known) (i : Insn) → loads_alike known i Exit ≡ false
loads_exit known (Load size dst src off) = refl
loads_exit known (LoadSx size dst src off) = refl
loads_exit known i = refl

modifies_exit : (known : Known) (i : Insn) → modifies_alike known i Exit ≡ false
modifies_exit known (Atomic wide op dst off src) = refl
modifies_exit known i = refl

stores_exit : (known : Known) (i : Insn) → stores_alike known i Exit ≡ false
stores_exit known (Store size dst off src) = refl
stores_exit known (StoreImm size dst off imm) = refl
stores_exit known i = modifies_exit known i

widened_exit : (known : Known) (i : Insn) → is_widened known i Exit ≡ false
unfolding is_widened
widened_exit known (Alu op W32 dst src) = refl
widened_exit known i = refl

framed_exit : (i : Insn) → is_framed i Exit ≡ false
framed_exit (Alu Mov W64 dst (FromReg r)) = refl
framed_exit i = refl

by_load_exit : (known : Known) (i : Insn) → put_by known false i Exit ≡ None
by_load_exit known i =
    ap (λ b. if b || is_widened known i Exit then Some (Some zero_term) else if is_framed i Exit then Some (Some frame_offset) else None) (loads_exit known i)
    ∙ ap (λ b. if b then Some (Some zero_term) else if is_framed i Exit then Some (Some frame_offset) else None) (widened_exit known i)
    ∙ ap (λ b. if b then Some (Some frame_offset) else None) (framed_exit i)

puts_exit : (known : Known) (i : Insn) → puts known false i Exit ≡ None
puts_exit known i = by_register (put_into i) (by_load_exit known i)
  where
    by_pointer : (b : Bool) (h : Holder) (pin : Option Term) (by : Option (Option Term)) → by ≡ None → (if b then None else option_map (put h pin) by) ≡ None
    by_pointer true h pin by e = refl
    by_pointer false h pin by e = ap (option_map (put h pin)) e

    by_register : (o : Option Reg) → put_by known false i Exit ≡ None
        → (o >>= λ r. if is_frame_pointer r then None else option_map (put (Register r) (pin_of known.facts i)) (put_by known false i Exit)) ≡ None
    by_register None e = refl
    by_register (Some r) e = by_pointer (is_frame_pointer r) (Register r) (pin_of known.facts i) (put_by known false i Exit) e

stores_none : (known : Known) (i : Insn) → stores known false i Exit ≡ None
stores_none known i = ap (λ b. if b then reached known.left i Exit else None) (stores_exit known i)

keeps_exit : (known : Known) (i : Insn) → keeps known.facts false i Exit ≡ false
unfolding keeps
keeps_exit known i = ap (λ b. b || by_order known.facts i Exit) (jumps_exit i) ∙ order_exit known.facts i
  where
    jumps_exit : (i : Insn) → (is_jump i && false) ≡ false
    jumps_exit i = by_test (is_jump i)
      where
        by_test : (b : Bool) → (b && false) ≡ false
        by_test true = refl
        by_test false = refl

-- another instruction isn't paired with it
paired_exit : (known : Known) (i : Insn) → paired known false i Exit ≡ None
unfolding paired
paired_exit known i =
    ap (λ b. if b then Some Kept else option_or (stores known false i Exit) (puts known false i Exit)) (keeps_exit known i)
    ∙ ap₂ option_or (stores_none known i) (puts_exit known i)

-- ---- what stands for an EXIT

stands_exit : (notes : Notes) (known : Known) (same : Bool) (slot new_slot : ℕ) (i : Insn) → IsTrue same ↔ (undirected Exit ≡ undirected i)
    → stands notes known same slot new_slot i Exit ≡ true → is_exit i ≡ true
unfolding stands
stands_exit notes known same slot new_slot i same_is good =
    let pair : Bool = option_map_or (goes notes known slot new_slot i Exit) (paired known same i Exit) false in
    elim (or_cases (returns known i Exit) (calls notes known slot new_slot i Exit || pair) good) [
      | inl ends ↦ (and_parts (is_exit i) (is_exit Exit && (list_all (holds_behind known.facts Kept) known.back && spares known known.spare)) ends).0
      | inr other ↦ elim (or_cases (calls notes known slot new_slot i Exit) pair other) [
        | inl enters ↦ absurd (no_call (called slot i) (and_parts (apart_waits known) (option_map_or (λ to. option_map_or (calls_to notes known slot new_slot to) None false) (called slot i) false) enters).1)
        | inr pairs ↦ by_same same same_is pairs
      ]
    ]
  where
    no_call : (o : Option ℕ) → option_map_or (λ to. option_map_or (calls_to notes known slot new_slot to) None false) o false ≡ true → ⊥
    no_call None e = false≢true e
    no_call (Some to) e = false≢true e

    by_same : (same : Bool) → IsTrue same ↔ (undirected Exit ≡ undirected i) → option_map_or (goes notes known slot new_slot i Exit) (paired known same i Exit) false ≡ true → is_exit i ≡ true
    by_same true is e = sym (undirected_exit i) ∙ sym (ap is_exit (is.0 refl))
    by_same false is e = absurd (false≢true (sym (ap (λ o. option_map_or (goes notes known slot new_slot i Exit) o false) (paired_exit known i)) ∙ e))

body_exit : (old new : Instructions) (notes : Notes) (bounds : Bounds) (state : Option AbstractState) (slot : ℕ) (note : Note) → insn_at new.list slot ≡ Some Exit
    → IsBody old new notes bounds state slot note → insn_at old.list note.old ≡ Some Exit
body_exit old new notes bounds state slot note here b =
    let is : b.moved ≡ Exit = same_Some b.moved Exit (sym b.moved_is ∙ here) in
    let same_is : IsTrue b.same ↔ (undirected Exit ≡ undirected b.insn) = subst (λ m. IsTrue b.same ↔ (undirected m ≡ undirected b.insn)) is b.same_is in
    let good = subst (λ m. stands notes (known_at new bounds state note) b.same note.old slot b.insn m ≡ true) is b.good in
    b.insn_is ∙ ap Some (exit_is b.insn (stands_exit notes (known_at new bounds state note) b.same note.old slot b.insn same_is good))

pub named_exits_stand : NamedExitsStand
named_exits_stand old new notes bounds states matches slot here named = by_note (note_at notes slot) refl (by_test (option_map_or is_body (note_at notes slot) false) named)
  where
    by_test : (b : Bool) → not b ≡ false → b ≡ true
    by_test true e = refl
    by_test false e = sym e

    by_note : (o : Option Note) → note_at notes slot ≡ o → option_map_or is_body o false ≡ true → StandsForExit old notes slot
    by_note None noted e = absurd (false≢true e)
    by_note (Some note) noted e =
        let none : note.extras ≡ 0 = eqb-true note.extras 0 e in
        let b : IsBody old new notes bounds (states slot) slot note = subst (IsEither old new notes bounds (states slot) slot note) none (matches.each slot note noted) in
        record { note = note; noted = noted; body = none; exit = body_exit old new notes bounds (states slot) slot note here b }
