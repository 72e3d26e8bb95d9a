-- What a visit without flaw says of its edges, of its cost and of the number at EXIT.
use Rattle.std.proofs.Common.{◌≡◌, ℕ, suc, ◌+◌, refl, sym, ap, ap₂, ◌∙◌, arith, ℤ, pos, ◌+ℤ◌, ◌≤ℤ◌, int_lt, Bool, true, false, cond, not, ◌||◌, ◌==◌, List, [], ◌∷◌, ◌++◌, Option, Some, None, is_some, option_and_then, option_map}
use Rattle.std.specs.List.{list_any}
use Rattle.std.proofs.lemmas.Bool.{false≢true, true≢false, or_parts}
use Rattle.std.proofs.lemmas.Bool.Decides.{nat_tests}
use Rattle.std.proofs.lemmas.Int.{ints}
use Rattle.bpf_insn.specs.declared.instruction.Insn.{Insn}
use Rattle.bpf_insn.specs.declared.instruction.Insn.TheVariants.{CallLocal, Exit}
use Rattle.bpf_insn.specs.declared.instruction.Reg.TheVariants.{R0}
use Rattle.bpf_semantics.specs.declared.value.Value.{Value}
use Rattle.bpf_insn.specs.Instruction.{Instructions, slot_count}
use Rattle.bpf_semantics.specs.State as machine
use Rattle.bpf_semantics.specs.State.{Cell}
use Rattle.bpf_semantics.specs.State.Cell.{Byte, Part}
use Rattle.bpf_state.specs.declared.known.RegState.{RegState}
use Rattle.bpf_state.specs.declared.known.RegState.TheVariants.{Any, Num, Ptr}
use Rattle.bpf_state.specs.State.{AbstractState, register}
use Rattle.bpf_state.specs.Fault.{fault_of, is_number, have_right_kinds, reads_part, reads_any, has_wrong_kinds, is_out_of_bounds, reads_unknown_byte, writes_protected}
use Rattle.bpf_safety.specs.Describes.{DescribesRegister}
use Rattle.bpf_cert.specs.View.{CertificateView}
use Rattle.bpf_safety.specs.Flow.{Arrival, Visit, jump_target, jump_state, next_state, cost_after}
use Rattle.bpf_safety.specs.Flaw.{Edge, edge_to, edges, is_refused_by, is_unpaid, is_not_entailed, is_over_budget, enters_wrongly, returns_wrongly, exits_unpaid}

-- ---- tests on numbers

pub equal_passes : (a b : ℕ) → a ≡ b → (a == b) ≡ true
equal_passes a b e = grind (arith, nat_tests)

pub not_above : (z : ℤ) (n : ℕ) → int_lt (pos n) z ≡ false → z ≤ℤ pos n
not_above z n e = grind (arith, ints)

-- ---- tests on edges

any_append : {X : Type 0} (test : X → Bool) (xs ys : List X) → list_any test (xs ++ ys) ≡ false → (list_any test xs ≡ false) × (list_any test ys ≡ false)
any_append test [] ys e = (refl, e)
any_append test (x ∷ xs) ys e =
    let h = or_parts (test x) (list_any test (xs ++ ys)) e in
    let r = any_append test xs ys h.1 in
    (both (test x) (list_any test xs) h.0 r.0, r.1)
  where
    both : (a b : Bool) → a ≡ false → b ≡ false → (a || b) ≡ false
    both true b f g = f
    both false b f g = g

one_edge : (test : Edge → Bool) (o : Option ℕ) (st : Option AbstractState) (n : ℕ) (s : AbstractState) → o ≡ Some n → st ≡ Some s → list_any test (edge_to o st) ≡ false → test (record { slot = n; state = s }) ≡ false
one_edge test o st n s e f h = (or_parts (test (record { slot = n; state = s })) false (sym (ap₂ (λ a b. list_any test (edge_to a b)) e f) ∙ h)).0

pub not_false : (b : Bool) → not b ≡ false → b ≡ true
not_false true e = refl
not_false false e = absurd (true≢false e)

-- the edges that an instruction's step may take
module _ (p : Instructions) (c : CertificateView) (v : Visit) (a : Arrival) where
  pub jump_edge : (test : Edge → Bool) (n : ℕ) (s : AbstractState) → jump_target v.slot v.insn ≡ Some n → jump_state v.slot v.insn a.state ≡ Some s → list_any test (edges p c v a) ≡ false → test (record { slot = n; state = s }) ≡ false
  jump_edge test n s e f h = one_edge test (jump_target v.slot v.insn) (jump_state v.slot v.insn a.state) n s e f (any_append test (edge_to (jump_target v.slot v.insn) (jump_state v.slot v.insn a.state)) (edge_to (Some (v.slot + slot_count v.insn)) (next_state p c v.slot v.insn a.state)) h).0

  pub next_edge : (test : Edge → Bool) (s : AbstractState) → next_state p c v.slot v.insn a.state ≡ Some s → list_any test (edges p c v a) ≡ false → test (record { slot = v.slot + slot_count v.insn; state = s }) ≡ false
  next_edge test s f h = one_edge test (Some (v.slot + slot_count v.insn)) (next_state p c v.slot v.insn a.state) (v.slot + slot_count v.insn) s refl f (any_append test (edge_to (jump_target v.slot v.insn) (jump_state v.slot v.insn a.state)) (edge_to (Some (v.slot + slot_count v.insn)) (next_state p c v.slot v.insn a.state)) h).1

  pub none_refused : is_not_entailed p c v a ≡ false → list_any (is_refused_by c) (edges p c v a) ≡ false
  none_refused e = (or_parts (list_any (is_refused_by c) (edges p c v a)) (enters_wrongly c v a) (or_parts (list_any (is_refused_by c) (edges p c v a) || enters_wrongly c v a) (returns_wrongly c v a v.insn) e).0).0

  pub none_unpaid : is_over_budget p c v a ≡ false → (list_any (is_unpaid c v a) (edges p c v a) ≡ false) × (exits_unpaid v a (cost_after c v.slot v.insn a) v.insn ≡ false)
  none_unpaid e = or_parts (list_any (is_unpaid c v a) (edges p c v a)) (exits_unpaid v a (cost_after c v.slot v.insn a) v.insn) e

-- ---- costs

pub cost_next : (c : CertificateView) (slot : ℕ) (i : Insn) (a : Arrival) (spent : ℕ) → ((off : ℤ) → i ≡ CallLocal off → ⊥) → a.cost ≡ Some (pos spent) → cost_after c slot i a ≡ Some (pos (suc spent))
cost_next c slot (CallLocal off) a spent other e = absurd (other off refl)
cost_next c slot i a spent other e = ap (option_map (λ z. z +ℤ pos 1)) e ∙ ap Some (omega (arith, ints))

-- ---- faults at EXIT

second_none : (a b : Bool) (rest : Option ℕ) → cond a (Some 3) (cond b (Some 4) rest) ≡ None → b ≡ false
second_none true b rest e = absurd (true≢false (ap is_some e))
second_none false true rest e = absurd (true≢false (ap is_some e))
second_none false false rest e = refl

pub result_is_number : (len : ℕ) (s : AbstractState) → fault_of len s Exit ≡ None → is_number (register s R0) ≡ true
result_is_number len s e =
    not_false (is_number (register s R0))
    (or_parts (not (have_right_kinds s Exit)) (reads_part s Exit)
    (second_none (reads_any s Exit) (has_wrong_kinds s Exit) (cond (is_out_of_bounds len s Exit) (Some 5) (cond (reads_unknown_byte s Exit) (Some 6) (cond (writes_protected s Exit) (Some 7) None))) e)).0

number_there : (depth : ℕ) (v : RegState) (o : Option Value) → is_number v ≡ true → DescribesRegister depth v o → (n : ℕ) × (option_and_then machine.number_in o ≡ Some n)
number_there depth (Num n) o e h = (h.0, ap (option_and_then machine.number_in) h.1)
number_there depth Any o e h = absurd (false≢true e)
number_there depth (Ptr p) o e h = absurd (false≢true e)
