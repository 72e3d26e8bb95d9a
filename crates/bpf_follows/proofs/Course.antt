-- The walk over a program's instructions: what stands in the slots from one on, and which visits are made there.
use Rattle.std.proofs.Common.{◌≡◌, ℕ, zero, suc, ◌+◌, ◌<◌, ◌≤◌, refl, sym, ap, ◌∙◌, subst, arith, List, [], ◌∷◌, Contains, Option, Some, None, option_map, add_assoc, get_or-append-add, length-append}
use Rattle.std.proofs.lemmas.Option.{none-some, same_Some}
use Rattle.bpf_insn.specs.declared.instruction.Insn.{Insn}
use Rattle.bpf_insn.specs.declared.instruction.Insn.TheVariants.{LoadImm64}
use Rattle.bpf_insn.specs.Instruction.{Instructions, insn_at, slots, slots_of, slot_count, layout}
use Rattle.bpf_cert.specs.View.{CertificateView}
use Rattle.bpf_safety.specs.Flow.{Arrival, Visit, visits, visits_from, arrives}
use Rattle.bpf_check.specs.code.Visits.{passed_with}
use Rattle.bpf_kept.specs.States.{states_of}
use Rattle.bpf_kept.proofs.StatesLaw.{arrives_there}

first_slot : (i : Insn) (is : List Insn) → insn_at (i ∷ is) 0 ≡ Some i
first_slot (LoadImm64 dst value) is = refl
first_slot i is = refl

-- nothing stands in a second slot
second_slot : (i : Insn) (is : List Insn) (n : ℕ) → 0 < n → n < slot_count i → insn_at (i ∷ is) n ≡ None
second_slot (LoadImm64 dst value) is zero some few = absurd (omega arith)
second_slot (LoadImm64 dst value) is (suc zero) some few = refl
second_slot (LoadImm64 dst value) is (suc (suc n)) some few = absurd (omega arith)
second_slot i is n some few = absurd (omega arith)

behind : (i : Insn) (is : List Insn) (n : ℕ) → insn_at (i ∷ is) (slot_count i + n) ≡ insn_at is n
behind i is n = get_or-append-add (slots_of i) (layout is) n None

slots_cons : (i : Insn) (is : List Insn) → slots (i ∷ is) ≡ slot_count i + slots is
slots_cons i is = length-append (slots_of i) (layout is)

pub few_slots : (i : Insn) → (1 ≤ slot_count i) × (slot_count i ≤ 2)
few_slots (LoadImm64 dst value) = (omega arith, omega arith)
few_slots i = (omega arith, omega arith)

module _ (p : Instructions) (c : CertificateView) where
  -- in front of a slot, to which this goes on
  pub record IsThere (slot : ℕ) (passed : Option Arrival) : Type 0 where
    pub rest : List Insn
    pub stands : (n : ℕ) → insn_at p.list (slot + n) ≡ insn_at rest n
    pub visited : (v : Visit) → Contains (visits_from p c slot passed rest) v → Contains (visits p c) v
    pub ends : slots p.list ≡ slot + slots rest

  pub at_first : IsThere 0 None
  at_first = record { rest = p.list; stands = λ n. ap (insn_at p.list) (omega arith); visited = λ v h. h; ends = omega arith }

  -- an instruction stands there
  pub record IsAtInsn (slot : ℕ) (passed : Option Arrival) (i : Insn) : Type 0 where
    pub state_is : states_of p c slot ≡ option_map (λ a. a.state) (arrives c slot passed)
    pub second : (n : ℕ) → 0 < n → n < slot_count i → insn_at p.list (slot + n) ≡ None
    pub next : IsThere (slot + slot_count i) (passed_with p c slot i (arrives c slot passed))
    pub inside : slot + slot_count i ≤ slots p.list

  pub at_insn : (slot : ℕ) (passed : Option Arrival) (i : Insn) → IsThere slot passed → Some i ≡ insn_at p.list slot → IsAtInsn slot passed i
  at_insn slot passed i w stands = by_rest w.rest w.stands w.visited w.ends (stands ∙ ap (insn_at p.list) same ∙ w.stands 0)
    where
      same : slot ≡ slot + 0
      same = omega arith

      by_rest : (rest : List Insn) → ((n : ℕ) → insn_at p.list (slot + n) ≡ insn_at rest n) → ((v : Visit) → Contains (visits_from p c slot passed rest) v → Contains (visits p c) v) → slots p.list ≡ slot + slots rest
          → Some i ≡ insn_at rest 0 → IsAtInsn slot passed i
      by_rest [] there visited ends here = absurd (none-some i (sym here))
      by_rest (j ∷ js) there visited ends here =
          let is : j ≡ i = same_Some j i (sym (first_slot j js) ∙ sym here) in
          subst (IsAtInsn slot passed) is
          (record {
            state_is = ap (option_map (λ a. a.state)) (arrives_there p c (record { slot = slot; insn = j; arrival = arrives c slot passed }) (visited (record { slot = slot; insn = j; arrival = arrives c slot passed }) (0, omega arith, refl)));
            second = λ n some few. there n ∙ second_slot j js n some few;
            next = record {
              rest = js;
              stands = λ n. ap (insn_at p.list) (add_assoc slot (slot_count j) n) ∙ there (slot_count j + n) ∙ behind j js n;
              visited = λ v h. visited v (let lt = h.1 in (suc h.0, omega arith, h.2));
              ends = let more = slots_cons j js in omega arith;
            };
            inside = let more = slots_cons j js in omega arith;
          })

  -- nothing stands there
  pub at_end : (slot : ℕ) (passed : Option Arrival) → IsThere slot passed → None ≡ insn_at p.list slot → slots p.list ≡ slot
  at_end slot passed w stands = by_rest w.rest w.ends (stands ∙ ap (insn_at p.list) same ∙ w.stands 0)
    where
      same : slot ≡ slot + 0
      same = omega arith

      by_rest : (rest : List Insn) → slots p.list ≡ slot + slots rest → None ≡ insn_at rest 0 → slots p.list ≡ slot
      by_rest [] ends here = let none : slots [] ≡ 0 = refl in omega arith
      by_rest (j ∷ js) ends here = absurd (none-some j (here ∙ first_slot j js))
