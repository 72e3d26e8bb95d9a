-- The visits at slots: each instruction has one, and what passes on arrives at the next.
use Rattle.std.proofs.Common.{◌≡◌, ℕ, zero, suc, ◌+◌, ◌≤◌, ◌⊎◌, inl, inr, refl, ap, ◌∙◌, subst, arith, List, [], ◌∷◌, Option, Some, None, is_some, Contains, option_and_then, add_assoc, get_or-append-add, length-append}
use Rattle.std.proofs.lemmas.Bool.{false≢true}
use Rattle.bpf_insn.specs.declared.instruction.Insn.{Insn}
use Rattle.bpf_insn.specs.declared.instruction.Insn.TheVariants.{LoadImm64}
use Rattle.bpf_insn.specs.Image.{HasEncoding, AllHaveEncoding}
use Rattle.bpf_insn.specs.Instruction.{Instructions, insn_at, slots, slots_of, slot_count, layout}
use Rattle.bpf_cert.specs.View.{CertificateView}
use Rattle.bpf_safety.specs.Flow.{Arrival, Visit, visits, visits_from, arrives, passed_on, sound_arrival}
use Rattle.bpf_safety.proofs.Basics.{some_is}
use Rattle.bpf_safety.proofs.Here.{Reaches}

abbrev pub goes_on_with : Instructions → CertificateView → ℕ → Option Arrival → Insn → Option Arrival
goes_on_with p c slot passed i = option_and_then (passed_on p c slot i) (sound_arrival c i (arrives c slot passed))

pub begins : (p : Instructions) (c : CertificateView) → Reaches p c 0 None p.list
begins p c = record { visited = λ v h. h; stands = λ n. ap (insn_at p.list) (omega arith); ends = omega arith }

there : (v w : Visit) (vs : List Visit) → Contains vs v → Contains (w ∷ vs) v
there v w vs h = let lt = h.1 in (suc h.0, omega arith, h.2)

-- what stands in the slots behind the first instruction, and in its own
behind : (i : Insn) (is : List Insn) (n : ℕ) → insn_at (i ∷ is) (slot_count i + n) ≡ insn_at is n
behind i is n = get_or-append-add (slots_of i) (layout is) n None

first_slot : (i : Insn) (is : List Insn) → insn_at (i ∷ is) 0 ≡ Some i
first_slot (LoadImm64 dst value) is = refl
first_slot i is = refl

pub slots-cons : (i : Insn) (is : List Insn) → slots (i ∷ is) ≡ slot_count i + slots is
slots-cons i is = length-append (slots_of i) (layout is)

pub some_slots : (i : Insn) → 1 ≤ slot_count i
some_slots (LoadImm64 dst value) = omega arith
some_slots i = omega arith

-- an instruction stands in the first slot, or behind the first instruction
abbrev InPlace : Insn → List Insn → ℕ → Insn → Type 0
InPlace j is n i = ((n ≡ 0) × (j ≡ i)) ⊎ ((k : ℕ) × (n ≡ slot_count j + k) × (insn_at is k ≡ Some i))

place : (j : Insn) (is : List Insn) (n : ℕ) (i : Insn) → insn_at (j ∷ is) n ≡ Some i → InPlace j is n i
place (LoadImm64 dst value) is zero i e = inl (refl, some_is (LoadImm64 dst value) i e)
place (LoadImm64 dst value) is (suc zero) i e = absurd (false≢true (ap is_some e))
place (LoadImm64 dst value) is (suc (suc k)) i e = inr (k, omega arith, e)
place j is zero i e = inl (refl, some_is j i e)
place j is (suc k) i e = inr (k, omega arith, e)

-- an instruction that stands in a list of instructions with encodings has one
pub encoded : (is : List Insn) (n : ℕ) (i : Insn) → AllHaveEncoding is → insn_at is n ≡ Some i → HasEncoding i
encoded [] n i all e = absurd (false≢true (ap is_some e))
encoded (j ∷ is) n i all e = by_place (λ k h. encoded is k i all.1 h) (place j is n i e)
  where
    by_place : ((k : ℕ) → insn_at is k ≡ Some i → HasEncoding i) → InPlace j is n i → HasEncoding i
    by_place later (inl h) = subst HasEncoding h.1 all.0
    by_place later (inr h) = later h.0 h.2

module _ (p : Instructions) (c : CertificateView) where
  pub is_visited : (slot : ℕ) (passed : Option Arrival) (i : Insn) (is : List Insn) → Reaches p c slot passed (i ∷ is) → Contains (visits p c) (record { slot = slot; insn = i; arrival = arrives c slot passed })
  is_visited slot passed i is r = r.visited (record { slot = slot; insn = i; arrival = arrives c slot passed }) (0, omega arith, refl)

  -- an instruction stands in its first slot
  pub stands_here : (slot : ℕ) (passed : Option Arrival) (i : Insn) (is : List Insn) → Reaches p c slot passed (i ∷ is) → insn_at p.list slot ≡ Some i
  stands_here slot passed i is r = ap (insn_at p.list) (omega arith) ∙ r.stands 0 ∙ first_slot i is

  pub goes_on : (slot : ℕ) (passed : Option Arrival) (i : Insn) (is : List Insn) → Reaches p c slot passed (i ∷ is) → Reaches p c (slot + slot_count i) (goes_on_with p c slot passed i) is
  goes_on slot passed i is r =
      let all = r.ends in
      let more = slots-cons i is in
      record {
        visited = λ v h. r.visited v (there v (record { slot = slot; insn = i; arrival = arrives c slot passed }) (visits_from p c (slot + slot_count i) (goes_on_with p c slot passed i) is) h);
        stands = λ n. ap (insn_at p.list) (add_assoc slot (slot_count i) n) ∙ r.stands (slot_count i + n) ∙ behind i is n;
        ends = omega arith;
      }

  -- each instruction is reached
  pub record ReachesSlot (slot : ℕ) (i : Insn) : Type 0 where
    pub passed : Option Arrival
    pub rest : List Insn
    pub reaches : Reaches p c slot passed (i ∷ rest)

  -- a slot is the first of an instruction, its second, or behind it
  find : (is : List Insn) (slot : ℕ) (passed : Option Arrival) (n : ℕ) (i : Insn) → Reaches p c slot passed is → insn_at is n ≡ Some i → ReachesSlot (slot + n) i
  find [] slot passed n i r e = absurd (false≢true (ap is_some e))
  find (j ∷ is) slot passed n i r e = by_place (λ k h. find is (slot + slot_count j) (goes_on_with p c slot passed j) k i (goes_on slot passed j is r) h) (place j is n i e)
    where
      by_place : ((k : ℕ) → insn_at is k ≡ Some i → ReachesSlot (slot + slot_count j + k) i) → InPlace j is n i → ReachesSlot (slot + n) i
      by_place later (inl h) =
          record { passed = passed; rest = is; reaches = subst (λ o. Reaches p c o passed (i ∷ is)) (here h.0) (subst (λ o. Reaches p c slot passed (o ∷ is)) h.1 r) }
        where
          here : n ≡ 0 → slot ≡ slot + n
          here z = omega arith
      by_place later (inr h) = let z = h.1 in let same : slot + slot_count j + h.0 ≡ slot + n = omega arith in subst (λ o. ReachesSlot o i) same (later h.0 h.2)

  pub reaches_slot : (slot : ℕ) (i : Insn) → insn_at p.list slot ≡ Some i → ReachesSlot slot i
  reaches_slot slot i e = subst (λ n. ReachesSlot n i) (omega arith) (find p.list 0 None slot i (begins p c) e)
