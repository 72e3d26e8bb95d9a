-- Budgets: what the label before and what is spent since pay for an edge and for the label behind it.
use Rattle.std.proofs.Common.{◌≡◌, ℕ, zero, suc, ℤ, pos, negsuc, ◌+ℤ◌, ◌-ℤ◌, ◌*ℤ◌, ◌≤ℤ◌, ◌+◌, ◌*◌, ◌≤◌, [], ◌∷◌, false, Option, Some, None, ap, ap₂, ◌∙◌, arith}
use Rattle.std.specs.Prelude.{option_map, option_and_then}
use Rattle.std.specs.Int.{int_min, int_max}
use Rattle.std.proofs.lemmas.Int.{ints, clamps}
use Rattle.std.proofs.lemmas.Nat.{mul-le}
use Rattle.bpf_insn.specs.declared.instruction.Reg.TheVariants.{R5}
use Rattle.bpf_num.specs.Interval.{Interval}
use Rattle.bpf_state.specs.State.{AbstractState, register_tag}
use Rattle.bpf_state.specs.declared.known.Place.TheVariants.{Register}
use Rattle.bpf_state.specs.declared.known.Tag.{Tag}
use Rattle.bpf_cert.specs.declared.certificate.Measure.TheVariants.{Down}
use Rattle.bpf_cert.specs.declared.certificate.Term.{Term}
use Rattle.bpf_safety.specs.Budget.{Budget, bounds, term_value, least_at_ends, greatest_at_ends, share_of, free_part, least_slack, least_budget}
use Rattle.bpf_safety.specs.Flaw.{is_negative_if}

-- a turn for each that is left
abbrev pub turn_term : ℕ → Term
turn_term turn = record { weight = turn; measure = Down (Register R5) }

abbrev pub no_turn : ℕ → Budget
no_turn base = record { base = base; terms = [] }

abbrev pub with_turns : ℕ → ℕ → Budget
with_turns turn base = record { base = base; terms = turn_term turn ∷ [] }

not_negative : (z : ℤ) → pos 0 ≤ℤ z → is_negative_if (Some z) ≡ false
not_negative z h = grind (arith, ints)

-- neither has terms
pub pays_plain : (old cost new : ℕ) (at_label edge : AbstractState) → cost + new ≤ old → is_negative_if (least_slack (no_turn old) at_label (pos cost) edge (no_turn new)) ≡ false
pays_plain old cost new at_label edge le = not_negative ((((pos old -ℤ pos cost) -ℤ pos new) +ℤ pos 0) -ℤ pos 0) (omega (arith, ints))

-- the turns end
abbrev ended : ℕ → ℕ → ℤ → ℕ → Option Interval → Option ℤ
ended turn old cost new o =
    option_and_then (λ kept. option_map (λ free. (((pos old -ℤ cost) -ℤ pos new) +ℤ kept) -ℤ free) (Some (pos 0)))
    (option_and_then (λ a. option_map (λ b. a +ℤ b) (Some (pos 0))) (option_map (least_at_ends (λ x. term_value (turn_term turn) x -ℤ pos 0)) o))

pub pays_end : (turn old cost new : ℕ) (at_label edge : AbstractState) (r : Interval) → bounds at_label (turn_term turn) ≡ Some r → cost + new ≤ old → is_negative_if (least_slack (with_turns turn old) at_label (pos cost) edge (no_turn new)) ≡ false
pays_end turn old cost new at_label edge r b le =
    ap (λ o. is_negative_if (ended turn old (pos cost) new o)) b
    ∙ not_negative ((((pos old -ℤ pos cost) -ℤ pos new) +ℤ (int_min (pos (turn * r.lo) -ℤ pos 0) (pos (turn * r.hi) -ℤ pos 0) +ℤ pos 0)) -ℤ pos 0) (omega (arith, ints, clamps))

-- turns on both sides
abbrev slack_of : ℕ → ℕ → ℤ → ℕ → AbstractState → Option Interval → Option Tag → Option ℤ
slack_of turn old cost new edge o g =
    option_and_then (λ kept. option_map (λ free. (((pos old -ℤ cost) -ℤ pos new) +ℤ kept) -ℤ free) (option_and_then (λ a. option_map (λ b. a +ℤ b) (Some (pos 0))) (free_part edge g (turn_term turn))))
    (option_and_then (λ a. option_map (λ b. a +ℤ b) (Some (pos 0))) (option_map (least_at_ends (λ x. term_value (turn_term turn) x -ℤ (share_of 0 x g (turn_term turn) +ℤ pos 0))) o))

cancels : (z : ℤ) → z -ℤ (z +ℤ pos 0) ≡ pos 0
cancels z = omega (arith, ints)

same_share : (turn n : ℕ) → ((pos turn *ℤ pos n) -ℤ ((pos turn *ℤ (pos n +ℤ pos 0)) +ℤ pos 0)) ≡ pos 0
same_share turn n = (let e : pos n +ℤ pos 0 ≡ pos n = omega (arith, ints) in ap (λ z. (pos turn *ℤ pos n) -ℤ ((pos turn *ℤ z) +ℤ pos 0)) e ∙ cancels (pos turn *ℤ pos n))

-- none has passed
pub pays_same : (turn old cost new : ℕ) (at_label edge : AbstractState) (r : Interval) → bounds at_label (turn_term turn) ≡ Some r → register_tag edge R5 ≡ Some (record { term = 0; offset = pos 0 }) → cost + new ≤ old
    → is_negative_if (least_slack (with_turns turn old) at_label (pos cost) edge (with_turns turn new)) ≡ false
pays_same turn old cost new at_label edge r b t le =
    ap₂ (λ o g. is_negative_if (slack_of turn old (pos cost) new edge o g)) b t
    ∙ ap₂ (λ x y. is_negative_if (Some ((((pos old -ℤ pos cost) -ℤ pos new) +ℤ (int_min x y +ℤ pos 0)) -ℤ (pos 0 +ℤ pos 0)))) (same_share turn r.lo) (same_share turn r.hi)
    ∙ not_negative ((((pos old -ℤ pos cost) -ℤ pos new) +ℤ (int_min (pos 0) (pos 0) +ℤ pos 0)) -ℤ (pos 0 +ℤ pos 0)) (omega (arith, ints, clamps))

one_share : (turn n : ℕ) → 1 ≤ n → ((pos turn *ℤ pos n) -ℤ ((pos turn *ℤ (pos n +ℤ negsuc 0)) +ℤ pos 0)) ≡ pos turn
one_share turn zero some = absurd (omega arith)
one_share turn (suc n) some =
    let e : pos (suc n) +ℤ negsuc 0 ≡ pos n = omega (arith, ints) in
    let m : turn * suc n ≡ turn * n + turn = omega arith in
    ap (λ z. (pos turn *ℤ pos (suc n)) -ℤ ((pos turn *ℤ z) +ℤ pos 0)) e ∙ rest (turn * suc n) (turn * n) m
  where
    rest : (x y : ℕ) → x ≡ y + turn → (pos x -ℤ (pos y +ℤ pos 0)) ≡ pos turn
    rest x y e = omega (arith, ints, e)

-- one has passed
pub pays_turn : (turn old cost new : ℕ) (at_label edge : AbstractState) (r : Interval) → bounds at_label (turn_term turn) ≡ Some r → 1 ≤ r.lo → 1 ≤ r.hi → register_tag edge R5 ≡ Some (record { term = 0; offset = negsuc 0 }) → cost + new ≤ old + turn
    → is_negative_if (least_slack (with_turns turn old) at_label (pos cost) edge (with_turns turn new)) ≡ false
pays_turn turn old cost new at_label edge r b some more t le =
    ap₂ (λ o g. is_negative_if (slack_of turn old (pos cost) new edge o g)) b t
    ∙ ap₂ (λ x y. is_negative_if (Some ((((pos old -ℤ pos cost) -ℤ pos new) +ℤ (int_min x y +ℤ pos 0)) -ℤ (pos 0 +ℤ pos 0)))) (one_share turn r.lo some) (one_share turn r.hi more)
    ∙ not_negative ((((pos old -ℤ pos cost) -ℤ pos new) +ℤ (int_min (pos turn) (pos turn) +ℤ pos 0)) -ℤ (pos 0 +ℤ pos 0)) (omega (arith, ints, clamps))

-- the entry pays for all turns
abbrev free_or : Option Tag → Option ℤ → Option ℤ
free_or None z = z
free_or (Some t) z = Some (pos 0)

abbrev first_slack : ℕ → ℕ → ℤ → ℕ → Option Tag → Option Interval → Option ℤ
first_slack turn old cost new g o =
    option_map (λ free. (((pos old -ℤ cost) -ℤ pos new) +ℤ pos 0) -ℤ free) (option_and_then (λ a. option_map (λ b. a +ℤ b) (Some (pos 0))) (free_or g (option_map (greatest_at_ends (term_value (turn_term turn))) o)))

first_is : (turn old cost new : ℕ) (at_label edge : AbstractState) → register_tag edge R5 ≡ None → least_slack (no_turn old) at_label (pos cost) edge (with_turns turn new) ≡ first_slack turn old (pos cost) new None (bounds edge (turn_term turn))
first_is turn old cost new at_label edge t = ap (λ g. option_map (λ free. (((pos old -ℤ pos cost) -ℤ pos new) +ℤ pos 0) -ℤ free) (option_and_then (λ a. option_map (λ b. a +ℤ b) (Some (pos 0))) (free_part edge g (turn_term turn)))) t

pub pays_first : (turn turns old cost new : ℕ) (at_label edge : AbstractState) (r : Interval) → register_tag edge R5 ≡ None → bounds edge (turn_term turn) ≡ Some r → r.lo ≤ turns → r.hi ≤ turns → cost + new + turn * turns ≤ old
    → is_negative_if (least_slack (no_turn old) at_label (pos cost) edge (with_turns turn new)) ≡ false
pays_first turn turns old cost new at_label edge r t b low high le =
    let x = mul-le turn r.lo turn turns (omega arith) low in
    let y = mul-le turn r.hi turn turns (omega arith) high in
    ap is_negative_if (first_is turn old cost new at_label edge t ∙ ap (first_slack turn old (pos cost) new None) b)
    ∙ not_negative ((((pos old -ℤ pos cost) -ℤ pos new) +ℤ pos 0) -ℤ (int_max (pos (turn * r.lo)) (pos (turn * r.hi)) +ℤ pos 0)) (omega (arith, ints, clamps, x, y, le))

-- ---- at the end

pub pays_exit : (old cost : ℕ) (at_label : AbstractState) → cost ≤ old → is_negative_if (option_and_then (λ spent. option_map (λ b. b -ℤ spent) (least_budget (no_turn old) at_label)) (Some (pos cost))) ≡ false
pays_exit old cost at_label le = not_negative ((pos old +ℤ pos 0) -ℤ pos cost) (omega (arith, ints))

abbrev least_of : ℕ → ℕ → Option Interval → Option ℤ
least_of turn old o = option_map (λ z. pos old +ℤ z) (option_and_then (λ a. option_map (λ b. a +ℤ b) (Some (pos 0))) (option_map (least_at_ends (term_value (turn_term turn))) o))

pub pays_exit_turns : (turn old cost : ℕ) (at_label : AbstractState) (r : Interval) → bounds at_label (turn_term turn) ≡ Some r → cost ≤ old → is_negative_if (option_and_then (λ spent. option_map (λ b. b -ℤ spent) (least_budget (with_turns turn old) at_label)) (Some (pos cost))) ≡ false
pays_exit_turns turn old cost at_label r b le =
    ap (λ o. is_negative_if (option_and_then (λ spent. option_map (λ b. b -ℤ spent) (least_of turn old o)) (Some (pos cost)))) b
    ∙ not_negative ((pos old +ℤ (int_min (pos (turn * r.lo)) (pos (turn * r.hi)) +ℤ pos 0)) -ℤ pos cost) (omega (arith, ints, clamps))
