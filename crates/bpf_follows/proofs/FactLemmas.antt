-- Facts and counters that are spelled are read again.
use Rattle.std.proofs.Common.{◌≡◌, ℕ, ◌^◌, Bool, true, false, eqb, List, [], ◌∷◌, ◌++◌, Option, Some, None, refl, sym, ap, subst, ◌∙◌, append_assoc, arith}
use Rattle.std.specs.Prelude.{◌&&◌, codes, decimal, is_none, if◌then◌else◌}
use Rattle.std.specs.Option.{option_map_or}
use Rattle.std.proofs.lemmas.Bool.{and_parts, eqb-true, lt-ltb, false≢true}
use Rattle.std.proofs.lemmas.Option.{same_Some}
use Rattle.bpf_insn.specs.Instruction.{register_number}
use Rattle.bpf_insn.specs.declared.instruction.Reg.{Reg}
use Rattle.bpf_insn.specs.declared.instruction.Reg.TheVariants.{R0, R1, R2, R3, R4, R5, R6, R7, R8, R9, R10}
use Rattle.bpf_insn.proofs.RegisterLemmas.{reg_below}
use Rattle.bpf_streams.specs.Words.{behind}
use Rattle.bpf_kept.specs.declared.notes.Term.{Term}
use Rattle.bpf_kept.specs.declared.notes.Holder.{Holder}
use Rattle.bpf_kept.specs.declared.notes.Holder.TheVariants.{Register, Slot, Length}
use Rattle.bpf_kept.specs.declared.notes.Fact.{Fact}
use Rattle.bpf_kept.specs.declared.notes.TurnsLeft.{TurnsLeft}
use Rattle.bpf_kept.specs.Terms.{zero_term}
use Rattle.bpf_kept.specs.Rules.{same_holder, is_base, is_zero}
use Rattle.bpf_follows.specs.code.Reading.{register_at}
use Rattle.bpf_follows.specs.NotesText.{HolderFits, TermFits, FactFits, CounterFits, holder_text, same, says_same, nothing, says_nothing, usual_back, says_usual, by_text, fact_text, term_text, counter_text}
use Rattle.bpf_follows.specs.code.Reading.{number_in, register_in, slot_in, length_in, zero_in, holder_in, differs_in, low_in, by_in, fact_in, turns_in}
use Rattle.bpf_follows.proofs.Decimals.{NoDigit, numeral_again, short_again}
use Rattle.bpf_follows.proofs.TermLemmas.{Ends, Front, no_digit, term_again, term_front}

-- ---- holders

register_named : (r : Reg) → register_at (register_number r) ≡ Some r
register_named R0 = refl
register_named R1 = refl
register_named R2 = refl
register_named R3 = refl
register_named R4 = refl
register_named R5 = refl
register_named R6 = refl
register_named R7 = refl
register_named R8 = refl
register_named R9 = refl
register_named R10 = refl

holder_again : (o : Option Holder) → HolderFits o → (tail : List ℕ) → NoDigit tail → holder_in (holder_text o ++ tail) ≡ Some (o, tail)
unfolding holder_in register_in slot_in length_in zero_in number_in holder_text behind
holder_again None fits tail f = refl
holder_again (Some (Register r)) fits tail f = rw (numeral_again (register_number r) tail (omega (arith, reg_below r)) f, register_named r) refl
holder_again (Some (Slot n)) fits tail f = rw (numeral_again n tail (omega (arith, fits)) f, lt-ltb n (2 ^ 8) fits) refl
holder_again (Some Length) fits tail f = refl

-- ---- facts of one word

holder_is : (a b : Holder) → same_holder a b ≡ true → a ≡ b
holder_is (Register a) (Register b) e =
    ap Register (same_Some a b (sym (register_named a) ∙ ap register_at (eqb-true (register_number a) (register_number b) e) ∙ register_named b))
holder_is (Slot m) (Slot n) e = ap Slot (eqb-true m n e)
holder_is Length Length e = refl
holder_is a b e = absurd (false≢true e)

base_is : (a b : Option Holder) → is_base a b ≡ true → b ≡ a
base_is None None e = refl
base_is None (Some h) e = absurd (false≢true e)
base_is (Some h) None e = absurd (false≢true e)
base_is (Some h) (Some of) e = ap Some (holder_is of h e)

zero_is : (o : Option Term) → option_map_or is_zero o false ≡ true → o ≡ Some zero_term
zero_is None e = absurd (false≢true e)
zero_is (Some t) e =
    let h = and_parts (eqb t.frames 0) (eqb t.moved 0) e in
    ap (λ n. Some (record { frames = n; moved = t.moved })) (eqb-true t.frames 0 h.0) ∙ ap (λ n. Some (record { frames = 0; moved = n })) (eqb-true t.moved 0 h.1)

same_is : (fact : Fact) → says_same fact ≡ true → fact ≡ same fact.of
same_is fact e =
    let h = and_parts (is_base fact.of fact.base) (option_map_or is_zero fact.by false) e in
    ap (λ o. record { of = fact.of; base = o; by = fact.by }) (base_is fact.of fact.base h.0) ∙ ap (λ o. record { of = fact.of; base = fact.of; by = o }) (zero_is fact.by h.1)

none_is : (o : Option Holder) → is_none o ≡ true → o ≡ None
none_is None e = refl
none_is (Some h) e = absurd (false≢true e)

pub nothing_is : (fact : Fact) → says_nothing fact ≡ true → fact ≡ nothing
nothing_is fact e =
    let h = and_parts (is_none fact.of) (says_same fact) e in
    same_is fact h.1 ∙ ap same (none_is fact.of h.0)

pub usual_is : (back : List Fact) → says_usual back ≡ true → back ≡ usual_back
usual_is [] e = absurd (false≢true e)
usual_is (first ∷ []) e = absurd (false≢true e)
usual_is (first ∷ second ∷ []) e =
    let h = and_parts (is_base (Some (Register R0)) first.of && says_same first) (says_nothing second) e in
    let r0 = and_parts (is_base (Some (Register R0)) first.of) (says_same first) h.0 in
    let one : first ≡ same (Some (Register R0)) = same_is first r0.1 ∙ ap same (base_is (Some (Register R0)) first.of r0.0) in
    let two : second ≡ nothing = nothing_is second h.1 in
    ap (λ (x : Fact). x ∷ second ∷ []) one ∙ ap (λ (x : Fact). same (Some (Register R0)) ∷ x ∷ []) two
usual_is (first ∷ second ∷ third ∷ more) e = absurd (false≢true e)

-- ---- facts

plain : (c : ℕ) (rest : List ℕ) → Ends c → NoDigit (c ∷ rest)
plain c rest h = record { c = c; cs = rest; text_is = refl; digit = h.digit }

by_again : (of base : Option Holder) (by : Option Term) → HolderFits base → TermFits by → (c : ℕ) (rest : List ℕ) → Ends c → by_in of (by_text base by ++ c ∷ rest) ≡ Some (record { of = of; base = base; by = by }, c ∷ rest)
unfolding by_in differs_in low_in by_text behind
by_again of base None held fits c rest h = rw (holder_again base held (c ∷ rest) (plain c rest h)) refl
by_again of base (Some t) held fits c rest h =
    rw (
      append_assoc (holder_text base) (term_text t) (c ∷ rest),
      holder_again base held (term_text t ++ c ∷ rest) (term_front t fits.0 fits.1 c rest h),
      term_again t fits.0 fits.1 c rest h,
    ) refl

by_front : (base : Option Holder) (by : Option Term) (tail : List ℕ) → NoDigit (by_text base by ++ tail)
unfolding by_text
by_front base None tail = record { c = 126; cs = holder_text base ++ tail; text_is = refl; digit = refl }
by_front base (Some t) tail = record { c = 61; cs = (holder_text base ++ term_text t) ++ tail; text_is = refl; digit = refl }

same_again : (of : Option Holder) (c : ℕ) (rest : List ℕ) → Ends c → by_in of (c ∷ rest) ≡ Some (same of, c ∷ rest)
unfolding by_in low_in behind
same_again of c rest h = rw (h.equals, h.tilde) refl

fact_end : (fact : Fact) → FactFits fact → (c : ℕ) (rest : List ℕ) → Ends c → fact_in (fact_text fact ++ c ∷ rest) ≡ Some (fact, c ∷ rest)
unfolding fact_in fact_text
fact_end fact fits c rest h = by_test (says_same fact) refl
  where
    by_test : (b : Bool) → says_same fact ≡ b → fact_in ((holder_text fact.of ++ (if b then [] else by_text fact.base fact.by)) ++ c ∷ rest) ≡ Some (fact, c ∷ rest)
    by_test true e =
        rw (append_assoc (holder_text fact.of) [] (c ∷ rest), holder_again fact.of fits.of (c ∷ rest) (plain c rest h), same_again fact.of c rest h)
        (ap (λ (x : Fact). Some (x, c ∷ rest)) (sym (same_is fact e)))
    by_test false e =
        rw (
          append_assoc (holder_text fact.of) (by_text fact.base fact.by) (c ∷ rest),
          holder_again fact.of fits.of (by_text fact.base fact.by ++ c ∷ rest) (by_front fact.base fact.by (c ∷ rest)),
          by_again fact.of fact.base fact.by fits.base fits.by c rest h,
        ) refl

pub fact_again : (fact : Fact) → FactFits fact → (tail : List ℕ) → Front tail → fact_in (fact_text fact ++ tail) ≡ Some (fact, tail)
fact_again fact fits tail f = subst (λ t. fact_in (fact_text fact ++ t) ≡ Some (fact, t)) (sym f.text_is) (fact_end fact fits f.c f.cs f.ends)

-- ---- counters

pub counter_again : (c : TurnsLeft) → CounterFits (Some c) → (tail : List ℕ) → Front tail → turns_in (counter_text c ++ tail) ≡ Some (Some c, tail)
unfolding turns_in counter_text
counter_again c fits tail f =
    rw (
      append_assoc (holder_text (Some c.of)) (codes " head " ++ (decimal c.head ++ (codes " taken " ++ decimal c.taken))) tail,
      append_assoc (decimal c.head) (codes " taken " ++ decimal c.taken) tail,
      holder_again (Some c.of) fits.0 (codes " head " ++ (decimal c.head ++ (codes " taken " ++ (decimal c.taken ++ tail)))) (record { c = 32; cs = codes "head " ++ (decimal c.head ++ (codes " taken " ++ (decimal c.taken ++ tail))); text_is = refl; digit = refl }),
      short_again (codes " head ") c.head (codes " taken " ++ (decimal c.taken ++ tail)) fits.1 (record { c = 32; cs = codes "taken " ++ (decimal c.taken ++ tail); text_is = refl; digit = refl }),
      short_again (codes " taken ") c.taken tail fits.2 (no_digit tail f),
    ) refl
