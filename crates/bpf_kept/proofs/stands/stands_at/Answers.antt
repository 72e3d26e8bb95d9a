use Rattle.std.proofs.Common.{◌≡◌, Bool, true, false, ◌||◌, sym, ap, ◌∙◌, subst}
use Rattle.std.specs.Option.{option_map_or}
use Rattle.std.proofs.lemmas.Bool.{false≢true}
use Rattle.bpf_kept.specs.Knowns.{known_of}
use Rattle.bpf_kept.specs.Rules.{Known, paired}
use Rattle.bpf_kept.specs.Matching.{goes, returns, calls, stands}
use Rattle.bpf_kept.proofs.RuleLemmas.{or_else}
use Rattle.bpf_kept.proofs.stands.stands_at.Goals as goal
use Rattle.bpf_kept.proofs.stands.stands_at.Goals.{then-returns, else-returns}

-- a test that passes decides
passed : (a b v : Bool) → a ≡ true → v ≡ true → v ≡ (a || b)
passed a b v ea ev = ev ∙ sym (ap (λ x. x || b) ea)

pub returns-then-calls_here : goal.returns-then-calls_here
unfolding stands
returns-then-calls_here c =
    let k : Known = known_of c.known_here-known.result in
    let pair = c.args.pair in
    let first : Bool = returns k pair.insn pair.moved in
    let second : Bool = calls c.args.notes.now k pair.slot pair.new_slot pair.insn pair.moved in
    let third : Bool = option_map_or (goes c.args.notes.now k pair.slot pair.new_slot pair.insn pair.moved) (paired k c.args.same pair.insn pair.moved) false in
    let v : Bool = c.if-returns.value in
    let here : v ≡ (first || (second || third)) =
    elim c.if-returns.branch [
      | then-returns w ↦ passed first (second || third) v (sym c.returns.ensures ∙ w.if-returns.true) c.if-calls_here.true
      | else-returns w ↦
          let called : w.calls_here.result ≡ second =
          w.calls_here.ensures ∙ ap (λ slot. calls c.args.notes.now k slot c.args.at.slot pair.insn pair.moved) (sym c.requires.slots.0)
          ∙ ap (λ slot. calls c.args.notes.now k pair.slot slot pair.insn pair.moved) (sym c.requires.slots.1) in
          or_else c.returns.result (second || third) first v c.returns.ensures w.if-returns.false (passed second third v (sym called ∙ sym w.value-is ∙ c.if-calls_here.true) c.if-calls_here.true)
    ] in
    subst (λ k. v ≡ stands c.args.notes.now k c.args.same pair.slot pair.new_slot pair.insn pair.moved) c.known_here-known.ensures here

pub returns-else-calls_here : goal.returns-else-calls_here
unfolding stands
returns-else-calls_here c =
    let k : Known = known_of c.known_here-known.result in
    let pair = c.args.pair in
    let first : Bool = returns k pair.insn pair.moved in
    let second : Bool = calls c.args.notes.now k pair.slot pair.new_slot pair.insn pair.moved in
    let third : Bool = option_map_or (goes c.args.notes.now k pair.slot pair.new_slot pair.insn pair.moved) (paired k c.args.same pair.insn pair.moved) false in
    let v : Bool = c.pairs.result in
    let here : v ≡ (first || (second || third)) =
    elim c.if-returns.branch [
      | then-returns w ↦ absurd (false≢true (sym c.if-calls_here.false ∙ w.value-is ∙ w.if-returns.true))
      | else-returns w ↦
          let called : w.calls_here.result ≡ second =
          w.calls_here.ensures ∙ ap (λ slot. calls c.args.notes.now k slot c.args.at.slot pair.insn pair.moved) (sym c.requires.slots.0)
          ∙ ap (λ slot. calls c.args.notes.now k pair.slot slot pair.insn pair.moved) (sym c.requires.slots.1) in
          or_else c.returns.result (second || third) first v c.returns.ensures w.if-returns.false
          (or_else w.calls_here.result third second v called (sym w.value-is ∙ c.if-calls_here.false) c.pairs.ensures)
    ] in
    subst (λ k. v ≡ stands c.args.notes.now k c.args.same pair.slot pair.new_slot pair.insn pair.moved) c.known_here-known.ensures here
