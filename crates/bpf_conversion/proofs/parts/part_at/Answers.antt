use Rattle.std.proofs.Common.{rules, ◌≡◌, suc, ◌+◌, ◌-◌, ◌<◌, ◌≤◌, true, get_or, subst, sym, ap, ◌∙◌, length, arith}
use Rattle.std.specs.Prelude.{slice_index}
use Rattle.std.proofs.lemmas.Bool.{false≢true}
use Rattle.bpf_insn.specs.Instruction.{slots}
use Rattle.bpf_conversion.specs.declared.parts.Stretch.TheVariants.{Trap}
use Rattle.bpf_conversion.proofs.LongestLemmas.{slots_are}
use Rattle.bpf_conversion.proofs.PartLemmas.{is_short, narrow, part_trap, in_front, part_template}
use Rattle.bpf_conversion.proofs.parts.part_at.Goals as goal
use Rattle.bpf_conversion.proofs.parts.part_at.Goals.{then-layout+else-behind-slots, else-layout}

pub overflow_add-behind : goal.overflow_add-behind
overflow_add-behind c =
    let now = c.args.converted.now in
    let e = slots_are now.program.list (narrow now c.requires.conversion) in
    let short = is_short now c.requires.conversion in
    let inside = c.requires.inside in
    omega (arith, e, short, inside)

pub returns-then-behind-slots : goal.returns-then-behind-slots
returns-then-behind-slots c =
    let now = c.args.converted.now in
    let all : c.slots-slots.result ≡ slots now.program.list = search rules in
    ap (λ n. Trap (c.args.slot + 2 - n)) all ∙ part_trap now c.requires.conversion c.args.slot (search rules) (omega (arith, all))

pub returns : goal.returns
returns c =
    let now = c.args.converted.now in
    let slot = c.args.slot in
    let k = c.args.begun - 1 in
    let front : now.layout.trap ≡ true → slot + 2 < slots now.program.list =
    elim c.if-layout.branch [
      | then-layout+else-behind-slots w ↦ (λ e. let all : w.slots-slots.result ≡ slots now.program.list = search rules in omega (arith, all))
      | else-layout w ↦ (λ e. absurd (false≢true (cc)))
    ] in
    let some : k + 1 ≡ c.args.begun = omega arith in
    let from : c.from.result ≡ slice_index now.starts k = c.from.ensures ∙ ap (λ xs. get_or xs k 0) c.starts.ensures in
    let low : slice_index now.starts k ≤ slot = c.requires.begun.last k (omega arith) in
    let few = c.requires.begun.few in
    let same : suc k ≡ c.args.begun = omega arith in
    let next : suc k < length now.starts → slot < slice_index now.starts (suc k) = subst (λ n. n < length now.starts → slot < slice_index now.starts n) (sym same) c.requires.next in
    rw (c.list.ensures, from) (part_template now c.requires.conversion slot k _ (in_front now c.requires.conversion slot c.requires.inside front) (omega (arith, few)) low next)
